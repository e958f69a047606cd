use Rattle.std.proofs.Common.{ap, refl, ◌∙◌, arith}
use Rattle.cpn_seats.proofs.Meeting.{joins, meets_as, both_fit, joined}
use Rattle.cpn_seats.specs.Turns.{is_not_longer}
use Rattle.cpn_seats.proofs.seats.SeatDesk.meet.Goals as goal

pub join_seat-requires : goal.join_seat-requires
join_seat-requires c =
    let words = c.args.self.now.words in
    let r = c.requires.at_rest in
    (c.requires.own, c.requires.other, r.2, omega arith, joins _ _ _ _ _ r.1 r.3)

pub load-requires : goal.load-requires
load-requires c =
    let words = c.args.self.now.words in
    let r = c.requires.at_rest in
    let j = c.join_seat.ensures in
    let is = j.2 in (
      j.0 ∙ c.requires.own,
      omega arith,
      meets_as _ _ _ c.join_seat.new.seat.me (ap (λ k. k.1) is ∙ r.0) (ap (λ k. k.0.waits) is ∙ r.1)
          (ap (λ k. is_not_longer k.0.met k.0.seen) is ∙ both_fit c.args.token.now.me.0.seen c.args.other.me.0.seen _ refl),
    )

pub returns-clause-joined : goal.returns-clause-joined
returns-clause-joined c =
    let l = c.load.ensures.2 in
    joined c.args.token.now.me c.args.other.me c.join_seat.new.seat.me c.load.new.seat.me c.join_seat.ensures.2 (ap (λ k. k.0) l.0) l.1
