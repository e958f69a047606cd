use Rattle.std.proofs.Common.{ap, ◌∙◌}
use Rattle.std.specs.Option.{is_some}
use Rattle.cpn_runs.specs.SeatEvents.{is_among}
use Rattle.cpn_seats.proofs.Numbers.{has_left}
use Rattle.cpn_seats.proofs.SeatFacts.{joined_seat, own_held, other_held}
use Rattle.cpn_seats.proofs.seats.SeatDesk.join.Goals as goal

pub invariant_of-seat : goal.invariant_of-seat
invariant_of-seat c =
    let r = c.args.seat.now.at_rest in
    let e = c.meet.ensures in
    let n = c.args.seat.now.number in
    record { at_rest = record { empty = e.empty; idle = e.idle; among = ap (λ ns. is_among n ns) e.joined.numbers ∙ has_left n c.args.seat.now.token.me.0.numbers c.args.other.token.me.0.numbers r.among; here = ap is_some e.joined.setup ∙ r.here } }

pub returns-clause-joined : goal.returns-clause-joined
returns-clause-joined c = joined_seat c.args.seat.now c.args.other _ c.meet.ensures.joined

pub returns-clause-held : goal.returns-clause-held
returns-clause-held c = own_held c.args.seat.now c.args.other _ (returns-clause-joined c)

pub returns-clause-other_held : goal.returns-clause-other_held
returns-clause-other_held c = other_held c.args.seat.now c.args.other _ (returns-clause-joined c)
