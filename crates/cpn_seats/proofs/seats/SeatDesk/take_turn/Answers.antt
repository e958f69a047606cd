use Rattle.std.proofs.Common.{true, subst}
use Rattle.cpn_seats.specs.Turns.{Looked}
use Rattle.cpn_seats.proofs.seats.SeatDesk.take_turn.Goals as goal

pub returns-then-look-clause-held : goal.returns-then-look-clause-held
returns-then-look-clause-held g c =
    let d = c.loop.invariant.drawn in
    (d.0, subst (λ m. Looked true m c.look.new.token.me) d.2 (subst (λ b. Looked b c.loop.token.me c.look.new.token.me) c.if-look.true c.look.ensures.looked))
