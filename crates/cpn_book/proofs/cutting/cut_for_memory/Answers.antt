-- The cut may be made in a journal with more room, too.
use Rattle.cpn_runs.specs.State.{wants_memory}
use Rattle.std.proofs.Common.{refl}
use Rattle.cpn_book.proofs.CommittedStandings.{still_due}
use Rattle.cpn_book.proofs.HeldSeats.{where_ok}
use Rattle.cpn_book.proofs.cutting.cut_for_memory.Goals as goal

pub returns-clause-at : goal.returns-clause-at
returns-clause-at c = where_ok c.cut_off.result _ _
    (λ at. λ setup may. at setup (still_due setup c.args.standing.now _ (record { number = c.args.number; cause = wants_memory }) may refl c.reserve.ensures.items))
    c.cut_off.ensures.at
