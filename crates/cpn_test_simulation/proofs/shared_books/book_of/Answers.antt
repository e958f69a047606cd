use Rattle.cpn_test_simulation.proofs.TakenPhases.{taken}
use Rattle.cpn_test_simulation.proofs.shared_books.book_of.Goals as goal

pub begin-requires-clause-stands : goal.begin-requires-clause-stands
begin-requires-clause-stands c =
    let is = c.in_ok-session.ensures.stands in
    taken _ c.in_ok-_start._start c.next_phase.new.self (c.in_ok-_start.ensures.takes _ is.2)
