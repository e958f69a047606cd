-- The clock is that of the state, which the run may reach.
use Rattle.std.proofs.Common.{◌≡◌}
use Rattle.cpn_book.proofs.BoundedBooks.{clock_in_time}
use Rattle.cpn_book.proofs.RunningBooks.{in_state}
use Rattle.cpn_book.proofs.books.Book.clock.Goals as goal

pub returns-clause-clock : goal.returns-clause-clock
returns-clause-clock c =
    let book = c.args.self.now in
    let running = c.requires.kept.running c.requires.unspent in
    in_state book running (λ state. book.standing.clock ≡ state.clock) running.at.at.clock

pub returns-clause-in_time : goal.returns-clause-in_time
returns-clause-in_time c = clock_in_time c.args.self.now c.requires.kept (c.requires.kept.running c.requires.unspent)
