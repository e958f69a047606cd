-- The next time is that of the book's index, which is the state's.
use Rattle.cpn_book.specs.Books.{setup_in, index_in}
use Rattle.cpn_book.specs.States.{IsNextTime}
use Rattle.cpn_book.proofs.RunningBooks.{in_state, index}
use Rattle.cpn_book.proofs.books.Book.next_time.Goals as goal

pub returns : goal.returns
returns c =
    let book = c.args.self.now in
    let running = c.requires.kept.running c.requires.unspent in
    in_state book running (λ state. IsNextTime (setup_in book) state c.next_time.result) (index_in book, index book running, c.next_time.ensures.next)
