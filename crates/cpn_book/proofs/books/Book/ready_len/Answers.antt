-- As many elements are ready in the state as in the book's list.
use Rattle.cpn_book.specs.Books.{setup_in}
use Rattle.cpn_book.specs.States.{AreReady}
use Rattle.cpn_book.proofs.RunningBooks.{in_state, are_ready}
use Rattle.cpn_book.proofs.books.Book.ready_len.Goals as goal

pub returns : goal.returns
returns c =
    let book = c.args.self.now in
    let running = c.requires.kept.running c.requires.unspent in
    in_state book running (λ state. AreReady (setup_in book) state c.ready.result) (are_ready book running c.ready.result c.ready.ensures)
