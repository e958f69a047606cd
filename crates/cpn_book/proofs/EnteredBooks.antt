-- A book stays one when a seat enters.
use Rattle.std.proofs.Common.{ℕ, ◌≤◌}
use Rattle.cpn_book.specs.Books.{setup_in, IsBook}
use Rattle.cpn_book.specs.declared.books.Book.{Book}

pub entered_is_book : (book : Book) (number : ℕ) → IsBook book → number ≤ (setup_in book).limits.seats → IsBook (record book { entered = number })
entered_is_book book number is within = record {
  playable = is.playable;
  works = is.works;
  opening = is.opening;
  state = is.state;
  reached = is.reached;
  committed = is.committed;
  running = λ unspent. (let runs = is.running unspent in record { at = runs.at; index = runs.index; clock = runs.clock; room = runs.room });
  entered = within;
}
