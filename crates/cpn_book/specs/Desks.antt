-- Which book a desk acts on, and what a desk for one thread is. Source: own choice.
use Rattle.std.specs.Prelude.{ℕ, ◌<◌}
use Rattle.atomic_table.specs.Seated.{TableId}
use Rattle.cpn_book.specs.Books.{setup_in, IsBook}
use Rattle.cpn_book.specs.declared.books.Book.{Book}
use Rattle.cpn_book.specs.declared.desks.OneSeat.{OneSeat}

-- The name of the book that a desk acts on: that of the borrow by which the desk alone has it, or that of the table in which desks share it.
pub data BookName : Type 0 where
  borrowed : ℕ → BookName
  shared : TableId → BookName

-- the book, the seat and the book's name of a desk for one thread
abbrev pub book_at : OneSeat → Book
book_at desk = desk.book.now

abbrev pub seat_at : OneSeat → ℕ
seat_at desk = desk.seat

abbrev pub book_name_at : OneSeat → BookName
book_name_at desk = borrowed desk.book.ghost_name

-- A desk for one thread has a book, and a seat below the number of its seats.
pub record IsOneSeat (desk : OneSeat) : Type 0 where
  pub is_book : IsBook (book_at desk)
  pub known : seat_at desk < (setup_in (book_at desk)).limits.seats
