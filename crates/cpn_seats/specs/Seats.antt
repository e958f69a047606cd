-- Seats and desks as their callers see them. Source: own choice.
use Rattle.std.specs.Prelude.{◌≡◌, ◌≤◌, ℕ, Bool, List, Option}
use Rattle.std.specs.Option.{option_map}
use Rattle.atomic_table.specs.Seated.{TableId}
use Rattle.cpn_runs.specs.State.{PlainSetup, PlainEvent}
use Rattle.cpn_runs.specs.FinishedViews.{setup_view}
use Rattle.cpn_book.specs.Desks.{BookName, shared}
use Rattle.cpn_book.specs.Seen.{Seen}
use Rattle.cpn_seats.specs.declared.seats.Seat.{Seat}
use Rattle.cpn_seats.specs.declared.seats.SeatDesk.{SeatDesk}
use Rattle.cpn_seats.specs.SeenViews.{seen_by}
use Rattle.cpn_seats.specs.Turns.{journal_told}

-- the table of a seat, and that of a desk
abbrev pub table_of : Seat → TableId
table_of seat = seat.token.table_id

abbrev pub desk_table : SeatDesk → TableId
desk_table desk = desk.table.shared.table_id

-- the desk made the seat
abbrev pub IsSeatOf : SeatDesk → Seat → Type 0
IsSeatOf desk seat = table_of seat ≡ desk_table desk

-- the book that a seat acts on: the one in its table
abbrev pub book_name_of : Seat → BookName
book_name_of seat = shared (table_of seat)

-- the number that a seat acts under, and all numbers that are its own
abbrev pub number_of_seat : Seat → ℕ
number_of_seat seat = seat.number

abbrev pub numbers_of : Seat → List ℕ
numbers_of seat = seat.token.me.0.numbers

-- what a seat has seen of the run
abbrev pub seen_of : Seat → Option Seen
seen_of seat = seen_by seat.token.me.0

-- of that the journal, the setup, and whether the book was spent
abbrev pub journal_of : Seat → List PlainEvent
journal_of seat = journal_told seat.token.me.0.seen

abbrev pub setup_of : Seat → Option PlainSetup
setup_of seat = option_map setup_view seat.token.me.0.setup

abbrev pub spent_of : Seat → Bool
spent_of seat = seat.token.me.0.spent

-- how many seat numbers were given when it last held the book
abbrev pub given_of : Seat → ℕ
given_of seat = seat.token.me.0.given

-- A seat before and after a call: it stays at its desk and keeps its numbers; what it has noted of the numbers given never falls.
pub record IsSameSeat (old new : Seat) : Type 0 where
  pub table : table_of new ≡ table_of old
  pub number : number_of_seat new ≡ number_of_seat old
  pub numbers : numbers_of new ≡ numbers_of old
  pub given : given_of old ≤ given_of new
