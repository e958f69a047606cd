-- What a split tells of the new seat. Source: own choice.
use Rattle.std.specs.Prelude.{◌≡◌, ℕ, ◌+◌, ◌<◌, [], ◌∷◌, true, Some}
use Rattle.atomic_table.specs.Table.{Me}
use Rattle.atomic_table.specs.Seated.{TableId}
use Rattle.atomic_table.specs.declared.shared.Seat as table
use Rattle.cpn_book.specs.Seen.{Seen}
use Rattle.cpn_runs.specs.SeatEvents.{is_among, events_by}
use Rattle.cpn_seats.specs.declared.desks.Split.{Split}
use Rattle.cpn_seats.specs.declared.desks.Split.TheVariants as splits
use Rattle.cpn_seats.specs.declared.seats.Seat.{Seat}
use Rattle.cpn_seats.specs.declared.views.View.{View}
use Rattle.cpn_seats.specs.Seats.{table_of, number_of_seat, numbers_of, seen_of, journal_of, spent_of, given_of}
use Rattle.cpn_seats.specs.SeenViews.{seen_by}
use Rattle.cpn_seats.specs.Turns.{Slot, journal_told, with_numbers, IsAtRest}

-- What a token is that was split off, at the table of the one that is left: it is at rest with one number, which is the last one given, and has
-- seen what the other one has.
pub record IsTokenSplitOff (place : TableId) (left : Me Slot View) (token : table.Seat Slot View) (number : ℕ) : Type 0 where
  pub table : token.table_id ≡ place
  pub at_rest : IsAtRest token.me number
  pub view_is : token.me.0 ≡ with_numbers left.0 (number ∷ [])
  pub last_given : left.0.given ≡ number + 1
  pub fresh : is_among number left.0.numbers ≡ true → ⊥
  pub no_event : events_by number (journal_told left.0.seen) ≡ []
  pub room : (seen : Seen) → seen_by left.0 ≡ Some seen → number < seen.setup.limits.seats

-- The seat that a split gives, and the one that was split: it is at the same desk, and has seen what that one has, also whether the book was
-- spent; its one number is the last one given, below the number of the run's seats, is none of the other seat's, and no claim and no completion is
-- by it.
pub record IsSplitOff (seat other : Seat) : Type 0 where
  pub table : table_of other ≡ table_of seat
  pub numbers : numbers_of other ≡ number_of_seat other ∷ []
  pub seen : seen_of other ≡ seen_of seat
  pub spent : spent_of other ≡ spent_of seat
  pub given : given_of other ≡ given_of seat
  pub last_given : given_of seat ≡ number_of_seat other + 1
  pub fresh : is_among (number_of_seat other) (numbers_of seat) ≡ true → ⊥
  pub no_event : events_by (number_of_seat other) (journal_of seat) ≡ []
  pub room : (seen : Seen) → seen_of seat ≡ Some seen → number_of_seat other < seen.setup.limits.seats

-- Where no number is left: so many numbers were given as the run has seats, which the seat has noted.
pub record IsFull (seat : Seat) (number : ℕ) : Type 0 where
  pub given : given_of seat ≡ number
  pub all : (seen : Seen) → seen_of seat ≡ Some seen → number ≡ seen.setup.limits.seats

-- the answer to a seat that is split; memory is never wanted
abbrev pub AnswersSplit : Seat → Split → Type 0
AnswersSplit seat (splits.Seat other) = IsSplitOff seat other
AnswersSplit seat (splits.Full number) = IsFull seat number
AnswersSplit seat splits.Memory = ⊥
