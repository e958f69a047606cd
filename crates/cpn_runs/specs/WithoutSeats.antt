-- What a journal tells less its seats. Source: own choice.
use Rattle.std.specs.Prelude.{ℕ, ◌<◌, ◌^◌, List, map}
use Rattle.std.specs.List.{AllByRecursion}
use Rattle.cpn_runs.specs.State.{PlainEvent, claim_made, claim_completed, clock_moved, cut_made}

-- what an event is, without its seat and its number or time
pub data Kind : Type 0 where
  claim : Kind
  completion : Kind
  move : Kind
  cut : Kind

-- an event and a journal without the seats: for each event its kind and its number or time
abbrev pub without_seat : PlainEvent → Kind × ℕ
without_seat (claim_made seat number) = (claim, number)
without_seat (claim_completed seat number) = (completion, number)
without_seat (clock_moved time) = (move, time)
without_seat (cut_made number) = (cut, number)

abbrev pub without_seats : List PlainEvent → List (Kind × ℕ)
without_seats journal = map without_seat journal

-- each number and time of the journal is one of 64 bits
abbrev pub AreNumbered : List PlainEvent → Type 0
AreNumbered journal = AllByRecursion (λ event. (without_seat event).1 < 2 ^ 64) journal
