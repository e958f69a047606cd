-- The laws that want of memory stays: of a seat that has seen that the book is spent, and of each seat that is split from it, every later call says
-- so. Source: own choice.
use Rattle.std.specs.Prelude.{◌≡◌, ℕ, true, List, Result, IfOk, IsErr}
use Rattle.cpn_memory.specs.declared.memory_wanted.Memory.{Memory}
use Rattle.cpn_runs.specs.State.{PlainEvent}
use Rattle.cpn_book.specs.declared.answers.Advanced.{Advanced}
use Rattle.cpn_book.specs.declared.answers.Advanced.TheVariants as moves
use Rattle.cpn_book.specs.declared.answers.Claimed.{Claimed}
use Rattle.cpn_book.specs.declared.answers.Completed.{Completed}
use Rattle.cpn_book.specs.declared.answers.GivenBack.{GivenBack}
use Rattle.cpn_book.specs.declared.tickets.Evaluated.{Evaluated}
use Rattle.cpn_book.specs.declared.tickets.Ticket.{Ticket}
use Rattle.cpn_book.specs.Seen.{Seen, IfSeen, SeesCall, ClaimsAt, CompletesAt, GivesBackAt, AdvancesAt, WantsMemoryAt}
use Rattle.cpn_seats.specs.Seats.{numbers_of, number_of_seat, seen_of, spent_of}
use Rattle.cpn_seats.specs.Splits.{IsSplitOff}
use Rattle.cpn_seats.specs.declared.seats.Seat.{Seat}

-- a seat whose call wants memory has seen that the book is spent
abbrev pub WantsOfMemoryAreSeen : Type 0
WantsOfMemoryAreSeen = (numbers : List ℕ) (old new : Seat) → IfSeen (seen_of old) (seen_of new) (WantsMemoryAt numbers) → spent_of new ≡ true

-- after each call it has seen that still
abbrev pub SpentStaysSeen : Type 0
SpentStaysSeen = (numbers : List ℕ) (own : List PlainEvent) (old new : Seat) → IfSeen (seen_of old) (seen_of new) (SeesCall numbers own) → spent_of old ≡ true → spent_of new ≡ true

-- and so has a seat that is split from it
abbrev pub SplitSeatsSeeSpent : Type 0
SplitSeatsSeeSpent = (seat other : Seat) → IsSplitOff seat other → spent_of seat ≡ true → spent_of other ≡ true

-- of a seat that has seen it, a call with this fact of its answer wants memory
abbrev pub SpentWantsMemory : (A : Type 0) → (Seat → A → Seen → Seen → Type 0) → Type 0
SpentWantsMemory A Fact = (old new : Seat) (result : Result A Memory) → IfOk result (λ answer. IfSeen (seen_of old) (seen_of new) (Fact old answer)) → spent_of old ≡ true → IsErr result

abbrev pub SpentClaims : Type 0
SpentClaims = SpentWantsMemory Claimed (λ seat answer. ClaimsAt (numbers_of seat) (number_of_seat seat) answer)

abbrev pub SpentCompletions : Type 0
SpentCompletions = (done : Evaluated) → SpentWantsMemory Completed (λ seat answer. CompletesAt (numbers_of seat) (number_of_seat seat) done answer)

abbrev pub SpentGivingBack : Type 0
SpentGivingBack = (ticket : Ticket) → SpentWantsMemory GivenBack (λ seat answer. GivesBackAt (numbers_of seat) (number_of_seat seat) ticket answer)

-- and a move of the clock is answered so
abbrev pub SpentMoves : Type 0
SpentMoves = (old new : Seat) (answer : Advanced) → IfSeen (seen_of old) (seen_of new) (AdvancesAt (numbers_of old) answer) → spent_of old ≡ true → answer ≡ moves.Spent
