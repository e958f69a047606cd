-- The laws of the claims that a seat holds: what becomes of them by its own calls. Source: own choice.
use Rattle.std.specs.Prelude.{ℕ, List, []}
use Rattle.cpn_book.specs.declared.answers.Advanced.{Advanced}
use Rattle.cpn_book.specs.declared.answers.Claimed.{Claimed}
use Rattle.cpn_book.specs.declared.answers.Completed.{Completed}
use Rattle.cpn_book.specs.declared.answers.GivenBack.{GivenBack}
use Rattle.cpn_book.specs.declared.tickets.Evaluated.{Evaluated}
use Rattle.cpn_book.specs.declared.tickets.Ticket.{Ticket}
use Rattle.cpn_book.specs.Seen.{Seen, SeesCall, ClaimsAt, CompletesAt, GivesBackAt, AdvancesAt, WantsMemoryAt}
use Rattle.cpn_seats.specs.HeldClaims.{IsNotDone, KeepsHeld, KeepsOthersHeld}

-- what is held under any of a seat's numbers is held after its claim
abbrev pub ClaimsKeepHeld : Type 0
ClaimsKeepHeld = (numbers : List ℕ) (seat : ℕ) (answer : Claimed) (old new : Seen) → ClaimsAt numbers seat answer old new → KeepsHeld numbers old new

-- what is held under the numbers that it doesn't act under is held after its completion
abbrev pub CompletionsKeepOthersHeld : Type 0
CompletionsKeepOthersHeld = (numbers : List ℕ) (seat : ℕ) (done : Evaluated) (answer : Completed) (old new : Seen) → CompletesAt numbers seat done answer old new → KeepsOthersHeld numbers seat old new

-- what is held under any of a seat's numbers is held after its completion that is answered `Void` or `Stranger`, so that it was not made
abbrev pub RefusedCompletionsKeepHeld : Type 0
RefusedCompletionsKeepHeld = (numbers : List ℕ) (seat : ℕ) (done : Evaluated) (answer : Completed) (old new : Seen) → CompletesAt numbers seat done answer old new → IsNotDone answer → KeepsHeld numbers old new

-- what is held is held, or cut off, after a claim is given back
abbrev pub GivingBackKeepsHeld : Type 0
GivingBackKeepsHeld = (numbers : List ℕ) (seat : ℕ) (ticket : Ticket) (answer : GivenBack) (old new : Seen) → GivesBackAt numbers seat ticket answer old new → KeepsHeld numbers old new

-- and after a move of the clock, a call that makes no event, and one that wants memory
abbrev pub MovesKeepHeld : Type 0
MovesKeepHeld = (numbers : List ℕ) (answer : Advanced) (old new : Seen) → AdvancesAt numbers answer old new → KeepsHeld numbers old new

abbrev pub LooksKeepHeld : Type 0
LooksKeepHeld = (numbers : List ℕ) (old new : Seen) → SeesCall numbers [] old new → KeepsHeld numbers old new

abbrev pub WantsOfMemoryKeepHeld : Type 0
WantsOfMemoryKeepHeld = (numbers : List ℕ) (old new : Seen) → WantsMemoryAt numbers old new → KeepsHeld numbers old new
