-- Claims that a seat holds while others act. Source: own choice.
use Rattle.std.specs.Prelude.{◌≡◌, ◌≢◌, ℕ, true, List}
use Rattle.cpn_jobs.specs.Work.{PlainJob}
use Rattle.cpn_runs.specs.HeldClaims.{StaysOrCut}
use Rattle.cpn_runs.specs.HoleRun.{PlainClaim}
use Rattle.cpn_runs.specs.SeatEvents.{is_among}
use Rattle.cpn_runs.specs.State.{PlainState, IsState}
use Rattle.cpn_book.specs.States.{claimed_job}
use Rattle.cpn_book.specs.Tickets.{number_of, job_of}
use Rattle.cpn_book.specs.declared.answers.Claimed.{Claimed}
use Rattle.cpn_book.specs.declared.answers.Claimed.TheVariants as claims
use Rattle.cpn_book.specs.declared.answers.Completed.{Completed}
use Rattle.cpn_book.specs.declared.answers.Completed.TheVariants as completions
use Rattle.cpn_book.specs.declared.answers.GivenBack.{GivenBack}
use Rattle.cpn_book.specs.declared.answers.GivenBack.TheVariants as returns
use Rattle.cpn_book.specs.Seen.{Seen}

-- A seat holds a claim of a number and job in what was seen of a run: it is open in the state of that, or a cut has removed it.
pub record Holds (seen : Seen) (state : PlainState) (seat number : ℕ) (job : PlainJob) : Type 0 where
  pub claim : PlainClaim
  pub by_seat : claim.seat ≡ seat
  pub job_is : claimed_job seen.setup claim ≡ job
  pub open_or_cut : StaysOrCut state number claim

abbrev pub IsHeld : Seen → ℕ → ℕ → PlainJob → Type 0
IsHeld seen seat number job = (state : PlainState) → IsState seen.setup seen.journal state → Holds seen state seat number job

-- what was held under one of these numbers is held still
abbrev pub KeepsHeld : List ℕ → Seen → Seen → Type 0
KeepsHeld numbers old new = (seat number : ℕ) (job : PlainJob) → is_among seat numbers ≡ true → IsHeld old seat number job → IsHeld new seat number job

-- what was held under one of these numbers is, but for one number of them, held still
abbrev pub KeepsOthersHeld : List ℕ → ℕ → Seen → Seen → Type 0
KeepsOthersHeld numbers own old new = (seat number : ℕ) (job : PlainJob) → is_among seat numbers ≡ true → seat ≢ own → IsHeld old seat number job → IsHeld new seat number job

-- where the answer to a seat's claim is a ticket, the seat holds the claim
abbrev pub HoldsIfTicket : Seen → ℕ → Claimed → Type 0
HoldsIfTicket seen seat (claims.Ticket ticket) = IsHeld seen seat (number_of ticket) (job_of ticket)
HoldsIfTicket seen seat (claims.Nothing held) = Unit {0}
HoldsIfTicket seen seat (claims.Busy number) = Unit {0}
HoldsIfTicket seen seat claims.StepLimit = Unit {0}
HoldsIfTicket seen seat claims.Over = Unit {0}

-- the answer isn't that the seat holds no such claim
abbrev pub IsNoStranger : Completed → Type 0
IsNoStranger completions.Done = Unit {0}
IsNoStranger (completions.Void number) = Unit {0}
IsNoStranger (completions.Stranger kept brought) = ⊥

-- the answer is that the completion wasn't made
abbrev pub IsNotDone : Completed → Type 0
IsNotDone completions.Done = ⊥
IsNotDone (completions.Void number) = Unit {0}
IsNotDone (completions.Stranger kept brought) = Unit {0}

abbrev pub IsNoStrangersTicket : GivenBack → Type 0
IsNoStrangersTicket returns.Cut = Unit {0}
IsNoStrangersTicket (returns.Void number) = Unit {0}
IsNoStrangersTicket (returns.Stranger kept brought) = ⊥
