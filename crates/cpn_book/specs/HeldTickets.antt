-- The law that a ticket is no stranger's while others act. Source: own choice.
use Rattle.std.specs.Prelude.{◌≡◌, ℕ, List, [], Option}
use Rattle.cpn_jobs.specs.Work.{PlainJob}
use Rattle.cpn_runs.specs.SeatEvents.{events_by}
use Rattle.cpn_runs.specs.State.{PlainSetup, PlainState, PlainEvent, Leads}
use Rattle.cpn_book.specs.Answers.{HasOpenClaim, IsStranger}

-- Where a seat has an open claim of a number and job, and makes no event while others act, it is not answered that it has none.
abbrev pub HeldAreNoStrangers : Type 0
HeldAreNoStrangers =
    (setup : PlainSetup) (old new : PlainState) (others : List PlainEvent) (seat number : ℕ) (job : PlainJob) (kept : Option PlainJob)
    → HasOpenClaim setup old seat number job → events_by seat others ≡ [] → Leads setup old others new → IsStranger setup new seat number job kept → ⊥
