-- What is to be seen in a state of a run: its index, its open claims, its cut. Source: own choice.
use Rattle.std.specs.Prelude.{◌≡◌, ℕ, [], ◌∷◌, List, length, Option, Some, None}
use Rattle.std.specs.List.{count_by}
use Rattle.cpn_definitions.specs.Enabled.{PlainEntry, Enabled, ready, next_time}
use Rattle.cpn_definitions.specs.Marking.{Marking}
use Rattle.cpn_jobs.specs.Work.{PlainJob}
use Rattle.cpn_log.specs.Logs.{head_of}
use Rattle.cpn_runs.specs.HoleRun.{PlainClaim, is_open}
use Rattle.cpn_runs.specs.State.{PlainSetup, PlainState, PlainCut, PlainEvent, cut_made, unclaimed_in}
use Rattle.cpn_book.specs.Standings.{job_for}

-- how many claims are open
abbrev pub open_claims : PlainState → ℕ
open_claims state = count_by (λ claim. is_open claim.status) state.claims

-- as many claims were made as may be
abbrev pub IsFull : PlainSetup → PlainState → Type 0
IsFull setup state = length state.claims ≡ setup.limits.steps

-- The index of a state: the enabled elements of its unclaimed marking from its clock on, listed anew.
pub record IsIndex (setup : PlainSetup) (state : PlainState) (entries : List PlainEntry) : Type 0 where
  pub marking : Marking
  pub marking_is : unclaimed_in setup state ≡ Some marking
  pub enabled : Enabled setup.net marking state.clock entries

-- so many elements are ready
abbrev pub AreReady : PlainSetup → PlainState → ℕ → Type 0
AreReady setup state number = (entries : List PlainEntry) × IsIndex setup state entries × (number ≡ length (ready state.clock entries))

-- the least time from the clock on at which an element is enabled, if there is one
abbrev pub IsNextTime : PlainSetup → PlainState → Option ℕ → Type 0
IsNextTime setup state next = (entries : List PlainEntry) × IsIndex setup state entries × (next ≡ next_time entries)

-- the job of a claim
abbrev pub claimed_job : PlainSetup → PlainClaim → PlainJob
claimed_job setup claim = job_for setup.net (head_of claim)

-- the event of a cut, if there is one
abbrev pub cut_events : Option PlainCut → List PlainEvent
cut_events None = []
cut_events (Some cut) = cut_made cut.number ∷ []
