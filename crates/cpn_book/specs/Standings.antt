-- Where a run stands, as the program keeps it. Source: own choice.
use Rattle.std.specs.Prelude.{◌≡◌, ℕ, true, List, ◌++◌, map, length, take, Some, None}
use Rattle.std.specs.List.{AllByRecursion}
use Rattle.std.specs.Option.{option_map}
use Rattle.cpn_definitions.specs.Net.{PlainNet}
use Rattle.cpn_definitions.specs.Occurrence.{PlainElement, needs_of, outputs_of}
use Rattle.cpn_draw.specs.Draw.{generator}
use Rattle.cpn_jobs.specs.Views.{job_view}
use Rattle.cpn_jobs.specs.Work.{PlainJob, work_of}
use Rattle.cpn_log.specs.Logs.{PlainHead, head_of}
use Rattle.cpn_log.specs.LogViews.{log_view, jobs_in}
use Rattle.cpn_monitor.specs.Kept.{AreKept}
use Rattle.cpn_monitor.specs.Views.{measuring_view}
use Rattle.cpn_runs.specs.HoleRun.{PlainClaim, is_done, marking_left}
use Rattle.cpn_definitions.specs.Legal.{PlainOccurrence}
use Rattle.cpn_runs.specs.MeasuredStates.{run_of}
use Rattle.cpn_runs.specs.State.{PlainSetup, PlainEvent, PlainState, PlainCut, given_needs, status_after, numbered, committed, owed_cut}
use Rattle.cpn_core.specs.Occurrences.{occurrence_view}
use Rattle.cpn_runs.specs.Views.{end_view, event_view}
use Rattle.cpn_book.specs.StandingRuns.{IsTold}
use Rattle.cpn_book.specs.declared.standings.Cut.{Cut}
use Rattle.cpn_book.specs.declared.standings.Standing.{Standing}

abbrev pub cut_view : Cut → PlainCut
cut_view cut = record { number = cut.number; cause = end_view cut.cause }

-- the events of a run so far
abbrev pub events_in : Standing → List PlainEvent
events_in s = map event_view s.journal.items

-- its committed occurrences
abbrev pub occurrences_in : Standing → List PlainOccurrence
occurrences_in s = map occurrence_view s.occurrences.items

-- the job of an element at a time
abbrev pub job_at : PlainNet → PlainElement → ℕ → PlainJob
job_at n e time = record { element = e; time = time; work = work_of n e.transition }

-- the job of a claim that says this
abbrev pub job_for : PlainNet → PlainHead → PlainJob
job_for n head = job_at n head.element head.time

-- those claims of a state that the log has committed
abbrev pub committed_of : PlainState → Standing → List PlainClaim
committed_of state s = take (length (log_view s.log).committed) state.claims

-- Where a run stands after its journal: in the state that the journal leads to, with the jobs of the claims that are not committed, its
-- committed occurrences, what the monitors measure of these up to the clock, and the word of the next claim. The claims that are not committed
-- were made at the clock. So it is within a completion, too, before what can be committed is committed.
pub record IsToldAt (setup : PlainSetup) (s : Standing) : Type 0 where
  pub state : PlainState
  pub told : IsTold setup (events_in s) state (log_view s.log) s.held.items
  pub clock : s.clock ≡ state.clock
  pub cut : option_map cut_view s.cut ≡ state.cut
  pub jobs : map job_view (jobs_in s.log) ≡ map (job_for setup.net) (map head_of (log_view s.log).claims)
  pub occurrences : occurrences_in s ≡ numbered 0 (committed_of state s)
  pub measured : AreKept setup.net setup.functions setup.monitors (run_of setup s.clock (committed_of state s)) (measuring_view s.measuring)
  pub made_now : AllByRecursion (λ claim. claim.time ≡ s.clock) (log_view s.log).claims
  pub draw : state.cut ≡ None → s.draw ≡ generator setup.seed (length state.claims)

-- Between two events all that can be committed is committed, and no cut is owed.
pub record IsAt (setup : PlainSetup) (s : Standing) : Type 0 where
  pub at : IsToldAt setup s
  pub all_committed : committed setup at.state ≡ length (log_view s.log).committed
  pub none_owed : owed_cut setup at.state ≡ None

-- A claim of the run that is done with its outputs: its needs and its outputs are those of its element at its time.
pub record IsDoneClaim (setup : PlainSetup) (claim : PlainClaim) : Type 0 where
  pub done : is_done claim.status ≡ true
  pub needs : claim.needs ≡ given_needs (needs_of setup.net claim.element)
  pub outputs : status_after (outputs_of setup.net claim.element claim.time) ≡ Some claim.status

-- What is committed: claims of the run that are done with their outputs, the marking that they leave, and their occurrences. It stands
-- also where nothing else is known.
pub record HasCommitted (setup : PlainSetup) (s : Standing) : Type 0 where
  pub claims : List PlainClaim
  pub each : AllByRecursion (IsDoneClaim setup) claims
  pub heads_are : map head_of claims ≡ (log_view s.log).committed
  pub left : marking_left setup.start claims ≡ Some (log_view s.log).settled
  pub occurrences : occurrences_in s ≡ numbered 0 claims

-- What a call leaves of what was committed, also one that wants memory: each occurrence that was committed still is, and perhaps further
-- ones behind them, with the marking that all of these leave.
pub record StillCommitted (setup : PlainSetup) (old new : Standing) : Type 0 where
  pub committed : HasCommitted setup new
  pub more : List PlainOccurrence
  pub occurrences : occurrences_in new ≡ occurrences_in old ++ more
