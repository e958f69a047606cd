-- What the commits of a run lead to, and which cut is owed then. Source: own choice.
use Rattle.std.specs.Prelude.{◌≡◌, ℕ, ◌+◌, false, [], ◌∷◌, ◌++◌, length, Option, Some, None}
use Rattle.cpn_core.specs.declared.occurrences.Occurrence.{Occurrence}
use Rattle.cpn_log.specs.Logs.{begin_done}
use Rattle.cpn_log.specs.LogViews.{log_view}
use Rattle.cpn_monitor.specs.Kept.{MayNote, KeepsNext, FindsStop}
use Rattle.cpn_monitor.specs.MeasuredRuns.{MarkedOccurrence}
use Rattle.cpn_monitor.specs.Views.{measuring_view, marked_view}
use Rattle.cpn_runs.specs.State.{PlainSetup, PlainState, PlainCut, IsDue, IsState, claim_completed, committed, owed_cut}
use Rattle.cpn_runs.specs.Views.{end_view}
use Rattle.cpn_runs.specs.declared.events.End.{End}
use Rattle.cpn_book.specs.StandingRuns.{stop_behind, NoneStops}
use Rattle.cpn_book.specs.Standings.{IsToldAt, events_in}
use Rattle.cpn_book.specs.States.{cut_events}
use Rattle.cpn_book.specs.declared.committing.Commit.{Commit}
use Rattle.cpn_book.specs.declared.committing.Commit.TheVariants as commits
use Rattle.cpn_book.specs.declared.standings.Standing.{Standing}

-- the occurrence of the claim that was committed last, with the marking after it
abbrev pub last_marked : Standing → Occurrence → MarkedOccurrence
last_marked s o = marked_view o (log_view s.log).settled

-- the monitors may note it; what they keep is then kept of the run with it; and the first of them that stops the run after it is found
abbrev pub MayNoteLast : PlainSetup → Standing → Occurrence → Type 0
MayNoteLast setup s o = MayNote setup.functions setup.monitors (measuring_view s.measuring) (last_marked s o)

abbrev pub KeepsLast : PlainSetup → Standing → Occurrence → Standing → Type 0
KeepsLast setup old o new =
    KeepsNext setup.net setup.functions setup.monitors (last_marked old o) (measuring_view old.measuring) (measuring_view new.measuring)

abbrev pub FindsLastStop : PlainSetup → Standing → Occurrence → Option ℕ → Type 0
FindsLastStop setup old o = FindsStop setup.net setup.functions setup.monitors (last_marked old o) (measuring_view old.measuring)

-- The next claim may be committed, if it is done: no monitor stops the run after the last committed one.
pub record MayCommit (setup : PlainSetup) (s : Standing) : Type 0 where
  pub told : IsToldAt setup s
  pub goes_on : NoneStops setup told.state (log_view s.log)

-- The monitor of a number stops the run after the last committed claim.
pub record IsStopped (setup : PlainSetup) (s : Standing) (monitor : ℕ) : Type 0 where
  pub told : IsToldAt setup s
  pub stop : stop_behind setup told.state (log_view s.log) ≡ Some monitor

-- the next claim is not done with its outputs, or there is none
abbrev pub NextWaits : Standing → Type 0
NextWaits s = begin_done (log_view s.log).claims ≡ false

-- No more can be committed: a monitor stops the run, or the next claim waits.
abbrev pub CommitsNoMore : PlainSetup → Standing → Option ℕ → Type 0
CommitsNoMore setup s (Some monitor) = IsStopped setup s monitor
CommitsNoMore setup s None = MayCommit setup s × NextWaits s

-- what the commit of the next claim leads to
abbrev pub CommitLeads : PlainSetup → Standing → Standing → Commit → Type 0
CommitLeads setup old new commits.Nothing = (new ≡ old) × NextWaits old
CommitLeads setup old new commits.Next = MayCommit setup new × (length (log_view new.log).committed ≡ length (log_view old.log).committed + 1)
CommitLeads setup old new (commits.Stop monitor) = IsStopped setup new monitor

-- The committed claims of the log are those of the state, and the cut that is owed is at the next claim, by the cause; or none is.
abbrev pub OwesCut : PlainSetup → Standing → Option End → Type 0
OwesCut setup s None = (told : IsToldAt setup s) × (committed setup told.state ≡ length (log_view s.log).committed) × (owed_cut setup told.state ≡ None)
OwesCut setup s (Some cause) =
    (told : IsToldAt setup s)
    × (committed setup told.state ≡ length (log_view s.log).committed)
    × (owed_cut setup told.state ≡ Some (record { number = length (log_view s.log).committed; cause = end_view cause }))

-- A cut may be made: it is due where the run stands, and all claims that can be committed are committed.
pub record IsDueAt (setup : PlainSetup) (s : Standing) (cut : PlainCut) : Type 0 where
  pub told : IsToldAt setup s
  pub all_committed : committed setup told.state ≡ length (log_view s.log).committed
  pub due : IsDue setup told.state cut

-- The journal goes on with the cut that is owed where the run stands, if one is.
pub record AddsOwedCut (setup : PlainSetup) (old new : Standing) : Type 0 where
  pub owed : Option PlainCut
  pub events : events_in new ≡ events_in old ++ cut_events owed
  pub owed_is : (state : PlainState) → IsState setup (events_in old) state → owed_cut setup state ≡ owed

-- The journal goes on with a completion, and the cut that is owed after it, if one is.
pub record AddsCompletion (setup : PlainSetup) (seat number : ℕ) (old new : Standing) : Type 0 where
  pub owed : Option PlainCut
  pub events : events_in new ≡ events_in old ++ claim_completed seat number ∷ cut_events owed
  pub owed_is : (after : PlainState) → IsState setup (events_in old ++ claim_completed seat number ∷ []) after → owed_cut setup after ≡ owed
