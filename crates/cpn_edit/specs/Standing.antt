-- Where a session of the program stands. Source: own choice.
use Rattle.std.specs.Prelude.{◌≡◌, ℕ, ◌-◌, ◌+◌, ◌^◌, ◌%◌, ◌<◌, ◌≤◌, List, [], ◌∷◌, length, Option, Some, None}
use Rattle.cpn_core.specs.Inscriptions.{funs_view}
use Rattle.cpn_core.specs.Nets.{net_view}
use Rattle.cpn_declared.specs.DeclsViews.{decls_view}
use Rattle.cpn_definitions.specs.Net.{PlainNet}
use Rattle.cpn_definitions.specs.Times.{last_time}
use Rattle.cpn_document.specs.Phases.{RawPhase}
use Rattle.cpn_document.specs.declared.document.Start.{Start}
use Rattle.cpn_document.specs.declared.document.Start.TheVariants as starts
use Rattle.cpn_edit_texts.specs.Checked.{phases_so}
use Rattle.cpn_edit_texts.specs.Edits.{EditedPhase}
use Rattle.cpn_edit_texts.specs.Reading.{read}
use Rattle.cpn_edit_texts.specs.Ready.{IsReady}
use Rattle.cpn_edit_texts.specs.Views.{phases_view}
use Rattle.cpn_monitor.specs.Monitors.{PlainMonitor}
use Rattle.cpn_monitor.specs.Views.{monitors_view}
use Rattle.cpn_runs.specs.Bounds.{most_steps}
use Rattle.cpn_runs.specs.FinishedViews.{setup_view, finished_view}
use Rattle.cpn_runs.specs.Phases.{PlainPhase, occurrences_of, ArePhases}
use Rattle.cpn_runs.specs.declared.runs.Finished.{Finished}
use Rattle.cpn_typing.specs.Names.{Declared}
use Rattle.cpn_edit.specs.Sessions.{PlainSession}
use Rattle.cpn_edit.specs.declared.sessions.Latest.{Latest}
use Rattle.cpn_edit.specs.declared.sessions.Session.{Session}
use Rattle.cpn_edit.specs.declared.sessions.Between.{Between}

-- phases whose edits are accepted in a net with these monitors: some that are written are read as them
abbrev pub AreAcceptedPhases : Declared → List PlainMonitor → PlainNet → List EditedPhase → Type 0
AreAcceptedPhases ds monitors n phases = (number : ℕ) × (written : List RawPhase) × phases_so ds monitors number n written (read phases)

-- A session whose phases may be run: its net is ready for a run, the edits of the phases that are left are accepted in it, its runs so far
-- went on from one another and had no more occurrences than they may have, and its limits are in their ranges.
pub record IsValid (s : PlainSession) : Type 0 where
  pub ready : IsReady s.declared s.net s.initial s.monitors
  pub accepted : AreAcceptedPhases s.declared s.monitors s.net s.phases
  pub runs : ArePhases s.net.places s.limits.until s.earlier
  pub few : occurrences_of s.earlier ≤ s.limits.steps
  pub steps : s.limits.steps ≤ most_steps
  pub until : s.limits.until ≤ last_time
  pub some_seat : 0 < s.limits.seats
  pub few_seats : s.limits.seats ≤ 64

-- where the latest of these runs ended, the latest of them first; nothing, where there is none
abbrev pub IsLatest : List PlainPhase → Option Latest → Type 0
IsLatest [] None = Unit {0}
IsLatest [] (Some latest) = ⊥
IsLatest (run ∷ earlier) None = ⊥
IsLatest (run ∷ earlier) (Some latest) = (latest.marking ≡ run.run.marking) × (latest.clock ≡ run.run.clock)

-- A session of the program stands for this one, but for where its latest run ended: it keeps how many occurrences are left, and the seed of
-- the next run.
pub record StandsBetween (s : PlainSession) (session : Session) : Type 0 where
  pub valid : IsValid s
  pub declared : decls_view session.decls ≡ s.declared
  pub net : net_view session.net.value ≡ s.net
  pub initial : session.initial ≡ s.initial
  pub functions : funs_view session.monitors.value.funs.value ≡ s.net.functions
  pub monitors : monitors_view session.monitors.value ≡ s.monitors
  pub phases : phases_view session.phases.items ≡ s.phases
  pub steps : session.limits.steps ≡ s.limits.steps - occurrences_of s.earlier
  pub until : session.limits.until ≡ s.limits.until
  pub seats : session.limits.seats ≡ s.limits.seats
  pub seed : session.seed ≡ (s.limits.seed + length s.earlier) % 2 ^ 64

-- A session of the program stands for this one, and keeps where its latest run ended.
pub record Stands (s : PlainSession) (session : Session) : Type 0 where
  pub but_latest : StandsBetween s session
  pub latest : IsLatest s.earlier session.latest

-- it stands for some session
abbrev pub IsSession : Session → Type 0
IsSession session = (s : PlainSession) × Stands s session

-- the same while a run is on
abbrev pub IsBetween : PlainSession → Between → Type 0
IsBetween s between = StandsBetween s between.session

-- a run of it has ended
abbrev pub HasRun : Session → Type 0
HasRun session = (latest : Latest) × (session.latest ≡ Some latest)

-- a start that a run may have: where the latest run ended, one has
abbrev pub MayStart : Start → Session → Type 0
MayStart starts.Initial session = Unit {0}
MayStart starts.Here session = HasRun session

-- a run that has ended, with its setup
abbrev pub run_view : Finished → PlainPhase
run_view finished = record { setup = setup_view finished.setup; run = finished_view finished }
