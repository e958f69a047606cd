-- Sessions: the runs of the phases of a document, one after another. Source: own choice; each run is one of its setup.
use Rattle.std.specs.Prelude.{◌≡◌, ◌≢◌, ◌⊎◌, ℕ, ◌-◌, ◌+◌, ◌^◌, ◌%◌, List, [], ◌∷◌, length}
use Rattle.cpn_definitions.specs.Marking.{Marking}
use Rattle.cpn_definitions.specs.Net.{PlainNet}
use Rattle.cpn_document.specs.declared.document.Start.{Start}
use Rattle.cpn_document.specs.declared.document.Start.TheVariants as starts
use Rattle.cpn_edit_texts.specs.Edits.{PlainEdit, EditedPhase, net_after, initial_after, net_after_all, initial_after_all}
use Rattle.cpn_model.specs.Reading.{PlainModel}
use Rattle.cpn_monitor.specs.Monitors.{PlainMonitor}
use Rattle.cpn_runs.specs.Phases.{PlainPhase, occurrences_of, IsWhereLatestEnded}
use Rattle.cpn_runs.specs.Run.{IsRun}
use Rattle.cpn_runs.specs.State.{PlainSetup, PlainEnd, dead, steps_made, until_passed, fault_end, stopped_by, wants_memory}
use Rattle.cpn_typing.specs.Names.{Declared}

-- What the runs of a session share: a seed; how many occurrences they may have together; the last time that they may reach; and the seats.
pub record SessionLimits : Type 0 where
  pub seed : ℕ
  pub steps : ℕ
  pub until : ℕ
  pub seats : ℕ

-- A session: what its runs share, what is declared, the net and its initial marking as edited so far, the monitors, the phases that are
-- left, and the runs so far, the latest of them first.
pub record PlainSession : Type 0 where
  pub limits : SessionLimits
  pub declared : Declared
  pub net : PlainNet
  pub initial : Marking
  pub monitors : List PlainMonitor
  pub phases : List EditedPhase
  pub earlier : List PlainPhase

-- the phases that are run: where none is written one without edits, from the initial marking
abbrev pub phases_run : List EditedPhase → List EditedPhase
phases_run [] = record { start = starts.Initial; edits = [] } ∷ []
phases_run (phase ∷ phases) = phase ∷ phases

-- the first of some phases starts from the initial marking
abbrev pub StartInitially : List EditedPhase → Type 0
StartInitially [] = Unit {0}
StartInitially (first ∷ others) = first.start ≡ starts.Initial

-- the session of a model, before its first phase
abbrev pub session_of : SessionLimits → PlainModel → PlainSession
session_of limits model = record {
  limits = limits;
  declared = model.loaded.declared;
  net = model.loaded.net;
  initial = model.loaded.initial;
  monitors = model.monitors;
  phases = phases_run model.phases;
  earlier = [];
}

-- a session after an edit; after its next phase was taken, whose edits are made, so that these are left; and after a run
abbrev pub after_edit : PlainSession → PlainEdit → PlainSession
after_edit s edit = record s { net = net_after s.net edit; initial = initial_after s.initial edit }

abbrev pub after_phase : PlainSession → EditedPhase → List EditedPhase → PlainSession
after_phase s phase left = record s { net = net_after_all s.net phase.edits; initial = initial_after_all s.initial phase.edits; phases = left }

abbrev pub after_run : PlainSession → PlainPhase → PlainSession
after_run s run = record s { earlier = run ∷ s.earlier }

-- The setup of the next run, from a marking and a clock: it may have as many occurrences as the earlier runs left, and its seed is raised by
-- their number. Its monitors begin again, as those of each run.
abbrev pub setup_of : PlainSession → Marking → ℕ → PlainSetup
setup_of s start clock = record {
  net = s.net;
  start = start;
  clock = clock;
  limits = record { steps = s.limits.steps - occurrences_of s.earlier; until = s.limits.until; seats = s.limits.seats };
  functions = s.net.functions;
  monitors = s.monitors;
  seed = (s.limits.seed + length s.earlier) % 2 ^ 64;
}

-- Where a run starts: at the initial marking and clock 0, or where the latest run ended.
abbrev pub StartsAt : PlainSession → Start → Marking → ℕ → Type 0
StartsAt s starts.Initial start clock = (start ≡ s.initial) × (clock ≡ 0)
StartsAt s starts.Here start clock = IsWhereLatestEnded s.earlier start clock

-- the next run of a session: one of its setup
pub record IsNextRun (s : PlainSession) (from : Start) (run : PlainPhase) : Type 0 where
  pub start : Marking
  pub clock : ℕ
  pub starts_at : StartsAt s from start clock
  pub setup_is : run.setup ≡ setup_of s start clock
  pub is_run : IsRun run.setup run.run

-- a run ended by a fault
abbrev pub IsFault : PlainEnd → Type 0
IsFault dead = ⊥
IsFault steps_made = ⊥
IsFault (until_passed time) = ⊥
IsFault (stopped_by monitor) = ⊥
IsFault (fault_end e fault) = Unit {0}
IsFault wants_memory = ⊥

-- so did the latest of these runs, the latest of them first
abbrev pub EndedByFault : List PlainPhase → Type 0
EndedByFault [] = ⊥
EndedByFault (latest ∷ earlier) = IsFault latest.run.cause

-- The runs of a session, from where it stands: one of each phase that is left, in their order, in the net as edited so far, from its initial
-- marking or from where the run before it ended. None ends for want of memory; one that ends by a fault is the last.
unfoldable pub AreRuns : PlainSession → List PlainPhase → Type 0
AreRuns s [] = (s.phases ≡ []) ⊎ EndedByFault s.earlier
AreRuns s (run ∷ runs) =
    (phase : EditedPhase) × (left : List EditedPhase) × (s.phases ≡ phase ∷ left) × (EndedByFault s.earlier → ⊥)
    × IsNextRun (after_phase s phase left) phase.start run × (run.run.cause ≢ wants_memory)
    × AreRuns (after_run (after_phase s phase left) run) runs
