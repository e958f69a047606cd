-- The report that the runs of a document give, and the status that it has. Source: own choice.
use Rattle.std.specs.Prelude.{◌≡◌, ℕ, ◌⊎◌, List, [], ◌∷◌, Some}
use Rattle.std.specs.List.{flat_map}
use Rattle.cpn_definitions.specs.Legal.{PlainOccurrence}
use Rattle.cpn_document.specs.declared.document.Start.{Start}
use Rattle.cpn_document.specs.declared.document.Start.TheVariants as starts
use Rattle.cpn_edit.specs.Sessions.{SessionLimits, PlainSession, phases_run, session_of, AreRuns}
use Rattle.cpn_edit_texts.specs.Edits.{EditedPhase}
use Rattle.cpn_runs.specs.Phases.{PlainPhase}
use Rattle.cpn_runs.specs.State.{PlainEnd, dead, steps_made, until_passed, fault_end, stopped_by, wants_memory}
use Rattle.cpn_model.specs.Models.{IsModel}
use Rattle.cpn_model.specs.Reading.{PlainModel, read}
use Rattle.cpn_report.specs.Report.{ToldRun, report_text}
use Rattle.cpn_report.specs.declared.starts.Start.{Start as ShownStart}
use Rattle.cpn_report.specs.declared.starts.Start.TheVariants as shown
use Rattle.cpn_simulation.specs.Options.{PlainOptions, options_from}
use Rattle.cpn_simulation.specs.declared.statuses.Status.{Status}
use Rattle.cpn_simulation.specs.declared.statuses.Status.TheVariants as statuses

-- the limits that options give the runs of a session, with a seat for each worker
abbrev pub limits_from : PlainOptions → SessionLimits
limits_from options = record { seed = options.seed; steps = options.steps; until = options.until; seats = options.workers }

-- the session of a model under options
abbrev pub session_from : PlainModel → PlainOptions → PlainSession
session_from model options = session_of (limits_from options) model

-- ---- what is told of runs

-- the start of a phase, as a report shows it
abbrev pub shown_start : Start → ShownStart
shown_start starts.Initial = shown.Initial
shown_start starts.Here = shown.Here

-- the runs of phases, one of each as far as they go, as a report tells them
abbrev pub told_runs : List EditedPhase → List PlainPhase → List ToldRun
told_runs [] runs = []
told_runs (phase ∷ phases) [] = []
told_runs (phase ∷ phases) (run ∷ runs) = record { start = shown_start phase.start; setup = run.setup; run = run.run } ∷ told_runs phases runs

-- the occurrences of runs, in order, those of each after those of the runs before it
abbrev pub occurrences_in_all : List PlainPhase → List PlainOccurrence
occurrences_in_all runs = flat_map (λ run. run.run.occurrences) runs

-- ---- the status

-- the status of a run that has ended by the cause
abbrev pub status_after : PlainEnd → Status
status_after dead = statuses.Done
status_after steps_made = statuses.Done
status_after (until_passed time) = statuses.Done
status_after (stopped_by monitor) = statuses.Done
status_after (fault_end e fault) = statuses.RunFault
status_after wants_memory = statuses.Memory

-- the status after runs: that of the last one
abbrev pub status_after_all : List PlainPhase → Status
status_after_all [] = statuses.Done
status_after_all (run ∷ []) = status_after run.run.cause
status_after_all (run ∷ next ∷ runs) = status_after_all (next ∷ runs)

-- the status is that of a report
abbrev pub IsReported : Status → Type 0
IsReported status = (status ≡ statuses.Done) ⊎ (status ≡ statuses.RunFault)

-- ---- the report

-- What probes may say after some occurrences: their texts, in order.
abbrev pub Sayings : Type 1
Sayings = List PlainOccurrence → List (List ℕ) → Type 0

-- they say just these
abbrev pub say : List (List ℕ) → Sayings
say texts occurrences said = said ≡ texts

-- The text is the report of the runs of a model, and the status is that of the end of the last of them. Each phase has a run, in the net as
-- edited so far, from its initial marking or from where the run before it ended, unless one before it ended by a fault. The journal of each
-- run leads to a state that ends by the cause, which is not want of memory; its occurrences are a legal occurrence sequence from where it
-- started to the printed marking; where the cause is a fault, its element is covered at the printed marking and clock, and its outputs have
-- the fault, and where it is a stop, its monitor is the first that stops the run after the last occurrence; what is printed as ready and
-- next, at the start and at the end, is that of the enabled elements; and what is printed of each monitor is what it measures of those
-- occurrences, up to the printed clock. The lines of probes are what these say after the occurrences of all runs, in order.
pub record IsReportOf (model : PlainModel) (options : PlainOptions) (Says : Sayings) (status : Status) (report : List ℕ) : Type 0 where
  pub runs : List PlainPhase
  pub are_runs : AreRuns (session_from model options) runs
  pub said : List (List ℕ)
  pub says : Says (occurrences_in_all runs) said
  pub status_is : status ≡ status_after_all runs
  pub text_is : report ≡ report_text options.trace (told_runs (phases_run model.phases) runs) said

-- The text is the report of runs of the model that the bytes are.
pub record IsReportUnder (bytes : List ℕ) (options : PlainOptions) (Says : Sayings) (status : Status) (report : List ℕ) : Type 0 where
  pub model : PlainModel
  pub reads : IsModel bytes (read model)
  pub is_report : IsReportOf model options Says status report

-- The text is the report of runs of the model that the bytes are, under the options of the words.
pub record IsReport (bytes : List ℕ) (words : List (List ℕ)) (Says : Sayings) (status : Status) (report : List ℕ) : Type 0 where
  pub options : PlainOptions
  pub words_are : options_from words ≡ Some options
  pub is_report : IsReportUnder bytes options Says status report

-- Of the bytes and the words there is one report, where probes say these texts: this one, with this status.
abbrev pub IsOnlyReport : List ℕ → List (List ℕ) → List (List ℕ) → Status → List ℕ → Type 0
IsOnlyReport bytes words said status report = (other_status : Status) → (other : List ℕ) → IsReport bytes words (say said) other_status other → (status ≡ other_status) × (report ≡ other)

-- The text is the report of runs of the model that the bytes are, under the options of the words; and where these say one worker no other is, if
-- probes say the same.
pub record IsTheReport (bytes : List ℕ) (words : List (List ℕ)) (Says : Sayings) (status : Status) (report : List ℕ) : Type 0 where
  pub is_report : IsReport bytes words Says status report
  pub only : is_report.options.workers ≡ 1 → IsOnlyReport bytes words is_report.is_report.is_report.said status report
