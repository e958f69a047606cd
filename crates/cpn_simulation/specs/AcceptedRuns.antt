-- The laws of what is accepted: its runs start from where runs may start and are of as many workers as the options say, and a report with its
-- trace tells their journals. Source: own choice.
use Rattle.std.specs.Prelude.{◌≡◌, ◌≤◌, ℕ, List, ◌++◌, map, Some}
use Rattle.std.specs.List.{AllByRecursion}
use Rattle.cpn_book.specs.States.{open_claims}
use Rattle.cpn_edit.specs.Sessions.{AreRuns}
use Rattle.cpn_runs.specs.Phases.{PlainPhase}
use Rattle.cpn_runs.specs.Playable.{IsPlayable}
use Rattle.cpn_runs.specs.State.{PlainEvent, PlainState, IsState}
use Rattle.cpn_runs.specs.WithoutSeats.{Kind, without_seats}
use Rattle.cpn_model.specs.Reading.{PlainModel, read}
use Rattle.cpn_model.specs.Models.{IsModel}
use Rattle.cpn_report.specs.declared.traces.Trace.TheVariants as traces
use Rattle.cpn_simulation.specs.Options.{PlainOptions, options_from}
use Rattle.cpn_simulation.specs.Reported.{Sayings, say, session_from, IsReport}
use Rattle.cpn_simulation.specs.declared.statuses.Status.{Status}

-- From each setup of the runs of whatever model bytes are, under whatever options words give, a run may start.
abbrev pub AcceptedIsPlayable : Type 0
AcceptedIsPlayable =
    (bytes : List ℕ) (words : List (List ℕ)) (model : PlainModel) (options : PlainOptions) (runs : List PlainPhase) → IsModel bytes (read model) → options_from words ≡ Some options
    → AreRuns (session_from model options) runs → AllByRecursion (λ (run : PlainPhase). IsPlayable run.setup) runs

-- A run of at most so many workers: after none of its events, and not at its start, more claims are open.
abbrev pub IsOfWorkers : ℕ → PlainPhase → Type 0
IsOfWorkers workers run = (made later : List PlainEvent) (state : PlainState) → run.run.journal ≡ made ++ later → IsState run.setup made state → open_claims state ≤ workers

-- The runs of a model under options are each of at most as many workers as these say.
abbrev pub RunsAreOfWorkers : Type 0
RunsAreOfWorkers = (model : PlainModel) (options : PlainOptions) (runs : List PlainPhase) → AreRuns (session_from model options) runs → AllByRecursion (IsOfWorkers options.workers) runs

-- the options of a report ask for its trace
abbrev pub HasTrace : {bytes : List ℕ} {words : List (List ℕ)} {Says : Sayings} {status : Status} {text : List ℕ} → IsReport bytes words Says status text → Type 0
HasTrace report = report.options.trace ≡ traces.On

-- the journals of its runs, but for the seats
abbrev pub journals_of : {bytes : List ℕ} {words : List (List ℕ)} {Says : Sayings} {status : Status} {text : List ℕ} → IsReport bytes words Says status text → List (List (Kind × ℕ))
journals_of report = map (λ (run : PlainPhase). without_seats run.run.journal) report.is_report.is_report.runs

-- Two reports with a trace that have the same text, of whatever documents and words and whatever probes said, tell as many runs with the same
-- journals, but for the seats.
abbrev pub ReportsTellJournals : Type 0
ReportsTellJournals =
    (bytes other_bytes : List ℕ) (words other_words : List (List ℕ)) (said other_said : List (List ℕ)) (status other_status : Status) (text : List ℕ)
    (report : IsReport bytes words (say said) status text) (other : IsReport other_bytes other_words (say other_said) other_status text)
    → HasTrace report → HasTrace other → journals_of report ≡ journals_of other
