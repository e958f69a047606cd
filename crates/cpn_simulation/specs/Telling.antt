-- What a book begins, what a report has been told of a run, and from where the runs of a document begin. Source: own choice.
use Rattle.std.specs.Prelude.{◌≡◌, ◌++◌, List, [], ◌∷◌}
use Rattle.cpn_book.specs.declared.books.Book.{Book}
use Rattle.cpn_document.specs.declared.document.Start.{Start}
use Rattle.cpn_edit.specs.Answers.{Begins}
use Rattle.cpn_edit.specs.Sessions.{PlainSession, StartInitially}
use Rattle.cpn_edit.specs.Standing.{IsValid, Stands}
use Rattle.cpn_edit.specs.declared.sessions.Between.{Between}
use Rattle.cpn_edit.specs.declared.sessions.Session.{Session}
use Rattle.cpn_report.specs.Report.{ToldRun}
use Rattle.cpn_report.specs.Tells.{Tells}
use Rattle.cpn_report.specs.declared.reports.Report.{Report}
use Rattle.cpn_report.specs.declared.traces.Trace.{Trace}
use Rattle.cpn_runs.specs.Phases.{PlainPhase}
use Rattle.cpn_simulation.specs.Reported.{shown_start}

-- a book begins the next run of some session
abbrev pub BeginsNext : Start → Book → Type 0
BeginsNext start book = (s : PlainSession) × (between : Between) × IsValid s × Begins s start between book

-- a run of a phase, as a report tells it
abbrev pub told_one : Start → PlainPhase → ToldRun
told_one start run = record { start = shown_start start; setup = run.setup; run = run.run }

-- a report has been told one run more
abbrev pub HasTold : Start → PlainPhase → Report → Report → Type 0
HasTold start run before now = (trace : Trace) → (tolds : List ToldRun) → Tells trace tolds before → Tells trace (tolds ++ told_one start run ∷ []) now

-- The runs of a document may begin: no run of the session was made, its first phase starts from the initial marking, and the report has told none.
pub record MayBegin (session : Session) (report : Report) : Type 0 where
  pub s : PlainSession
  pub stands : Stands s session
  pub none : s.earlier ≡ []
  pub starts : StartInitially s.phases
  pub trace : Trace
  pub tells : Tells trace [] report
