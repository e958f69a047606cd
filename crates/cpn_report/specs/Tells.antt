-- What a report has told while it is written. Source: own choice.
use Rattle.std.specs.Prelude.{◌≡◌, ℕ, List, ◌∷◌, length, string_bytes}
use Rattle.std.specs.List.{flat_map}
use Rattle.cpn_runs.specs.FinishedViews.{setup_view, finished_view}
use Rattle.cpn_runs.specs.declared.runs.Finished.{Finished}
use Rattle.cpn_report.specs.Lines.{first_text, ended}
use Rattle.cpn_report.specs.Report.{ToldRun, runs_texts, occurrences_told}
use Rattle.cpn_report.specs.declared.reports.Report.{Report}
use Rattle.cpn_report.specs.declared.starts.Start.{Start}
use Rattle.cpn_report.specs.declared.traces.Trace.{Trace}

-- a run that has ended, as one that is told
abbrev pub told_run : Start → Finished → ToldRun
told_run start finished = record { start = start; setup = setup_view finished.setup; run = finished_view finished }

-- how many runs a report has told, and how many occurrences these had together
abbrev pub runs_in : Report → ℕ
runs_in report = report.runs

abbrev pub occurrences_in : Report → ℕ
occurrences_in report = report.occurrences

-- The report has told these runs, with the trace or without, and nothing else: its text is that of the first line and of their lines,
-- and it counts the runs and their occurrences.
pub record Tells (trace : Trace) (tolds : List ToldRun) (report : Report) : Type 0 where
  pub trace_is : report.trace ≡ trace
  pub text_is : string_bytes report.text ≡ flat_map ended (first_text ∷ runs_texts trace 0 tolds)
  pub runs_are : runs_in report ≡ length tolds
  pub occurrences_are : occurrences_in report ≡ occurrences_told tolds
