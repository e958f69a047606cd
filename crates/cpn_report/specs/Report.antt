-- The report of runs, as a list of lines. Source: own choice.
use Rattle.std.specs.Prelude.{ℕ, ◌+◌, Bool, true, false, List, [], ◌∷◌, ◌++◌, length, map, sum_by}
use Rattle.std.specs.List.{filter, flat_map}
use Rattle.cpn_definitions.specs.Marking.{Marking, tokens_at}
use Rattle.cpn_definitions.specs.Net.{Coloured}
use Rattle.cpn_runs.specs.State.{PlainSetup}
use Rattle.cpn_runs.specs.Run.{PlainFinished}
use Rattle.cpn_report.specs.Lines.{Line, run_line, occurrence_line, schedule_line, end_line, occurrences_line, clock_line, place_line, ready_line, next_line, monitor_line, line_text, first_text, probe_text, total_text, ended, lines_text}
use Rattle.cpn_report.specs.declared.starts.Start.{Start}
use Rattle.cpn_report.specs.declared.traces.Trace.{Trace}
use Rattle.cpn_report.specs.declared.traces.Trace.TheVariants as traces

-- ---- all lines of a run

-- the trace of a run: its occurrences, in order, and its journal
abbrev pub trace_lines : PlainFinished → List Line
trace_lines run = map occurrence_line run.occurrences ++ schedule_line run.journal ∷ []

-- a line for each of the places, the first of which has the number p, in order: the place with its tokens in the marking
abbrev pub place_lines_from : ℕ → List Coloured → Marking → List Line
place_lines_from p [] m = []
place_lines_from p (place ∷ places) m = place_line place (tokens_at m p) ∷ place_lines_from (p + 1) places m

abbrev pub place_lines : List Coloured → Marking → List Line
place_lines places m = place_lines_from 0 places m

-- what comes after the trace of a run: its end, its last clock and marking, what is ready and next then, and what its monitors measured
abbrev pub last_lines : PlainSetup → PlainFinished → List Line
last_lines setup run =
    end_line run.values run.cause
    ∷ occurrences_line (length run.occurrences)
    ∷ clock_line run.clock
    ∷ place_lines setup.net.places run.marking
    ++ ready_line run.closing.ready_count
    ∷ next_line run.closing.next
    ∷ map monitor_line run.values

-- All lines of the run of a number: what it starts from, its trace, and what comes after that.
unfoldable pub whole_run : PlainSetup → ℕ → Start → PlainFinished → List Line
whole_run setup number start run = run_line number start setup.clock run.opening ∷ trace_lines run ++ last_lines setup run

-- ---- those that are told

-- whether a report has the line: without a trace it has no occurrence and no journal, and where it is brief it has no place either
abbrev pub is_told : Trace → Line → Bool
is_told traces.Off (occurrence_line o) = false
is_told traces.Off (schedule_line journal) = false
is_told traces.Brief (occurrence_line o) = false
is_told traces.Brief (schedule_line journal) = false
is_told traces.Brief (place_line place tokens) = false
is_told trace line = true

-- the lines of the run of a number that a report has
unfoldable pub run_lines : Trace → PlainSetup → ℕ → Start → PlainFinished → List Line
run_lines trace setup number start run = filter (is_told trace) (whole_run setup number start run)

-- the text of a run
unfoldable pub run_text : Trace → PlainSetup → ℕ → Start → PlainFinished → List ℕ
run_text trace setup number start run = lines_text setup.net (run_lines trace setup number start run)

-- ---- a report, of several runs one after another and what probes said

-- A run that is told: what it starts from, its setup, and what it shows.
pub record ToldRun : Type 0 where
  pub start : Start
  pub setup : PlainSetup
  pub run : PlainFinished

-- the texts of the lines of the run of a number
abbrev pub run_texts : Trace → ℕ → ToldRun → List (List ℕ)
run_texts trace k told = map (line_text told.setup.net) (run_lines trace told.setup k told.start told.run)

-- the texts of the lines of runs, in order, the first of which has the number k
abbrev pub runs_texts : Trace → ℕ → List ToldRun → List (List ℕ)
runs_texts trace k [] = []
runs_texts trace k (told ∷ tolds) = run_texts trace k told ++ runs_texts trace (k + 1) tolds

-- the texts of the lines of probes, in order, the first of which has the number k
abbrev pub probes_texts : ℕ → List (List ℕ) → List (List ℕ)
probes_texts k [] = []
probes_texts k (text ∷ texts) = probe_text k text ∷ probes_texts (k + 1) texts

-- how many occurrences runs had together
abbrev pub occurrences_told : List ToldRun → ℕ
occurrences_told tolds = sum_by (λ told. length told.run.occurrences) tolds

-- The texts of the lines of a report: the first line; those of the runs, and of what probes said, each numbered from 0; and the total.
unfoldable pub report_texts : Trace → List ToldRun → List (List ℕ) → List (List ℕ)
report_texts trace tolds said = first_text ∷ runs_texts trace 0 tolds ++ probes_texts 0 said ++ total_text (occurrences_told tolds) ∷ []

-- Text: a report of runs and of what probes said, each line ended by a line feed.
unfoldable pub report_text : Trace → List ToldRun → List (List ℕ) → List ℕ
report_text trace tolds said = flat_map ended (report_texts trace tolds said)
