-- Worked runs, whole: the report of one that makes one occurrence, with its trace and without; a run that has another number in
-- each of its places, with a place that its marking has no entry for; one that a monitor stops; and the report of two runs, with what probes said. And what the
-- laws of texts ask for, of a small net.
use Rattle.std.proofs.Common.{◌≡◌, pos, true, false, [], ◌∷◌, ◌++◌, Some, None, refl, arith}
use Rattle.std.proofs.lemmas.Fmt.{decimal_digit}
use Rattle.std.specs.Prelude.{codes}
use Rattle.std.specs.List.{IsDistinct}
use Rattle.cpn_definitions.specs.DistinctNames.{HasDistinctNames, HasWellSpelledNames}
use Rattle.cpn_definitions.specs.Integers.{HasShortIntegers}
use Rattle.cpn_definitions.specs.Value.{int}
use Rattle.cpn_definitions.specs.Colour.{PlainColour, int_shape}
use Rattle.cpn_definitions.specs.Marking.{PlainToken, token_at}
use Rattle.cpn_definitions.specs.Net.{PlainNet}
use Rattle.cpn_definitions.specs.Occurrence.{PlainElement}
use Rattle.cpn_monitor.specs.MonitorValues.{counted, counted_to_stop}
use Rattle.cpn_runs.specs.Run.{PlainFinished}
use Rattle.cpn_runs.specs.State.{PlainSetup, claim_made, claim_completed, clock_moved, dead, steps_made, stopped_by}
use Rattle.cpn_report.specs.Lines.{binding_text, element_text, opening_text, occurrence_text, schedule_text, end_text, occurrences_text, clock_text, place_text, ready_text, next_text, probe_text, total_text}
use Rattle.cpn_report.specs.Report.{whole_run, run_lines, run_text, ToldRun, report_texts, report_text}
use Rattle.cpn_report.specs.MonitorText.{monitor_text}
use Rattle.cpn_report.specs.Told.{HaveShortNumbers, HaveSpelledNames, is_one_line}
use Rattle.cpn_report.specs.declared.starts.Start.TheVariants as starts
use Rattle.cpn_report.specs.declared.traces.Trace.TheVariants as traces

-- ---- a transition that takes a token from A and gives it back

abbrev digits : PlainColour
digits = record { shape = int_shape (pos 0) (pos 9); timed = false }

abbrev loop : PlainNet
loop = record {
  places = record { name = codes "Top/A"; colour = digits } ∷ [];
  transitions = record { name = codes "Top/t"; guard = []; delay = None; inputs = []; outputs = []; vars = 0 ∷ [] } ∷ [];
  variables = record { name = codes "x"; colour = digits } ∷ [];
  constants = [];
  constructors = [];
  functions = [];
}

abbrev seven : PlainToken
seven = token_at (int (pos 7)) 0

abbrev x_is_seven : PlainElement
x_is_seven = record { transition = 0; binding = (0, int (pos 7)) ∷ [] }

abbrev one_step : PlainSetup
one_step = record { net = loop; start = (seven ∷ []) ∷ []; clock = 0; limits = record { steps = 1; until = 9; seats = 1 }; functions = []; monitors = []; seed = 0 }

abbrev one_occurrence : PlainFinished
one_occurrence = record {
  opening = record { ready_count = 1; next = Some 0 };
  journal = claim_made 0 0 ∷ claim_completed 0 0 ∷ [];
  occurrences = record { number = 0; time = 0; element = x_is_seven } ∷ [];
  marking = (seven ∷ []) ∷ [];
  clock = 0;
  cause = steps_made;
  closing = record { ready_count = 1; next = Some 0 };
  values = [];
}

abbrev from_the_start : PlainFinished → ToldRun
from_the_start run = record { start = starts.Initial; setup = one_step; run = run }

with_its_trace : report_text traces.On (from_the_start one_occurrence ∷ []) [] ≡ codes "report 1\nrun 0 initial 0 ready 1 next 0\nocc 0 @0 Top/t {x=7}\nschedule c0 d0\nend steps\noccurrences 1\nclock 0\nplace Top/A 1`7\nready 1\nnext 0\ntotal 1\n"
unfolding report_text report_texts run_lines whole_run opening_text occurrence_text element_text binding_text schedule_text end_text occurrences_text clock_text place_text ready_text next_text total_text
with_its_trace = rw (decimal_digit 0 (omega arith), decimal_digit 1 (omega arith), decimal_digit 7 (omega arith)) refl

without_its_trace : report_text traces.Off (from_the_start one_occurrence ∷ []) [] ≡ codes "report 1\nrun 0 initial 0 ready 1 next 0\nend steps\noccurrences 1\nclock 0\nplace Top/A 1`7\nready 1\nnext 0\ntotal 1\n"
unfolding report_text report_texts run_lines whole_run opening_text end_text occurrences_text clock_text place_text ready_text next_text total_text
without_its_trace = rw (decimal_digit 0 (omega arith), decimal_digit 1 (omega arith), decimal_digit 7 (omega arith)) refl

in_brief : report_text traces.Brief (from_the_start one_occurrence ∷ []) [] ≡ codes "report 1\nrun 0 initial 0 ready 1 next 0\nend steps\noccurrences 1\nclock 0\nready 1\nnext 0\ntotal 1\n"
unfolding report_text report_texts run_lines whole_run opening_text end_text occurrences_text clock_text ready_text next_text total_text
in_brief = rw (decimal_digit 0 (omega arith), decimal_digit 1 (omega arith)) refl

-- ---- two places, and another number everywhere

abbrev two_places : PlainSetup
two_places = record {
  net = record loop { places = record { name = codes "Top/A"; colour = digits } ∷ record { name = codes "Top/B"; colour = digits } ∷ [] };
  start = [];
  clock = 1;
  limits = record { steps = 1; until = 9; seats = 1 };
  functions = [];
  monitors = [];
  seed = 0;
}

abbrev all_differ : PlainFinished
all_differ = record {
  opening = record { ready_count = 3; next = Some 4 };
  journal = claim_made 0 5 ∷ claim_completed 0 6 ∷ [];
  occurrences = record { number = 5; time = 6; element = x_is_seven } ∷ [];
  marking = (token_at (int (pos 8)) 0 ∷ []) ∷ [];
  clock = 7;
  cause = dead;
  closing = record { ready_count = 8; next = Some 9 };
  values = [];
}

each_at_its_place : run_text traces.On two_places 2 starts.Initial all_differ ≡ codes "run 2 initial 1 ready 3 next 4\nocc 5 @6 Top/t {x=7}\nschedule c5 d6\nend dead\noccurrences 1\nclock 7\nplace Top/A 1`8\nplace Top/B empty\nready 8\nnext 9\n"
unfolding run_text run_lines whole_run opening_text occurrence_text element_text binding_text schedule_text end_text occurrences_text clock_text place_text ready_text next_text
each_at_its_place =
    rw (decimal_digit 1 (omega arith), decimal_digit 2 (omega arith), decimal_digit 3 (omega arith), decimal_digit 4 (omega arith), decimal_digit 5 (omega arith), decimal_digit 6 (omega arith), decimal_digit 7 (omega arith), decimal_digit 8 (omega arith), decimal_digit 9 (omega arith)) refl

-- ---- a run that its second monitor stops, with the lines of both

abbrev stopped_run : PlainFinished
stopped_run = record one_occurrence {
  cause = stopped_by 1;
  values = record { name = codes "fired"; measured = counted 1 } ∷ record { name = codes "once"; measured = counted_to_stop 1 } ∷ [];
}

with_its_monitors : report_text traces.Off (from_the_start stopped_run ∷ []) [] ≡ codes "report 1\nrun 0 initial 0 ready 1 next 0\nend stop once\noccurrences 1\nclock 0\nplace Top/A 1`7\nready 1\nnext 0\nmonitor count 1 fired\nmonitor stop_count 1 once\ntotal 1\n"
unfolding report_text report_texts run_lines whole_run opening_text end_text occurrences_text clock_text place_text ready_text next_text monitor_text total_text
with_its_monitors = rw (decimal_digit 0 (omega arith), decimal_digit 1 (omega arith), decimal_digit 7 (omega arith)) refl

-- another run goes on from the marking where the one before it ended
from_here : run_text traces.Off one_step 1 starts.Here stopped_run ≡ codes "run 1 here 0 ready 1 next 0\nend stop once\noccurrences 1\nclock 0\nplace Top/A 1`7\nready 1\nnext 0\nmonitor count 1 fired\nmonitor stop_count 1 once\n"
unfolding run_text run_lines whole_run opening_text end_text occurrences_text clock_text place_text ready_text next_text monitor_text
from_here = rw (decimal_digit 0 (omega arith), decimal_digit 1 (omega arith), decimal_digit 7 (omega arith)) refl

-- ---- two runs, one after the other, and what two probes said: a byte that is no character is shown, and so are the first and the last that
-- are characters, and those next to them

abbrev from_its_end : ToldRun
from_its_end = record {
  start = starts.Here;
  setup = record one_step { clock = 2; start = (seven ∷ token_at (int (pos 8)) 0 ∷ []) ∷ [] };
  run = record {
    opening = record { ready_count = 2; next = Some 3 };
    journal = claim_made 0 0 ∷ claim_completed 0 0 ∷ clock_moved 5 ∷ claim_made 0 1 ∷ claim_completed 0 1 ∷ [];
    occurrences = record { number = 0; time = 2; element = x_is_seven } ∷ record { number = 1; time = 5; element = record { transition = 0; binding = (0, int (pos 8)) ∷ [] } } ∷ [];
    marking = (token_at (int (pos 9)) 0 ∷ token_at (int (pos 9)) 0 ∷ []) ∷ [];
    clock = 5;
    cause = dead;
    closing = record { ready_count = 0; next = None };
    values = record { name = codes "fired"; measured = counted 2 } ∷ [];
  };
}

two_runs
    : report_text traces.On (from_the_start one_occurrence ∷ from_its_end ∷ []) ((codes "a" ++ 0x07 ∷ codes "b") ∷ (0x1F ∷ 0x20 ∷ 0x7E ∷ 0x7F ∷ []) ∷ [])
    ≡ codes "report 1\nrun 0 initial 0 ready 1 next 0\nocc 0 @0 Top/t {x=7}\nschedule c0 d0\nend steps\noccurrences 1\nclock 0\nplace Top/A 1`7\nready 1\nnext 0\nrun 1 here 2 ready 2 next 3\nocc 0 @2 Top/t {x=7}\nocc 1 @5 Top/t {x=8}\nschedule c0 d0 m5 c1 d1\nend dead\noccurrences 2\nclock 5\nplace Top/A 2`9\nready 0\nnext none\nmonitor count 2 fired\nprobe 0 a?b\nprobe 1 ? ~?\ntotal 3\n"
unfolding report_text report_texts run_lines whole_run opening_text occurrence_text element_text binding_text schedule_text end_text occurrences_text clock_text place_text ready_text next_text monitor_text probe_text total_text
two_runs =
    rw (decimal_digit 0 (omega arith), decimal_digit 1 (omega arith), decimal_digit 2 (omega arith), decimal_digit 3 (omega arith), decimal_digit 5 (omega arith), decimal_digit 7 (omega arith), decimal_digit 8 (omega arith), decimal_digit 9 (omega arith)) refl

-- a report without a run
no_run : report_text traces.Off [] [] ≡ codes "report 1\ntotal 0\n"
unfolding report_text report_texts total_text
no_run = rw (decimal_digit 0 (omega arith)) refl

-- ---- what the laws of texts ask of a net's names and integers holds of it, and of its monitors

loop_names : HasDistinctNames loop
unfolding IsDistinct
loop_names = record { places = (tt, tt); transitions = (tt, tt); variables = (tt, tt); constants = tt; constructors = tt }

loop_spelled : HasWellSpelledNames loop
loop_spelled = record { places = refl; transitions = refl; variables = refl; constants = refl; constructors = refl }

loop_integers : HasShortIntegers loop
loop_integers = record { places_short = refl; variables_short = refl }

stopped_run_names : HaveSpelledNames stopped_run.values
stopped_run_names = refl

stopped_run_numbers : HaveShortNumbers stopped_run.values
stopped_run_numbers = (omega arith, (omega arith, tt))

-- a text of one line, and one with a line feed in it
one_line : is_one_line (codes "clock 7") ≡ true
one_line = refl

two_lines : is_one_line (codes "clock\n7") ≡ false
two_lines = refl
