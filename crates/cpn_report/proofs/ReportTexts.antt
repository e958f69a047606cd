-- The text of a report is that of its parts, one after another: of a run what is not told are the lines of the trace, or these and the lines of places, and no others.
use Rattle.std.proofs.Common.{◌≡◌, ◌∙◌, refl, sym, ap, ap₂, ℕ, suc, ◌+◌, Bool, true, false, if◌then◌else◌, List, [], ◌∷◌, ◌++◌, length, map, append_assoc, append-nil, arith}
use Rattle.std.specs.List.{filter, flat_map}
use Rattle.std.proofs.lemmas.Grind.{flat_map-append}
use Rattle.std.proofs.lemmas.List.Elements.{filter-append}
use Rattle.std.proofs.lemmas.List.Sums.{sum_by_push}
use Rattle.cpn_definitions.specs.Marking.{Marking, Tokens, tokens_at}
use Rattle.cpn_definitions.specs.Net.{Coloured, PlainNet}
use Rattle.cpn_definitions.specs.Legal.{PlainOccurrence}
use Rattle.cpn_monitor.specs.MonitorValues.{PlainMonitorValue}
use Rattle.cpn_runs.specs.State.{PlainEvent, PlainSetup}
use Rattle.cpn_runs.specs.Run.{PlainFinished}
use Rattle.cpn_report.specs.Lines.{Line, run_line, occurrence_line, schedule_line, end_line, occurrences_line, clock_line, place_line, ready_line, next_line, monitor_line, opening_text, schedule_text, end_text, occurrences_text, clock_text, ready_text, next_text, line_text, first_text, total_text, ended, lines_text}
use Rattle.cpn_report.specs.MonitorText.{monitor_text}
use Rattle.cpn_report.specs.Report.{trace_lines, place_lines_from, place_lines, last_lines, whole_run, is_told, run_lines, run_text, ToldRun, run_texts, runs_texts, probes_texts, occurrences_told, report_texts, report_text}
use Rattle.cpn_report.specs.declared.starts.Start.{Start}
use Rattle.cpn_report.specs.declared.traces.Trace.{Trace}
use Rattle.cpn_report.specs.declared.traces.Trace.TheVariants as traces

-- ---- which lines a test leaves

-- a line that does not pass is left out
pub left_out : (own : Line → Bool) (line : Line) (lines : List Line) → own line ≡ false → filter own (line ∷ lines) ≡ filter own lines
left_out own line lines not_own = ap (λ b. if b then line ∷ filter own lines else filter own lines) not_own

pub none_pass : {X : Type 0} (own : Line → Bool) (line_of : X → Line) → ((x : X) → own (line_of x) ≡ false) → (xs : List X) → filter own (map line_of xs) ≡ []
none_pass own line_of not_own [] = refl
none_pass own line_of not_own (x ∷ xs) = left_out own (line_of x) (map line_of xs) (not_own x) ∙ none_pass own line_of not_own xs

pub all_pass : {X : Type 0} (own : Line → Bool) (line_of : X → Line) → ((x : X) → own (line_of x) ≡ true) → (xs : List X) → filter own (map line_of xs) ≡ map line_of xs
all_pass own line_of is_own [] = refl
all_pass own line_of is_own (x ∷ xs) =
    ap (λ b. if b then line_of x ∷ filter own (map line_of xs) else filter own (map line_of xs)) (is_own x) ∙ ap (λ lines. line_of x ∷ lines) (all_pass own line_of is_own xs)

no_places : (own : Line → Bool) → ((place : Coloured) (tokens : Tokens) → own (place_line place tokens) ≡ false) → (p : ℕ) (places : List Coloured) (m : Marking) → filter own (place_lines_from p places m) ≡ []
no_places own not_own p [] m = refl
no_places own not_own p (place ∷ places) m = left_out own (place_line place (tokens_at m p)) (place_lines_from (p + 1) places m) (not_own place (tokens_at m p)) ∙ no_places own not_own (p + 1) places m

all_places : (own : Line → Bool) → ((place : Coloured) (tokens : Tokens) → own (place_line place tokens) ≡ true) → (p : ℕ) (places : List Coloured) (m : Marking) → filter own (place_lines_from p places m) ≡ place_lines_from p places m
all_places own is_own p [] m = refl
all_places own is_own p (place ∷ places) m =
    let line = place_line place (tokens_at m p) in
    let rest = place_lines_from (p + 1) places m in
    ap (λ b. if b then line ∷ filter own rest else filter own rest) (is_own place (tokens_at m p)) ∙ ap (λ lines. line ∷ lines) (all_places own is_own (p + 1) places m)

-- ---- which lines are told

-- with the trace each line is
pub all_told : (lines : List Line) → filter (is_told traces.On) lines ≡ lines
all_told [] = refl
all_told (line ∷ lines) = ap (λ rest. line ∷ rest) (all_told lines)

-- each monitor is
monitor_told : (trace : Trace) (value : PlainMonitorValue) → is_told trace (monitor_line value) ≡ true
monitor_told traces.On value = refl
monitor_told traces.Off value = refl
monitor_told traces.Brief value = refl

monitors_told : (trace : Trace) (values : List PlainMonitorValue) → filter (is_told trace) (map monitor_line values) ≡ map monitor_line values
monitors_told trace values = all_pass (is_told trace) monitor_line (monitor_told trace) values

-- what is ready and next at the end, and what monitors measured
abbrev pub closing_lines : PlainFinished → List Line
closing_lines run = ready_line run.closing.ready_count ∷ next_line run.closing.next ∷ map monitor_line run.values

-- the lines of places that are told
abbrev pub told_places : Trace → PlainSetup → PlainFinished → List Line
told_places trace setup run = filter (is_told trace) (place_lines setup.net.places run.marking)

-- what is told after the trace: all but places
abbrev pub told_last : Trace → PlainSetup → PlainFinished → List Line
told_last trace setup run = end_line run.values run.cause ∷ occurrences_line (length run.occurrences) ∷ clock_line run.clock ∷ told_places trace setup run ++ closing_lines run

closing_told : (trace : Trace) (run : PlainFinished) → filter (is_told trace) (closing_lines run) ≡ closing_lines run
closing_told traces.On run = ap (λ lines. ready_line run.closing.ready_count ∷ next_line run.closing.next ∷ lines) (monitors_told traces.On run.values)
closing_told traces.Off run = ap (λ lines. ready_line run.closing.ready_count ∷ next_line run.closing.next ∷ lines) (monitors_told traces.Off run.values)
closing_told traces.Brief run = ap (λ lines. ready_line run.closing.ready_count ∷ next_line run.closing.next ∷ lines) (monitors_told traces.Brief run.values)

after_clock : (trace : Trace) (setup : PlainSetup) (run : PlainFinished) → filter (is_told trace) (place_lines setup.net.places run.marking ++ closing_lines run) ≡ told_places trace setup run ++ closing_lines run
after_clock trace setup run = filter-append (is_told trace) (place_lines setup.net.places run.marking) (closing_lines run) ∙ ap (λ lines. told_places trace setup run ++ lines) (closing_told trace run)

last_told : (trace : Trace) (setup : PlainSetup) (run : PlainFinished) → filter (is_told trace) (last_lines setup run) ≡ told_last trace setup run
last_told traces.On setup run = ap (λ lines. end_line run.values run.cause ∷ occurrences_line (length run.occurrences) ∷ clock_line run.clock ∷ lines) (after_clock traces.On setup run)
last_told traces.Off setup run = ap (λ lines. end_line run.values run.cause ∷ occurrences_line (length run.occurrences) ∷ clock_line run.clock ∷ lines) (after_clock traces.Off setup run)
last_told traces.Brief setup run = ap (λ lines. end_line run.values run.cause ∷ occurrences_line (length run.occurrences) ∷ clock_line run.clock ∷ lines) (after_clock traces.Brief setup run)

after_opening : (trace : Trace) (setup : PlainSetup) (run : PlainFinished) → filter (is_told trace) (trace_lines run ++ last_lines setup run) ≡ filter (is_told trace) (trace_lines run) ++ told_last trace setup run
after_opening trace setup run = filter-append (is_told trace) (trace_lines run) (last_lines setup run) ∙ ap (λ lines. filter (is_told trace) (trace_lines run) ++ lines) (last_told trace setup run)

-- a run is told by its opening, what is told of its trace, and what is told after it
pub run_told
    : (trace : Trace) (setup : PlainSetup) (number : ℕ) (start : Start) (run : PlainFinished)
    → run_lines trace setup number start run ≡ run_line number start setup.clock run.opening ∷ filter (is_told trace) (trace_lines run) ++ told_last trace setup run
unfolding whole_run run_lines
run_told traces.On setup number start run = ap (λ lines. run_line number start setup.clock run.opening ∷ lines) (after_opening traces.On setup run)
run_told traces.Off setup number start run = ap (λ lines. run_line number start setup.clock run.opening ∷ lines) (after_opening traces.Off setup run)
run_told traces.Brief setup number start run = ap (λ lines. run_line number start setup.clock run.opening ∷ lines) (after_opening traces.Brief setup run)

-- ---- their texts

lines_joined : (n : PlainNet) (lines others : List Line) → lines_text n (lines ++ others) ≡ lines_text n lines ++ lines_text n others
lines_joined n lines others = flat_map-append (λ line. ended (line_text n line)) lines others

-- A trace, written after a text: its occurrences and its journal, or nothing.
pub trace_on : (before : List ℕ) (n : PlainNet) (run : PlainFinished) → before ++ lines_text n (filter (is_told traces.On) (trace_lines run)) ≡ before ++ lines_text n (map occurrence_line run.occurrences) ++ ended (schedule_text run.journal)
trace_on before n run =
    let text = ap (lines_text n) (all_told (trace_lines run)) ∙ lines_joined n (map occurrence_line run.occurrences) (schedule_line run.journal ∷ []) in
    ap (λ rest. before ++ rest) text ∙ simp (append_assoc, append-nil)

-- without the trace nothing of it is told
no_trace_by : (trace : Trace) → ((o : PlainOccurrence) → is_told trace (occurrence_line o) ≡ false) → ((journal : List PlainEvent) → is_told trace (schedule_line journal) ≡ false) → (run : PlainFinished) → filter (is_told trace) (trace_lines run) ≡ []
no_trace_by trace no_occurrence no_journal run =
    filter-append (is_told trace) (map occurrence_line run.occurrences) (schedule_line run.journal ∷ [])
    ∙ ap₂ (λ lines others. lines ++ others) (none_pass (is_told trace) occurrence_line no_occurrence run.occurrences) (left_out (is_told trace) (schedule_line run.journal) [] (no_journal run.journal))

pub no_trace : (run : PlainFinished) → filter (is_told traces.Off) (trace_lines run) ≡ []
no_trace run = no_trace_by traces.Off (λ o. refl) (λ journal. refl) run

pub no_trace_in_brief : (run : PlainFinished) → filter (is_told traces.Brief) (trace_lines run) ≡ []
no_trace_in_brief run = no_trace_by traces.Brief (λ o. refl) (λ journal. refl) run

nothing_written : (before : List ℕ) (n : PlainNet) (lines : List Line) → lines ≡ [] → before ++ lines_text n lines ≡ before
nothing_written before n lines none = ap (λ its. before ++ lines_text n its) none ∙ append-nil before

pub trace_off : (before : List ℕ) (n : PlainNet) (run : PlainFinished) → before ++ lines_text n (filter (is_told traces.Off) (trace_lines run)) ≡ before
trace_off before n run = nothing_written before n (filter (is_told traces.Off) (trace_lines run)) (no_trace run)

pub trace_brief : (before : List ℕ) (n : PlainNet) (run : PlainFinished) → before ++ lines_text n (filter (is_told traces.Brief) (trace_lines run)) ≡ before
trace_brief before n run = nothing_written before n (filter (is_told traces.Brief) (trace_lines run)) (no_trace_in_brief run)

-- The lines of places, written after a text: all of them, or none.
pub places_on : (before : List ℕ) (n : PlainNet) (places : List Coloured) (m : Marking) → before ++ lines_text n (filter (is_told traces.On) (place_lines places m)) ≡ before ++ lines_text n (place_lines places m)
places_on before n places m = ap (λ lines. before ++ lines_text n lines) (all_told (place_lines places m))

pub places_off : (before : List ℕ) (n : PlainNet) (places : List Coloured) (m : Marking) → before ++ lines_text n (filter (is_told traces.Off) (place_lines places m)) ≡ before ++ lines_text n (place_lines places m)
places_off before n places m = ap (λ lines. before ++ lines_text n lines) (all_places (is_told traces.Off) (λ place tokens. refl) 0 places m)

pub places_brief : (before : List ℕ) (n : PlainNet) (places : List Coloured) (m : Marking) → before ++ lines_text n (filter (is_told traces.Brief) (place_lines places m)) ≡ before
places_brief before n places m = nothing_written before n (filter (is_told traces.Brief) (place_lines places m)) (no_places (is_told traces.Brief) (λ place tokens. refl) 0 places m)

-- the lines of monitors
monitors_text : (n : PlainNet) (values : List PlainMonitorValue) → lines_text n (map monitor_line values) ≡ flat_map (λ value. ended (monitor_text value)) values
monitors_text n [] = refl
monitors_text n (value ∷ values) = ap (λ text. ended (monitor_text value) ++ text) (monitors_text n values)

-- A run, written after a text: its opening, what is told of its trace, and what is told after that.
pub run_parts : (before : List ℕ) (trace : Trace) (setup : PlainSetup) (number : ℕ) (start : Start) (run : PlainFinished) → before ++ run_text trace setup number start run
    ≡ before
    ++ ended (opening_text number start setup.clock run.opening)
    ++ lines_text setup.net (filter (is_told trace) (trace_lines run))
    ++ ended (end_text setup.net run.values run.cause)
    ++ ended (occurrences_text (length run.occurrences))
    ++ ended (clock_text run.clock)
    ++ lines_text setup.net (told_places trace setup run)
    ++ ended (ready_text run.closing.ready_count)
    ++ ended (next_text run.closing.next)
    ++ flat_map (λ value. ended (monitor_text value)) run.values
unfolding run_text
run_parts before trace setup number start run =
    let n = setup.net in
    let told = filter (is_told trace) (trace_lines run) in
    let places = told_places trace setup run in
    let closing = closing_lines run in
    let closed = λ (text : List ℕ). ended (ready_text run.closing.ready_count) ++ (ended (next_text run.closing.next) ++ text) in
    let opened = λ (text : List ℕ). ended (opening_text number start setup.clock run.opening) ++ (lines_text n told ++ (ended (end_text n run.values run.cause) ++ (ended (occurrences_text (length run.occurrences)) ++ (ended (clock_text run.clock) ++ text)))) in
    let text = ap (lines_text n) (run_told trace setup number start run)
    ∙ ap (λ rest. ended (opening_text number start setup.clock run.opening) ++ rest) (lines_joined n told (told_last trace setup run))
    ∙ ap opened (lines_joined n places closing ∙ ap (λ rest. lines_text n places ++ closed rest) (monitors_text n run.values)) in
    ap (λ rest. before ++ rest) text ∙ simp append_assoc

-- ---- reports

-- the texts of lines, each ended, are the text of the lines
ended_texts : (n : PlainNet) (lines : List Line) → flat_map ended (map (line_text n) lines) ≡ lines_text n lines
ended_texts n [] = refl
ended_texts n (line ∷ lines) = ap (λ rest. ended (line_text n line) ++ rest) (ended_texts n lines)

-- the next run is told after the others
runs_more : (trace : Trace) (k : ℕ) (tolds : List ToldRun) (told : ToldRun) → runs_texts trace k (tolds ++ told ∷ []) ≡ runs_texts trace k tolds ++ run_texts trace (k + length tolds) told
runs_more trace k [] told = let at : k ≡ k + 0 = omega arith in append-nil (run_texts trace k told) ∙ ap (λ j. run_texts trace j told) at
runs_more trace k (first ∷ tolds) told =
    let at : k + 1 + length tolds ≡ k + suc (length tolds) = omega arith in
    let own = run_texts trace k first in
    ap (λ texts. own ++ texts) (runs_more trace (k + 1) tolds told ∙ ap (λ j. runs_texts trace (k + 1) tolds ++ run_texts trace j told) at)
    ∙ sym (append_assoc own (runs_texts trace (k + 1) tolds) (run_texts trace (k + suc (length tolds)) told))

-- what a report has told of runs, as text
abbrev pub text_so_far : Trace → List ToldRun → List ℕ
text_so_far trace tolds = flat_map ended (first_text ∷ runs_texts trace 0 tolds)

-- the text of a run is written after that of the runs before it
tell_text : (trace : Trace) (tolds : List ToldRun) (told : ToldRun) → text_so_far trace (tolds ++ told ∷ []) ≡ text_so_far trace tolds ++ run_text trace told.setup (length tolds) told.start told.run
unfolding run_text
tell_text trace tolds told =
    let runs = runs_texts trace 0 tolds in
    let own = run_texts trace (length tolds) told in
    let at : 0 + length tolds ≡ length tolds = omega arith in
    ap (λ texts. flat_map ended (first_text ∷ texts)) (runs_more trace 0 tolds told ∙ ap (λ j. runs ++ run_texts trace j told) at)
    ∙ flat_map-append ended (first_text ∷ runs) own
    ∙ ap (λ text. text_so_far trace tolds ++ text) (ended_texts told.setup.net (run_lines trace told.setup (length tolds) told.start told.run))

-- A run is told after those that were told.
pub told_more : (trace its : Trace) (tolds : List ToldRun) (told : ToldRun) (k : ℕ) (before after : List ℕ) → its ≡ trace → k ≡ length tolds → before ≡ text_so_far trace tolds
    → after ≡ before ++ run_text its told.setup k told.start told.run → after ≡ text_so_far trace (tolds ++ told ∷ [])
told_more trace its tolds told k before after trace_is number_is before_is written =
    written ∙ ap₂ (λ text own. text ++ own) before_is (ap₂ (λ t j. run_text t told.setup j told.start told.run) trace_is number_is) ∙ sym (tell_text trace tolds told)

-- its occurrences are added to theirs
pub tell_total : (tolds : List ToldRun) (told : ToldRun) → occurrences_told (tolds ++ told ∷ []) ≡ occurrences_told tolds + length told.run.occurrences
tell_total tolds told = sum_by_push (λ (its : ToldRun). length its.run.occurrences) tolds told

-- a report: what it told of runs, the lines of probes, and the total
report_parts : (trace : Trace) (tolds : List ToldRun) (said : List (List ℕ)) → report_text trace tolds said ≡ text_so_far trace tolds ++ flat_map ended (probes_texts 0 said) ++ ended (total_text (occurrences_told tolds))
unfolding report_text report_texts
report_parts trace tolds said =
    let runs = first_text ∷ runs_texts trace 0 tolds in
    let probes = probes_texts 0 said in
    let total = total_text (occurrences_told tolds) in
    flat_map-append ended (runs ++ probes) (total ∷ []) ∙ ap₂ (λ text last. text ++ last) (flat_map-append ended runs probes) (append-nil (ended total))

-- A report is whole when the lines of probes and the total are written after the runs.
pub all_written : (trace : Trace) (tolds : List ToldRun) (said : List (List ℕ)) (count : ℕ) (before probes after : List ℕ) → before ≡ text_so_far trace tolds → count ≡ occurrences_told tolds
    → probes ≡ before ++ flat_map ended (probes_texts 0 said) → after ≡ probes ++ ended (total_text count) → after ≡ report_text trace tolds said
all_written trace tolds said count before probes after before_is count_is probes_written total_written =
    total_written ∙ ap₂ (λ text n. text ++ ended (total_text n)) (probes_written ∙ ap (λ text. text ++ flat_map ended (probes_texts 0 said)) before_is) count_is ∙ sym (report_parts trace tolds said)
