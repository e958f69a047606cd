-- A text tells its lines; and a report tells of each of its runs the journal, with the trace on, and with or without it what its monitors
-- measured. The lines that tell these, and those that open a run, are the only ones that begin as they do.
use Rattle.std.proofs.Common.{◌≡◌, ◌∙◌, refl, sym, ap, ap₂, ℕ, ◌+◌, ◌==◌, ◌||◌, Bool, true, false, not, if◌then◌else◌, List, [], ◌∷◌, ◌++◌, length, length-append, map, take, drop, get_or, append_assoc, append-nil, arith}
use Rattle.std.specs.Prelude.{codes}
use Rattle.std.specs.List.{filter, list_all, flat_map}
use Rattle.std.proofs.lemmas.Bool.{and_parts}
use Rattle.std.proofs.lemmas.List.Elements.{filter-append}
use Rattle.cpn_definitions.specs.Marking.{Tokens, Marking, tokens_at}
use Rattle.cpn_definitions.specs.Net.{Coloured, PlainNet}
use Rattle.cpn_monitor.specs.MonitorValues.{PlainMonitorValue}
use Rattle.cpn_runs.specs.Run.{PlainFinished}
use Rattle.cpn_runs.specs.State.{PlainSetup}
use Rattle.cpn_report.specs.Lines.{Line, run_line, occurrence_line, schedule_line, end_line, occurrences_line, clock_line, place_line, ready_line, next_line, monitor_line, opening_text, occurrence_text, schedule_text, end_text, occurrences_text, clock_text, place_text, ready_text, next_text, line_text, first_text, probe_text, total_text, ended}
use Rattle.cpn_report.specs.MonitorText.{monitor_text}
use Rattle.cpn_report.specs.Report.{trace_lines, place_lines_from, is_told, run_lines, ToldRun, run_texts, runs_texts, probes_texts, occurrences_told, report_texts, report_text}
use Rattle.cpn_report.specs.Told.{is_one_line, IsSpelledRun, AreSpelledRuns, IsMadeRun, AreMadeRuns, AreShortRuns, LinesDiffer, journals_told, JournalsDiffer, values_told, ValuesOfRunsDiffer}
use Rattle.cpn_report.specs.declared.traces.Trace.{Trace}
use Rattle.cpn_report.specs.declared.traces.Trace.TheVariants as traces
use Rattle.cpn_report.proofs.BytesApart.{bytes_apart}
use Rattle.cpn_report.proofs.LineFeeds.{lines_end_once}
use Rattle.cpn_report.proofs.MonitorsApart.{monitors_differ}
use Rattle.cpn_report.proofs.ReportTexts.{left_out, none_pass, all_pass, all_told, no_trace, no_trace_in_brief, told_places, told_last, run_told}
use Rattle.cpn_report.proofs.ScheduleLines.{schedules_differ}
use Rattle.cpn_report.proofs.SpelledNames.{values_are_spelled}

-- ---- lines

-- a text with a line is not empty
some_text : (text : List ℕ) (texts : List (List ℕ)) → [] ≡ flat_map ended (text ∷ texts) → ⊥
some_text text texts e =
    let counted : 0 ≡ length (ended text ++ flat_map ended texts) = ap length e in
    omega (arith, counted, length-append (ended text) (flat_map ended texts), length-append text (codes "\n"))

pub lines_differ : LinesDiffer
lines_differ [] [] all others e = refl
lines_differ [] (text ∷ texts) all others e = absurd (some_text text texts e)
lines_differ (text ∷ texts) [] all others e = absurd (some_text text texts (sym e))
lines_differ (text ∷ texts) (text' ∷ texts') all others e =
    let own = and_parts (is_one_line text) (list_all is_one_line texts) all in
    let its = and_parts (is_one_line text') (list_all is_one_line texts') others in
    let apart = bytes_apart (λ byte. not (byte == 0x0A)) text text' (10 ∷ flat_map ended texts) (10 ∷ flat_map ended texts') own.0 its.0 refl refl
    (sym (append_assoc text (codes "\n") (flat_map ended texts)) ∙ e ∙ append_assoc text' (codes "\n") (flat_map ended texts')) in
    ap₂ (λ t ts. t ∷ ts) apart.0 (lines_differ texts texts' own.1 its.1 (ap (drop 1) apart.1))

-- the runs of a report have lines where they were made
spelled : (tolds : List ToldRun) → AreMadeRuns tolds → AreSpelledRuns tolds
spelled [] are = tt
spelled (told ∷ tolds) are = (one told are.0, spelled tolds are.1)
  where
    one : (told : ToldRun) → IsMadeRun told → IsSpelledRun told
    one told made = record { spelled = made.spelled; values_spelled = values_are_spelled told.setup told.run made.monitors_spelled made.is_run; printable = made.printable }

-- two reports that have the same text have the same lines
same_lines : (trace other_trace : Trace) (tolds others : List ToldRun) (said other_said : List (List ℕ)) → AreSpelledRuns tolds → AreSpelledRuns others → report_text trace tolds said ≡ report_text other_trace others other_said
    → report_texts trace tolds said ≡ report_texts other_trace others other_said
unfolding report_text
same_lines trace other_trace tolds others said other_said are others_are e =
    lines_differ (report_texts trace tolds said) (report_texts other_trace others other_said) (lines_end_once trace tolds said are) (lines_end_once other_trace others other_said others_are) e

-- ---- the first two bytes of a line

abbrev mark : Line → List ℕ
mark (run_line number start clock outlook) = codes "ru"
mark (occurrence_line o) = codes "oc"
mark (schedule_line journal) = codes "sc"
mark (end_line values cause) = codes "en"
mark (occurrences_line count) = codes "oc"
mark (clock_line clock) = codes "cl"
mark (place_line place tokens) = codes "pl"
mark (ready_line count) = codes "re"
mark (next_line time) = codes "ne"
mark (monitor_line value) = codes "mo"

mark_is : (n : PlainNet) (line : Line) → take 2 (line_text n line) ≡ mark line
unfolding opening_text occurrence_text schedule_text end_text occurrences_text clock_text place_text ready_text next_text monitor_text
mark_is n (run_line number start clock outlook) = refl
mark_is n (occurrence_line o) = refl
mark_is n (schedule_line journal) = refl
mark_is n (end_line values cause) = refl
mark_is n (occurrences_line count) = refl
mark_is n (clock_line clock) = refl
mark_is n (place_line place tokens) = refl
mark_is n (ready_line count) = refl
mark_is n (next_line time) = refl
mark_is n (monitor_line value) = refl

-- ---- which lines are kept by a test of these bytes

-- the texts that are kept, and the lines
abbrev kept : (List ℕ → Bool) → List (List ℕ) → List (List ℕ)
kept test texts = filter (λ text. test (take 2 text)) texts

abbrev passes : (List ℕ → Bool) → Line → Bool
passes test line = test (mark line)

kept_texts : (test : List ℕ → Bool) (n : PlainNet) (lines : List Line) → kept test (map (line_text n) lines) ≡ map (line_text n) (filter (passes test) lines)
kept_texts test n [] = refl
kept_texts test n (line ∷ lines) =
    ap (λ m. if test m then line_text n line ∷ kept test (map (line_text n) lines) else kept test (map (line_text n) lines)) (mark_is n line) ∙ by (test (mark line)) (kept_texts test n lines)
  where
    by : (b : Bool) → kept test (map (line_text n) lines) ≡ map (line_text n) (filter (passes test) lines)
        → (if b then line_text n line ∷ kept test (map (line_text n) lines) else kept test (map (line_text n) lines)) ≡ map (line_text n) (if b then line ∷ filter (passes test) lines else filter (passes test) lines)
    by true rest = ap (λ texts. line_text n line ∷ texts) rest
    by false rest = rest

-- a line that does not pass is left out, whether another test leaves it or not
told_or_not : (own : Line → Bool) (line : Line) (rest : List Line) (told : Bool) → own line ≡ false → filter own rest ≡ [] → filter own (if told then line ∷ rest else rest) ≡ []
told_or_not own line rest true not_own none = left_out own line rest not_own ∙ none
told_or_not own line rest false not_own none = none

no_places : (own also : Line → Bool) → ((place : Coloured) (tokens : Tokens) → own (place_line place tokens) ≡ false) → (p : ℕ) (places : List Coloured) (m : Marking) → filter own (filter also (place_lines_from p places m)) ≡ []
no_places own also not_own p [] m = refl
no_places own also not_own p (place ∷ places) m =
    let line = place_line place (tokens_at m p) in
    told_or_not own line (filter also (place_lines_from (p + 1) places m)) (also line) (not_own place (tokens_at m p)) (no_places own also not_own (p + 1) places m)

-- A test that keeps none but the lines that open a run, tell a journal or tell what a monitor measured.
module _ (test : List ℕ → Bool) (no_occ : test (codes "oc") ≡ false) (no_end : test (codes "en") ≡ false) (no_clock : test (codes "cl") ≡ false) (no_place : test (codes "pl") ≡ false) (no_ready : test (codes "re") ≡ false) (no_next : test (codes "ne") ≡ false) (no_probe : test (codes "pr") ≡ false) (no_total : test (codes "to") ≡ false) where
  -- of the trace of a run the journal is left, if it is told
  trace_kept : (trace : Trace) (run : PlainFinished) → filter (passes test) (filter (is_told trace) (trace_lines run)) ≡ filter (passes test) (filter (is_told trace) (schedule_line run.journal ∷ []))
  trace_kept traces.On run =
      ap (filter (passes test)) (all_told (trace_lines run)) ∙ filter-append (passes test) (map occurrence_line run.occurrences) (schedule_line run.journal ∷ [])
      ∙ ap (λ lines. lines ++ filter (passes test) (schedule_line run.journal ∷ [])) (none_pass (passes test) occurrence_line (λ o. no_occ) run.occurrences)
  trace_kept traces.Off run = ap (filter (passes test)) (no_trace run)
  trace_kept traces.Brief run = ap (filter (passes test)) (no_trace_in_brief run)

  -- and of what comes after it what the monitors measured
  last_kept : (trace : Trace) (setup : PlainSetup) (run : PlainFinished) → filter (passes test) (told_last trace setup run) ≡ filter (passes test) (map monitor_line run.values)
  last_kept trace setup run =
      let own = passes test in
      let values = map monitor_line run.values in
      let places = told_places trace setup run in
      let closing = ready_line run.closing.ready_count ∷ next_line run.closing.next ∷ values in
      let after_clock = places ++ closing in
      left_out own (end_line run.values run.cause) (occurrences_line (length run.occurrences) ∷ clock_line run.clock ∷ after_clock) no_end
      ∙ left_out own (occurrences_line (length run.occurrences)) (clock_line run.clock ∷ after_clock) no_occ
      ∙ left_out own (clock_line run.clock) after_clock no_clock
      ∙ filter-append own places closing
      ∙ ap₂ (λ lines others. lines ++ others) (no_places own (is_told trace) (λ place tokens. no_place) 0 setup.net.places run.marking)
      (left_out own (ready_line run.closing.ready_count) (next_line run.closing.next ∷ values) no_ready ∙ left_out own (next_line run.closing.next) values no_next)

  run_kept
      : (trace : Trace) (k : ℕ) (told : ToldRun)
      → kept test (run_texts trace k told) ≡ map (line_text told.setup.net) (filter (passes test) (run_line k told.start told.setup.clock told.run.opening ∷ filter (is_told trace) (schedule_line told.run.journal ∷ []) ++ map monitor_line told.run.values))
  run_kept trace k told =
      let own = passes test in
      let opening = run_line k told.start told.setup.clock told.run.opening in
      let its_trace = filter (is_told trace) (trace_lines told.run) in
      let journal = filter (is_told trace) (schedule_line told.run.journal ∷ []) in
      let rest = filter-append own its_trace (told_last trace told.setup told.run) ∙ ap₂ (λ lines others. lines ++ others) (trace_kept trace told.run) (last_kept trace told.setup told.run) ∙ sym (filter-append own journal (map monitor_line told.run.values)) in
      kept_texts test told.setup.net (run_lines trace told.setup k told.start told.run)
      ∙ ap (λ lines. map (line_text told.setup.net) (filter own lines)) (run_told trace told.setup k told.start told.run)
      ∙ ap (λ lines. map (line_text told.setup.net) (if own opening then opening ∷ lines else lines)) rest

  -- no probe is kept
  probes_kept : (k : ℕ) (said : List (List ℕ)) → kept test (probes_texts k said) ≡ []
  unfolding probe_text
  probes_kept k [] = refl
  probes_kept k (text ∷ texts) = ap (λ b. if b then probe_text k text ∷ kept test (probes_texts (k + 1) texts) else kept test (probes_texts (k + 1) texts)) no_probe ∙ probes_kept (k + 1) texts

  -- so of a report only lines of its runs are
  report_kept : (trace : Trace) (tolds : List ToldRun) (said : List (List ℕ)) → kept test (report_texts trace tolds said) ≡ kept test (runs_texts trace 0 tolds)
  unfolding report_texts total_text
  report_kept trace tolds said =
      let runs = runs_texts trace 0 tolds in
      let probes = probes_texts 0 said in
      let total = total_text (occurrences_told tolds) in
      filter-append (λ text. test (take 2 text)) (first_text ∷ runs ++ probes) (total ∷ [])
      ∙ ap₂ (λ texts others. texts ++ others)
      (filter-append (λ text. test (take 2 text)) (first_text ∷ runs) probes ∙ ap₂ (λ texts others. texts ++ others) (ap (λ b. if b then first_text ∷ kept test runs else kept test runs) no_ready) (probes_kept 0 said) ∙ append-nil (kept test runs))
      (ap (λ b. if b then total ∷ [] else []) no_total)
      ∙ append-nil (kept test runs)

-- ---- journals

-- whether a line tells a journal
abbrev is_schedule : List ℕ → Bool
is_schedule mark = get_or mark 0 0 == 115

-- each run tells one, with the trace on
journals_kept : (k : ℕ) (tolds : List ToldRun) → kept is_schedule (runs_texts traces.On k tolds) ≡ map (λ told. schedule_text told.run.journal) tolds
journals_kept k [] = refl
journals_kept k (told ∷ tolds) =
    let journal = schedule_line told.run.journal in
    let one = run_kept is_schedule refl refl refl refl refl refl refl refl traces.On k told ∙ ap (λ lines. map (line_text told.setup.net) (journal ∷ lines)) (none_pass (passes is_schedule) monitor_line (λ value. refl) told.run.values) in
    filter-append (λ text. is_schedule (take 2 text)) (run_texts traces.On k told) (runs_texts traces.On (k + 1) tolds) ∙ ap₂ (λ texts others. texts ++ others) one (journals_kept (k + 1) tolds)

-- runs of which the same is told, line by line, have the same journals
journals_apart : (tolds others : List ToldRun) → AreMadeRuns tolds → AreMadeRuns others → map (λ told. schedule_text told.run.journal) tolds ≡ map (λ told. schedule_text told.run.journal) others → journals_told tolds ≡ journals_told others
journals_apart [] [] are others_are e = refl
journals_apart [] (other ∷ others) are others_are e = absurd cc
journals_apart (told ∷ tolds) [] are others_are e = absurd cc
journals_apart (told ∷ tolds) (other ∷ others) are others_are e =
    let own = are.0 in
    let its = others_are.0 in
    ap₂ (λ journal journals. journal ∷ journals) (schedules_differ told.setup other.setup told.run other.run own.playable its.playable own.is_run its.is_run (ap (λ texts. get_or texts 0 []) e))
    (journals_apart tolds others are.1 others_are.1 (ap (drop 1) e))

pub journals_differ : JournalsDiffer
journals_differ tolds others said other_said are others_are e =
    let journals = λ (runs : List ToldRun) (probes : List (List ℕ)). report_kept is_schedule refl refl refl refl refl refl refl refl traces.On runs probes ∙ journals_kept 0 runs in
    let same = same_lines traces.On traces.On tolds others said other_said (spelled tolds are) (spelled others others_are) e in
    journals_apart tolds others are others_are (sym (journals tolds said) ∙ ap (kept is_schedule) same ∙ journals others other_said)

-- ---- what monitors measured

-- whether a line opens a run, and whether it does or tells what a monitor measured
abbrev is_opening : List ℕ → Bool
is_opening text = get_or text 1 0 == 117

abbrev is_measured : List ℕ → Bool
is_measured mark = is_opening mark || (get_or mark 0 0 == 109)

-- the texts of the monitors of runs, run by run
abbrev monitors_of : List ToldRun → List (List (List ℕ))
monitors_of tolds = map (λ told. map monitor_text told.run.values) tolds

monitor_texts : (n : PlainNet) (values : List PlainMonitorValue) → map (line_text n) (map monitor_line values) ≡ map monitor_text values
monitor_texts n [] = refl
monitor_texts n (value ∷ values) = ap (λ texts. monitor_text value ∷ texts) (monitor_texts n values)

-- each run tells where it begins, and then them
values_kept
    : (trace : Trace) (k : ℕ) (told : ToldRun)
    → kept is_measured (run_texts trace k told) ≡ opening_text k told.start told.setup.clock told.run.opening ∷ map monitor_text told.run.values
values_kept trace k told =
    let opening = run_line k told.start told.setup.clock told.run.opening in
    let values = map monitor_line told.run.values in
    run_kept is_measured refl refl refl refl refl refl refl refl trace k told
    ∙ ap (λ lines. map (line_text told.setup.net) (opening ∷ lines)) (no_journal trace ∙ all_pass (passes is_measured) monitor_line (λ value. refl) told.run.values)
    ∙ ap (λ texts. line_text told.setup.net opening ∷ texts) (monitor_texts told.setup.net told.run.values)
  where
    no_journal : (t : Trace) → filter (passes is_measured) (filter (is_told t) (schedule_line told.run.journal ∷ []) ++ map monitor_line told.run.values) ≡ filter (passes is_measured) (map monitor_line told.run.values)
    no_journal traces.On = refl
    no_journal traces.Off = refl
    no_journal traces.Brief = refl

-- the texts before the first that opens a run, and of each run those after it
abbrev parts : List (List ℕ) → List (List ℕ) × List (List (List ℕ))
parts [] = ([], [])
parts (text ∷ texts) = if is_opening text then ([], (parts texts).0 ∷ (parts texts).1) else (text ∷ (parts texts).0, (parts texts).1)

monitors_before : (values : List PlainMonitorValue) (texts : List (List ℕ)) → parts (map monitor_text values ++ texts) ≡ (map monitor_text values ++ (parts texts).0, (parts texts).1)
unfolding monitor_text
monitors_before [] texts = refl
monitors_before (value ∷ values) texts = ap (λ (p : List (List ℕ) × List (List (List ℕ))). (monitor_text value ∷ p.0, p.1)) (monitors_before values texts)

runs_parted : (trace : Trace) (k : ℕ) (tolds : List ToldRun) → parts (kept is_measured (runs_texts trace k tolds)) ≡ ([], monitors_of tolds)
unfolding opening_text
runs_parted trace k [] = refl
runs_parted trace k (told ∷ tolds) =
    let rest = kept is_measured (runs_texts trace (k + 1) tolds) in
    let own = map monitor_text told.run.values in
    let its = monitors_before told.run.values rest ∙ ap (λ (p : List (List ℕ) × List (List (List ℕ))). (own ++ p.0, p.1)) (runs_parted trace (k + 1) tolds) ∙ ap (λ texts. (texts, monitors_of tolds)) (append-nil own) in
    ap parts (filter-append (λ text. is_measured (take 2 text)) (run_texts trace k told) (runs_texts trace (k + 1) tolds) ∙ ap (λ texts. texts ++ rest) (values_kept trace k told))
    ∙ ap (λ (p : List (List ℕ) × List (List (List ℕ))). ([], p.0 ∷ p.1)) its

-- runs of which the same is told, line by line, have the same values
values_apart : (tolds others : List ToldRun) → AreShortRuns tolds → AreShortRuns others → monitors_of tolds ≡ monitors_of others → values_told tolds ≡ values_told others
values_apart [] [] short others_short e = refl
values_apart [] (other ∷ others) short others_short e = absurd cc
values_apart (told ∷ tolds) [] short others_short e = absurd cc
values_apart (told ∷ tolds) (other ∷ others) short others_short e =
    ap₂ (λ values rest. values ∷ rest) (monitors_differ told.run.values other.run.values short.0 others_short.0 (ap (λ texts. get_or texts 0 []) e)) (values_apart tolds others short.1 others_short.1 (ap (drop 1) e))

pub values_of_runs_differ : ValuesOfRunsDiffer
values_of_runs_differ trace other_trace tolds others said other_said are others_are short others_short e =
    let measured = λ (t : Trace) (runs : List ToldRun) (probes : List (List ℕ)). ap parts (report_kept is_measured refl refl refl refl refl refl refl refl t runs probes) ∙ runs_parted t 0 runs in
    let same = same_lines trace other_trace tolds others said other_said are others_are e in
    values_apart tolds others short others_short (ap (λ p. p.1) (sym (measured trace tolds said) ∙ ap (λ texts. parts (kept is_measured texts)) same ∙ measured other_trace others other_said))
