-- No text of a line has a line feed: no name has one, no value, and no number.
use Rattle.std.proofs.Common.{◌≡◌, ◌∙◌, refl, sym, ap, subst, true≢false, ℕ, zero, suc, ◌+◌, ◌<◌, ◌==◌, ◌||◌, Bool, true, false, not, if◌then◌else◌, nat_le, nat_lt, ℤ, pos, negsuc, List, [], ◌∷◌, ◌++◌, length, map, get_or, Option, Some, None, arith}
use Rattle.std.specs.Prelude.{codes}
use Rattle.std.specs.List.{list_all, flat_map, filter}
use Rattle.std.specs.Fmt.{decimal}
use Rattle.std.proofs.lemmas.Bool.{and_parts, and_from, ltb-true, eqb-true}
use Rattle.std.proofs.lemmas.List.{get_or-map, length-map, map-append}
use Rattle.std.proofs.lemmas.List.Folds.{list_all-append}
use Rattle.cpn_definitions.specs.Value.{PlainValue, PlainValues, unit, boolean, int, constant, text, tuple, bare, applied, list, none, more}
use Rattle.cpn_definitions.specs.Colour.{PlainShape, PlainShapes, PlainColour, text_shape, constant_shape, tuple_shape, union_shape, list_shape, more_shapes, no_shapes, Constructors, no_constructors, without, taking, constructor_at, is_bare, takes, is_printable, has_shape, have_shapes, all_have_shape, admits}
use Rattle.cpn_definitions.specs.DistinctNames.{HasWellSpelledNames, is_word_byte, is_path_byte, is_word, is_path, variable_names}
use Rattle.cpn_definitions.specs.Marking.{Tokens, Marking, tokens_at}
use Rattle.cpn_definitions.specs.Meaning.{PlainBinding}
use Rattle.cpn_definitions.specs.Named.{constructors_of, count_of, has_names, have_names, arguments_have_names, is_named}
use Rattle.cpn_definitions.specs.Net.{Coloured, PlainNet, nothing, variable_at, transition_at}
use Rattle.cpn_definitions.specs.Occurrence.{PlainElement, binds}
use Rattle.cpn_definitions.specs.Outcome.{Fault, overflow, divide_by_zero, empty_list, no_case, not_in_colour, bad_coefficient, bad_delay, too_large}
use Rattle.cpn_definitions.specs.Sound.{may_hold}
use Rattle.cpn_runs.specs.Run.{PlainFinished, Outlook}
use Rattle.cpn_definitions.specs.Legal.{PlainOccurrence}
use Rattle.cpn_monitor.specs.MonitorValues.{PlainMeasured, counted, sized, valued, counted_to_stop, sized_to_stop, PlainMonitorValue}
use Rattle.cpn_runs.specs.State.{PlainSetup, PlainEvent, claim_made, claim_completed, clock_moved, cut_made, PlainEnd, dead, steps_made, until_passed, fault_end, stopped_by, wants_memory}
use Rattle.cpn_tmset.specs.Listed.{Group, groups}
use Rattle.cpn_report.specs.Lines.{Line, run_line, occurrence_line, schedule_line, end_line, occurrences_line, clock_line, ready_line, next_line, monitor_line, pair_text, binding_text, element_text, time_text, event_text, fault_text, start_text, group_text, tokens_text, opening_text, occurrence_text, schedule_text, end_text, occurrences_text, clock_text, place_text, ready_text, next_text, line_text, first_text, shown_byte, probe_text, total_text}
use Rattle.cpn_report.specs.MonitorText.{value_at, bound_text, measured_text, monitor_text}
use Rattle.cpn_report.specs.Printable.{is_bound, is_binding_element, is_occurrence, IsCause, IsPrintableNet, IsPrintable}
use Rattle.cpn_report.specs.Report.{trace_lines, place_lines_from, place_lines, last_lines, whole_run, is_told, run_lines, ToldRun, run_texts, runs_texts, probes_texts, occurrences_told, report_texts}
use Rattle.cpn_report.specs.Told.{is_one_line, HaveSpelledNames, IsSpelledRun, AreSpelledRuns, LinesEndOnce}
use Rattle.cpn_report.specs.ValueText.{joined, byte_text, int_text, constant_name, constructor_name, argument_text, shaped_text, tuple_texts, list_texts, value_text}
use Rattle.cpn_report.specs.declared.starts.Start.{Start}
use Rattle.cpn_report.specs.declared.starts.Start.TheVariants as starts
use Rattle.cpn_report.specs.declared.traces.Trace.{Trace}
use Rattle.cpn_report.proofs.BytesApart.{all_weaker, word_bytes, path_bytes, decimal_bytes}
use Rattle.cpn_report.proofs.GroupedTokens.{groups_pass}
use Rattle.cpn_report.proofs.NamesApart.{passes_at, counted_at, constant_is_word, constructor_is_word, transition_is_path}
use Rattle.cpn_report.proofs.PrintableNets.{element_bound, held_at}

-- whether the text of each of the lines has no line feed
abbrev are_lines : PlainNet → List Line → Bool
are_lines n lines = list_all is_one_line (map (line_text n) lines)

-- a byte of a line
abbrev in_line : ℕ → Bool
in_line byte = not (byte == 0x0A)

-- a byte that passes a test that a line feed does not pass
passes_in_line : (test : ℕ → Bool) → test 0x0A ≡ false → (byte : ℕ) → test byte ≡ true → in_line byte ≡ true
passes_in_line test fails byte is = by (byte == 0x0A) refl
  where
    by : (b : Bool) → (byte == 0x0A) ≡ b → not b ≡ true
    by true e = absurd (true≢false (sym is ∙ ap test (eqb-true byte 0x0A e) ∙ fails))
    by false e = refl

-- ---- texts of parts

both : (xs ys : List ℕ) → is_one_line xs ≡ true → is_one_line ys ≡ true → is_one_line (xs ++ ys) ≡ true
both xs ys first second = list_all-append in_line xs ys ∙ and_from (is_one_line xs) (is_one_line ys) first second

three : (xs ys zs : List ℕ) → is_one_line xs ≡ true → is_one_line ys ≡ true → is_one_line zs ≡ true → is_one_line (xs ++ ys ++ zs) ≡ true
three xs ys zs first second third = both (xs ++ ys) zs (both xs ys first second) third

word_line : (name : List ℕ) → is_word name ≡ true → is_one_line name ≡ true
word_line name is = all_weaker is_word_byte in_line (passes_in_line is_word_byte refl) name (word_bytes name is)

path_line : (name : List ℕ) → is_path name ≡ true → is_one_line name ≡ true
path_line name is = all_weaker is_path_byte in_line (passes_in_line is_path_byte refl) name (path_bytes name is)

number_line : (k : ℕ) → is_one_line (decimal k) ≡ true
number_line k = all_weaker is_word_byte in_line (passes_in_line is_word_byte refl) (decimal k) (decimal_bytes k)

joined_line : (between : List ℕ) (ts : List (List ℕ)) → is_one_line between ≡ true → list_all is_one_line ts ≡ true → is_one_line (joined between ts) ≡ true
joined_line between [] line all = refl
joined_line between (t ∷ []) line all = (and_parts (is_one_line t) true all).0
joined_line between (t ∷ u ∷ us) line all =
    let parts = and_parts (is_one_line t) (list_all is_one_line (u ∷ us)) all in
    three t between (joined between (u ∷ us)) parts.0 line (joined_line between (u ∷ us) line parts.1)

-- what each item's text is, the texts of all are
mapped_lines : {X : Type 0} (test : X → Bool) (f : X → List ℕ) → ((x : X) → test x ≡ true → is_one_line (f x) ≡ true) → (xs : List X) → list_all test xs ≡ true → list_all is_one_line (map f xs) ≡ true
mapped_lines test f so [] all = refl
mapped_lines test f so (x ∷ xs) all =
    let parts = and_parts (test x) (list_all test xs) all in
    and_from (is_one_line (f x)) (list_all is_one_line (map f xs)) (so x parts.0) (mapped_lines test f so xs parts.1)

-- ---- strings

byte_line : (byte : ℕ) → is_printable byte ≡ true → is_one_line (byte_text byte) ≡ true
byte_line byte is = by ((byte == 0x22) || (byte == 0x5C))
  where
    here : is_one_line (byte ∷ []) ≡ true
    here = and_from (in_line byte) true (passes_in_line is_printable refl byte is) refl

    by : (mark : Bool) → is_one_line (if mark then 0x5C ∷ byte ∷ [] else byte ∷ []) ≡ true
    by true = here
    by false = here

bytes_line : (bytes : List ℕ) → list_all is_printable bytes ≡ true → is_one_line (flat_map byte_text bytes) ≡ true
bytes_line [] all = refl
bytes_line (b ∷ bytes) all =
    let parts = and_parts (is_printable b) (list_all is_printable bytes) all in
    both (byte_text b) (flat_map byte_text bytes) (byte_line b parts.0) (bytes_line bytes parts.1)

module _ (n : PlainNet) (spelled : HasWellSpelledNames n) where
  -- ---- values

  -- a value has a line for a text, whatever shape it has
  abbrev HasLine : PlainValue → Type 0
  HasLine v = (s : PlainShape) → has_names n s ≡ true → has_shape v s ≡ true → is_one_line (shaped_text n v s) ≡ true

  argument_line : (cs : Constructors) (k : ℕ) (v : PlainValue) → HasLine v → arguments_have_names n cs ≡ true → takes (constructor_at cs k) (λ s. has_shape v s) ≡ true → is_one_line (argument_text (constructor_at cs k) (λ s. shaped_text n v s)) ≡ true
  argument_line no_constructors k v own named has = absurd cc
  argument_line (without cs) zero v own named has = absurd cc
  argument_line (taking s cs) zero v own named has = own s (and_parts (has_names n s) (arguments_have_names n cs) named).0 has
  argument_line (without cs) (suc k) v own named has = argument_line cs k v own named has
  argument_line (taking s cs) (suc k) v own named has = argument_line cs k v own (and_parts (has_names n s) (arguments_have_names n cs) named).1 has

  applied_line : (k : ℕ) (v : PlainValue) → HasLine v → HasLine (applied k v)
  applied_line k v own (union_shape number cs) named has =
      let name = constructor_name n number k in
      let argument = argument_text (constructor_at cs k) (λ s. shaped_text n v s) in
      let names = and_parts (nat_le (count_of cs) (length (constructors_of n number))) (arguments_have_names n cs) named in
      let word = constructor_is_word n spelled number cs k named (counted_at (λ o. takes o (λ s. has_shape v s)) cs k refl has) in
      three (name ++ codes "(") argument (codes ")") (both name (codes "(") (word_line name word) refl) (argument_line cs k v own names.1 has) refl
  applied_line k v own s named has = absurd cc

  text_line : (bytes : List ℕ) → HasLine (text bytes)
  text_line bytes text_shape named has = both (flat_map byte_text bytes) (codes "\"") (bytes_line bytes has) refl
  text_line bytes s named has = absurd cc

  constant_line : (k : ℕ) → HasLine (constant k)
  constant_line k (constant_shape number count) named has = word_line (constant_name n number k) (constant_is_word n spelled number count k named has)
  constant_line k s named has = absurd cc

  bare_line : (k : ℕ) → HasLine (bare k)
  bare_line k (union_shape number cs) named has = word_line (constructor_name n number k) (constructor_is_word n spelled number cs k named (counted_at is_bare cs k refl has))
  bare_line k s named has = absurd cc

  -- the items of a list and of a tuple
  record HaveLines (vs : PlainValues) : Type 0 where
    items : (s : PlainShape) → has_names n s ≡ true → all_have_shape vs s ≡ true → list_all is_one_line (list_texts n vs s) ≡ true
    parts : (ss : PlainShapes) → have_names n ss ≡ true → have_shapes vs ss ≡ true → list_all is_one_line (tuple_texts n vs ss) ≡ true

  tuple_line : (vs : PlainValues) → HaveLines vs → HasLine (tuple vs)
  tuple_line vs own (tuple_shape ss) named has =
      let texts = tuple_texts n vs ss in
      both (joined (codes ",") texts) (codes ")") (joined_line (codes ",") texts refl (own.parts ss named has)) refl
  tuple_line vs own s named has = absurd cc

  list_line : (vs : PlainValues) → HaveLines vs → HasLine (list vs)
  list_line vs own (list_shape s) named has =
      let texts = list_texts n vs s in
      both (joined (codes ",") texts) (codes "]") (joined_line (codes ",") texts refl (own.items s named has)) refl
  list_line vs own s named has = absurd cc

  more_parts : (v : PlainValue) (vs : PlainValues) → HasLine v → HaveLines vs → (ss : PlainShapes) → have_names n ss ≡ true → have_shapes (more v vs) ss ≡ true → list_all is_one_line (tuple_texts n (more v vs) ss) ≡ true
  more_parts v vs own rest no_shapes named has = absurd cc
  more_parts v vs own rest (more_shapes s ss) named has =
      let names = and_parts (has_names n s) (have_names n ss) named in
      let shapes = and_parts (has_shape v s) (have_shapes vs ss) has in
      and_from (is_one_line (shaped_text n v s)) (list_all is_one_line (tuple_texts n vs ss)) (own s names.0 shapes.0) (rest.parts ss names.1 shapes.1)

  more_items : (v : PlainValue) (vs : PlainValues) → HasLine v → HaveLines vs → (s : PlainShape) → has_names n s ≡ true → all_have_shape (more v vs) s ≡ true → list_all is_one_line (list_texts n (more v vs) s) ≡ true
  more_items v vs own rest s named has =
      let shapes = and_parts (has_shape v s) (all_have_shape vs s) has in
      and_from (is_one_line (shaped_text n v s)) (list_all is_one_line (list_texts n vs s)) (own s named shapes.0) (rest.items s named shapes.1)

  mutual
    value_line : (v : PlainValue) → HasLine v
    value_line unit = λ s named has. refl
    value_line (boolean false) = λ s named has. refl
    value_line (boolean true) = λ s named has. refl
    value_line (int (pos k)) = λ s named has. number_line k
    value_line (int (negsuc k)) = λ s named has. number_line (suc k)
    value_line (constant k) = constant_line k
    value_line (text bytes) = text_line bytes
    value_line (tuple vs) = tuple_line vs (values_lines vs)
    value_line (bare k) = bare_line k
    value_line (applied k v) = applied_line k v (value_line v)
    value_line (list vs) = list_line vs (values_lines vs)

    values_lines : (vs : PlainValues) → HaveLines vs
    values_lines none = record { items = λ s named has. refl; parts = λ ss named has. refl }
    values_lines (more v vs) = record { items = more_items v vs (value_line v) (values_lines vs); parts = more_parts v vs (value_line v) (values_lines vs) }

  -- ---- elements

  module _ (net : IsPrintableNet n) where
    pair_line : (pair : ℕ × PlainValue) → is_bound n pair ≡ true → is_one_line (pair_text n pair) ≡ true
    pair_line pair is =
        let parts = and_parts (nat_lt pair.0 (length n.variables)) (admits (variable_at n pair.0).colour pair.1) is in
        let known = ltb-true pair.0 (length n.variables) parts.0 in
        let counted = length-map n.variables (λ variable. variable.name) in
        let name = subst (λ x. is_word x ≡ true) (get_or-map (λ variable. variable.name) n.variables pair.0 nothing [] known) (passes_at is_word (variable_names n) pair.0 [] spelled.variables (omega (arith, known, counted))) in
        let value = value_text n (variable_at n pair.0).colour pair.1 in
        three (variable_at n pair.0).name (codes "=") value (word_line (variable_at n pair.0).name name) refl
        (value_line pair.1 (variable_at n pair.0).colour.shape (passes_at (is_named n) n.variables pair.0 nothing net.named.variables_named known) parts.1)

    binding_line : (b : PlainBinding) → list_all (is_bound n) b ≡ true → is_one_line (binding_text n b) ≡ true
    unfolding binding_text
    binding_line b all =
        let pairs = map (pair_text n) b in
        both (joined (codes ", ") pairs) (codes "}") (joined_line (codes ", ") pairs refl (mapped_lines (is_bound n) (pair_text n) pair_line b all)) refl

    element_line : (e : PlainElement) → is_binding_element n e ≡ true → is_one_line (element_text n e) ≡ true
    unfolding element_text
    element_line e is =
        let known = ltb-true e.transition (length n.transitions) (and_parts (nat_lt e.transition (length n.transitions)) (binds n (transition_at n e.transition).vars e.binding) is).0 in
        three (transition_at n e.transition).name (codes " ") (binding_text n e.binding) (path_line (transition_at n e.transition).name (transition_is_path n spelled e.transition known)) refl
        (binding_line e.binding (element_bound n e net.sound is))

  -- ---- places

  group_line : (colour : PlainColour) → has_names n colour.shape ≡ true → (g : Group) → may_hold colour g.token ≡ true → is_one_line (group_text n colour g) ≡ true
  group_line colour named g held =
      let value = value_text n colour g.token.value in
      let text = value_line g.token.value colour.shape named (and_parts (admits colour g.token.value) (colour.timed || (g.token.stamp == 0)) held).0 in
      both (decimal g.count ++ codes "`" ++ value) (if colour.timed then codes "@" ++ decimal g.token.stamp else []) (three (decimal g.count) (codes "`") value (number_line g.count) refl text) (stamp_line colour.timed)
    where
      stamp_line : (timed : Bool) → is_one_line (if timed then codes "@" ++ decimal g.token.stamp else []) ≡ true
      stamp_line true = number_line g.token.stamp
      stamp_line false = refl

  tokens_line : (colour : PlainColour) → has_names n colour.shape ≡ true → (tokens : Tokens) → list_all (may_hold colour) tokens ≡ true → is_one_line (tokens_text n colour tokens) ≡ true
  tokens_line colour named [] held = refl
  tokens_line colour named (t ∷ ts) held =
      joined_line (codes " ++ ") (map (group_text n colour) (groups (t ∷ ts))) refl
      (mapped_lines (λ (g : Group). may_hold colour g.token) (group_text n colour) (group_line colour named) (groups (t ∷ ts)) (groups_pass (may_hold colour) (t ∷ ts) held))

  one_place_line : (place : Coloured) (tokens : Tokens) → is_path place.name ≡ true → is_named n place ≡ true → list_all (may_hold place.colour) tokens ≡ true → is_one_line (place_text n place tokens) ≡ true
  unfolding place_text
  one_place_line place tokens path named held =
      three place.name (codes " ") (tokens_text n place.colour tokens) (path_line place.name path) refl (tokens_line place.colour named tokens held)

  places_lines : (p : ℕ) (places : List Coloured) (m : Marking) → list_all is_path (map (λ place. place.name) places) ≡ true → list_all (is_named n) places ≡ true
      → ((i : ℕ) → i < length places → list_all (may_hold (get_or places i nothing).colour) (tokens_at m (p + i)) ≡ true) → are_lines n (place_lines_from p places m) ≡ true
  places_lines p [] m paths named held = refl
  places_lines p (place ∷ places) m paths named held =
      let path = and_parts (is_path place.name) (list_all is_path (map (λ place. place.name) places)) paths in
      let names = and_parts (is_named n place) (list_all (is_named n) places) named in
      let here : p + 0 ≡ p = omega arith in
      let first = subst (λ k. list_all (may_hold place.colour) (tokens_at m k) ≡ true) here (held 0 (omega arith)) in
      and_from (is_one_line (place_text n place (tokens_at m p))) (are_lines n (place_lines_from (p + 1) places m)) (one_place_line place (tokens_at m p) path.0 names.0 first)
      (places_lines (p + 1) places m path.1 names.1 (λ i lt. later i (held (suc i) (omega arith))))
    where
      later : (i : ℕ) → list_all (may_hold (get_or places i nothing).colour) (tokens_at m (p + suc i)) ≡ true → list_all (may_hold (get_or places i nothing).colour) (tokens_at m (p + 1 + i)) ≡ true
      later i is = let there : p + suc i ≡ p + 1 + i = omega arith in subst (λ k. list_all (may_hold (get_or places i nothing).colour) (tokens_at m k) ≡ true) there is

-- ---- lines of numbers

time_line : (time : Option ℕ) → is_one_line (time_text time) ≡ true
time_line None = refl
time_line (Some time) = number_line time

start_line : (start : Start) → is_one_line (start_text start) ≡ true
start_line starts.Initial = refl
start_line starts.Here = refl

run_opens : (number : ℕ) (start : Start) (clock : ℕ) (outlook : Outlook) → is_one_line (opening_text number start clock outlook) ≡ true
unfolding opening_text
run_opens number start clock outlook =
    let started = decimal number ++ codes " " ++ start_text start in
    let clocked = started ++ codes " " ++ decimal clock in
    let counted = clocked ++ codes " ready " ++ decimal outlook.ready_count in
    let started_line = three (decimal number) (codes " ") (start_text start) (number_line number) refl (start_line start) in
    let clocked_line = three started (codes " ") (decimal clock) started_line refl (number_line clock) in
    three counted (codes " next ") (time_text outlook.next) (three clocked (codes " ready ") (decimal outlook.ready_count) clocked_line refl (number_line outlook.ready_count)) refl (time_line outlook.next)

event_line : (event : PlainEvent) → is_one_line (event_text event) ≡ true
event_line (claim_made seat number) = number_line number
event_line (claim_completed seat number) = number_line number
event_line (clock_moved time) = number_line time
event_line (cut_made number) = number_line number

events_line : (journal : List PlainEvent) → is_one_line (flat_map event_text journal) ≡ true
events_line [] = refl
events_line (event ∷ journal) = both (event_text event) (flat_map event_text journal) (event_line event) (events_line journal)

journal_line : (journal : List PlainEvent) → is_one_line (schedule_text journal) ≡ true
unfolding schedule_text
journal_line journal = events_line journal

fault_line : (fault : Fault) → is_one_line (fault_text fault) ≡ true
fault_line overflow = refl
fault_line divide_by_zero = refl
fault_line empty_list = refl
fault_line no_case = refl
fault_line not_in_colour = refl
fault_line bad_coefficient = refl
fault_line bad_delay = refl
fault_line too_large = refl

counted_line : (count : ℕ) → is_one_line (occurrences_text count) ≡ true
unfolding occurrences_text
counted_line count = number_line count

last_clock_line : (clock : ℕ) → is_one_line (clock_text clock) ≡ true
unfolding clock_text
last_clock_line clock = number_line clock

ready_count_line : (count : ℕ) → is_one_line (ready_text count) ≡ true
unfolding ready_text
ready_count_line count = number_line count

next_time_line : (time : Option ℕ) → is_one_line (next_text time) ≡ true
unfolding next_text
next_time_line time = time_line time

in_all_line : (count : ℕ) → is_one_line (total_text count) ≡ true
unfolding total_text
in_all_line count = number_line count

-- ---- lines of monitors

integer_line : (z : ℤ) → is_one_line (int_text z) ≡ true
integer_line (pos k) = number_line k
integer_line (negsuc k) = number_line (suc k)

bound_line : (bound : Option ℤ) → is_one_line (bound_text bound) ≡ true
bound_line None = refl
bound_line (Some z) = integer_line z

measured_line : (m : PlainMeasured) → is_one_line (measured_text m) ≡ true
measured_line (counted n) = number_line n
measured_line (sized least greatest last sum until) =
    let two = decimal least ++ codes " " ++ decimal greatest in
    let two_line = three (decimal least) (codes " ") (decimal greatest) (number_line least) refl (number_line greatest) in
    three (two ++ codes " " ++ decimal last) (codes " ") (decimal sum) (three two (codes " ") (decimal last) two_line refl (number_line last)) refl (number_line sum)
measured_line (valued count sum least greatest faulted) =
    let two = decimal count ++ codes " " ++ int_text sum in
    let two_line = three (decimal count) (codes " ") (int_text sum) (number_line count) refl (integer_line sum) in
    let first = two ++ codes " " ++ bound_text least in
    let first_line = three two (codes " ") (bound_text least) two_line refl (bound_line least) in
    three (first ++ codes " " ++ bound_text greatest) (codes " ") (decimal faulted) (three first (codes " ") (bound_text greatest) first_line refl (bound_line greatest)) refl (number_line faulted)
measured_line (counted_to_stop n) = number_line n
measured_line (sized_to_stop last) = number_line last

monitor_is_line : (value : PlainMonitorValue) → is_path value.name ≡ true → is_one_line (monitor_text value) ≡ true
unfolding monitor_text
monitor_is_line value spelled = three (measured_text value.measured) (codes " ") value.name (measured_line value.measured) refl (path_line value.name spelled)

monitors_lines : (n : PlainNet) (values : List PlainMonitorValue) → HaveSpelledNames values → are_lines n (map monitor_line values) ≡ true
monitors_lines n [] spelled = refl
monitors_lines n (value ∷ values) spelled =
    let parts = and_parts (is_path value.name) (list_all (λ (other : PlainMonitorValue). is_path other.name) values) spelled in
    and_from (is_one_line (monitor_text value)) (are_lines n (map monitor_line values)) (monitor_is_line value parts.0) (monitors_lines n values parts.1)

-- the name of a monitor that has a value
stop_is_line : (values : List PlainMonitorValue) (k : ℕ) → HaveSpelledNames values → k < length values → is_one_line (value_at values k).name ≡ true
stop_is_line values k spelled known = path_line (value_at values k).name (passes_at (λ (value : PlainMonitorValue). is_path value.name) values k (record { name = []; measured = counted 0 }) spelled known)

-- ---- lines of elements

module _ (n : PlainNet) (spelled : HasWellSpelledNames n) (net : IsPrintableNet n) where
  occurs_line : (o : PlainOccurrence) → is_occurrence n o ≡ true → is_one_line (occurrence_text n o) ≡ true
  unfolding occurrence_text
  occurs_line o is =
      three (decimal o.number ++ codes " @" ++ decimal o.time) (codes " ") (element_text n o.element) (three (decimal o.number) (codes " @") (decimal o.time) (number_line o.number) refl (number_line o.time)) refl (element_line n spelled net o.element is)

  occurrences_lines : (os : List PlainOccurrence) → list_all (is_occurrence n) os ≡ true → are_lines n (map occurrence_line os) ≡ true
  occurrences_lines [] all = refl
  occurrences_lines (o ∷ os) all =
      let parts = and_parts (is_occurrence n o) (list_all (is_occurrence n) os) all in
      and_from (is_one_line (occurrence_text n o)) (are_lines n (map occurrence_line os)) (occurs_line o parts.0) (occurrences_lines os parts.1)

  cause_line : (values : List PlainMonitorValue) (cause : PlainEnd) → HaveSpelledNames values → IsCause n values cause → is_one_line (end_text n values cause) ≡ true
  unfolding end_text
  cause_line values dead names is = refl
  cause_line values steps_made names is = refl
  cause_line values (until_passed time) names is = number_line time
  cause_line values (stopped_by monitor) names is = stop_is_line values monitor names is
  cause_line values wants_memory names is = absurd is
  cause_line values (fault_end e fault) names is = three (fault_text fault) (codes " ") (element_text n e) (fault_line fault) refl (element_line n spelled net e is)

-- ---- the lines of a run

kept_lines : (n : PlainNet) (test : Line → Bool) (lines : List Line) → are_lines n lines ≡ true → are_lines n (filter test lines) ≡ true
kept_lines n test [] all = refl
kept_lines n test (line ∷ lines) all =
    let parts = and_parts (is_one_line (line_text n line)) (are_lines n lines) all in
    by (test line) parts.0 (kept_lines n test lines parts.1)
  where
    by : (b : Bool) → is_one_line (line_text n line) ≡ true → are_lines n (filter test lines) ≡ true → are_lines n (if b then line ∷ filter test lines else filter test lines) ≡ true
    by true first rest = and_from (is_one_line (line_text n line)) (are_lines n (filter test lines)) first rest
    by false first rest = rest

joined_lines : (n : PlainNet) (lines others : List Line) → are_lines n lines ≡ true → are_lines n others ≡ true → are_lines n (lines ++ others) ≡ true
joined_lines n lines others first second =
    ap (list_all is_one_line) (map-append (line_text n) lines others) ∙ list_all-append is_one_line (map (line_text n) lines) (map (line_text n) others) ∙ and_from (are_lines n lines) (are_lines n others) first second

one_more : (n : PlainNet) (line : Line) (lines : List Line) → is_one_line (line_text n line) ≡ true → are_lines n lines ≡ true → are_lines n (line ∷ lines) ≡ true
one_more n line lines first rest = and_from (is_one_line (line_text n line)) (are_lines n lines) first rest

module _ (setup : PlainSetup) (run : PlainFinished) (spelled : HasWellSpelledNames setup.net) (names : HaveSpelledNames run.values) (printable : IsPrintable setup.net run) where
  placed_lines : are_lines setup.net (place_lines setup.net.places run.marking) ≡ true
  placed_lines = places_lines setup.net spelled 0 setup.net.places run.marking spelled.places printable.net.named.places_named
      (λ i lt. at_zero i (held_at setup.net.places run.marking i nothing printable.parts.marking lt))
    where
      at_zero : (i : ℕ) → list_all (may_hold (get_or setup.net.places i nothing).colour) (tokens_at run.marking i) ≡ true → list_all (may_hold (get_or setup.net.places i nothing).colour) (tokens_at run.marking (0 + i)) ≡ true
      at_zero i is = let here : i ≡ 0 + i = omega arith in subst (λ k. list_all (may_hold (get_or setup.net.places i nothing).colour) (tokens_at run.marking k) ≡ true) here is

  closing_lines : are_lines setup.net (ready_line run.closing.ready_count ∷ next_line run.closing.next ∷ map monitor_line run.values) ≡ true
  closing_lines = one_more setup.net (ready_line run.closing.ready_count) (next_line run.closing.next ∷ map monitor_line run.values) (ready_count_line run.closing.ready_count)
      (one_more setup.net (next_line run.closing.next) (map monitor_line run.values) (next_time_line run.closing.next) (monitors_lines setup.net run.values names))

  whole_lines : (number : ℕ) (start : Start) → are_lines setup.net (whole_run setup number start run) ≡ true
  unfolding whole_run
  whole_lines number start =
      let n = setup.net in
      let last = ready_line run.closing.ready_count ∷ next_line run.closing.next ∷ map monitor_line run.values in
      let rest = place_lines n.places run.marking ++ last in
      one_more n (run_line number start setup.clock run.opening) (trace_lines run ++ last_lines setup run) (run_opens number start setup.clock run.opening)
      (joined_lines n (trace_lines run) (last_lines setup run)
      (joined_lines n (map occurrence_line run.occurrences) (schedule_line run.journal ∷ []) (occurrences_lines n spelled printable.net run.occurrences printable.parts.occurrences) (one_more n (schedule_line run.journal) [] (journal_line run.journal) refl))
      (one_more n (end_line run.values run.cause) (occurrences_line (length run.occurrences) ∷ clock_line run.clock ∷ rest) (cause_line n spelled printable.net run.values run.cause names printable.cause)
      (one_more n (occurrences_line (length run.occurrences)) (clock_line run.clock ∷ rest) (counted_line (length run.occurrences))
      (one_more n (clock_line run.clock) rest (last_clock_line run.clock) (joined_lines n (place_lines n.places run.marking) last placed_lines closing_lines)))))

-- ---- the lines of a report

two_lists : (texts others : List (List ℕ)) → list_all is_one_line texts ≡ true → list_all is_one_line others ≡ true → list_all is_one_line (texts ++ others) ≡ true
two_lists texts others first second = list_all-append is_one_line texts others ∙ and_from (list_all is_one_line texts) (list_all is_one_line others) first second

told_lines : (trace : Trace) (k : ℕ) (told : ToldRun) → IsSpelledRun told → list_all is_one_line (run_texts trace k told) ≡ true
unfolding run_lines
told_lines trace k told is =
    kept_lines told.setup.net (is_told trace) (whole_run told.setup k told.start told.run) (whole_lines told.setup told.run is.spelled is.values_spelled is.printable k told.start)

runs_lines : (trace : Trace) (k : ℕ) (tolds : List ToldRun) → AreSpelledRuns tolds → list_all is_one_line (runs_texts trace k tolds) ≡ true
runs_lines trace k [] are = refl
runs_lines trace k (told ∷ tolds) are = two_lists (run_texts trace k told) (runs_texts trace (k + 1) tolds) (told_lines trace k told are.0) (runs_lines trace (k + 1) tolds are.1)

-- what a probe said is shown in printable bytes
shown_in_line : (byte : ℕ) → in_line (shown_byte byte) ≡ true
shown_in_line byte = by (is_printable byte) refl
  where
    by : (b : Bool) → is_printable byte ≡ b → in_line (if b then byte else 0x3F) ≡ true
    by true e = passes_in_line is_printable refl byte e
    by false e = refl

shown_line : (bytes : List ℕ) → is_one_line (map shown_byte bytes) ≡ true
shown_line [] = refl
shown_line (b ∷ bytes) = and_from (in_line (shown_byte b)) (is_one_line (map shown_byte bytes)) (shown_in_line b) (shown_line bytes)

probe_is_line : (k : ℕ) (bytes : List ℕ) → is_one_line (probe_text k bytes) ≡ true
unfolding probe_text
probe_is_line k bytes = three (decimal k) (codes " ") (map shown_byte bytes) (number_line k) refl (shown_line bytes)

probes_lines : (k : ℕ) (said : List (List ℕ)) → list_all is_one_line (probes_texts k said) ≡ true
probes_lines k [] = refl
probes_lines k (bytes ∷ said) = and_from (is_one_line (probe_text k bytes)) (list_all is_one_line (probes_texts (k + 1) said)) (probe_is_line k bytes) (probes_lines (k + 1) said)

pub lines_end_once : LinesEndOnce
unfolding report_texts
lines_end_once trace tolds said are =
    let runs = runs_texts trace 0 tolds in
    let probes = probes_texts 0 said in
    let total = total_text (occurrences_told tolds) in
    two_lists (first_text ∷ runs ++ probes) (total ∷ []) (two_lists (first_text ∷ runs) probes (runs_lines trace 0 tolds are) (probes_lines 0 said)) (and_from (is_one_line total) true (in_all_line (occurrences_told tolds)) refl)
