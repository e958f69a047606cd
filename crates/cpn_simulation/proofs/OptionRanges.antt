-- The numbers that words give are in the ranges of the command line. By clap's specification of a simple command, what is held for an
-- option at each step of the walk over the words begins with a value that its parser accepts, as long as nothing has a fault.
use Rattle.std.proofs.Common.{◌≡◌, ℕ, zero, suc, ◌<◌, ◌≤◌, ◌&&◌, ◌||◌, Bool, true, false, true≢false, not, cond, List, [], ◌∷◌, ◌++◌, length, drop, fold, find, Option, Some, None, is_some, refl, sym, ap, ◌∙◌, subst, inl, inr, ◌⊎◌, arith, codes, slice_get}
use Rattle.std.specs.Prelude.{if◌then◌else◌, unwrap_or, option_and_then, encode_utf8, ◌==◌}
use Rattle.std.specs.List.{AllByRecursion}
use Rattle.std.specs.Option.{option_map_or}
use Rattle.std.specs.Str.{bytes_eq, chars}
use Rattle.std.proofs.lemmas.Bool.Decides.{nat_tests}
use Rattle.std.proofs.lemmas.Option.{same_Some}
use Rattle.std.proofs.lemmas.Slice.Eq.{bytes_eq-Decides}
use Rattle.cpn_definitions.specs.Times.{last_time}
use Rattle.cpn_runs.specs.Bounds.{most_steps}
use Rattle.cpn_report.specs.declared.traces.Trace.{Trace}
use Rattle.clap.specs.Kinds.{Kinds, or_else, range_kinds, value_kinds, values_kinds, request_kinds}
use Rattle.clap.specs.Facts.{parser_of_value, unwrap_or_range}
use Rattle.clap.specs.Lexer.{long_of, short_of}
use Rattle.clap.specs.Walk.{Held, Names, Outcome, Row, Rule, Step, Text, Waiting, Walk, action_of, after_flag, after_step, arg_by_id, arg_by_index, arg_by_long, arg_by_short, at_row, attached_value, bundle, bundle_met, bundle_step, default_rows, done, finished, first_of, flag_met, has_row, idle, is_empty, is_pending, long_met, long_or_other, more_values, most_values, next, nothing_held, option, option_met, option_word, plain, plain_word, positional, positional_held, reacted, reading_by, refused, rows_after, settled, settled_rows, stronger, short_met, short_or_plain, subcommand, subcommand_met, subcommand_or_other, takes_several, takes_values, to_positional, trailing, used, used_as, used_by_id, value, values_or_missing, waits, walk, walk_from, walked, walked_from, with_default, with_values, without, word_met}
use Rattle.clap.specs.Faults.{action_fault, bundle_fault, bundle_step_fault, default_fault, defaults_fault, fault_of, flag_word_fault, flags_fault, stray_fault, given_default_fault, level_fault, long_fault, option_fault, other_fault, positional_fault, react_fault, set_fault, settle_fault, short_fault, step_fault, turn_fault, use_fault, values_fault, walk_fault, word_fault}
use Rattle.clap.specs.Simple.{Shape, built, matches_of}
use Rattle.clap.specs.Values.{IsUnsignedIn, refused_kind}
use Rattle.clap.specs.ValueTests.{accepts}
use Rattle.clap.specs.declared.builder.action.ArgAction.{ArgAction}
use Rattle.clap.specs.declared.builder.action.ArgAction.TheVariants.{Set}
use Rattle.clap.specs.declared.builder.range.ValueRange.{ValueRange}
use Rattle.clap.specs.declared.builder.value_parser.Reading.{Reading}
use Rattle.clap.specs.declared.builder.value_parser.ValueParser.{ValueParser}
use Rattle.clap.specs.declared.builder.value_parser.ValueParser.TheVariants as vp
use Rattle.clap.specs.declared.error.kind.ErrorKind.{ErrorKind}
use Rattle.clap.specs.declared.error.kind.ErrorKind.TheVariants as kind
use Rattle.clap.specs.declared.parser.matches.ValueSource.{ValueSource}
use Rattle.clap.specs.declared.parser.matches.ValueSource.TheVariants.{CommandLine, DefaultValue}
use Rattle.clap.proofs.FaultLemmas.{leaf_fault}
use Rattle.clap.proofs.ValueTestLemmas.{accepts-Accepts}
use Rattle.cpn_simulation.specs.Options.{PlainOptions, command_line, mode_of, number_of, options_in, options_from, trace_in, trace_of, unless_faulty, value_of}
use Rattle.cpn_simulation.specs.declared.options.Mode.{Mode}

-- ---- no kinds of errors

-- two lists of kinds, of which the first that is not empty counts, are empty
no_kinds : (a b : Kinds) → or_else a b ≡ [] → (a ≡ []) × (b ≡ [])
no_kinds [] b none = (refl, none)
no_kinds (k ∷ ks) b none = cc

some_kind : (k : ErrorKind) (ks : Kinds) → k ∷ ks ≡ [] → ⊥
some_kind k ks none = cc

-- ---- an option of this name, whose value is a number of this range

module _ (name : Text) (least most : ℕ) where
  -- the value is accepted
  abbrev IsAccepted : Text → Type 0
  IsAccepted v = value_kinds false (vp.Unsigned least most) v ≡ []

  -- the first of the values is
  abbrev BeginsWell : List Text → Type 0
  BeginsWell vs = (v : Text) × (slice_get vs 0 ≡ Some v) × IsAccepted v

  -- a rule of one value, of an argument that is given once; of this name it has the range
  record IsRanged (a : Rule) : Type 0 where
    set : action_of a ≡ Set
    one : unwrap_or_range a.range ≡ record { start_inclusive = 1; end_inclusive = 1 }
    ranged : bytes_eq a.id name ≡ true → (a.ignore_case ≡ false) × (parser_of_value a.parser ≡ vp.Unsigned least most)

  -- a row of this name begins with an accepted value
  abbrev IsGoodRow : Row → Type 0
  IsGoodRow r = bytes_eq r.id name ≡ true → BeginsWell r.values

  abbrev AreGood : List Row → Type 0
  AreGood rows = AllByRecursion IsGoodRow rows

  -- ---- rows

  both_good : (xs ys : List Row) → AreGood xs → AreGood ys → AreGood (xs ++ ys)
  both_good [] ys a b = b
  both_good (x ∷ xs) ys a b = (a.0, both_good xs ys a.1 b)

  row_changed : (id : Text) (change : Row → List Row) (missing : List Row) (r : Row) (rs : List Row) (b : Bool) → bytes_eq r.id id ≡ b → ((r : Row) → bytes_eq r.id id ≡ true → IsGoodRow r → AreGood (change r)) → IsGoodRow r → AreGood rs
      → AreGood (at_row id change missing rs) → AreGood (if b then change r ++ rs else r ∷ at_row id change missing rs)
  row_changed id change missing r rs true is changes good rest later = both_good (change r) rs (changes r is good) rest
  row_changed id change missing r rs false is changes good rest later = (good, later)

  changed_good : (id : Text) (change : Row → List Row) (missing rows : List Row) → ((r : Row) → bytes_eq r.id id ≡ true → IsGoodRow r → AreGood (change r)) → AreGood missing → AreGood rows → AreGood (at_row id change missing rows)
  changed_good id change missing [] changes more good = more
  changed_good id change missing (r ∷ rs) changes more good = row_changed id change missing r rs (bytes_eq r.id id) refl changes good.0 good.1 (changed_good id change missing rs changes more good.1)

  without_good : (id : Text) (rows : List Row) → AreGood rows → AreGood (without id rows)
  without_good id rows good = changed_good id (λ _. []) [] rows (λ r is own. tt) tt good

  begins_longer : (vs ws : List Text) → BeginsWell vs → BeginsWell (vs ++ ws)
  begins_longer [] ws (v, is, ok) = absurd (nothing v is)
    where
      nothing : (v : Text) → None ≡ Some v → ⊥
      nothing v is = cc
  begins_longer (x ∷ vs) ws (v, is, ok) = (v, is, ok)

  valued_good : (id : Text) (how : Reading) (source : ValueSource) (vs : List Text) (rows : List Row) → (bytes_eq id name ≡ true → BeginsWell vs) → AreGood rows → AreGood (with_values id how source vs rows)
  valued_good id how source vs rows begins good =
      changed_good id (more_values source vs) (record { id = id; values = vs; count = None; source = Some source; reading = how } ∷ []) rows
      (λ r is own. ((λ named. begins_longer r.values vs (own named)), tt)) ((λ named. begins named), tt) good

  -- ---- a use of an argument

  accepted_first : (a : Rule) (vs : List Text) → IsRanged a → range_kinds (unwrap_or_range a.range).start_inclusive (most_values a) (length vs) ≡ [] → values_fault a (values_or_missing a vs) ≡ [] → bytes_eq a.id name ≡ true → BeginsWell (values_or_missing a vs)
  accepted_first a [] ranged many none named =
      let P : ValueRange → Type 0 = λ r. range_kinds r.start_inclusive r.end_inclusive 0 ≡ [] in
      absurd (some_kind kind.InvalidValue [] (subst P ranged.one many))
  accepted_first a (v ∷ vs) ranged many none named =
      let parser = ranged.ranged named in
      let own : value_kinds a.ignore_case (parser_of_value a.parser) v ≡ [] = (no_kinds (value_kinds a.ignore_case (parser_of_value a.parser) v) (values_kinds a.ignore_case (parser_of_value a.parser) vs) none).0 in
      let by_case : value_kinds false (parser_of_value a.parser) v ≡ [] = subst (λ (b : Bool). value_kinds b (parser_of_value a.parser) v ≡ []) parser.0 own in
      (v, refl, subst (λ (q : ValueParser). value_kinds false q v ≡ []) parser.1 by_case)

  used_set : (x : ArgAction) (again : Bool) (a : Rule) (vs : List Text) (rows : List Row) → x ≡ Set → (values_fault a vs ≡ [] → bytes_eq a.id name ≡ true → BeginsWell vs) → action_fault x again a vs rows ≡ [] → AreGood rows
      → AreGood (used_as x a.id (reading_by a) vs rows)
  used_set x again a vs rows set begins none good =
      let F : ArgAction → Type 0 = λ y. action_fault y again a vs rows ≡ [] in
      let G : ArgAction → Type 0 = λ y. AreGood (used_as y a.id (reading_by a) vs rows) in
      let as_set : set_fault again a vs rows ≡ [] = subst F set none in
      let values : values_fault a vs ≡ [] = (no_kinds _ (values_fault a vs) as_set).1 in
      subst G (sym set) (valued_good a.id (reading_by a) CommandLine vs (without a.id rows) (begins values) (without_good a.id rows good))

  used_good : (again : Bool) (a : Rule) (vs : List Text) (rows : List Row) → IsRanged a → use_fault again a vs rows ≡ [] → AreGood rows → AreGood (used a vs rows)
  used_good again a vs rows ranged none good =
      let parts = no_kinds (range_kinds (unwrap_or_range a.range).start_inclusive (most_values a) (length vs)) (action_fault (action_of a) again a (values_or_missing a vs) rows) none in
      used_set (action_of a) again a (values_or_missing a vs) rows ranged.set (accepted_first a vs ranged parts.0) parts.1 good

  -- ---- a walk over the words of a command whose arguments all are such

  module _ (s : Shape) (ranged : AllByRecursion IsRanged s.rules) where
    abbrev c : List Rule
    c = s.rules

    abbrev again : Bool
    again = s.args_override_self

    found_here : (p : Rule → Bool) (rules : List Rule) (a : Rule) (rest : List Rule) (b : Bool) → AllByRecursion IsRanged (a ∷ rest) → ((found : Rule) → find p rest ≡ Some found → IsRanged found) → (found : Rule) → cond b (Some a) (find p rest) ≡ Some found → IsRanged found
    found_here p rules a rest true all later found is = subst IsRanged (same_Some a found is) all.0
    found_here p rules a rest false all later found is = later found is

    found_ranged : (p : Rule → Bool) (rules : List Rule) → AllByRecursion IsRanged rules → (found : Rule) → find p rules ≡ Some found → IsRanged found
    found_ranged p [] all found is = cc
    found_ranged p (a ∷ rest) all found is = found_here p (a ∷ rest) a rest (p a) all (found_ranged p rest all.1) found is

    -- what is pending is used
    settled_by : (found : Option Rule) (vs : List Text) (rows : List Row) → ((a : Rule) → found ≡ Some a → IsRanged a) → option_map_or (λ a. use_fault again a vs rows) found [] ≡ [] → AreGood rows → AreGood (used_by_id found vs rows)
    settled_by None vs rows all none good = good
    settled_by (Some a) vs rows all none good = used_good again a vs rows (all a refl) none good

    rows_settled : (pending : Option (Text × List Text)) (rows : List Row) → option_map_or (λ p. option_map_or (λ a. use_fault again a p.1 rows) (arg_by_id c p.0) []) pending [] ≡ [] → AreGood rows → AreGood (settled_rows c pending rows)
    rows_settled None rows none good = good
    rows_settled (Some p) rows none good = settled_by (arg_by_id c p.0) p.1 rows (λ a is. found_ranged _ c ranged a is) none good

    settled_good : (h : Held) → settle_fault c again h ≡ [] → AreGood h.rows → AreGood (settled c h).rows
    settled_good h none good = rows_settled h.pending h.rows none good

    reacted_good : (a : Rule) (vs : List Text) (h : Held) → IsRanged a → react_fault c again a vs h ≡ [] → AreGood h.rows → AreGood (reacted c a vs h).rows
    reacted_good a vs h is none good =
        let parts = no_kinds (settle_fault c again h) (use_fault again a vs (settled c h).rows) none in
        used_good again a vs (settled c h).rows is parts.1 (settled_good h parts.0 good)

    -- an option is met
    option_good : (a : Rule) (v : Option Text) (h : Held) → IsRanged a → option_fault c again a v h ≡ [] → AreGood h.rows → AreGood (option_met c a v h).0.rows
    option_good a (Some v) h is none good = reacted_good a (v ∷ []) h is none good
    option_good a None h is none good = settled_good h none good

    -- it takes a value
    takes : (a : Rule) → IsRanged a → takes_values a ≡ true
    takes a is = ap (λ (r : ValueRange). not (r.end_inclusive == 0)) is.one

    long_good : (found : Option Rule) (v : Option Text) (h : Held) → ((a : Rule) → found ≡ Some a → IsRanged a) → long_fault c again found v h ≡ [] → AreGood h.rows → AreGood (long_met c found v h).0.rows
    long_good None v h all none good = good
    long_good (Some a) v h all none good =
        let F : Bool → Type 0 = λ b. (if b then option_fault c again a v h else (if is_some v then kind.TooManyValues ∷ [] else react_fault c again a [] h)) ≡ [] in
        let G : Bool → Type 0 = λ b. AreGood (if b then option_met c a v h else flag_met c a v h).0.rows in
        let is = all a refl in
        subst G (sym (takes a is)) (option_good a v h is (subst F (takes a is) none) good)

    short_good : (found : Option Rule) (rest : Text) (h : Held) (more : Held → Held × Outcome) (kinds : Held → Kinds) → ((a : Rule) → found ≡ Some a → IsRanged a) → short_fault c again found rest h kinds ≡ [] → AreGood h.rows
        → AreGood (short_met c found rest h more).0.rows
    short_good None rest h more kinds all none good = good
    short_good (Some a) rest h more kinds all none good =
        let F : Bool → Type 0 = λ b. (if b then option_fault c again a (attached_value rest) h else or_else (react_fault c again a [] h) (kinds (reacted c a [] h))) ≡ [] in
        let G : Bool → Type 0 = λ b. AreGood (if b then option_met c a (attached_value rest) h else more (reacted c a [] h)).0.rows in
        let is = all a refl in
        subst G (sym (takes a is)) (option_good a (attached_value rest) h is (subst F (takes a is) none) good)

    step_good : (k : ℕ) (x : Option ℕ) (flags : Text) (skip : ℕ) (so_far : Outcome) (h : Held)
        → ((rest : Text) (less : ℕ) (o : Outcome) → flags_fault c again k rest less h ≡ [] → AreGood (bundle_met c k rest less o h).0.rows)
        → bundle_step_fault c again x flags skip h (flags_fault c again k) ≡ [] → AreGood h.rows → AreGood (bundle_step c x flags skip so_far h (bundle_met c k)).0.rows
    step_good k None flags skip so_far h later none good = good
    step_good k (Some x) flags zero so_far h later none good =
        let rest = drop (length (encode_utf8 x)) flags in
        short_good (arg_by_short c x) rest h (bundle_met c k rest 0 done) (flags_fault c again k rest 0) (λ a is. found_ranged _ c ranged a is) none good
    step_good k (Some x) flags (suc skip) so_far h later none good = later (drop (length (encode_utf8 x)) flags) skip so_far none

    bundle_good : (k : ℕ) (flags : Text) (skip : ℕ) (so_far : Outcome) (h : Held) → flags_fault c again k flags skip h ≡ [] → AreGood h.rows → AreGood (bundle_met c k flags skip so_far h).0.rows
    unfolding bundle_met flags_fault
    bundle_good zero flags skip so_far h none good = good
    bundle_good (suc k) flags skip so_far h none good = step_good k (slice_get (chars flags) 0) flags skip so_far h (λ rest less o nothing. bundle_good k rest less o h nothing good) none good

    -- a word is met
    plain_rows : (found : Option Rule) (id word : Text) (h : Held) → AreGood h.rows → AreGood (option_word found id word h).0.rows
    plain_rows None id word h good = good
    plain_rows (Some a) id word h good = good

    plain_good : (waiting : Waiting) (word : Text) (h : Held) → AreGood h.rows → AreGood (plain_word c waiting word h).0.rows
    plain_good idle word h good = good
    plain_good (option id) word h good = plain_rows (arg_by_id c id) id word h good
    plain_good positional word h good = good

    after_good : (waiting : Waiting) (word : Text) (h : Held) (o : Outcome) → AreGood h.rows → AreGood (after_flag c waiting word h o).0.rows
    after_good waiting word h done good = good
    after_good waiting word h (waits id) good = good
    after_good waiting word h plain good = plain_good waiting word h good
    after_good waiting word h refused good = plain_good waiting word h good

    short_word_good : (waiting : Waiting) (word : Text) (flags : Option Text) (h : Held) → option_map_or (λ flags. bundle_fault c again flags h) flags [] ≡ [] → AreGood h.rows → AreGood (short_or_plain c waiting word flags h).0.rows
    short_word_good waiting word None h none good = plain_good waiting word h good
    short_word_good waiting word (Some flags) h none good =
        after_good waiting word (bundle c flags h).0 (bundle c flags h).1 (bundle_good (length flags) flags h.skip plain (record h { skip = 0 }) none good)

    flag_word_good : (waiting : Waiting) (word : Text) (long : Option (Text × Option Text)) (h : Held) → flag_word_fault c again long word h ≡ [] → AreGood h.rows → AreGood (long_or_other c waiting word long h).0.rows
    flag_word_good waiting word (Some p) h none good =
        let found = arg_by_long c p.0 in
        after_good waiting word (long_met c found p.1 h).0 (long_met c found p.1 h).1 (long_good found p.1 h (λ a is. found_ranged _ c ranged a is) none good)
    flag_word_good waiting word None h none good = short_word_good waiting word (short_of word) h none good

    other_good : (met : Option Text) (waiting : Waiting) (position : ℕ) (word : Text) (h : Held) → other_fault s met word h ≡ [] → AreGood h.rows → AreGood (subcommand_or_other c met waiting position word h).0.rows
    other_good (Some name) waiting position word h none good = good
    other_good None waiting position word h none good = by (bytes_eq word (45 ∷ 45 ∷ [])) none
      where
        by : (b : Bool) → (if b then [] else flag_word_fault c again (long_of word) word h) ≡ [] → AreGood (if b then (h, trailing position) else long_or_other c waiting word (long_of word) h).0.rows
        by true nothing = good
        by false nothing = flag_word_good waiting word (long_of word) h nothing good

    word_good : (names : Names) (is_trailing : Bool) (waiting : Waiting) (position : ℕ) (word : Text) (h : Held) → word_fault s names is_trailing waiting word h ≡ [] → AreGood h.rows → AreGood (word_met c names is_trailing waiting position word h).0.rows
    word_good names true waiting position word h none good = good
    word_good names false waiting position word h none good = other_good (subcommand_met names waiting word) waiting position word h none good

    -- after a word
    positional_good : (a : Rule) (word : Text) (h : Held) → positional_fault c again a h ≡ [] → AreGood h.rows → AreGood (positional_held c a word h).rows
    positional_good a word h none good = by (is_pending a h.pending && takes_several a) none
      where
        by : (b : Bool) → (if b then [] else settle_fault c again h) ≡ [] → AreGood (if b then h else settled c h).rows
        by true nothing = good
        by false nothing = settled_good h nothing good

    to_positional_good : (found : Option Rule) (word : Text) (w : Walk) (h : Held) → option_map_or (λ a. positional_fault c again a h) found (stray_fault s) ≡ [] → AreGood h.rows → AreGood (to_positional c found word w h).held.rows
    to_positional_good None word w h none good = good
    to_positional_good (Some a) word w h none good = positional_good a word h none good

    after_step_good : (word : Text) (w : Walk) (h : Held) (step : Step) → step_fault s w.position h step ≡ [] → AreGood h.rows → AreGood (after_step c word w h step).held.rows
    after_step_good word w h (next waiting) none good = good
    after_step_good word w h (trailing position) none good = good
    after_step_good word w h (subcommand name) none good = good
    after_step_good word w h value none good = to_positional_good (arg_by_index c w.position) word w h none good

    walked_good : (names : Names) (stopped : Option (Text × List Text)) (w : Walk) (word : Text)
        → (if is_some stopped then [] else or_else (word_fault s names w.is_trailing w.waiting word w.held) (step_fault s w.position (word_met c names w.is_trailing w.waiting w.position word w.held).0 (word_met c names w.is_trailing w.waiting w.position word w.held).1)) ≡ []
        → AreGood w.held.rows → AreGood (walked_from c names stopped w word).held.rows
    walked_good names (Some p) w word none good = good
    walked_good names None w word none good =
        let met = word_met c names w.is_trailing w.waiting w.position word w.held in
        let parts = no_kinds (word_fault s names w.is_trailing w.waiting word w.held) (step_fault s w.position met.0 met.1) none in
        after_step_good word w met.0 met.1 parts.1 (word_good names w.is_trailing w.waiting w.position word w.held parts.0 good)

    -- over all words
    words_good : (names : Names) (w : Walk) (words : List Text) → walk_fault s names w words ≡ [] → AreGood w.held.rows → AreGood (fold (walked c names) w words).held.rows
    unfolding walk_fault walked
    words_good names w [] none good = good
    words_good names w (word ∷ rest) none good =
        let parts = no_kinds (turn_fault s names w word) (walk_fault s names (walked c names w word) rest) none in
        words_good names (walked c names w word) rest parts.1 (walked_good names w.stopped w word parts.0 good)

  -- ---- defaults, and the first value

  one_or_more : (n : ℕ) → (suc n == 0) ≡ false
  one_or_more n = grind (arith, nat_tests)

  default_good : (rows : List Row) (a : Rule) → IsRanged a → default_fault rows a ≡ [] → AreGood rows → AreGood (with_default rows a)
  default_good rows a is none good = by (has_row a.id rows) none
    where
      values_good : (vs : List Text) → (if is_empty vs then [] else given_default_fault a vs) ≡ [] → AreGood (default_rows a.id (reading_by a) vs rows)
      values_good [] nothing = good
      values_good (v ∷ vs) nothing =
          valued_good a.id (reading_by a) DefaultValue (v ∷ vs) rows (λ named. first named (no_kinds (request_kinds (action_of a)) (values_fault a (v ∷ vs)) (subst (λ (b : Bool). (if b then [] else given_default_fault a (v ∷ vs)) ≡ []) (one_or_more (length vs)) nothing)).1) good
        where
          first : bytes_eq a.id name ≡ true → values_fault a (v ∷ vs) ≡ [] → BeginsWell (v ∷ vs)
          first named nothing =
              let parser = is.ranged named in
              let own : value_kinds a.ignore_case (parser_of_value a.parser) v ≡ [] = (no_kinds (value_kinds a.ignore_case (parser_of_value a.parser) v) (values_kinds a.ignore_case (parser_of_value a.parser) vs) nothing).0 in
              let by_case : value_kinds false (parser_of_value a.parser) v ≡ [] = subst (λ (b : Bool). value_kinds b (parser_of_value a.parser) v ≡ []) parser.0 own in
              (v, refl, subst (λ (q : ValueParser). value_kinds false q v ≡ []) parser.1 by_case)

      by : (b : Bool) → (if b || is_empty a.defaults then [] else given_default_fault a a.defaults) ≡ [] → AreGood (if b then rows else default_rows a.id (reading_by a) a.defaults rows)
      by true nothing = good
      by false nothing = values_good a.defaults nothing

  defaults_good : (rules : List Rule) (rows : List Row) → AllByRecursion IsRanged rules → defaults_fault rows rules ≡ [] → AreGood rows → AreGood (fold with_default rows rules)
  unfolding defaults_fault
  defaults_good [] rows all none good = good
  defaults_good (a ∷ rest) rows all none good =
      let parts = no_kinds (default_fault rows a) (defaults_fault (with_default rows a) rest) none in
      defaults_good rest (with_default rows a) all.1 parts.1 (default_good rows a all.0 parts.0 good)

  -- ---- the option has a row

  -- after a change of another row, or of this one to one of the same name, there is still a row of this name
  kept_there : (id : Text) (change : Row → Row) (missing rows : List Row) → ((r : Row) → (change r).id ≡ r.id) → has_row name rows ≡ true → has_row name (at_row id (λ r. change r ∷ []) missing rows) ≡ true
  kept_there id change missing [] same has = absurd (true≢false (sym has))
  kept_there id change missing (r ∷ rs) same has = by (bytes_eq r.id id) (bytes_eq r.id name) refl has (kept_there id change missing rs same)
    where
      by : (b own : Bool) → bytes_eq r.id name ≡ own → (own || has_row name rs) ≡ true → (has_row name rs ≡ true → has_row name (at_row id (λ r. change r ∷ []) missing rs) ≡ true)
          → has_row name (if b then change r ∷ rs else r ∷ at_row id (λ r. change r ∷ []) missing rs) ≡ true
      by true own is h later = subst (λ (x : Text). (bytes_eq x name || has_row name rs) ≡ true) (sym (same r)) (subst (λ (b : Bool). (b || has_row name rs) ≡ true) (sym is) h)
      by false true is h later = subst (λ (b : Bool). (b || has_row name (at_row id (λ r. change r ∷ []) missing rs)) ≡ true) (sym is) refl
      by false false is h later = subst (λ (b : Bool). (b || has_row name (at_row id (λ r. change r ∷ []) missing rs)) ≡ true) (sym is) (later h)

  made_here : (id : Text) (b own : Bool) (change : Row → Row) (missing : List Row) (r : Row) (rs : List Row) → ((r : Row) → (change r).id ≡ r.id) → bytes_eq r.id id ≡ b → bytes_eq r.id name ≡ own → id ≡ name
      → has_row name (at_row id (λ r. change r ∷ []) missing rs) ≡ true → has_row name (if b then change r ∷ rs else r ∷ at_row id (λ r. change r ∷ []) missing rs) ≡ true
  made_here id true own change missing r rs same is at named later =
      let here : bytes_eq (change r).id name ≡ true = ap (λ (x : Text). bytes_eq x name) (same r) ∙ subst (λ (x : Text). bytes_eq r.id x ≡ true) named is in
      subst (λ (b : Bool). (b || has_row name rs) ≡ true) (sym here) refl
  made_here id false true change missing r rs same is at named later = subst (λ (b : Bool). (b || has_row name (at_row id (λ r. change r ∷ []) missing rs)) ≡ true) (sym at) refl
  made_here id false false change missing r rs same is at named later = subst (λ (b : Bool). (b || has_row name (at_row id (λ r. change r ∷ []) missing rs)) ≡ true) (sym at) later

  made_there : (id : Text) (change : Row → Row) (missing rows : List Row) → ((r : Row) → (change r).id ≡ r.id) → id ≡ name → has_row name missing ≡ true → has_row name (at_row id (λ r. change r ∷ []) missing rows) ≡ true
  made_there id change missing [] same named made = made
  made_there id change missing (r ∷ rs) same named made = made_here id (bytes_eq r.id id) (bytes_eq r.id name) change missing r rs same refl refl named (made_there id change missing rs same named made)

  is_itself : bytes_eq name name ≡ true
  is_itself = (bytes_eq-Decides name name).1 refl

  -- a default keeps the row of this name, and makes it where its rule has one
  defaults_kept : (id : Text) (how : Reading) (vs : List Text) (rows : List Row) → has_row name rows ≡ true → has_row name (default_rows id how vs rows) ≡ true
  defaults_kept id how [] rows has = has
  defaults_kept id how (v ∷ vs) rows has =
      kept_there id (λ r. record r { values = r.values ++ v ∷ vs; source = Some (stronger r.source DefaultValue) }) (record { id = id; values = v ∷ vs; count = None; source = Some DefaultValue; reading = how } ∷ []) rows (λ r. refl) has

  default_kept : (rows : List Row) (a : Rule) → has_row name rows ≡ true → has_row name (with_default rows a) ≡ true
  default_kept rows a has = by (has_row a.id rows)
    where
      by : (b : Bool) → has_row name (if b then rows else default_rows a.id (reading_by a) a.defaults rows) ≡ true
      by true = has
      by false = defaults_kept a.id (reading_by a) a.defaults rows has

  all_kept : (rules : List Rule) (rows : List Row) → has_row name rows ≡ true → has_row name (fold with_default rows rules) ≡ true
  all_kept [] rows has = has
  all_kept (a ∷ rest) rows has = all_kept rest (with_default rows a) (default_kept rows a has)

  -- one of the rules has this name, and a default
  abbrev HasDefault : Rule → Type 0
  HasDefault a = (a.id ≡ name) × ((v : Text) × (vs : List Text) × (a.defaults ≡ v ∷ vs))

  abbrev IsAmongRules : List Rule → Type 0
  IsAmongRules [] = ⊥
  IsAmongRules (a ∷ rest) = HasDefault a ⊎ IsAmongRules rest

  default_made : (rows : List Row) (a : Rule) → HasDefault a → has_row name (with_default rows a) ≡ true
  default_made rows a (named, (v, vs, are)) = by (has_row a.id rows) refl
    where
      change : Row → Row
      change r = record r { values = r.values ++ v ∷ vs; source = Some (stronger r.source DefaultValue) }

      missing : List Row
      missing = record { id = a.id; values = v ∷ vs; count = None; source = Some DefaultValue; reading = reading_by a } ∷ []

      by : (b : Bool) → has_row a.id rows ≡ b → has_row name (if b then rows else default_rows a.id (reading_by a) a.defaults rows) ≡ true
      by true is = subst (λ (x : Text). has_row x rows ≡ true) named is
      by false is =
          subst (λ (ds : List Text). has_row name (default_rows a.id (reading_by a) ds rows) ≡ true) (sym are)
          (made_there a.id change missing rows (λ r. refl) named (subst (λ (b : Bool). (b || false) ≡ true) (sym (ap (λ (x : Text). bytes_eq x name) named ∙ is_itself)) refl))

  all_made : (rules : List Rule) (rows : List Row) → IsAmongRules rules → has_row name (fold with_default rows rules) ≡ true
  all_made [] rows there = absurd there
  all_made (a ∷ rest) rows (inl here) = all_kept rest (with_default rows a) (default_made rows a here)
  all_made (a ∷ rest) rows (inr later) = all_made rest (with_default rows a) later

  -- so it has a first value, which is accepted
  first_there : (rows : List Row) → has_row name rows ≡ true → AreGood rows → (v : Text) × (first_of name rows ≡ Some v) × IsAccepted v
  first_there [] has good = absurd (true≢false (sym has))
  first_there (r ∷ rs) has good = by (bytes_eq r.id name) refl has (λ more. first_there rs more good.1)
    where
      by : (b : Bool) → bytes_eq r.id name ≡ b → (b || has_row name rs) ≡ true → (has_row name rs ≡ true → (v : Text) × (first_of name rs ≡ Some v) × IsAccepted v)
          → (v : Text) × (option_and_then (λ row. slice_get row.values 0) (cond b (Some r) (find (λ row. bytes_eq row.id name) rs)) ≡ Some v) × IsAccepted v
      by true is h later = good.0 is
      by false is h later = later h

  accepted_number : (v : Text) → IsAccepted v → IsUnsignedIn least most v
  accepted_number v ok = accepts-Accepts false (vp.Unsigned least most) v (passed (accepts false (vp.Unsigned least most) v) ok)
    where
      passed : (b : Bool) → (if b then [] else refused_kind (vp.Unsigned least most) ∷ []) ≡ [] → b ≡ true
      passed true none = refl
      passed false none = absurd (some_kind _ [] none)

  -- the number of this option is in its range, where nothing is refused
  number_in_range : (s : Shape) (names : Names) (words : List Text) (sub : Bool) (below : Kinds) → AllByRecursion IsRanged s.rules → IsAmongRules s.rules → level_fault s names nothing_held words sub below ≡ []
      → IsUnsignedIn least most (unwrap_or (first_of name (rows_after s.rules names words)) [])
  number_in_range s names words sub below ranged there none =
      let end = (walk s.rules names nothing_held words).held in
      let walking = no_kinds (walk_fault s names (walk_from nothing_held) words) _ none in
      let entering = no_kinds below _ walking.1 in
      let settling = no_kinds (settle_fault s.rules s.args_override_self end) _ entering.1 in
      let defaulting = no_kinds (defaults_fault (settled s.rules end).rows s.rules) _ settling.1 in
      let good = words_good s ranged names (walk_from nothing_held) words walking.0 tt in
      let rows = defaults_good s.rules (settled s.rules end).rows ranged defaulting.0 (settled_good s ranged end settling.0 good) in
      let first = first_there (finished s.rules end) (all_made s.rules (settled s.rules end).rows there) rows in
      subst (λ (o : Option Text). IsUnsignedIn least most (unwrap_or o [])) (sym first.1) (accepted_number first.0 first.2)

-- ---- the command line

-- the options that words give have their ranges
pub record AreInRange (options : PlainOptions) : Type 0 where
  pub some_worker : 0 < options.workers
  pub few_workers : options.workers ≤ 64
  pub few_steps : options.steps ≤ most_steps
  pub in_time : options.until ≤ last_time

-- an option is not of another name
other : {A : Type 0} → false ≡ true → A
other e = absurd (true≢false (sym e))

module _ (words : List Text) (none : fault_of command_line words ≡ []) where
  none_at_the_top : level_fault (built command_line).top [] nothing_held words false [] ≡ []
  none_at_the_top = sym (leaf_fault (built command_line) nothing_held words refl) ∙ none

  in_range : (name : Text) (least most : ℕ) → AllByRecursion (IsRanged name least most) (built command_line).top.rules → IsAmongRules name least most (built command_line).top.rules
      → (least ≤ number_of name (matches_of command_line words)) × (number_of name (matches_of command_line words) ≤ most)
  in_range name least most ranged there = let is = number_in_range name least most (built command_line).top [] words false [] ranged there none_at_the_top in (is.2, is.3)

  workers_in_range : (1 ≤ number_of (codes "workers") (matches_of command_line words)) × (number_of (codes "workers") (matches_of command_line words) ≤ 64)
  workers_in_range =
      in_range (codes "workers") 1 64 (option refl refl other, (option refl refl other, (option refl refl (λ e. (refl, refl)), (option refl refl other, (option refl refl other, (option refl refl other, tt))))))
      (inr (inr (inl (refl, (codes "1", [], refl)))))
    where
      option : {a : Rule} → action_of a ≡ Set → unwrap_or_range a.range ≡ record { start_inclusive = 1; end_inclusive = 1 } → (bytes_eq a.id (codes "workers") ≡ true → (a.ignore_case ≡ false) × (parser_of_value a.parser ≡ vp.Unsigned 1 64))
          → IsRanged (codes "workers") 1 64 a
      option set one ranged = record { set = set; one = one; ranged = ranged }

  steps_in_range : (1 ≤ number_of (codes "steps") (matches_of command_line words)) × (number_of (codes "steps") (matches_of command_line words) ≤ most_steps)
  steps_in_range =
      in_range (codes "steps") 1 (most_steps) (option refl refl other, (option refl refl other, (option refl refl other, (option refl refl (λ e. (refl, refl)), (option refl refl other, (option refl refl other, tt))))))
      (inr (inr (inr (inl (refl, (codes "1000", [], refl))))))
    where
      option : {a : Rule} → action_of a ≡ Set → unwrap_or_range a.range ≡ record { start_inclusive = 1; end_inclusive = 1 } → (bytes_eq a.id (codes "steps") ≡ true → (a.ignore_case ≡ false) × (parser_of_value a.parser ≡ vp.Unsigned 1 (most_steps)))
          → IsRanged (codes "steps") 1 (most_steps) a
      option set one ranged = record { set = set; one = one; ranged = ranged }

  until_in_range : (0 ≤ number_of (codes "until") (matches_of command_line words)) × (number_of (codes "until") (matches_of command_line words) ≤ last_time)
  until_in_range =
      in_range (codes "until") 0 (last_time) (option refl refl other, (option refl refl other, (option refl refl other, (option refl refl other, (option refl refl (λ e. (refl, refl)), (option refl refl other, tt))))))
      (inr (inr (inr (inr (inl (refl, (codes "4611686018427387904", [], refl)))))))
    where
      option : {a : Rule} → action_of a ≡ Set → unwrap_or_range a.range ≡ record { start_inclusive = 1; end_inclusive = 1 } → (bytes_eq a.id (codes "until") ≡ true → (a.ignore_case ≡ false) × (parser_of_value a.parser ≡ vp.Unsigned 0 (last_time)))
          → IsRanged (codes "until") 0 (last_time) a
      option set one ranged = record { set = set; one = one; ranged = ranged }

-- the numbers of the options are those of the matches
record AreNumbersOf (rows : List Row) (options : PlainOptions) : Type 0 where
  workers : options.workers ≡ number_of (codes "workers") rows
  steps : options.steps ≡ number_of (codes "steps") rows
  until : options.until ≡ number_of (codes "until") rows

numbers_are : (rows : List Row) (options : PlainOptions) → options_in rows ≡ Some options → AreNumbersOf rows options
unfolding options_in
numbers_are rows options is = by (mode_of (value_of (codes "mode") rows)) (trace_of (value_of (codes "trace") rows)) is
  where
    given : Mode → Trace → PlainOptions
    given mode trace = record { mode = mode; seed = number_of (codes "seed") rows; workers = number_of (codes "workers") rows; steps = number_of (codes "steps") rows; until = number_of (codes "until") rows; trace = trace_in mode trace }

    by : (mode : Option Mode) (trace : Option Trace) → option_and_then (λ m. option_and_then (λ t. Some (given m t)) trace) mode ≡ Some options → AreNumbersOf rows options
    by (Some m) (Some t) made =
        let same : given m t ≡ options = same_Some (given m t) options made in
        record { workers = sym (ap (λ (o : PlainOptions). o.workers) same); steps = sym (ap (λ (o : PlainOptions). o.steps) same); until = sym (ap (λ (o : PlainOptions). o.until) same) }
    by (Some m) None made = cc
    by None trace made = cc

-- The law: options that words give are in range.
pub options_in_range : (words : List (List ℕ)) (options : PlainOptions) → options_from words ≡ Some options → AreInRange options
unfolding options_from
options_in_range words options is = by (fault_of command_line words) refl is
  where
    by : (faults : Kinds) → fault_of command_line words ≡ faults → unless_faulty faults (options_in (matches_of command_line words)) ≡ Some options → AreInRange options
    by [] none made =
        let numbers = numbers_are (matches_of command_line words) options made in
        let workers = workers_in_range words none in
        let steps = steps_in_range words none in
        let until = until_in_range words none in
        record {
          some_worker = (let w = numbers.workers in let l = workers.0 in omega (arith, w, l));
          few_workers = (let w = numbers.workers in let m = workers.1 in omega (arith, w, m));
          few_steps = (let w = numbers.steps in let m = steps.1 in omega (arith, w, m));
          in_time = (let w = numbers.until in let m = until.1 in omega (arith, w, m));
        }
    by (k ∷ ks) some made = cc
