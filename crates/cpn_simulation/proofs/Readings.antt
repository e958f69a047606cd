-- Each option of the command line has a value, and the numbers are in their ranges.
use Rattle.std.proofs.Common.{◌≡◌, ℕ, zero, suc, ◌<◌, ◌≤◌, ◌∙◌, Bool, true, false, true≢false, List, [], ◌∷◌, length, map, Option, Some, None, Result, Ok, Err, is_some, find, refl, sym, ap, subst, inl, inr, arith, codes, option_map, not}
use Rattle.std.specs.List.{All, AllByRecursion, list_all, slice_index_or}
use Rattle.std.specs.Prelude.{unwrap_or}
use Rattle.std.specs.Str.{bytes_eq}
use Rattle.std.specs.Str.Parse.{ParsesUnsigned}
use Rattle.std.specs.Borrow.{Bor}
use Rattle.std.proofs.lemmas.Bool.{cases_lt}
use Rattle.std.proofs.lemmas.List.Elements.{All-get_or}
use Rattle.std.proofs.lemmas.List.{get_or-map, length-map}
use Rattle.std.proofs.lemmas.Slice.Eq.{bytes_eq-Decides}
use Rattle.clap.specs.Words.{IsParsedFrom, IsUnsignedIn, ReadsOne, Rule, app_of, args_of, first_value, found_of, groups_of, items_of, matched_of, one_text, read_as, reading_of, rule_of}
use Rattle.clap.specs.Built.{IsAuto, SameRules}
use Rattle.clap.specs.Facts.{AllowsNone, Entry, EntryPasses, EntryValuesPass, HasId, HasIn, HasReading, IsCountArg, IsFilledEntry, IsKnownGroup, MayBeEmpty, PassesArg, ReadsByParser, ValuesPass, WantsDefault, least_values, parser_of_value, unwrap_or_range}
use Rattle.clap.specs.Values.{Accepts}
use Rattle.clap.specs.Walk.{is_simple_arg}
use Rattle.clap.specs.declared.builder.action.ArgAction.{ArgAction}
use Rattle.clap.specs.declared.builder.action.ArgAction.TheVariants.{Count, Set}
use Rattle.clap.specs.declared.builder.arg.Arg.{Arg}
use Rattle.clap.specs.declared.builder.command.Command.{Command}
use Rattle.clap.specs.declared.builder.command.Command.TheViews.{out-Command}
use Rattle.clap.specs.declared.builder.range.ValueRange.{ValueRange}
use Rattle.clap.specs.declared.builder.value_parser.Reading.{Reading}
use Rattle.clap.specs.declared.builder.value_parser.Reading.TheVariants as reading
use Rattle.clap.specs.declared.builder.value_parser.ValueParser.{ValueParser}
use Rattle.clap.specs.declared.builder.value_parser.ValueParser.TheVariants as vp
use Rattle.clap.specs.declared.parser.matches.ArgMatches.{ArgMatches}
use Rattle.clap.specs.declared.parser.matches.MatchedArg.{MatchedArg}
use Rattle.clap.proofs.CallerLemmas.{default_present, entry_by_id}
use Rattle.clap.proofs.SimpleLemmas.{is_nil, plain_fields, simple_groups}
use Rattle.clap.proofs.WalkLemmas.{both}
use Rattle.cpn_simulation.specs.Options.{command_line, number_text, the_options}
use Rattle.cpn_simulation.specs.Given.{HasValue, HasValues, IsNumberIn}

-- a text that passed its range is read as the number that it spells
pub number_read : (E : Type 0) (G : List ℕ → Result ℕ E → Type 0) (least most : ℕ) (t : List ℕ) (r : Option ℕ) → ((u : List ℕ) (x : Result ℕ E) → G u x → ParsesUnsigned 64 10 u x)
    → ReadsOne G t r → IsUnsignedIn least most t → r ≡ Some (number_text t)
number_read E G least most t None only unread good = absurd (only t (Err unread.0) unread.1 (good.0, good.1))
number_read E G least most t (Some n) only read good = ap Some (only t (Ok n) read).1

-- what each option of the command line is: it takes one value, and has a default
abbrev IsWithDefault : Rule → Type 0
IsWithDefault r = (r.action ≡ Some Set) × (r.range ≡ None) × (r.is_simple ≡ true) × (0 < length r.defaults)

with_defaults : AllByRecursion IsWithDefault the_options
with_defaults = (plain, (plain, (plain, (plain, (plain, (plain, tt))))))
  where
    plain : (Some Set ≡ Some Set) × (◌≡◌ {A = Option ValueRange} None None) × (true ≡ true) × (0 < 1)
    plain = (refl, refl, refl, omega arith)

-- an option of this name has this parser
abbrev HasParser : List ℕ → ValueParser → Rule → Type 0
HasParser name q r = bytes_eq r.id name ≡ true → (r.parser ≡ Some q) × (r.ignore_case ≡ false)

at_place : (P : Rule → Type 0) (xs : List Arg) → AllByRecursion P (map rule_of xs) → (j : ℕ) (d : Arg) → j < length xs → P (rule_of (slice_index_or xs j d))
at_place P [] all j d lt = absurd (omega arith)
at_place P (x ∷ xs) all zero d lt = all.0
at_place P (x ∷ xs) all (suc j) d lt = at_place P xs all.1 j d (omega arith)

first_arg : (xs : List Arg) → 0 < length xs → Arg
first_arg [] lt = absurd (omega arith)
first_arg (x ∷ xs) lt = x

set_counts_nothing : ◌≡◌ {A = ArgAction} Set Count → ⊥
set_counts_nothing e = cc

-- an id that has an entry is found
id_is_found : (xs : List Entry) (id : List ℕ) → HasIn xs id → is_some (option_map (λ e. e.1) (find (λ e. bytes_eq e.0.now id) xs)) ≡ true
id_is_found [] id h = let lt = h.1 in absurd (omega arith)
id_is_found (x ∷ xs) id h = go (bytes_eq x.0.now id) refl (λ i lt at. id_is_found xs id (i, lt, at)) h.0 h.1 h.2
  where
    go : (b : Bool) → bytes_eq x.0.now id ≡ b
        → ((i : ℕ) → i < length xs → ((d : Entry) → bytes_eq (slice_index_or xs i d).0.now id ≡ true) → is_some (option_map (λ e. e.1) (find (λ e. bytes_eq e.0.now id) xs)) ≡ true)
        → (i : ℕ) → i < length (x ∷ xs) → ((d : Entry) → bytes_eq (slice_index_or (x ∷ xs) i d).0.now id ≡ true)
        → is_some (option_map (λ e. e.1) (find (λ e. bytes_eq e.0.now id) (x ∷ xs))) ≡ true
    go true t rest i lt at = rw t refl
    go false t rest zero lt at = absurd (true≢false (sym (at x) ∙ t))
    go false t rest (suc i) lt at = rw t (rest i (omega arith) at)

-- the argument asks for a default under no condition, and its values are not split
plain_settings : (a : Arg) → is_simple_arg a ≡ true → (a.default_vals_ifs.items ≡ []) × (is_some a.val_delim ≡ false)
plain_settings a e =
    let p = both _ _ e in
    let q = both _ _ p.1 in
    let r = both _ _ q.1 in
    let s = both _ _ r.1 in
    (is_nil _ q.0, go (is_some a.val_delim) s.0)
  where
    go : (b : Bool) → not b ≡ true → b ≡ false
    go true e = absurd (true≢false (sym e))
    go false e = refl

-- a use of it has a value
never_empty : (old x : Arg) → SameRules old x → IsWithDefault (rule_of old) → MayBeEmpty x → ⊥
never_empty old x same plain (inl none) =
    let one : least_values old ≡ 1 = ap (λ r. (unwrap_or_range r).start_inclusive) plain.1 in
    let least : 1 ≤ least_values x = same.least plain.0 (rw one (omega arith)) in
    let bad : 1 ≤ 0 = rw none at least in
    absurd (omega arith)
never_empty old x same plain (inr split) = true≢false (sym split ∙ ap is_some same.val_delim ∙ (plain_settings old plain.2).1)

-- The command line, parsed, and an option of it by its place and its name.
module _ (command : Command) (m : ArgMatches) (p : IsParsedFrom command m) (is : app_of command ≡ command_line) (name : List ℕ) (place : ℕ) (low : place < 6)
    (there : (r : Rule) → (slice_index_or the_options place r).id ≡ name) (no_help : bytes_eq (codes "help") name ≡ false) (no_version : bytes_eq (codes "version") name ≡ false) (named : name ≡ [] → ⊥) where
  rules : map rule_of (args_of command) ≡ the_options
  rules = ap (λ a. a.top.rules) is

  six : length (args_of command) ≡ 6
  six = sym (length-map (args_of command) rule_of) ∙ ap length rules

  no_globals : (out-Command command).has_globals ≡ false
  no_globals = (plain_fields command (ap (λ a. a.top.is_plain) is)).globals

  no_groups : groups_of p.built ≡ []
  no_groups =
      (p.from.same_groups (simple_groups command (ap (λ a. list_all (λ r. r.is_simple) a.top.rules) is))).1 ∙ (plain_fields command (ap (λ a. a.top.is_plain) is)).groups

  -- building adds no option of this name
  not_added : (x : Arg) → IsAuto x → bytes_eq x.id.now name ≡ true → ⊥
  not_added x (inl h) same = true≢false (sym same ∙ ap (λ id. bytes_eq id name) h ∙ no_help)
  not_added x (inr h) same = true≢false (sym same ∙ ap (λ id. bytes_eq id name) h ∙ no_version)

  -- a built argument of this name is one of the command line's
  its_rule : (P : Rule → Type 0) → AllByRecursion P the_options → (j : ℕ) (x : Arg) → j < length (args_of p.built) → slice_index_or (args_of p.built) j x ≡ x → bytes_eq x.id.now name ≡ true
      → (old : Arg) × SameRules old x × P (rule_of old)
  its_rule P all j x high at same =
      elim (cases_lt j (length (args_of command))) [
        | inl under ↦
            let old = slice_index_or (args_of command) j x in
            (old, subst (λ w. SameRules old w) at (p.from.kept j x under).1, at_place P (args_of command) (subst (AllByRecursion P) (sym rules) all) j x under)
        | inr over ↦ absurd (not_added x (subst IsAuto at (p.from.extra j x over high)) same)
      ]

  -- the option has an entry, by its default
  has_id : HasId (found_of m) name
  has_id =
      let d = first_arg (args_of command) (rw six (omega arith)) in
      let lt : place < length (args_of command) = rw six low in
      let a = slice_index_or (args_of command) place d in
      let ok = at_place IsWithDefault (args_of command) (subst (AllByRecursion IsWithDefault) (sym rules) with_defaults) place d lt in
      let wants : WantsDefault a = ((plain_settings a ok.2).0, subst (λ n. 0 < n) (length-map (items_of a.default_vals) (λ s. s.now)) ok.3) in
      let id : a.id.now ≡ name =
      ap (λ (r : Rule). r.id) (sym (get_or-map rule_of (args_of command) place d (rule_of d) lt) ∙ ap (λ rs. slice_index_or rs place (rule_of d)) rules) ∙ there (rule_of d) in
      subst (HasId (found_of m)) id (default_present command m p no_globals place d lt wants)

  -- The option has a value, which passed what is asked of the argument, and is read by its parser.
  abbrev ItsValue : Type 0
  ItsValue = (v : Bor (List ℕ)) × (how : Reading) × (first_value (found_of m) name ≡ Some v.now) × (one_text (found_of m) name ≡ Some (read_as how v.now)) × PassesArg p.built name v.now × HasReading p.built name how

  no_group : (e : Entry) → e.0.now ≡ name → IsKnownGroup p.built e.0.now → ⊥
  no_group e key (inl empty) = named (sym key ∙ empty)
  no_group e key (inr lots) =
      let none : length (groups_of p.built) ≡ 0 = ap length no_groups in
      let bad : 0 < 0 = rw none at lots in
      absurd (omega arith)

  its_values_pass : (e : Entry) → e.0.now ≡ name → (e.1.is_group ≡ true → ⊥) → EntryValuesPass p.built e → All (λ v. PassesArg p.built name v.now) e.1.vals.items
  its_values_pass e key single (inl group) = absurd (single group)
  its_values_pass e key single (inr values) = subst (λ id. All (λ v. PassesArg p.built id v.now) e.1.vals.items) key values

  is_read : (e : Entry) → e.0.now ≡ name → (e.1.is_group ≡ true → ⊥) → ReadsByParser p.built e → HasReading p.built name e.1.reading
  is_read e key single (inl group) = absurd (single group)
  is_read e key single (inr how) = subst (λ id. HasReading p.built id e.1.reading) key how

  counts_nothing : IsCountArg p.built name → ⊥
  counts_nothing any =
      let its = its_rule IsWithDefault with_defaults any.0 any.1 any.2 any.3 any.4.0 in
      set_counts_nothing (sym (ap (λ action. unwrap_or action Set) (its.1.action Set its.2.0)) ∙ any.4.1)

  is_given : AllowsNone p.built name → ⊥
  is_given any =
      let its = its_rule IsWithDefault with_defaults any.0 any.1 any.2 any.3 any.4.0 in
      never_empty its.0 any.1 its.1 its.2 any.4.1

  is_filled : (e : Entry) → e.0.now ≡ name → (e.1.is_group ≡ true → ⊥) → IsFilledEntry p.built e → 0 < length e.1.vals.items
  is_filled e key single (inl group) = absurd (single group.0)
  is_filled e key single (inr (inl some)) = some
  is_filled e key single (inr (inr (inl counts))) = absurd (counts_nothing (subst (IsCountArg p.built) key counts.1))
  is_filled e key single (inr (inr (inr empty))) = absurd (is_given (subst (AllowsNone p.built) key empty))

  in_values : (x : MatchedArg) → matched_of (found_of m) name ≡ Some x → (vs : List (Bor (List ℕ))) → x.vals.items ≡ vs → 0 < length vs → All (λ v. PassesArg p.built name v.now) vs → HasReading p.built name x.reading → ItsValue
  in_values x found [] vals some good how = absurd (omega arith)
  in_values x found (v ∷ vs) vals some good how =
      (v, x.reading, rw (found, vals) refl, rw (found, vals) refl, All-get_or (λ w. PassesArg p.built name w.now) (v ∷ vs) 0 v (omega arith) good, how)

  in_entry : (e : Entry) → e.0.now ≡ name → matched_of (found_of m) name ≡ Some e.1 → EntryPasses p.built e → ItsValue
  in_entry e key found passes =
      let single : e.1.is_group ≡ true → ⊥ = λ group. no_group e key (passes.3 group) in
      in_values e.1 found e.1.vals.items refl (is_filled e key single passes.1) (its_values_pass e key single passes.0) (is_read e key single passes.4)

  values_pass : ValuesPass p.built (found_of m)
  values_pass = (p.parsed (p.from.globals ∙ no_globals)).values

  matched : (o : Option MatchedArg) → matched_of (found_of m) name ≡ o → is_some o ≡ true → ItsValue
  matched None found some = absurd (true≢false (sym some))
  matched (Some x) found some =
      let got = entry_by_id (EntryPasses p.built) (found_of m).entries.items name x values_pass found in
      in_entry got.0 ((bytes_eq-Decides got.0.0.now name).0 got.2) (found ∙ ap Some (sym got.1)) got.3

  its_value : ItsValue
  its_value = matched (matched_of (found_of m) name) refl (id_is_found (found_of m).entries.items name has_id)

  pub has_value : HasValue m name
  has_value = (its_value.0.now, its_value.2)

  -- where its values are numbers of a range, that value is one
  pub is_number : (least most : ℕ) → AllByRecursion (HasParser name (vp.Unsigned least most)) the_options → IsNumberIn least most m name
  is_number least most all =
      let v = its_value.0.now in
      let any = its_value.4 in
      let its = its_rule (HasParser name (vp.Unsigned least most)) all any.0 any.1 any.2 any.3 any.4.0 in
      let parser = its.2 (subst (λ id. bytes_eq id name ≡ true) (ap (λ id. id.now) its.1.id) any.4.0) in
      let by : Accepts any.1.ignore_case (vp.Unsigned least most) v = subst (λ w. Accepts any.1.ignore_case w v) (ap parser_of_value (its.1.parser _ parser.0)) any.4.1 in
      let good : Accepts false (vp.Unsigned least most) v = subst (λ b. Accepts b (vp.Unsigned least most) v) (its.1.ignore_case ∙ parser.1) by in
      let how : its_value.1 ≡ reading.AsWritten = written its_value.1 its_value.5 in
      (v, its_value.2, its_value.3 ∙ ap (λ r. Some (read_as r v)) how, good)
    where
      written : (r : Reading) → HasReading p.built name r → r ≡ reading.AsWritten
      written r any =
          let its = its_rule (HasParser name (vp.Unsigned least most)) all any.0 any.1 any.2 any.3 any.4.0 in
          let parser = its.2 (subst (λ id. bytes_eq id name ≡ true) (ap (λ id. id.now) its.1.id) any.4.0) in
          sym any.4.1 ∙ ap (λ w. reading_of (parser_of_value w)) (its.1.parser _ parser.0)

-- the values of the command line
pub given_values : (command : Command) (m : ArgMatches) → IsParsedFrom command m → app_of command ≡ command_line → HasValues m
given_values command m p is = record {
  mode = has_value command m p is (codes "mode") 0 (omega arith) (λ r. refl) refl refl (λ e. cc);
  seed = is_number command m p is (codes "seed") 1 (omega arith) (λ r. refl) refl refl (λ e. cc) 0 18446744073709551615 (other, (its, (other, (other, (other, (other, tt))))));
  workers = is_number command m p is (codes "workers") 2 (omega arith) (λ r. refl) refl refl (λ e. cc) 1 64 (other, (other, (its, (other, (other, (other, tt))))));
  steps = is_number command m p is (codes "steps") 3 (omega arith) (λ r. refl) refl refl (λ e. cc) 1 1000000 (other, (other, (other, (its, (other, (other, tt))))));
  until = is_number command m p is (codes "until") 4 (omega arith) (λ r. refl) refl refl (λ e. cc) 0 4611686018427387904 (other, (other, (other, (other, (its, (other, tt))))));
  trace = has_value command m p is (codes "trace") 5 (omega arith) (λ r. refl) refl refl (λ e. cc);
}
  where
    other : {A : Type 0} → false ≡ true → A
    other e = absurd (true≢false (sym e))

    its : {q : ValueParser} → true ≡ true → (Some q ≡ Some q) × (false ≡ false)
    its e = (refl, refl)
