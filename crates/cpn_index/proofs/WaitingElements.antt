-- The elements that wait for each value of one place, after a set of watchers was put in, changed or taken out; and that no set is empty.
use Rattle.std.proofs.Common.{◌≡◌, ℕ, zero, suc, ◌<◌, arith, length, Less, Equal, Greater, Ordering, Result, Ok, Err, OnOk, OnErr, not, Bool, true, false, ◌&&◌, ◌||◌, cond, List, [], ◌∷◌, Option, Some, None, refl, sym, ap, subst, ◌∙◌, option_map}
use Rattle.std.specs.List.Sorted.{IsStrictlySortedBy}
use Rattle.std.specs.Option.{unwrap_or}
use Rattle.std.specs.Ordering.{match_ordering}
use Rattle.std.specs.Map.{keys_of, lookup, remove_entry, set_value}
use Rattle.std.specs.BTreeMap.{insert_entry, is_at}
use Rattle.std.specs.BTreeSet as sets
use Rattle.std.specs.BTreeSet.{BTreeSet}
use Rattle.std.proofs.lemmas.Cmp.{eq_by_cmp_equiv}
use Rattle.cpn_definitions.specs.Value.{PlainValue}
use Rattle.cpn_definitions.specs.Order.{value_cmp, same_value}
use Rattle.cpn_definitions.specs.ValueOrder.{value_cmp_total, same_value_true}
use Rattle.cpn_definitions.specs.Occurrence.{PlainElement}
use Rattle.cpn_definitions.proofs.KeyedEntries.{seen, seen_insert, seen_remove, seen_set, seen_lookup, seen_rises, after_insert, after_remove, after_set}
use Rattle.cpn_core.specs.declared.values.Value.{Value}
use Rattle.cpn_core.specs.Views.{value_view}
use Rattle.cpn_core.specs.Same.{value_order}
use Rattle.cpn_index.specs.WatcherOrder.{watching, watcher_order, element_cmp_total}
use Rattle.cpn_index.specs.Waiting.{same_element, Sets, set_of, waiting_for, has_watcher, EachIsAwaited}
use Rattle.cpn_index.specs.declared.waiting.Watcher.{Watcher}

-- ---- tests

put_test : (b x : Bool) → cond b true x ≡ (b || x)
put_test true x = refl
put_test false x = refl

taken_test : (b x : Bool) → cond b false x ≡ (not b && x)
taken_test true x = refl
taken_test false x = refl

-- ---- the watchers of one set

-- the watcher with another element
abbrev with_element : Watcher → PlainElement → Watcher
with_element w e = record { element = record { ptr = w.element.ptr; value = record { transition = e.transition; binding = e.binding } } }

turned : (e f : PlainElement) → same_element f e ≡ same_element e f
turned e f = (eq_by_cmp_equiv element_cmp_total).symm f e

-- a watcher more
pub watcher_put : (e : PlainElement) (w : Watcher) (old new : BTreeSet Watcher) → sets.Updates watcher_order old new w true → has_watcher e new.keys ≡ (same_element e (watching w) || has_watcher e old.keys)
watcher_put e w old new updates =
    updates.0 (with_element w e) ∙ ap (λ b. cond b true (has_watcher e old.keys)) (turned e (watching w)) ∙ put_test (same_element e (watching w)) (has_watcher e old.keys)

-- a watcher fewer
pub watcher_taken : (e : PlainElement) (w : Watcher) (old new : BTreeSet Watcher) → sets.UpdatesBy watcher_order (watcher_order w) old new false → has_watcher e new.keys ≡ (not (same_element e (watching w)) && has_watcher e old.keys)
watcher_taken e w old new updates =
    updates.0 (with_element w e) ∙ ap (λ b. cond b false (has_watcher e old.keys)) (turned e (watching w)) ∙ taken_test (same_element e (watching w)) (has_watcher e old.keys)

-- ---- the sets of one place

-- whether the element is in the set, if there is one
abbrev pub is_in : PlainElement → Option (BTreeSet Watcher) → Bool
is_in e set = has_watcher e (unwrap_or (option_map (λ s. s.keys) set) [])

module _ (k : Value) (es : Sets) (v : PlainValue) where
  set_put : (s : BTreeSet Watcher) → set_of v (insert_entry value_order es k s) ≡ cond (same_value v (value_view k)) (Some s) (set_of v es)
  set_put s =
      seen_lookup value_view value_cmp v (insert_entry value_order es k s)
      ∙ ap (lookup (is_at (value_cmp v))) (seen_insert value_view value_cmp es k s)
      ∙ after_insert value_cmp value_cmp_total v (value_view k) s (seen value_view es)
      ∙ ap (cond (same_value v (value_view k)) (Some s)) (sym (seen_lookup value_view value_cmp v es))

  set_changed : (s t : BTreeSet Watcher) → lookup (is_at (value_order k)) es ≡ Some t → set_of v (set_value (is_at (value_order k)) es s) ≡ cond (same_value v (value_view k)) (Some s) (set_of v es)
  set_changed s t found =
      seen_lookup value_view value_cmp v (set_value (is_at (value_order k)) es s)
      ∙ ap (lookup (is_at (value_cmp v))) (seen_set value_view value_cmp (value_view k) es s)
      ∙ after_set value_cmp value_cmp_total v (value_view k) s t (seen value_view es) (sym (seen_lookup value_view value_cmp (value_view k) es) ∙ found)
      ∙ ap (cond (same_value v (value_view k)) (Some s)) (sym (seen_lookup value_view value_cmp v es))

  set_taken : IsStrictlySortedBy value_order (keys_of es) → set_of v (remove_entry (is_at (value_order k)) es) ≡ cond (same_value v (value_view k)) None (set_of v es)
  set_taken sorted =
      seen_lookup value_view value_cmp v (remove_entry (is_at (value_order k)) es)
      ∙ ap (lookup (is_at (value_cmp v))) (seen_remove value_view value_cmp (value_view k) es)
      ∙ after_remove value_cmp value_cmp_total v (value_view k) (seen value_view es) (seen_rises value_view value_cmp es sorted)
      ∙ ap (cond (same_value v (value_view k)) None) (sym (seen_lookup value_view value_cmp v es))

  -- the value itself has the set that is found
  there : (o : Option (BTreeSet Watcher)) → lookup (is_at (value_order k)) es ≡ o → same_value v (value_view k) ≡ true → set_of v es ≡ o
  there o found same = ap (λ u. set_of u es) (same_value_true v (value_view k) same) ∙ found

-- one set put for another: the element of a watcher more, for the value alone
with_one
    : (e : PlainElement) (b s : Bool) (set old new : Option (BTreeSet Watcher))
    → new ≡ cond b set old
    → (b ≡ true → is_in e set ≡ (s || is_in e old))
    → is_in e new ≡ ((s && b) || is_in e old)
with_one e true true set old new is here = ap (is_in e) is ∙ here refl
with_one e true false set old new is here = ap (is_in e) is ∙ here refl
with_one e false true set old new is here = ap (is_in e) is
with_one e false false set old new is here = ap (is_in e) is

-- and one fewer
without_one
    : (e : PlainElement) (b s : Bool) (set old new : Option (BTreeSet Watcher))
    → new ≡ cond b set old
    → (b ≡ true → is_in e set ≡ (not s && is_in e old))
    → is_in e new ≡ (not (s && b) && is_in e old)
without_one e true true set old new is here = ap (is_in e) is ∙ here refl
without_one e true false set old new is here = ap (is_in e) is ∙ here refl
without_one e false true set old new is here = ap (is_in e) is
without_one e false false set old new is here = ap (is_in e) is

none_either : (b : Bool) → false ≡ (b && false)
none_either true = refl
none_either false = refl

module _ (k : Value) (es : Sets) (v : PlainValue) (e : PlainElement) (w : Watcher) where
  -- the value, or a copy of it, has a first watcher
  pub put_first : (u : PlainValue) (s empty : BTreeSet Watcher) → value_view k ≡ u → lookup (is_at (λ x. value_cmp u (value_view x))) es ≡ None → empty.keys ≡ [] → sets.Updates watcher_order empty s w true → has_watcher e (waiting_for v (insert_entry value_order es k s)) ≡ ((same_element e (watching w) && same_value v u) || has_watcher e (waiting_for v es))
  put_first u s empty copied none is updates =
      with_one e (same_value v (value_view k)) (same_element e (watching w)) (Some s) (set_of v es) (set_of v (insert_entry value_order es k s)) (set_put k es v s)
      (λ same.
      watcher_put e w empty s updates ∙ ap (λ (ws : List Watcher). same_element e (watching w) || has_watcher e ws) is
      ∙ ap (λ o. same_element e (watching w) || is_in e o) (sym (there k es v None (ap (λ t. lookup (is_at (λ x. value_cmp t (value_view x))) es) copied ∙ none) same)))
      ∙ ap (λ t. (same_element e (watching w) && same_value v t) || has_watcher e (waiting_for v es)) copied

  -- it has one more
  pub put_more : (s t : BTreeSet Watcher) → lookup (is_at (value_order k)) es ≡ Some t → sets.Updates watcher_order t s w true → has_watcher e (waiting_for v (set_value (is_at (value_order k)) es s)) ≡ ((same_element e (watching w) && same_value v (value_view k)) || has_watcher e (waiting_for v es))
  put_more s t found updates =
      with_one e (same_value v (value_view k)) (same_element e (watching w)) (Some s) (set_of v es) (set_of v (set_value (is_at (value_order k)) es s)) (set_changed k es v s t found)
      (λ same. watcher_put e w t s updates ∙ ap (λ o. same_element e (watching w) || is_in e o) (sym (there k es v (Some t) found same)))

  -- it has none
  pub take_none : lookup (is_at (value_order k)) es ≡ None → has_watcher e (waiting_for v es) ≡ (not (same_element e (watching w) && same_value v (value_view k)) && has_watcher e (waiting_for v es))
  take_none none =
      without_one e (same_value v (value_view k)) (same_element e (watching w)) (set_of v es) (set_of v es) (set_of v es) (same_both (same_value v (value_view k)) (set_of v es))
      (λ same.
      let gone : is_in e (set_of v es) ≡ false = ap (is_in e) (there k es v None none same) in
      gone ∙ none_either (not (same_element e (watching w))) ∙ ap (λ b. not (same_element e (watching w)) && b) (sym gone))
    where
      same_both : {A : Type 0} (b : Bool) (x : A) → x ≡ cond b x x
      same_both true x = refl
      same_both false x = refl

  -- it has one fewer
  pub take_one : (s t : BTreeSet Watcher) → lookup (is_at (value_order k)) es ≡ Some t → sets.UpdatesBy watcher_order (watcher_order w) t s false → has_watcher e (waiting_for v (set_value (is_at (value_order k)) es s)) ≡ (not (same_element e (watching w) && same_value v (value_view k)) && has_watcher e (waiting_for v es))
  take_one s t found updates =
      without_one e (same_value v (value_view k)) (same_element e (watching w)) (Some s) (set_of v es) (set_of v (set_value (is_at (value_order k)) es s)) (set_changed k es v s t found)
      (λ same. watcher_taken e w t s updates ∙ ap (λ o. not (same_element e (watching w)) && is_in e o) (sym (there k es v (Some t) found same)))

  -- it has lost the last one
  pub take_last : (s t : BTreeSet Watcher) → IsStrictlySortedBy value_order (keys_of es) → lookup (is_at (value_order k)) es ≡ Some t → sets.UpdatesBy watcher_order (watcher_order w) t s false → s.keys ≡ [] → has_watcher e (waiting_for v (remove_entry (is_at (value_order k)) es)) ≡ (not (same_element e (watching w) && same_value v (value_view k)) && has_watcher e (waiting_for v es))
  take_last s t sorted found updates is =
      without_one e (same_value v (value_view k)) (same_element e (watching w)) None (set_of v es) (set_of v (remove_entry (is_at (value_order k)) es)) (set_taken k es v sorted)
      (λ same.
      sym (ap (λ (ws : List Watcher). has_watcher e ws) is)
      ∙ watcher_taken e w t s updates ∙ ap (λ o. not (same_element e (watching w)) && is_in e o) (sym (there k es v (Some t) found same)))

-- a set that was changed first and then taken out
pub removed_changed : (k : Value) (es : Sets) (s : BTreeSet Watcher) → remove_entry (is_at (value_order k)) (set_value (is_at (value_order k)) es s) ≡ remove_entry (is_at (value_order k)) es
removed_changed k [] s = refl
removed_changed k (x ∷ es) s = split (is_at (value_order k) x.0) refl (removed_changed k es s)
  where
    split : (b : Bool) → is_at (value_order k) x.0 ≡ b → remove_entry (is_at (value_order k)) (set_value (is_at (value_order k)) es s) ≡ remove_entry (is_at (value_order k)) es
        → remove_entry (is_at (value_order k)) (cond b ((x.0, s) ∷ es) (x ∷ set_value (is_at (value_order k)) es s)) ≡ cond b es (x ∷ remove_entry (is_at (value_order k)) es)
    split true h rest = rw h refl
    split false h rest = rw h (ap (λ xs. x ∷ xs) rest)

-- ---- no set is empty

-- with a watcher more a set is not empty
pub some_with : (w : Watcher) (ws : List Watcher) → 0 < length (sets.insert_key watcher_order ws w)
some_with w [] = omega arith
some_with w (x ∷ ws) = split (watcher_order w x)
  where
    split : (o : Ordering) → 0 < length (match_ordering o (w ∷ x ∷ ws) (x ∷ ws) (x ∷ sets.insert_key watcher_order ws w))
    split Less = omega arith
    split Equal = omega arith
    split Greater = omega arith

pub some_left : (n : ℕ) → (n ≡ 0 → ⊥) → 0 < n
some_left zero none = absurd (none refl)
some_left (suc n) none = omega arith

-- what follows both from the answer and from the error
pub by_result : {T E : Type 0} (r : Result T E) (P Q G : Type 0) → OnOk r P → OnErr r Q → (P → G) → (Q → G) → G
by_result (Ok x) P Q G ok err from_ok from_err = from_ok ok
by_result (Err e) P Q G ok err from_ok from_err = from_err err

awaited_by_one
    : (b : Bool) (set old new : Option (BTreeSet Watcher))
    → new ≡ cond b set old
    → ((s : BTreeSet Watcher) → set ≡ Some s → 0 < length s.keys)
    → ((s : BTreeSet Watcher) → old ≡ Some s → 0 < length s.keys)
    → (s : BTreeSet Watcher)
    → new ≡ Some s
    → 0 < length s.keys
awaited_by_one true set old new is here others s found = here s (sym is ∙ found)
awaited_by_one false set old new is here others s found = others s (sym is ∙ found)

module _ (k : Value) (es : Sets) (each : EachIsAwaited es) where
  of_set : (s : BTreeSet Watcher) → 0 < length s.keys → (t : BTreeSet Watcher) → Some s ≡ Some t → 0 < length t.keys
  of_set s some t is = let same : s ≡ t = cc in subst (λ (u : BTreeSet Watcher). 0 < length u.keys) same some

  pub awaited_put : (s : BTreeSet Watcher) → 0 < length s.keys → EachIsAwaited (insert_entry value_order es k s)
  awaited_put s some = λ v. awaited_by_one (same_value v (value_view k)) (Some s) (set_of v es) (set_of v (insert_entry value_order es k s)) (set_put k es v s) (of_set s some) (each v)

  pub awaited_changed : (s t : BTreeSet Watcher) → lookup (is_at (value_order k)) es ≡ Some t → 0 < length s.keys → EachIsAwaited (set_value (is_at (value_order k)) es s)
  awaited_changed s t found some = λ v.
      awaited_by_one (same_value v (value_view k)) (Some s) (set_of v es) (set_of v (set_value (is_at (value_order k)) es s)) (set_changed k es v s t found) (of_set s some) (each v)

  pub awaited_left : IsStrictlySortedBy value_order (keys_of es) → EachIsAwaited (remove_entry (is_at (value_order k)) es)
  awaited_left sorted = λ v. awaited_by_one (same_value v (value_view k)) None (set_of v es) (set_of v (remove_entry (is_at (value_order k)) es)) (set_taken k es v sorted) (λ s is. cc) (each v)

  -- a set that is found has a watcher
  pub awaited_there : (t : BTreeSet Watcher) → lookup (is_at (value_order k)) es ≡ Some t → 0 < length t.keys
  awaited_there t found = each (value_view k) t found
