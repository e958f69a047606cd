-- The stamps of each value after its entry was put in, changed or taken out.
use Rattle.std.proofs.Common.{◌≡◌, ℕ, ◌<◌, Bool, true, false, cond, nat_le, List, [], ◌∷◌, length, Some, None, refl, sym, ap, subst, ◌∙◌, nat_cmp, is_eq, is_gt}
use Rattle.std.specs.List.{AllByRecursion}
use Rattle.std.specs.List.Sorted.{IsStrictlySortedBy}
use Rattle.std.specs.Option.{unwrap_or}
use Rattle.std.specs.Map.{keys_of, lookup, remove_entry, set_value}
use Rattle.std.specs.BTreeMap.{insert_entry, is_at}
use Rattle.std.proofs.lemmas.Bool.{cond_both}
use Rattle.cpn_definitions.specs.Value.{PlainValue}
use Rattle.cpn_definitions.specs.Order.{value_cmp, same_value}
use Rattle.cpn_definitions.specs.Lists.{IsInOrder}
use Rattle.cpn_definitions.specs.Marking.{begins_by, without_latest}
use Rattle.cpn_definitions.specs.ValueOrder.{value_cmp_total, same_value_true}
use Rattle.cpn_core.specs.declared.values.Value.{Value}
use Rattle.cpn_core.specs.Views.{value_view}
use Rattle.cpn_core.specs.Same.{value_order}
use Rattle.cpn_tmset.specs.Stamps.{latest_of}
use Rattle.cpn_tmset.specs.TMSets.{Entries, stamps_in, AreKept}
use Rattle.cpn_tmset.specs.Views.{entries_view}
use Rattle.cpn_definitions.proofs.KeyedEntries.{seen_insert, seen_remove, seen_set, seen_lookup, seen_rises, after_insert, after_remove, after_set, each_inserted, each_left, each_set, of_found}

-- the stamps that were found, or none
pub as_found : (v : PlainValue) (es : Entries) → stamps_in v es ≡ unwrap_or (lookup (is_at (value_cmp v)) es) []
as_found v [] = refl
as_found v (e ∷ es) = split (same_value v e.0) (as_found v es)
  where
    split : (b : Bool) → stamps_in v es ≡ unwrap_or (lookup (is_at (value_cmp v)) es) [] → cond b e.1 (stamps_in v es) ≡ unwrap_or (cond b (Some e.1) (lookup (is_at (value_cmp v)) es)) []
    split true rest = refl
    split false rest = rest

-- what the entries of the program have at the value
pub in_entries : (v : PlainValue) (es : List (Value × List ℕ)) → stamps_in v (entries_view es) ≡ unwrap_or (lookup (is_at (λ k. value_cmp v (value_view k))) es) []
in_entries v es = as_found v (entries_view es) ∙ ap (λ o. unwrap_or o []) (sym (seen_lookup value_view value_cmp v es))

-- a change of the stamps of one value, told by what they were
pub changed : (f : List ℕ → List ℕ) (w v : PlainValue) (y : List ℕ) (es : Entries) → stamps_in v es ≡ y → cond (same_value w v) (f y) (stamps_in w es) ≡ cond (same_value w v) (f (stamps_in w es)) (stamps_in w es)
changed f w v y es is = split (same_value w v) refl
  where
    split : (b : Bool) → same_value w v ≡ b → cond b (f y) (stamps_in w es) ≡ cond b (f (stamps_in w es)) (stamps_in w es)
    split true h = ap f (sym is ∙ ap (λ u. stamps_in u es) (sym (same_value_true w v h)))
    split false h = refl

-- a change that changes nothing
pub unchanged : (f : List ℕ → List ℕ) (w v : PlainValue) (y : List ℕ) (es : Entries) → stamps_in v es ≡ y → f y ≡ y → stamps_in w es ≡ cond (same_value w v) (f (stamps_in w es)) (stamps_in w es)
unchanged f w v y es is stays = split (same_value w v) refl
  where
    split : (b : Bool) → same_value w v ≡ b → stamps_in w es ≡ cond b (f (stamps_in w es)) (stamps_in w es)
    split true h = let here : stamps_in w es ≡ y = ap (λ u. stamps_in u es) (same_value_true w v h) ∙ is in here ∙ sym stays ∙ ap f (sym here)
    split false h = refl

module _ (k : Value) (es : List (Value × List ℕ)) where
  -- ---- an entry more

  pub inserted : (x : List ℕ) (w : PlainValue) → stamps_in w (entries_view (insert_entry value_order es k x)) ≡ cond (same_value w (value_view k)) x (stamps_in w (entries_view es))
  inserted x w =
      ap (stamps_in w) (seen_insert value_view value_cmp es k x)
      ∙ as_found w (insert_entry value_cmp (entries_view es) (value_view k) x)
      ∙ ap (λ o. unwrap_or o []) (after_insert value_cmp value_cmp_total w (value_view k) x (entries_view es))
      ∙ split (same_value w (value_view k))
    where
      split : (b : Bool) → unwrap_or (cond b (Some x) (lookup (is_at (value_cmp w)) (entries_view es))) [] ≡ cond b x (stamps_in w (entries_view es))
      split true = refl
      split false = sym (as_found w (entries_view es))

  pub inserted_kept : (x : List ℕ) → IsInOrder nat_cmp x → 0 < length x → IsStrictlySortedBy value_order (keys_of (insert_entry value_order es k x)) → AreKept (entries_view es) → AreKept (entries_view (insert_entry value_order es k x))
  inserted_kept x ordered some sorted kept = record {
    rise = seen_rises value_view value_cmp (insert_entry value_order es k x) sorted;
    sorted = subst (AllByRecursion (λ (e : PlainValue × List ℕ). IsInOrder nat_cmp e.1)) (sym (seen_insert value_view value_cmp es k x)) (each_inserted value_cmp (IsInOrder nat_cmp) (value_view k) x (entries_view es) ordered kept.sorted);
    some = subst (AllByRecursion (λ (e : PlainValue × List ℕ). 0 < length e.1)) (sym (seen_insert value_view value_cmp es k x)) (each_inserted value_cmp (λ (ss : List ℕ). 0 < length ss) (value_view k) x (entries_view es) some kept.some);
  }

  -- ---- an entry fewer

  pub removed : AreKept (entries_view es) → (w : PlainValue) → stamps_in w (entries_view (remove_entry (is_at (value_order k)) es)) ≡ cond (same_value w (value_view k)) [] (stamps_in w (entries_view es))
  removed kept w =
      ap (stamps_in w) (seen_remove value_view value_cmp (value_view k) es)
      ∙ as_found w (remove_entry (is_at (value_cmp (value_view k))) (entries_view es))
      ∙ ap (λ o. unwrap_or o []) (after_remove value_cmp value_cmp_total w (value_view k) (entries_view es) kept.rise)
      ∙ split (same_value w (value_view k))
    where
      split : (b : Bool) → unwrap_or (cond b None (lookup (is_at (value_cmp w)) (entries_view es))) [] ≡ cond b [] (stamps_in w (entries_view es))
      split true = refl
      split false = sym (as_found w (entries_view es))

  pub removed_kept : IsStrictlySortedBy value_order (keys_of (remove_entry (is_at (value_order k)) es)) → AreKept (entries_view es) → AreKept (entries_view (remove_entry (is_at (value_order k)) es))
  removed_kept sorted kept = record {
    rise = seen_rises value_view value_cmp (remove_entry (is_at (value_order k)) es) sorted;
    sorted = subst (AllByRecursion (λ (e : PlainValue × List ℕ). IsInOrder nat_cmp e.1)) (sym (seen_remove value_view value_cmp (value_view k) es)) (each_left value_cmp (IsInOrder nat_cmp) (value_view k) (entries_view es) kept.sorted);
    some = subst (AllByRecursion (λ (e : PlainValue × List ℕ). 0 < length e.1)) (sym (seen_remove value_view value_cmp (value_view k) es)) (each_left value_cmp (λ (ss : List ℕ). 0 < length ss) (value_view k) (entries_view es) kept.some);
  }

  -- ---- an entry changed

  module _ (y : List ℕ) (found : lookup (is_at (value_order k)) es ≡ Some y) where
    pub held : stamps_in (value_view k) (entries_view es) ≡ y
    held = in_entries (value_view k) es ∙ ap (λ o. unwrap_or o []) found

    pub held_in_order : AreKept (entries_view es) → IsInOrder nat_cmp y
    held_in_order kept = of_found value_cmp (IsInOrder nat_cmp) (value_view k) y (entries_view es) kept.sorted (sym (seen_lookup value_view value_cmp (value_view k) es) ∙ found)

    pub held_some : AreKept (entries_view es) → 0 < length y
    held_some kept = of_found value_cmp (λ (ss : List ℕ). 0 < length ss) (value_view k) y (entries_view es) kept.some (sym (seen_lookup value_view value_cmp (value_view k) es) ∙ found)

    pub written : (x : List ℕ) (w : PlainValue) → stamps_in w (entries_view (set_value (is_at (value_order k)) es x)) ≡ cond (same_value w (value_view k)) x (stamps_in w (entries_view es))
    written x w =
        ap (stamps_in w) (seen_set value_view value_cmp (value_view k) es x)
        ∙ as_found w (set_value (is_at (value_cmp (value_view k))) (entries_view es) x)
        ∙ ap (λ o. unwrap_or o []) (after_set value_cmp value_cmp_total w (value_view k) x y (entries_view es) (sym (seen_lookup value_view value_cmp (value_view k) es) ∙ found))
        ∙ split (same_value w (value_view k))
      where
        split : (b : Bool) → unwrap_or (cond b (Some x) (lookup (is_at (value_cmp w)) (entries_view es))) [] ≡ cond b x (stamps_in w (entries_view es))
        split true = refl
        split false = sym (as_found w (entries_view es))

  pub written_kept : (x : List ℕ) → IsInOrder nat_cmp x → 0 < length x → IsStrictlySortedBy value_order (keys_of (set_value (is_at (value_order k)) es x)) → AreKept (entries_view es) → AreKept (entries_view (set_value (is_at (value_order k)) es x))
  written_kept x ordered some sorted kept = record {
    rise = seen_rises value_view value_cmp (set_value (is_at (value_order k)) es x) sorted;
    sorted = subst (AllByRecursion (λ (e : PlainValue × List ℕ). IsInOrder nat_cmp e.1)) (sym (seen_set value_view value_cmp (value_view k) es x)) (each_set value_cmp (IsInOrder nat_cmp) (value_view k) x (entries_view es) ordered kept.sorted);
    some = subst (AllByRecursion (λ (e : PlainValue × List ℕ). 0 < length e.1)) (sym (seen_set value_view value_cmp (value_view k) es x)) (each_set value_cmp (λ (ss : List ℕ). 0 < length ss) (value_view k) x (entries_view es) some kept.some);
  }

  -- an entry that was changed first and then taken out
  pub removed_written : (x : List ℕ) → remove_entry (is_at (value_order k)) (set_value (is_at (value_order k)) es x) ≡ remove_entry (is_at (value_order k)) es
  removed_written x = each es
    where
      each : (fs : List (Value × List ℕ)) → remove_entry (is_at (value_order k)) (set_value (is_at (value_order k)) fs x) ≡ remove_entry (is_at (value_order k)) fs
      each [] = refl
      each (f ∷ fs) = split (is_eq (value_order k f.0)) refl (each fs)
        where
          split : (b : Bool) → is_eq (value_order k f.0) ≡ b → remove_entry (is_at (value_order k)) (set_value (is_at (value_order k)) fs x) ≡ remove_entry (is_at (value_order k)) fs
              → remove_entry (is_at (value_order k)) (cond b ((f.0, x) ∷ fs) (f ∷ set_value (is_at (value_order k)) fs x)) ≡ cond b fs (f ∷ remove_entry (is_at (value_order k)) fs)
          split true h rest = rw h refl
          split false h rest = rw h (ap (λ gs. f ∷ gs) rest)

-- ---- stamps that stay in order

each_without : (P : ℕ → Type 0) (t : ℕ) (ss : List ℕ) → AllByRecursion P ss → AllByRecursion P (without_latest t ss)
each_without P t [] all = tt
each_without P t (s ∷ ss) all =
    cond_both (begins_by t ss) (s ∷ without_latest t ss) (cond (nat_le s t) ss (s ∷ ss)) (AllByRecursion P) (λ _. (all.0, each_without P t ss all.1)) (λ _. cond_both (nat_le s t) ss (s ∷ ss) (AllByRecursion P) (λ _. all.1) (λ _. all))

pub without_in_order : (t : ℕ) (ss : List ℕ) → IsInOrder nat_cmp ss → IsInOrder nat_cmp (without_latest t ss)
without_in_order t [] ordered = tt
without_in_order t (s ∷ ss) ordered =
    cond_both (begins_by t ss) (s ∷ without_latest t ss) (cond (nat_le s t) ss (s ∷ ss)) (IsInOrder nat_cmp)
    (λ _. (each_without (λ r. is_gt (nat_cmp s r) ≡ false) t ss ordered.0, without_in_order t ss ordered.1)) (λ _. cond_both (nat_le s t) ss (s ∷ ss) (IsInOrder nat_cmp) (λ _. ordered.1) (λ _. ordered))

-- where none is taken they stay
pub none_without : (t : ℕ) (ss : List ℕ) → latest_of t ss ≡ None → without_latest t ss ≡ ss
none_without t [] h = refl
none_without t (s ∷ ss) h = split (begins_by t ss) (nat_le s t) h (none_without t ss)
  where
    split : (b c : Bool) → cond b (latest_of t ss) (cond c (Some s) None) ≡ None → (latest_of t ss ≡ None → without_latest t ss ≡ ss) → cond b (s ∷ without_latest t ss) (cond c ss (s ∷ ss)) ≡ s ∷ ss
    split true c h rest = ap (λ rs. s ∷ rs) (rest h)
    split false true h rest = cc
    split false false h rest = refl
