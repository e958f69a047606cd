-- How many times values appear in a multiset, by what its entries have at each value, and after a change.
use Rattle.std.proofs.Common.{◌≡◌, ℕ, ◌+◌, ◌-◌, ◌<◌, Bool, true, false, cond, List, [], ◌∷◌, Some, None, refl, sym, ap, subst, ◌∙◌, arith}
use Rattle.std.specs.List.{AllByRecursion}
use Rattle.std.specs.List.Sorted.{IsStrictlySortedBy}
use Rattle.std.specs.Option.{unwrap_or}
use Rattle.std.specs.Map.{keys_of, lookup, remove_entry, set_value}
use Rattle.std.specs.BTreeMap.{insert_entry, is_at}
use Rattle.cpn_definitions.specs.Value.{PlainValue}
use Rattle.cpn_definitions.specs.Order.{value_cmp, same_value}
use Rattle.cpn_definitions.specs.ValueOrder.{value_cmp_total, same_value_true}
use Rattle.cpn_core.specs.declared.values.Value.{Value}
use Rattle.cpn_core.specs.Views.{value_view}
use Rattle.cpn_core.specs.Same.{value_order}
use Rattle.cpn_mset.specs.MSets.{PlainMSet, appearances, IsMSet}
use Rattle.cpn_mset.specs.Views.{counts_view}
use Rattle.cpn_definitions.proofs.KeyedEntries.{seen_insert, seen_remove, seen_set, seen_lookup, seen_rises, after_insert, after_remove, after_set, each_inserted, each_left, each_set}

-- the number that was found, or none
pub as_found : (v : PlainValue) (m : PlainMSet) → appearances v m ≡ unwrap_or (lookup (is_at (value_cmp v)) m) 0
as_found v [] = refl
as_found v (e ∷ es) = split (same_value v e.0) (as_found v es)
  where
    split : (b : Bool) → appearances v es ≡ unwrap_or (lookup (is_at (value_cmp v)) es) 0 → cond b e.1 (appearances v es) ≡ unwrap_or (cond b (Some e.1) (lookup (is_at (value_cmp v)) es)) 0
    split true rest = refl
    split false rest = rest

-- what the entries have at the value
pub in_entries : (v : PlainValue) (es : List (Value × ℕ)) → appearances v (counts_view es) ≡ unwrap_or (lookup (is_at (λ k. value_cmp v (value_view k))) es) 0
in_entries v es = as_found v (counts_view es) ∙ ap (λ o. unwrap_or o 0) (sym (seen_lookup value_view value_cmp v es))

module _ (k : Value) (n : ℕ) (es : List (Value × ℕ)) where
  pub inserted : (w : PlainValue) → appearances w (counts_view (insert_entry value_order es k n)) ≡ cond (same_value w (value_view k)) n (appearances w (counts_view es))
  inserted w =
      ap (appearances w) (seen_insert value_view value_cmp es k n)
      ∙ as_found w (insert_entry value_cmp (counts_view es) (value_view k) n)
      ∙ ap (λ o. unwrap_or o 0) (after_insert value_cmp value_cmp_total w (value_view k) n (counts_view es))
      ∙ split (same_value w (value_view k))
    where
      split : (b : Bool) → unwrap_or (cond b (Some n) (lookup (is_at (value_cmp w)) (counts_view es))) 0 ≡ cond b n (appearances w (counts_view es))
      split true = refl
      split false = sym (as_found w (counts_view es))

  pub inserted_is : 0 < n → IsStrictlySortedBy value_order (keys_of (insert_entry value_order es k n)) → IsMSet (counts_view es) → IsMSet (counts_view (insert_entry value_order es k n))
  inserted_is some sorted is = (
    seen_rises value_view value_cmp (insert_entry value_order es k n) sorted,
    subst (AllByRecursion (λ (e : PlainValue × ℕ). 0 < e.1)) (sym (seen_insert value_view value_cmp es k n)) (each_inserted value_cmp (λ m. 0 < m) (value_view k) n (counts_view es) some is.1),
  )

-- more appearances of one value
pub with_more : (w v : PlainValue) (m : PlainMSet) (held n : ℕ) → held ≡ appearances v m → cond (same_value w v) (held + n) (appearances w m) ≡ appearances w m + cond (same_value w v) n 0
with_more w v m held n is = split (same_value w v) refl
  where
    split : (b : Bool) → same_value w v ≡ b → cond b (held + n) (appearances w m) ≡ appearances w m + cond b n 0
    split true h = let same : appearances w m ≡ held = ap (λ u. appearances u m) (same_value_true w v h) ∙ sym is in omega arith
    split false h = omega arith

module _ (k : Value) (es : List (Value × ℕ)) where
  -- a value that was removed does not appear, and the others as they did
  pub removed : IsMSet (counts_view es) → (w : PlainValue) → appearances w (counts_view (remove_entry (is_at (value_order k)) es)) ≡ cond (same_value w (value_view k)) 0 (appearances w (counts_view es))
  removed is w =
      ap (appearances w) (seen_remove value_view value_cmp (value_view k) es)
      ∙ as_found w (remove_entry (is_at (value_cmp (value_view k))) (counts_view es))
      ∙ ap (λ o. unwrap_or o 0) (after_remove value_cmp value_cmp_total w (value_view k) (counts_view es) is.0)
      ∙ split (same_value w (value_view k))
    where
      split : (b : Bool) → unwrap_or (cond b None (lookup (is_at (value_cmp w)) (counts_view es))) 0 ≡ cond b 0 (appearances w (counts_view es))
      split true = refl
      split false = sym (as_found w (counts_view es))

  pub removed_is : IsStrictlySortedBy value_order (keys_of (remove_entry (is_at (value_order k)) es)) → IsMSet (counts_view es) → IsMSet (counts_view (remove_entry (is_at (value_order k)) es))
  removed_is sorted is = (
    seen_rises value_view value_cmp (remove_entry (is_at (value_order k)) es) sorted,
    subst (AllByRecursion (λ (e : PlainValue × ℕ). 0 < e.1)) (sym (seen_remove value_view value_cmp (value_view k) es)) (each_left value_cmp (λ m. 0 < m) (value_view k) (counts_view es) is.1),
  )

  -- a value whose number was set appears so often, and the others as they did
  pub numbered : (n m : ℕ) → lookup (is_at (value_order k)) es ≡ Some m → (w : PlainValue) → appearances w (counts_view (set_value (is_at (value_order k)) es n)) ≡ cond (same_value w (value_view k)) n (appearances w (counts_view es))
  numbered n m found w =
      ap (appearances w) (seen_set value_view value_cmp (value_view k) es n)
      ∙ as_found w (set_value (is_at (value_cmp (value_view k))) (counts_view es) n)
      ∙ ap (λ o. unwrap_or o 0) (after_set value_cmp value_cmp_total w (value_view k) n m (counts_view es) (sym (seen_lookup value_view value_cmp (value_view k) es) ∙ found))
      ∙ split (same_value w (value_view k))
    where
      split : (b : Bool) → unwrap_or (cond b (Some n) (lookup (is_at (value_cmp w)) (counts_view es))) 0 ≡ cond b n (appearances w (counts_view es))
      split true = refl
      split false = sym (as_found w (counts_view es))

  pub numbered_is : (n : ℕ) → 0 < n → IsStrictlySortedBy value_order (keys_of (set_value (is_at (value_order k)) es n)) → IsMSet (counts_view es) → IsMSet (counts_view (set_value (is_at (value_order k)) es n))
  numbered_is n some sorted is = (
    seen_rises value_view value_cmp (set_value (is_at (value_order k)) es n) sorted,
    subst (AllByRecursion (λ (e : PlainValue × ℕ). 0 < e.1)) (sym (seen_set value_view value_cmp (value_view k) es n)) (each_set value_cmp (λ m. 0 < m) (value_view k) n (counts_view es) some is.1),
  )

-- fewer appearances of one value
pub with_fewer : (w v : PlainValue) (m : PlainMSet) (held n left : ℕ) → held ≡ appearances v m → left ≡ held - n → cond (same_value w v) left (appearances w m) ≡ appearances w m - cond (same_value w v) n 0
with_fewer w v m held n left is so = split (same_value w v) refl
  where
    split : (b : Bool) → same_value w v ≡ b → cond b left (appearances w m) ≡ appearances w m - cond b n 0
    split true h = let same : appearances w m ≡ held = ap (λ u. appearances u m) (same_value_true w v h) ∙ sym is in omega arith
    split false h = omega arith
