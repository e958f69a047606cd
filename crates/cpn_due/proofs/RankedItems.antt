-- The items that are due around a root, by their ranks; and whether an element is kept there.
use Rattle.std.proofs.Common.{◌≡◌, ℕ, zero, suc, ◌+◌, ◌<◌, Bool, true, false, cond, List, [], ◌∷◌, ◌++◌, length, slice_get, Some, refl, sym, ap, ◌∙◌, arith, Less, Greater}
use Rattle.std.proofs.lemmas.List.{length-map}
use Rattle.cpn_definitions.specs.Lists.{Rises}
use Rattle.cpn_definitions.specs.Occurrence.{PlainElement}
use Rattle.cpn_due.specs.Due.{PlainEnabled, is_kept}
use Rattle.cpn_due.specs.Marked.{PlainMarked, marked_cmp, enabled_in, are_due}
use Rattle.cpn_due.proofs.KeptElements.{kept_among}
use Rattle.cpn_due.proofs.MarkedItems.{to_item, has_left, has_right}

front_at : {X : Type 0} (xs ys : List X) (i : ℕ) → i < length xs → slice_get (xs ++ ys) i ≡ slice_get xs i
front_at [] ys i lt = absurd (omega arith)
front_at (x ∷ xs) ys zero lt = refl
front_at (x ∷ xs) ys (suc i) lt = front_at xs ys i (omega arith)

behind_at : {X : Type 0} (xs ys : List X) (i : ℕ) → slice_get (xs ++ ys) (length xs + i) ≡ slice_get ys i
behind_at [] ys i = let same : 0 + i ≡ i = omega arith in ap (slice_get ys) same
behind_at (x ∷ xs) ys i = let next : length (x ∷ xs) + i ≡ suc (length xs + i) = omega arith in ap (slice_get (x ∷ (xs ++ ys))) next ∙ behind_at xs ys i

-- the elements that are due
abbrev due_in : List PlainMarked → List PlainEnabled
due_in items = enabled_in (are_due items)

due_append : (xs ys : List PlainMarked) → due_in (xs ++ ys) ≡ due_in xs ++ due_in ys
due_append [] ys = refl
due_append (x ∷ xs) ys = split x.is_due (due_append xs ys)
  where
    split : (b : Bool) → due_in (xs ++ ys) ≡ due_in xs ++ due_in ys → enabled_in (cond b (x ∷ are_due (xs ++ ys)) (are_due (xs ++ ys))) ≡ enabled_in (cond b (x ∷ are_due xs) (are_due xs)) ++ due_in ys
    split true rest = ap (λ zs. x.enabled ∷ zs) rest
    split false rest = rest

due_length : (xs : List PlainMarked) → length (due_in xs) ≡ length (are_due xs)
due_length xs = length-map (are_due xs) (λ (m : PlainMarked). m.enabled)

module _ (l : List PlainMarked) (k : PlainMarked) (r : List PlainMarked) where
  pub due_before : (rank : ℕ) → rank < length (are_due l) → slice_get (due_in (l ++ k ∷ r)) rank ≡ slice_get (due_in l) rank
  due_before rank lt = ap (λ zs. slice_get zs rank) (due_append l (k ∷ r)) ∙ front_at (due_in l) (due_in (k ∷ r)) rank (let long = due_length l in omega (arith, lt, long))

  pub due_from : (rest : ℕ) → slice_get (due_in (l ++ k ∷ r)) (length (are_due l) + rest) ≡ slice_get (due_in (k ∷ r)) rest
  due_from rest =
      let same : length (are_due l) + rest ≡ length (due_in l) + rest = ap (λ n. n + rest) (sym (due_length l)) in
      ap (λ zs. slice_get zs (length (are_due l) + rest)) (due_append l (k ∷ r)) ∙ ap (slice_get (due_in l ++ due_in (k ∷ r))) same ∙ behind_at (due_in l) (due_in (k ∷ r)) rest

  pub due_root : (rest : ℕ) → rest < length (are_due (k ∷ [])) → slice_get (due_in (l ++ k ∷ r)) (length (are_due l) + rest) ≡ Some k.enabled
  due_root rest lt = due_from rest ∙ split k.is_due rest lt
    where
      split : (b : Bool) (i : ℕ) → i < length (cond b (k ∷ []) []) → slice_get (enabled_in (cond b (k ∷ are_due r) (are_due r))) i ≡ Some k.enabled
      split true zero lt' = refl
      split true (suc i) lt' = absurd (omega arith)
      split false i lt' = absurd (omega arith)

  pub due_after : (rest : ℕ) → slice_get (due_in (l ++ k ∷ r)) (length (are_due l) + (length (are_due (k ∷ [])) + rest)) ≡ slice_get (due_in r) rest
  due_after rest = due_from (length (are_due (k ∷ [])) + rest) ∙ split k.is_due
    where
      split : (b : Bool) → slice_get (enabled_in (cond b (k ∷ are_due r) (are_due r))) (length (cond b (k ∷ []) []) + rest) ≡ slice_get (due_in r) rest
      split true = let next : 1 + rest ≡ suc rest = omega arith in ap (slice_get (k.enabled ∷ due_in r)) next
      split false = let same : 0 + rest ≡ rest = omega arith in ap (slice_get (due_in r)) same

module _ (e : PlainElement) (k : PlainMarked) (l r : List PlainMarked) (rise : Rises marked_cmp (l ++ k ∷ r)) where
  pub kept_left : to_item e k ≡ Less → is_kept e (enabled_in l) ≡ is_kept e (enabled_in (l ++ k ∷ r))
  kept_left h = sym (kept_among e l) ∙ sym (has_left e k l r rise h) ∙ kept_among e (l ++ k ∷ r)

  pub kept_right : to_item e k ≡ Greater → is_kept e (enabled_in r) ≡ is_kept e (enabled_in (l ++ k ∷ r))
  kept_right h = sym (kept_among e r) ∙ sym (has_right e k l r rise h) ∙ kept_among e (l ++ k ∷ r)
