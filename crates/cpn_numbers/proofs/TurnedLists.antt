-- Lists that are turned round, one list after another.
use Rattle.std.proofs.Common.{◌≡◌, ◌∙◌, refl, sym, ap, subst, ℕ, zero, suc, ◌+◌, ◌<◌, ◌⊎◌, ◌↔◌, inl, inr, List, [], ◌∷◌, ◌++◌, length, take, get_or, ◌==◌, Bool, true, false, eqb-true, nat_lt, ◌≤◌, replicate, arith}
use Rattle.std.specs.Prelude.{Contains}
use Rattle.std.specs.List.{AllByRecursion}
use Rattle.std.proofs.lemmas.Bool.{eqb-false, ltb-true, ltb-false}
use Rattle.std.proofs.lemmas.List.{take_more}
use Rattle.std.proofs.lemmas.List.Elements.{Contains-append_left, Contains-push, Contains-push_cases}
use Rattle.cpn_numbers.specs.NumberLists.{numbers_at, with_number, AreWithEach}
use Rattle.cpn_numbers.proofs.ListedNumbers.{in_with_number, as_many_with, none_in_empty}

-- with none
pub with_none : (n : ℕ) (lists : List (List ℕ)) → AreWithEach [] n lists lists
with_none n lists = record { as_many = refl; exact = λ k m. (λ h. inl h, λ h. elim h [ inl old ↦ old | inr new ↦ absurd (omega (arith, new.0.1)) ]) }

-- with one more of them
pub with_one_more : (ks : List ℕ) (k n : ℕ) (old now : List (List ℕ)) → AreWithEach ks n old now → k < length old → AreWithEach (ks ++ k ∷ []) n old (with_number k n now)
with_one_more ks k n old now are there = record {
  as_many = as_many_with k n now ∙ are.as_many;
  exact = λ j m.
      (let step = in_with_number k n now j m (subst (λ long. k < long) (sym are.as_many) there) in
      let before = are.exact j m in (
        λ h. elim (step.0 h) [
          | inl so_far ↦ elim (before.0 so_far) [ inl was ↦ inl was | inr each ↦ inr (Contains-append_left ks (k ∷ []) j each.0, each.1) ]
          | inr this ↦ inr (subst (Contains (ks ++ k ∷ [])) (sym this.0) (Contains-push ks k), this.1)
        ],
        λ h. step.1 (elim h [
          | inl was ↦ inl (before.1 (inl was))
          | inr each ↦ elim (Contains-push_cases ks k j each.0) [ inl earlier ↦ inl (before.1 (inr (earlier, each.1))) | inr last ↦ inr (sym last, each.1) ]
        ]),
      ));
}

-- Turned so far: of the first lists.
pub record AreTurned (lists : List (List ℕ)) (i : ℕ) (turned : List (List ℕ)) : Type 0 where
  pub exact : (list number : ℕ) → Contains (numbers_at turned number) list ↔ ((list < i) × Contains (numbers_at lists list) number)

pub turned_more : (lists : List (List ℕ)) (i : ℕ) (old new : List (List ℕ)) → AreTurned lists i old → AreWithEach (numbers_at lists i) i old new → AreTurned lists (i + 1) new
turned_more lists i old new are with = record {
  exact = λ list number.
      (let step = with.exact number list in
      let before = are.exact list number in (
        λ h. elim (step.0 h) [
          | inl so_far ↦ (let there = before.0 so_far in (omega (arith, there.0), there.1))
          | inr this ↦ (omega (arith, this.1), subst (λ k. Contains (numbers_at lists k) number) (sym this.1) this.0)
        ],
        λ h. step.1 (elim (below_or_same list i h.0) [ inl lt ↦ inl (before.1 (lt, h.1)) | inr same ↦ inr (subst (λ k. Contains (numbers_at lists k) number) same h.1, same) ]),
      ));
}
  where
    below_or_same : (list i : ℕ) → list < i + 1 → (list < i) ⊎ (list ≡ i)
    below_or_same list i lt = by (list == i) refl
      where
        by : (b : Bool) → (list == i) ≡ b → (list < i) ⊎ (list ≡ i)
        by true e = inr (eqb-true list i e)
        by false e = let differ = eqb-false list i e in inl (omega (arith, lt, differ))

-- none are turned
pub turned_none : (count : ℕ) (lists turned : List (List ℕ)) → turned ≡ replicate count [] → AreTurned lists 0 turned
turned_none count lists turned are = record {
  exact = λ list number. (
    λ h. absurd (none_in_empty count number list (subst (λ xs. Contains (numbers_at xs number) list) are h)),
    λ h. (let lt = h.0 in absurd (omega (arith, lt))),
  );
}

-- all numbers of a list are below the count
pub below_at : (lists : List (List ℕ)) (i count : ℕ) → AllByRecursion (λ (numbers : List ℕ). AllByRecursion (λ (k : ℕ). k < count) numbers) lists → i < length lists → AllByRecursion (λ (k : ℕ). k < count) (numbers_at lists i)
below_at [] i count all lt = absurd (omega arith)
below_at (xs ∷ lists) zero count all lt = all.0
below_at (xs ∷ lists) (suc i) count all lt = below_at lists i count all.1 (omega arith)

-- past the last list there is no number
none_past : (lists : List (List ℕ)) (i number : ℕ) → length lists ≤ i → Contains (numbers_at lists i) number → ⊥
none_past [] i number past h = omega (arith, h.1)
none_past (xs ∷ lists) zero number past h = omega arith
none_past (xs ∷ lists) (suc i) number past h = none_past lists i number (omega arith) h

-- where all are turned, a list is among those of a number just where it has the number
pub turned_whole : (lists : List (List ℕ)) (i : ℕ) (turned : List (List ℕ)) → length lists ≤ i → AreTurned lists i turned → (list number : ℕ) → Contains (numbers_at turned number) list ↔ Contains (numbers_at lists list) number
turned_whole lists i turned all are list number = (λ h. ((are.exact list number).0 h).1, λ h. (are.exact list number).1 (by (nat_lt list (length lists)) refl h, h))
  where
    by : (b : Bool) → nat_lt list (length lists) ≡ b → Contains (numbers_at lists list) number → list < i
    by true e h = let lt = ltb-true list (length lists) e in omega (arith, lt, all)
    by false e h = absurd (none_past lists list number (ltb-false list (length lists) e) h)
