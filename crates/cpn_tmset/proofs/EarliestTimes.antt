-- The earliest time at which needs are covered: the largest of the stamps at their ranks, each less the need's offset.
use Rattle.std.proofs.Common.{◌≡◌, ℕ, zero, suc, ◌+◌, ◌-◌, ◌≤◌, max, false, ◌&&◌, nat_le, List, [], ◌∷◌, ◌++◌, length, take, drop, Some, None, refl, sym, ap, ap₂, append_assoc, append-nil, subst, ◌∙◌, arith, Ordering, is_gt}
use Rattle.std.specs.List.{AllByRecursion, slice_get}
use Rattle.std.proofs.Math.Bool.{and-false}
use Rattle.std.proofs.lemmas.Bool.Decides.{nat_tests}
use Rattle.cpn_definitions.specs.Lists.{IsInOrder}
use Rattle.cpn_definitions.specs.Marking.{Marking, tokens_at, stamps}
use Rattle.cpn_definitions.specs.Occurrence.{Needed, needed_cmp, threshold, are_covered}
use Rattle.cpn_tmset.specs.NeedPositions.{IsStartOfNeed}
use Rattle.cpn_tmset.proofs.Thresholds.{rank, is_met, meets, covered_more}
use Rattle.cpn_tmset.proofs.Ranks.{within, rank_is}

-- needs are covered from a time on, and not before it
abbrev pub AreCoveredFrom : Marking → List Needed → ℕ → Type 0
AreCoveredFrom m needs first = (t : ℕ) → are_covered (threshold t) m needs ≡ nat_le first t

-- what holds of one item behind another holds of it wherever it stands behind
of_one : {X : Type 0} (P : X → Type 0) (xs : List X) (x : X) (ys : List X) → AllByRecursion P (xs ++ x ∷ ys) → P x
of_one P [] x ys all = all.0
of_one P (u ∷ xs) x ys all = of_one P xs x ys all.1

-- in order, none of those ahead of an item comes after it
pub none_after : {X : Type 0} (c : X → X → Ordering) (xs : List X) (x : X) (ys : List X) → IsInOrder c (xs ++ x ∷ ys) → AllByRecursion (λ u. is_gt (c u x) ≡ false) xs
none_after c [] x ys ordered = tt
none_after c (u ∷ xs) x ys ordered = (of_one (λ y. is_gt (c u y) ≡ false) xs x ys ordered.0, none_after c xs x ys ordered.1)

module _ (m : Marking) where
  -- one need more, with the stamp at its rank
  pub from_then : (xs : List Needed) (x : Needed) (first stamp : ℕ) → AllByRecursion (λ u. is_gt (needed_cmp u x) ≡ false) xs → AreCoveredFrom m xs first → slice_get (stamps x.value (tokens_at m x.place)) (rank xs x) ≡ Some stamp
      → AreCoveredFrom m (xs ++ x ∷ []) (max first (stamp - x.offset))
  from_then xs x first stamp last from at =
      λ t. covered_more m t xs x last ∙ ap₂ (λ a b. a && b) (from t) (ap (meets (threshold t x)) at) ∙ later t
    where
      later : (t : ℕ) → (nat_le first t && nat_le stamp (t + x.offset)) ≡ nat_le (max first (stamp - x.offset)) t
      later t = grind (arith, nat_tests)

  -- where some of the needs in order are not covered, all are not
  pub more_uncovered : (t : ℕ) (xs ys : List Needed) → IsInOrder needed_cmp (xs ++ ys) → are_covered (threshold t) m xs ≡ false → are_covered (threshold t) m (xs ++ ys) ≡ false
  more_uncovered t xs [] ordered not = subst (λ zs. are_covered (threshold t) m zs ≡ false) (sym (append-nil xs)) not
  more_uncovered t xs (y ∷ ys) ordered not =
      let same : (xs ++ y ∷ []) ++ ys ≡ xs ++ y ∷ ys = append_assoc xs (y ∷ []) ys in
      subst (λ zs. are_covered (threshold t) m zs ≡ false) same
      (more_uncovered t (xs ++ y ∷ []) ys (subst (IsInOrder needed_cmp) (sym same) ordered)
      (covered_more m t xs y (none_after needed_cmp xs y ys ordered) ∙ ap (λ b. b && is_met m t xs y) not))

  -- where there is no stamp at a need's rank, the needs are covered at no time
  pub never : (xs : List Needed) (x : Needed) (ys : List Needed) → IsInOrder needed_cmp (xs ++ x ∷ ys) → slice_get (stamps x.value (tokens_at m x.place)) (rank xs x) ≡ None → (t : ℕ) → are_covered (threshold t) m (xs ++ x ∷ ys) ≡ false
  never xs x ys ordered none t =
      let same : (xs ++ x ∷ []) ++ ys ≡ xs ++ x ∷ ys = append_assoc xs (x ∷ []) ys in
      subst (λ zs. are_covered (threshold t) m zs ≡ false) same
      (more_uncovered t (xs ++ x ∷ []) ys (subst (IsInOrder needed_cmp) (sym same) ordered)
      (covered_more m t xs x (none_after needed_cmp xs x ys ordered) ∙ ap (λ o. are_covered (threshold t) m xs && meets (threshold t x) o) none ∙ and-false (are_covered (threshold t) m xs)))

-- ---- one turn after another

split_at : {X : Type 0} (xs : List X) (i : ℕ) (x : X) → slice_get xs i ≡ Some x → (xs ≡ take i xs ++ x ∷ drop (suc i) xs) × (length (take i xs) ≡ i) × (take (i + 1) xs ≡ take i xs ++ x ∷ [])
split_at [] i x at = cc
split_at (y ∷ ys) zero x at = let same : y ≡ x = cc in (ap (λ z. z ∷ ys) same, refl, ap (λ z. z ∷ []) same)
split_at (y ∷ ys) (suc i) x at =
    let rest = split_at ys i x at in
    let next : suc i + 1 ≡ suc (i + 1) = omega arith in
    (ap (λ zs. y ∷ zs) rest.0, ap (λ (n : ℕ). suc n) rest.1, ap (λ n. take n (y ∷ ys)) next ∙ ap (λ zs. y ∷ zs) rest.2)

module _ (m : Marking) where
  module _ (needs : List Needed) (ordered : IsInOrder needed_cmp needs) (index : ℕ) (need : Needed) (at : slice_get needs index ≡ Some need) (first : ℕ) (start : IsStartOfNeed need needs first) where
    parts : needs ≡ take index needs ++ need ∷ drop (suc index) needs
    parts = (split_at needs index need at).0

    as_long : length (take index needs) ≡ index
    as_long = (split_at needs index need at).1

    last : AllByRecursion (λ u. is_gt (needed_cmp u need) ≡ false) (take index needs)
    last = none_after needed_cmp (take index needs) need (drop (suc index) needs) (subst (IsInOrder needed_cmp) parts ordered)

    start' : IsStartOfNeed need (take index needs ++ need ∷ drop (suc index) needs) first
    start' = subst (λ ns. IsStartOfNeed need ns first) parts start

    -- the first need for the same value on the same place does not stand behind it
    pub first_within : first ≤ index
    first_within = let le = within (take index needs) need (drop (suc index) needs) first start' in omega (arith, le, as_long)

    rank_there : rank (take index needs) need ≡ index - first
    rank_there = rank_is (take index needs) need (drop (suc index) needs) first start' last ∙ ap (λ n. n - first) as_long

    pub met : (earliest stamp : ℕ) → AreCoveredFrom m (take index needs) earliest → slice_get (stamps need.value (tokens_at m need.place)) (index - first) ≡ Some stamp → AreCoveredFrom m (take (index + 1) needs) (max earliest (stamp - need.offset))
    met earliest stamp from there =
        subst (λ ns. AreCoveredFrom m ns (max earliest (stamp - need.offset))) (sym (split_at needs index need at).2)
        (from_then m (take index needs) need earliest stamp last from (ap (slice_get (stamps need.value (tokens_at m need.place))) rank_there ∙ there))

    pub unmet : slice_get (stamps need.value (tokens_at m need.place)) (index - first) ≡ None → (t : ℕ) → are_covered (threshold t) m needs ≡ false
    unmet there t =
        subst (λ ns. are_covered (threshold t) m ns ≡ false) (sym parts)
        (never m (take index needs) need (drop (suc index) needs) (subst (IsInOrder needed_cmp) parts ordered) (ap (slice_get (stamps need.value (tokens_at m need.place))) rank_there ∙ there) t)
