-- Sums over a part of a list: of rising numbers among those of a range, and of the two parts of a list.
use Rattle.std.proofs.Common.{◌≡◌, ℕ, zero, suc, ◌+◌, ◌<◌, ◌≤◌, List, [], ◌∷◌, ◌++◌, map, length, take, refl, subst, ⊎_elim, arith, Less, nat_cmp}
use Rattle.std.specs.List.{range_with_len, AllByRecursion}
use Rattle.std.proofs.lemmas.Bool.{cases_lt}
use Rattle.cpn_definitions.specs.Lists.{Rises}
use Rattle.cpn_definitions.specs.Net.{PlainNet}
use Rattle.cpn_definitions.proofs.NumberTests.{less_number}
use Rattle.cpn_definitions.proofs.RisingLists.{each_implied}
use Rattle.cpn_index.specs.UpdateWork.{IsSum, transitions_of}

module _ {A : Type 0} (Has : A → ℕ → Type 0) where
  -- the sum over two lists, one after the other, is that of both
  pub sums_joined : (xs ys : List A) (j k : ℕ) → IsSum Has xs j → IsSum Has ys k → IsSum Has (xs ++ ys) (j + k)
  sums_joined [] ys j k first second = subst (IsSum Has ys) (omega (arith, first)) second
  sums_joined (x ∷ xs) ys j k (own, later, has, rest, is) second = (own, later + k, has, sums_joined xs ys later k rest second, omega (arith, is))

  -- and back
  pub sums_parted : (xs ys : List A) (k : ℕ) → IsSum Has (xs ++ ys) k → (i j : ℕ) × IsSum Has xs i × IsSum Has ys j × (k ≡ i + j)
  sums_parted [] ys k sum = (0, k, refl, sum, omega arith)
  sums_parted (x ∷ xs) ys k (own, later, has, rest, is) = let parts = sums_parted xs ys later rest in (own + parts.0, parts.1, (own, parts.0, has, parts.2, refl), parts.3, let split = parts.4 in omega (arith, is, split))

module _ (Has : ℕ → ℕ → Type 0) where
  -- a sum over some of the numbers, at most k
  abbrev pub HasSumUpTo : List ℕ → ℕ → Type 0
  HasSumUpTo ts k = (j : ℕ) × IsSum Has ts j × (j ≤ k)

  -- rising numbers among those of a range have a sum, at most that of the range
  pub sum_of_some : (a len : ℕ) (ts : List ℕ) (k : ℕ) → IsSum Has (range_with_len a len) k → Rises nat_cmp ts → AllByRecursion (λ t. (a ≤ t) × (t < a + len)) ts → HasSumUpTo ts k
  sum_of_some a len [] k sum rising within = (0, refl, omega arith)
  sum_of_some a zero (t ∷ ts) k sum rising within = let least = within.0.0 in let most = within.0.1 in absurd (omega (arith, least, most))
  sum_of_some a (suc len) (t ∷ ts) k (own, later, has, rest, is) rising within =
      ⊎_elim (λ after. without after (sum_of_some (a + 1) len (t ∷ ts) later rest rising (later_ones (t ∷ ts) within (after, behind t ts (omega (arith, after)) rising.0))))
      (λ upto. with_it upto (sum_of_some (a + 1) len ts later rest rising.1 (later_ones ts within.1 (behind t ts within.0.0 rising.0)))) (cases_lt a t)
    where
      later_ones : (us : List ℕ) → AllByRecursion (λ u. (a ≤ u) × (u < a + suc len)) us → AllByRecursion (λ u. a < u) us → AllByRecursion (λ u. (a + 1 ≤ u) × (u < a + 1 + len)) us
      later_ones [] most above = tt
      later_ones (u ∷ us) most above = ((let lt = above.0 in omega (arith, lt), let lt = most.0.1 in omega (arith, lt)), later_ones us most.1 above.1)

      behind : (u : ℕ) (us : List ℕ) → a ≤ u → AllByRecursion (λ v. nat_cmp u v ≡ Less) us → AllByRecursion (λ v. a < v) us
      behind u us le all = each_implied (λ v. nat_cmp u v ≡ Less) (λ v. a < v) us (λ v less. let lt = less_number u v less in omega (arith, le, lt)) all

      without : a < t → HasSumUpTo (t ∷ ts) later → HasSumUpTo (t ∷ ts) k
      without after (j, sum, le) = (j, sum, omega (arith, le, is))

      with_it : t ≤ a → HasSumUpTo ts later → HasSumUpTo (t ∷ ts) k
      with_it upto (j, sum, le) =
          let least = within.0.0 in
          let same : a ≡ t = omega (arith, upto, least) in
          (own + j, (own, j, subst (λ (u : ℕ). Has u own) same has, sum, refl), omega (arith, le, is))

  -- and so among the transitions of a net
  pub sum_of_transitions : (n : PlainNet) (ts : List ℕ) (k : ℕ) → IsSum Has (transitions_of n) k → Rises nat_cmp ts → AllByRecursion (λ t. t < length n.transitions) ts → HasSumUpTo ts k
  sum_of_transitions n ts k sum rising within = sum_of_some 0 (length n.transitions) ts k sum rising (each_implied (λ t. t < length n.transitions) (λ t. (0 ≤ t) × (t < 0 + length n.transitions)) ts (λ t lt. (omega arith, omega (arith, lt))) within)

-- a sum over the first items is no greater
pub first_summed : {A B : Type 0} (Has : B → ℕ → Type 0) (f : A → B) (xs : List A) (i k : ℕ) → IsSum Has (map f xs) k → (j : ℕ) × IsSum Has (map f (take i xs)) j × (j ≤ k)
first_summed Has f xs zero k sum = (0, refl, omega arith)
first_summed Has f [] (suc i) k sum = (0, refl, omega arith)
first_summed Has f (x ∷ xs) (suc i) k (own, later, has, rest, is) =
    let first = first_summed Has f xs i later rest in
    let most = first.2 in
    (own + first.0, (own, first.0, has, first.1, refl), omega (arith, most, is))
