-- What instances have, one instance after another: how many, which is at a number, and what holds of each.
use Rattle.std.proofs.Common.{◌≡◌, ◌⊎◌, ℕ, zero, suc, ◌+◌, ◌-◌, ◌<◌, ◌≤◌, List, [], ◌∷◌, ◌++◌, length, take, get_or, map, sum, refl, sym, ap, ap₂, ◌∙◌, subst, inl, inr, arith}
use Rattle.std.specs.List.{AllByRecursion}
use Rattle.std.proofs.lemmas.Bool.{cases_lt}
use Rattle.std.proofs.lemmas.List.{length-append, length-map, get_or-map, get_or_append_left, get_or-append-add}
use Rattle.std.proofs.lemmas.List.Sums.{sum_by-cons, sum_by_more_le}
use Rattle.cpn_definitions.proofs.RisingLists.{each_appended}
use Rattle.cpn_fuse.specs.Instances.{PlainInstance, no_instance, instance_at}
use Rattle.cpn_flat.specs.FlatNet.{each_instance}

sum-cons : (n : ℕ) (ns : List ℕ) → sum (n ∷ ns) ≡ n + sum ns
sum-cons n ns = sum_by-cons (λ m. m) n ns

-- a number among those of the instance of number j is one of all
pub number_below : (count : PlainInstance → ℕ) (is : List PlainInstance) (j p : ℕ) → j < length is → p < count (instance_at is j) → sum (take j (map count is)) + p < sum (map count is)
number_below count is j p lt in_x =
    let counted : j < length (map count is) = let e = length-map is count in omega (arith, e) in
    let its : get_or (map count is) j 0 ≡ count (instance_at is j) = get_or-map count is j no_instance 0 lt in
    let within : sum (take j (map count is)) + get_or (map count is) j 0 ≤ sum (map count is) = sum_by_more_le (λ (n : ℕ). n) (map count is) j 0 counted in
    omega (arith, its, within)

-- each number is that of something that an instance has
pub instance_with : (count : PlainInstance → ℕ) (is : List PlainInstance) (k : ℕ) → k < sum (map count is) → (j : ℕ) × (p : ℕ) × (j < length is) × (p < count (instance_at is j)) × (k ≡ sum (take j (map count is)) + p)
instance_with count [] k lt = absurd (omega arith)
instance_with count (x ∷ xs) k lt = split (cases_lt k (count x)) (instance_with count xs (k - count x))
  where
    split
        : (k < count x) ⊎ (count x ≤ k)
        → (k - count x < sum (map count xs) → (j : ℕ) × (p : ℕ) × (j < length xs) × (p < count (instance_at xs j)) × (k - count x ≡ sum (take j (map count xs)) + p))
        → (j : ℕ) × (p : ℕ) × (j < length (x ∷ xs)) × (p < count (instance_at (x ∷ xs) j)) × (k ≡ sum (take j (map count (x ∷ xs))) + p)
    split (inl front) rest = (0, k, omega arith, front, omega arith)
    split (inr past) rest =
        let found = rest (let all = sum-cons (count x) (map count xs) in omega (arith, lt, all)) in
        let lt_rest = found.2 in
        let number = found.4 in
        let behind = sum-cons (count x) (take found.0 (map count xs)) in
        (suc found.0, found.1, omega (arith, lt_rest), found.3, omega (arith, number, behind))

module _ {A : Type 0} (has : ℕ → PlainInstance → List A) where
  -- each instance, whatever its number, has as many as are counted
  abbrev pub HaveAsMany : (PlainInstance → ℕ) → List PlainInstance → Type 0
  HaveAsMany count is = AllByRecursion (λ x. (i : ℕ) → length (has i x) ≡ count x) is

  -- how many there are
  pub length-each : (count : PlainInstance → ℕ) (i : ℕ) (is : List PlainInstance) → HaveAsMany count is → length (each_instance has i is) ≡ sum (map count is)
  unfolding each_instance
  length-each count i [] each = refl
  length-each count i (x ∷ xs) each =
      length-append (has i x) (each_instance has (suc i) xs) ∙ ap₂ (λ (m n : ℕ). m + n) (each.0 i) (length-each count (suc i) xs each.1) ∙ sym (sum-cons (count x) (map count xs))

  -- which is at a number
  pub at_number : (count : PlainInstance → ℕ) (i : ℕ) (is : List PlainInstance) (j p : ℕ) (d : A) → HaveAsMany count is → j < length is → p < count (instance_at is j)
      → get_or (each_instance has i is) (sum (take j (map count is)) + p) d ≡ get_or (has (i + j) (instance_at is j)) p d
  unfolding each_instance
  at_number count i [] j p d each lt in_x = absurd (omega arith)
  at_number count i (x ∷ xs) zero p d each lt in_x =
      let many : length (has i x) ≡ count x = each.0 i in
      let front : p < length (has i x) = omega arith in
      let index : 0 + p ≡ p = omega arith in
      let number : i ≡ i + 0 = omega arith in
      ap (λ k. get_or (has i x ++ each_instance has (suc i) xs) k d) index ∙ get_or_append_left (has i x) (each_instance has (suc i) xs) d p front ∙ ap (λ k. get_or (has k x) p d) number
  at_number count i (x ∷ xs) (suc j) p d each lt in_x =
      let many : length (has i x) ≡ count x = each.0 i in
      let behind = sum-cons (count x) (take j (map count xs)) in
      let index : sum (count x ∷ take j (map count xs)) + p ≡ length (has i x) + (sum (take j (map count xs)) + p) = omega (arith, many, behind) in
      let number : suc i + j ≡ i + suc j = omega arith in
      ap (λ k. get_or (has i x ++ each_instance has (suc i) xs) k d) index ∙ get_or-append-add (has i x) (each_instance has (suc i) xs) (sum (take j (map count xs)) + p) d
      ∙ at_number count (suc i) xs j p d each.1 (let e : j < length xs = omega (arith, lt) in e) in_x ∙ ap (λ k. get_or (has k (instance_at xs j)) p d) number

  -- what holds of each
  pub of_each : (P : A → Type 0) (i : ℕ) (is : List PlainInstance) → ((j : ℕ) → j < length is → AllByRecursion P (has (i + j) (instance_at is j))) → AllByRecursion P (each_instance has i is)
  unfolding each_instance
  of_each P i [] each = tt
  of_each P i (x ∷ xs) each = each_appended P (has i x) (each_instance has (suc i) xs) first (of_each P (suc i) xs rest)
    where
      first : AllByRecursion P (has i x)
      first = subst (λ k. AllByRecursion P (has k x)) (let e : i + 0 ≡ i = omega arith in e) (each 0 (omega arith))

      rest : (j : ℕ) → j < length xs → AllByRecursion P (has (suc i + j) (instance_at xs j))
      rest j lt = subst (λ k. AllByRecursion P (has k (instance_at xs j))) (let e : i + suc j ≡ suc i + j = omega arith in e) (each (suc j) (omega arith))
