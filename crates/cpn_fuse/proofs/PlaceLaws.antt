-- Laws of the numbers of places: each is below their count, and no two places have the same.
use Rattle.std.proofs.Common.{◌≡◌, ℕ, ◌+◌, ◌<◌, ◌≤◌, List, length, take, ap, inl, inr, arith}
use Rattle.std.proofs.lemmas.Bool.{cases_order}
use Rattle.std.proofs.lemmas.List.{take-take}
use Rattle.std.proofs.lemmas.List.Sums.{sum_by-take-le}
use Rattle.cpn_module.specs.Hierarchy.{PlainHierarchy, places_in, structure_at}
use Rattle.cpn_fuse.specs.Instances.{PlainInstance, instance_at}
use Rattle.cpn_fuse.specs.PlaceInstances.{place_count, first_place, place_number}
use Rattle.cpn_fuse.proofs.PlaceCounts.{sum_to, sum_to_is, sum_to_more, sum_to_le}

module _ (f : PlainInstance → ℕ) (is : List PlainInstance) where
  -- the sum over more instances is no less
  pub sum_to_rises : (i j : ℕ) → i ≤ j → sum_to f is i ≤ sum_to f is j
  sum_to_rises i j le = rw (sum_to_is f is i, sum_to_is f is j) (rw (take-take i j is le) at (sum_by-take-le f (take j is) i))

module _ (h : PlainHierarchy) (is : List PlainInstance) where
  abbrev places : PlainInstance → ℕ
  places x = places_in (structure_at h x.of_module)

  -- the places of an instance
  abbrev pub IsPlace : ℕ → ℕ → Type 0
  IsPlace i p = (i < length is) × (p < places_in (structure_at h (instance_at is i).of_module))

  -- each number is before the first place of a later instance
  before_later : (i p j : ℕ) → IsPlace i p → i < j → place_number h is i p < first_place h is j
  before_later i p j place lt =
      let more : first_place h is (i + 1) ≡ first_place h is i + places (instance_at is i) = sum_to_more places is i place.0 in
      let le : first_place h is (i + 1) ≤ first_place h is j = sum_to_rises places is (i + 1) j (omega arith) in
      omega (arith, more, le, place.1)

  -- each is below the count
  pub number_below : (i p : ℕ) → IsPlace i p → place_number h is i p < place_count h is
  number_below i p place =
      let le : first_place h is (i + 1) ≤ place_count h is = sum_to_le places is (i + 1) in
      omega (arith, le, before_later i p (i + 1) place (omega arith))

  -- no two places have one number
  pub numbers_apart : (i p j q : ℕ) → IsPlace i p → IsPlace j q → place_number h is i p ≡ place_number h is j q → (i ≡ j) × (p ≡ q)
  numbers_apart i p j q one other e =
      elim (cases_order i j) [
        | inl same ↦ (same, let firsts : first_place h is i ≡ first_place h is j = ap (first_place h is) same in omega (arith, firsts, e))
        | inr apart ↦ elim apart [
          | inl less ↦ absurd (omega (arith, e, before_later i p j one less))
          | inr more ↦ absurd (omega (arith, e, before_later j q i other more))
        ]
      ]
