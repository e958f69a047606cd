-- Sums over instances, instance by instance.
use Rattle.std.proofs.Common.{◌≡◌, ℕ, ◌+◌, ◌-◌, ◌<◌, ◌≤◌, List, length, take, map, sum, sym, ap, ◌∙◌, arith}
use Rattle.std.proofs.lemmas.List.{take-map, take_all, length-map}
use Rattle.std.proofs.lemmas.List.Sums.{sum-map, sum_by_more, sum_by-take-le}
use Rattle.std.specs.List.{sum_by}
use Rattle.cpn_fuse.specs.Instances.{PlainInstance, instance_at, no_instance}

module _ (f : PlainInstance → ℕ) (is : List PlainInstance) where
  -- the sum over the first instances
  abbrev pub sum_to : ℕ → ℕ
  sum_to i = sum (take i (map f is))

  pub sum_to_is : (i : ℕ) → sum_to i ≡ sum_by f (take i is)
  sum_to_is i = rw (take-map f i is) (sum-map f (take i is))

  pub sum_to_more : (i : ℕ) → i < length is → sum_to (i + 1) ≡ sum_to i + f (instance_at is i)
  sum_to_more i lt = sum_to_is (i + 1) ∙ sum_by_more f is i no_instance lt ∙ ap (λ (n : ℕ). n + f (instance_at is i)) (sym (sum_to_is i))

  pub sum_to_le : (i : ℕ) → sum_to i ≤ sum (map f is)
  sum_to_le i = rw (sum_to_is i, sum-map f is) (sum_by-take-le f is i)

  pub sum_to_all : (i : ℕ) → length is ≤ i → sum_to i ≡ sum (map f is)
  sum_to_all i le = ap sum (take_all i (map f is) (rw (length-map is f) le))

  -- one instance more is counted
  pub counted_more : (i count here : ℕ) → i < length is → count ≡ sum_to i → f (instance_at is i) ≡ here → count + here ≡ sum_to (i + 1)
  counted_more i count here lt counted is_here = omega (arith, sum_to_more i lt, counted, is_here)

  -- with one instance more there are too many
  pub too_many : (i count here most : ℕ) → i < length is → count ≡ sum_to i → f (instance_at is i) ≡ here → count ≤ most → most - count < here → most < sum (map f is)
  too_many i count here most lt counted is_here few many = omega (arith, counted_more i count here lt counted is_here, sum_to_le (i + 1), few, many)
