-- A set of numbers that are kept in the order in which they first came. Source: own choice.
use Rattle.std.specs.Prelude.{◌≡◌, ℕ, nat_eq, List}
use Rattle.std.specs.BTreeSet.{BTreeSet, contains}
use Rattle.std.specs.List.{IsDistinct}
use Rattle.std.specs.Ordering.{nat_cmp}
use Rattle.cpn_module.specs.Submodules.{is_among}

-- the set has the numbers of a list, and no others; in the list each is once
pub record IsSetOf (numbers : List ℕ) (set : BTreeSet ℕ) : Type 0 where
  pub same : (number : ℕ) → contains nat_cmp set number ≡ is_among number numbers
  pub once : IsDistinct nat_eq numbers
