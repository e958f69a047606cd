-- Where an item is added to a list in order.
use Rattle.std.specs.Prelude.{◌≡◌, ℕ, true, false, List}
use Rattle.std.specs.List.Sorted.{IsPartitionPoint}
use Rattle.std.specs.declared.cmp.Ordering.{Ordering}
use Rattle.std.specs.Ordering.{is_lt}

-- the index of an item: it comes before none of the items below the index, and before each from the index on
abbrev pub IsInsertIndex : {X : Type 0} → (X → X → Ordering) → X → List X → ℕ → Type 0
IsInsertIndex c x xs = IsPartitionPoint (λ y. is_lt (c x y) ≡ false) (λ y. is_lt (c x y) ≡ true) xs
