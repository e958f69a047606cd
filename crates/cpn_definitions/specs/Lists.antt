-- Lists in the order of a comparison.
use Rattle.std.specs.Prelude.{◌≡◌, false, if◌then◌else◌, List, [], ◌∷◌}
use Rattle.std.specs.List.{AllByRecursion}
use Rattle.std.specs.declared.cmp.Ordering.{Ordering}
use Rattle.std.specs.declared.cmp.Ordering.TheVariants.{Less}
use Rattle.std.specs.Ordering.{is_lt, is_gt}

-- each item of the list comes before all that follow it
abbrev pub Rises : {X : Type 0} → (X → X → Ordering) → List X → Type 0
Rises c [] = Unit {0}
Rises c (x ∷ xs) = AllByRecursion (λ y. c x y ≡ Less) xs × Rises c xs

-- no item of the list comes after one that follows it
abbrev pub IsInOrder : {X : Type 0} → (X → X → Ordering) → List X → Type 0
IsInOrder c [] = Unit {0}
IsInOrder c (x ∷ xs) = AllByRecursion (λ y. is_gt (c x y) ≡ false) xs × IsInOrder c xs

-- a list in order with one item more, ahead of the first that it comes before
abbrev pub with_item : {X : Type 0} → (X → X → Ordering) → X → List X → List X
with_item c x [] = x ∷ []
with_item c x (y ∷ ys) = if is_lt (c x y) then x ∷ y ∷ ys else y ∷ with_item c x ys

-- a list in order with several items more
abbrev pub with_items : {X : Type 0} → (X → X → Ordering) → List X → List X → List X
with_items c [] ys = ys
with_items c (x ∷ xs) ys = with_items c xs (with_item c x ys)

-- the items of a list in their order
abbrev pub in_order : {X : Type 0} → (X → X → Ordering) → List X → List X
in_order c xs = with_items c xs []
