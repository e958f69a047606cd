-- A root between two trees.
use Rattle.std.specs.Prelude.{ℕ, ◌+◌, ◌≤◌, max, length, List, ◌∷◌, ◌++◌}
use Rattle.cpn_due.specs.Marked.{PlainMarked, PlainTree}

-- the items of a root between two sides, and how many they are
abbrev pub around : PlainTree → PlainMarked → PlainTree → List PlainMarked
around left root right = left.items ++ root ∷ right.items

abbrev pub count_around : PlainTree → PlainTree → ℕ
count_around left right = length left.items + 1 + length right.items

-- the height above two sides
abbrev pub above : PlainTree → PlainTree → ℕ
above left right = max left.height right.height + 1

-- neither is higher by more than this than the other
abbrev pub DifferByAtMost : ℕ → PlainTree → PlainTree → Type 0
DifferByAtMost by left right = (left.height ≤ right.height + by) × (right.height ≤ left.height + by)
