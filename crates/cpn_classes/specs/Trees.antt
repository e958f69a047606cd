-- The trees in which the classes are found: each item's parent is itself, or an item before it.
use Rattle.std.specs.Prelude.{◌↔◌, ℕ, ◌<◌, ◌≤◌, List, length, slice_index}
use Rattle.std.specs.List.{enumerate_from}
use Rattle.cpn_classes.specs.Joined.{IsJoined}

abbrev pub AreTrees : List ℕ → Type 0
AreTrees parents = (i : ℕ) → i < length parents → slice_index parents i ≤ i

-- each item, with its parent
abbrev pub links : List ℕ → List (ℕ × ℕ)
links parents = enumerate_from 0 parents

-- the same numbers are joined by either
abbrev pub JoinTheSame : List (ℕ × ℕ) → List (ℕ × ℕ) → Type 0
JoinTheSame pairs others = (a b : ℕ) → IsJoined pairs a b ↔ IsJoined others a b
