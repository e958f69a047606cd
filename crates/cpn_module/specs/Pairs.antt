-- Pairs of numbers.
use Rattle.std.specs.Prelude.{ℕ, ◌==◌, Bool, ◌&&◌, List}
use Rattle.std.specs.List.{list_any}

-- whether two numbers are one of these pairs
abbrev pub has_pair : ℕ → ℕ → List (ℕ × ℕ) → Bool
has_pair a b pairs = list_any (λ pair. a == pair.0 && b == pair.1) pairs
