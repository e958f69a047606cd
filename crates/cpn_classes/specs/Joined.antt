-- Joined numbers. Source: own choice.
use Rattle.std.specs.Prelude.{ℕ, List, Contains}

-- Two numbers are joined by pairs where a chain of pairs leads from one to the other: the least relation that has each pair and
-- is reflexive, symmetric and transitive.
pub data IsJoined (pairs : List (ℕ × ℕ)) : ℕ → ℕ → Type 0 where
  paired : (a b : ℕ) → Contains pairs (a, b) → IsJoined pairs a b
  itself : (a : ℕ) → IsJoined pairs a a
  turned : (a b : ℕ) → IsJoined pairs a b → IsJoined pairs b a
  through : (a b c : ℕ) → IsJoined pairs a b → IsJoined pairs b c → IsJoined pairs a c
