-- The monitors of the transition, and of the places so far.
use Rattle.std.proofs.Common.{ℕ, ◌⊎◌, ◌↔◌, take}
use Rattle.std.specs.Prelude.{Contains}
use Rattle.cpn_numbers.specs.NumberLists.{numbers_at}
use Rattle.cpn_monitor.proofs.measuring.Measuring.concerned.Given as goal

abbrev pub invariant-loop-place : goal.invariant-loop-place
invariant-loop-place l = (k : ℕ) → Contains l.numbers.items k ↔ (Contains (numbers_at l.self.watched.of_transition l.transition) k ⊎ ((p : ℕ) × Contains (take l.place-index (numbers_at l.self.beside l.transition)) p × Contains (numbers_at l.self.watched.of_place p) k))
