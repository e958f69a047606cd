-- The numbers so far.
use Rattle.std.proofs.Common.{ℕ, ◌<◌, ◌↔◌}
use Rattle.std.specs.Prelude.{Contains}
use Rattle.cpn_monitor.proofs.measuring.numbers_below.Given as goal

abbrev pub invariant-loop-number : goal.invariant-loop-number
invariant-loop-number l = (k : ℕ) → Contains l.numbers.items k ↔ (k < l.number)
