-- The values so far are the first integers.
use Rattle.std.proofs.Common.{◌≡◌, map}
use Rattle.cpn_core.specs.Views.{value_view}
use Rattle.cpn_core.specs.ShapeValues.{integers}
use Rattle.cpn_core.proofs.small.integers_between.Given as goal

abbrev pub invariant-loop-k : goal.invariant-loop-k
invariant-loop-k l = map value_view l.values.items ≡ integers l.low l.k
