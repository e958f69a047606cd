-- The values so far are the first constants.
use Rattle.std.proofs.Common.{◌≡◌, map}
use Rattle.cpn_core.specs.Views.{value_view}
use Rattle.cpn_core.specs.ShapeValues.{constants}
use Rattle.cpn_core.proofs.small.constants_below.Given as goal

abbrev pub invariant-loop-k : goal.invariant-loop-k
invariant-loop-k l = map value_view l.values.items ≡ constants l.k
