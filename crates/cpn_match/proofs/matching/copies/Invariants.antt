-- The copies so far stand for the values so far.
use Rattle.std.proofs.Common.{◌≡◌, map, take}
use Rattle.cpn_core.specs.Views.{value_view}
use Rattle.cpn_match.proofs.matching.copies.Given as goal

abbrev pub invariant-loop-value : goal.invariant-loop-value
invariant-loop-value l = map value_view l.copies.items ≡ map value_view (take l.value-index l.values)
