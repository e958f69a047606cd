-- The copies so far stand for the values so far.
use Rattle.std.proofs.Common.{◌≡◌, map, take}
use Rattle.cpn_core.specs.Views.{value_view}
use Rattle.cpn_core.proofs.values.+copy.Given as goal

abbrev pub invariant-copy_each-loop-value : goal.invariant-copy_each-loop-value
invariant-copy_each-loop-value l = map value_view l.copies.items ≡ map value_view (take l.value-index l.value-items)
