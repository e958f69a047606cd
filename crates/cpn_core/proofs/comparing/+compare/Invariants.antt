-- The rows compare as their rests do.
use Rattle.std.proofs.Common.{◌≡◌, drop}
use Rattle.cpn_definitions.specs.Order.{values_cmp}
use Rattle.cpn_core.specs.Views.{values_view}
use Rattle.cpn_core.proofs.comparing.+compare.Given as goal

abbrev pub invariant-compare_each-loop-i : goal.invariant-compare_each-loop-i
invariant-compare_each-loop-i l =
    values_cmp (values_view l.left.items) (values_view l.right.items) ≡ values_cmp (values_view (drop l.i l.left.items)) (values_view (drop l.i l.right.items))
