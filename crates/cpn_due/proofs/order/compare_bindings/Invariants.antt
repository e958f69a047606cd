-- The bindings compare as what is left of them.
use Rattle.std.proofs.Common.{◌≡◌, drop}
use Rattle.cpn_definitions.specs.Enabled.{binding_cmp}
use Rattle.cpn_core.specs.Pairs.{pairs_view}
use Rattle.cpn_due.proofs.order.compare_bindings.Given as goal

abbrev pub invariant-loop-i : goal.invariant-loop-i
invariant-loop-i l = binding_cmp (pairs_view l.left) (pairs_view l.right) ≡ binding_cmp (pairs_view (drop l.i l.left)) (pairs_view (drop l.i l.right))
