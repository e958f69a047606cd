-- The types are the same exactly where those that are left are.
use Rattle.std.proofs.Common.{◌≡◌, drop}
use Rattle.cpn_typing.specs.Types.{same_types}
use Rattle.cpn_declared.specs.TypeViews.{tys_view}
use Rattle.cpn_declared.proofs.types.+same.Given as goal

abbrev pub invariant-same_types-loop-i : goal.invariant-same_types-loop-i
invariant-same_types-loop-i l =
    same_types (tys_view l.left.items) (tys_view l.right.items) ≡ same_types (tys_view (drop l.i l.left.items)) (tys_view (drop l.i l.right.items))
