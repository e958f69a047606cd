-- As deep as all the trees, above so many levels, are those that are left.
use Rattle.std.proofs.Common.{◌≡◌, max, map, drop}
use Rattle.cpn_trees.specs.AstViews.{ast_view, arm_view, arms_from, local_view, locals_from}
use Rattle.cpn_trees.specs.Depth.{deepest, deepest_arm, deepest_local}
use Rattle.cpn_trees.specs.Trees.{asts_from}
use Rattle.cpn_trees.proofs.depths.+depth.Given as goal

abbrev pub invariant-is_any_deeper-loop-tree : goal.invariant-is_any_deeper-loop-tree
invariant-is_any_deeper-loop-tree l =
    max l.most (deepest (asts_from (map ast_view (drop l.tree-index l.trees)))) ≡ max l.most (deepest (asts_from (map ast_view l.trees)))

abbrev pub invariant-is_arm_deeper-loop-arm : goal.invariant-is_arm_deeper-loop-arm
invariant-is_arm_deeper-loop-arm l =
    max l.most (deepest_arm (arms_from (map arm_view (drop l.arm-index l.arms)))) ≡ max l.most (deepest_arm (arms_from (map arm_view l.arms)))

abbrev pub invariant-is_value_deeper-loop-local : goal.invariant-is_value_deeper-loop-local
invariant-is_value_deeper-loop-local l =
    max l.most (deepest_local (locals_from (map local_view (drop l.local-index l.values)))) ≡ max l.most (deepest_local (locals_from (map local_view l.values)))
