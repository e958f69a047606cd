-- The parts and the arms so far, ahead of those of the rest, are all of them; the locals are as they were. The check ends, since
-- it goes down the tree; among calls at one depth each has a lower rank than its caller.
use Rattle.std.proofs.Common.{◌≡◌, ◌+◌, ◌*◌, max, map, drop}
use denote.Param.Weighed.{most}
use Rattle.cpn_core.specs.Inscriptions.{multiset_view, arc_arm_view}
use Rattle.cpn_trees.specs.Trees.{asts_from}
use Rattle.cpn_trees.specs.AstViews.{ast_view, arm_view, arms_from}
use Rattle.cpn_trees.specs.declared.trees.Ast.{size-Ast}
use Rattle.cpn_trees.specs.declared.trees.Arm.{size-Arm}
use Rattle.cpn_typing.specs.Multisets.{marked_each, marked_arms}
use Rattle.cpn_forms.specs.ScopeViews.{scope_view}
use Rattle.cpn_declared.specs.TypeViews.{ty_view}
use Rattle.cpn_types.specs.Sites.{site_view}
use Rattle.cpn_types.proofs.MarkedParts.{with_front, with_arms}
use Rattle.cpn_types.proofs.sites.Site.+multiset.Given as goal

abbrev pub invariant-parts-loop-tree : goal.invariant-parts-loop-tree
invariant-parts-loop-tree l = record {
  left : marked_each (site_view l.self) (asts_from (map ast_view l.trees)) (scope_view l.initial.scope.items)
      ≡ with_front (map multiset_view l.parts.items) (marked_each (site_view l.self) (asts_from (map ast_view (drop l.tree-index l.trees))) (scope_view l.initial.scope.items));
  locals : l.scope.items ≡ l.initial.scope.items;
}

abbrev pub invariant-arms-loop-arm : goal.invariant-arms-loop-arm
invariant-arms-loop-arm l = record {
  left : marked_arms (site_view l.self) (arms_from (map arm_view l.arms)) (scope_view l.initial.scope.items) (ty_view l.subject)
      ≡ with_arms (map arc_arm_view l.made.items) (marked_arms (site_view l.self) (arms_from (map arm_view (drop l.arm-index l.arms))) (scope_view l.initial.scope.items) (ty_view l.subject));
  locals : l.scope.items ≡ l.initial.scope.items;
}

abbrev pub decreases-tokens : goal.decreases-tokens
decreases-tokens l = 4 * size-Ast l.tree.now

abbrev pub decreases-boxed : goal.decreases-boxed
decreases-boxed l = 4 * size-Ast l.tree.now + 1

abbrev pub decreases-later : goal.decreases-later
decreases-later l = 4 * size-Ast l.tokens.now + 2

abbrev pub decreases-branches : goal.decreases-branches
decreases-branches l = 4 * max (size-Ast l.consequence.now) (size-Ast l.alternative.now) + 2

abbrev pub decreases-stamped : goal.decreases-stamped
decreases-stamped l = 4 * size-Ast l.tokens.now + 2

abbrev pub decreases-parts : goal.decreases-parts
decreases-parts l = 4 * most size-Ast l.trees.now + 1

abbrev pub decreases-arm : goal.decreases-arm
decreases-arm l = 4 * size-Arm l.arm.now

abbrev pub decreases-arms : goal.decreases-arms
decreases-arms l = 4 * most size-Arm l.arms.now + 1

abbrev pub decreases-case : goal.decreases-case
decreases-case l = 4 * most size-Arm l.arms.now + 2

abbrev pub decreases-with_values : goal.decreases-with_values
decreases-with_values l = 4 * size-Ast l.body.now + 1
