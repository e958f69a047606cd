-- What is checked so far, in front of or around what the rules say of the rest, is what they say of all. The check ends, since
-- it goes down the tree; among calls at one depth each has a lower rank than its caller.
use Rattle.std.proofs.Common.{◌≡◌, ◌+◌, ◌*◌, ◌≤◌, max, map, drop, take, length, option_map, ◌-◌}
use Rattle.cpn_trees.specs.AstViews.{local_view, locals_from, arms_from, ast_view}
use Rattle.cpn_core.specs.Inscriptions.{expr_view}
use Rattle.cpn_typing.specs.Expressions.{typed_let, typed_arms, typed_items, typed_parts}
use Rattle.cpn_declared.specs.DeclsViews.{decls_view}
use Rattle.cpn_forms.specs.ScopeViews.{scope_view}
use Rattle.cpn_forms.specs.ContextViews.{context_view}
use Rattle.cpn_forms.specs.FormViews.{wanted_view}
use Rattle.cpn_types.specs.Around.{typed_then}
use Rattle.cpn_types.proofs.ValueFronts.{around_rest}
use Rattle.cpn_declared.specs.TypeViews.{ty_view, tys_view}
use Rattle.cpn_types.proofs.ArmFronts.{before_arms}
use Rattle.cpn_trees.specs.Trees.{asts_from}
use Rattle.cpn_types.proofs.Fronts.{before_items, before_parts}
use Rattle.cpn_trees.specs.AstViews as trees
use Rattle.cpn_core.specs.Inscriptions as inscriptions
use denote.Param.Weighed.{most}
use Rattle.cpn_trees.specs.declared.trees.Ast.{size-Ast}
use Rattle.cpn_trees.specs.declared.trees.Arm.{size-Arm}
use Rattle.cpn_trees.specs.declared.trees.Form.{size-Form}
use Rattle.cpn_trees.specs.declared.trees.LocalValue.{size-LocalValue}
use Rattle.cpn_types.proofs.surroundings.Surroundings.+check.Given as goal

abbrev pub invariant-among_values-loop-local : goal.invariant-among_values-loop-local
invariant-among_values-loop-local l = record {
  all : around_rest (map expr_view l.exprs.items) (typed_let (decls_view l.self.decls.now) (context_view l.self.context) (locals_from (map local_view (drop l.local-index l.values))) (scope_view l.scope.items) (typed_then l.self l.body (wanted_view l.fn.wanted)))
      ≡ typed_let (decls_view l.self.decls.now) (context_view l.self.context) (locals_from (map local_view l.values)) (scope_view l.fn.scope.items) (typed_then l.self l.body (wanted_view l.fn.wanted));
  further : length l.fn.scope.items ≤ length l.scope.items;
  outer : take (length l.fn.scope.items) l.scope.items ≡ l.fn.scope.items;
}

abbrev pub invariant-arms-loop-arm : goal.invariant-arms-loop-arm
invariant-arms-loop-arm l = record {
  all : before_arms (map inscriptions.arm_view l.typed_arms.items) (typed_arms (decls_view l.self.decls.now) (context_view l.self.context) (arms_from (map trees.arm_view (drop l.arm-index l.arms))) (scope_view l.fn.scope.items) (ty_view l.subject) (option_map ty_view l.ty))
      ≡ typed_arms (decls_view l.self.decls.now) (context_view l.self.context) (arms_from (map trees.arm_view l.arms)) (scope_view l.fn.scope.items) (ty_view l.subject) (wanted_view l.fn.wanted);
  locals : l.scope.items ≡ l.fn.scope.items;
}

abbrev pub invariant-items-loop-tree : goal.invariant-items-loop-tree
invariant-items-loop-tree l = record {
  all : before_items (map expr_view l.exprs.items) (typed_items (decls_view l.self.decls.now) (context_view l.self.context) (asts_from (map ast_view (drop l.tree-index l.items))) (scope_view l.fn.scope.items) (option_map ty_view l.ty))
      ≡ typed_items (decls_view l.self.decls.now) (context_view l.self.context) (asts_from (map ast_view l.items)) (scope_view l.fn.scope.items) (wanted_view l.fn.wanted);
  locals : l.scope.items ≡ l.fn.scope.items;
}

abbrev pub invariant-parts-loop-index : goal.invariant-parts-loop-index
invariant-parts-loop-index l = record {
  behind : l.from ≤ l.index;
  all : before_parts (map expr_view l.exprs.items) (map ty_view l.types.items) (typed_parts (decls_view l.self.decls.now) (context_view l.self.context) (asts_from (map ast_view (drop l.index l.parts))) (scope_view l.fn.scope.items) (tys_view (drop (l.index - l.from) l.wanted)))
      ≡ typed_parts (decls_view l.self.decls.now) (context_view l.self.context) (asts_from (map ast_view (drop l.from l.parts))) (scope_view l.fn.scope.items) (tys_view l.wanted);
  locals : l.scope.items ≡ l.fn.scope.items;
}

abbrev pub decreases-typed : goal.decreases-typed
decreases-typed l = 4 * size-Ast l.tree.now

abbrev pub decreases-form : goal.decreases-form
decreases-form l = 4 * size-Form l.form.now

abbrev pub decreases-parts : goal.decreases-parts
decreases-parts l = 4 * most size-Ast l.parts.now + 1

abbrev pub decreases-items : goal.decreases-items
decreases-items l = 4 * most size-Ast l.items.now + 1

abbrev pub decreases-prefix : goal.decreases-prefix
decreases-prefix l = 4 * size-Ast l.operand.now + 1

abbrev pub decreases-infix : goal.decreases-infix
decreases-infix l = 4 * max (size-Ast l.left.now) (size-Ast l.right.now) + 2

abbrev pub decreases-operands : goal.decreases-operands
decreases-operands l = 4 * max (size-Ast l.former.now) (size-Ast l.latter.now) + 1

abbrev pub decreases-branches : goal.decreases-branches
decreases-branches l = 4 * max (size-Ast l.condition.now) (max (size-Ast l.left.now) (size-Ast l.right.now)) + 2

abbrev pub decreases-sides : goal.decreases-sides
decreases-sides l = 4 * max (size-Ast l.left.now) (size-Ast l.right.now) + 1

abbrev pub decreases-case : goal.decreases-case
decreases-case l = 4 * max (size-Ast l.subject.now) (most size-Arm l.arms.now) + 2

abbrev pub decreases-arms : goal.decreases-arms
decreases-arms l = 4 * most size-Arm l.arms.now + 1

abbrev pub decreases-inside : goal.decreases-inside
decreases-inside l = 4 * size-Ast l.tree.now + 1

abbrev pub decreases-with_values : goal.decreases-with_values
decreases-with_values l = 4 * max (most size-LocalValue l.values.now) (size-Ast l.body.now) + 2

abbrev pub decreases-among_values : goal.decreases-among_values
decreases-among_values l = 4 * max (most size-LocalValue l.values.now) (size-Ast l.body.now) + 1

abbrev pub decreases-fold : goal.decreases-fold
decreases-fold l = 4 * max (size-Ast l.list.now) (max (size-Ast l.start.now) (size-Ast l.body.now)) + 3

abbrev pub decreases-fold_body : goal.decreases-fold_body
decreases-fold_body l = 4 * size-Ast l.body.now + 2

abbrev pub decreases-call : goal.decreases-call
decreases-call l = 4 * most size-Ast l.arguments.now.items + 3

abbrev pub decreases-predeclared : goal.decreases-predeclared
decreases-predeclared l = 4 * most size-Ast l.arguments.now.items + 2

abbrev pub decreases-argument : goal.decreases-argument
decreases-argument l = 4 * most size-Ast l.arguments.now.items + 2
