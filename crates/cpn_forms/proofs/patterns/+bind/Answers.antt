-- One more pattern in front of the rest; and nothing is left.
use Rattle.std.proofs.Common.{◌∙◌, refl, sym, ap, map, arith}
use Rattle.std.proofs.lemmas.Result.{err_from_is_err_and}
use Rattle.std.proofs.lemmas.Grind.{common_steps}
use Rattle.cpn_trees.specs.PatViews.{pat_view}
use Rattle.cpn_trees.specs.Trees.{pats_from}
use Rattle.cpn_typing.specs.PatternRules.{bound_by_parts, bound_by_items, applied_rule}
use Rattle.cpn_typing.specs.Names.{ok}
use Rattle.cpn_forms.specs.BoundViews.{around_view, bound_view, argument_in}
use Rattle.cpn_forms.specs.ScopeViews.{scope_view}
use Rattle.cpn_declared.specs.TypeViews.{ty_view, tys_view}
use Rattle.cpn_forms.proofs.PatternFronts.{applied_is, part_step, parts_done, parts_differ, item_step, items_done}
use Rattle.cpn_forms.proofs.PatternForms.{then_ok, then_refused, not_taken, passed_on, call_is, list_is, list_made, cons_is}
use Rattle.cpn_forms.proofs.patterns.+bind.Goals as goal

pub bind_parts-loop-i-preserved : goal.bind_parts-loop-i-preserved
bind_parts-loop-i-preserved t c =
    part_step (around_view c.args.decls.now c.args.scope.now) c.args.parts.now c.args.types.now c.loop-i.i c.args.at c.index-parts-i.result c.index-types-i.result c.loop-i.patterns.items c.push.new.self.items c.in_ok-pattern.pattern (scope_view c.loop-i.bound.items) (scope_view c.bind.new.bound.items)
    (bound_by_parts (around_view c.args.decls.now c.args.scope.now) (pats_from (map pat_view c.args.parts.now)) c.args.at (tys_view c.args.types.now) (scope_view c.args.bound.now.items))
    (grind (arith, common_steps)) (grind (arith, common_steps)) c.index-parts-i.is c.index-types-i.is c.in_ok-pattern.ensures.exact c.in_ok-push.ensures.items c.loop-i.invariant

pub bind_parts-returns-then-parts-types : goal.bind_parts-returns-then-parts-types
bind_parts-returns-then-parts-types t c = record {
  exact = sym c.loop-i.invariant
      ∙ parts_done (around_view c.args.decls.now c.args.scope.now) c.args.parts.now c.args.types.now c.loop-i.i c.args.at c.loop-i.patterns.items (scope_view c.loop-i.bound.items) (grind (arith, common_steps)) (grind (arith, common_steps));
}

pub bind_parts-returns : goal.bind_parts-returns
bind_parts-returns t c = record {
  exact = parts_differ (around_view c.args.decls.now c.args.scope.now) c.args.parts.now c.args.types.now c.loop-i.i c.args.at c.loop-i.patterns.items (scope_view c.loop-i.bound.items)
      (bound_by_parts (around_view c.args.decls.now c.args.scope.now) (pats_from (map pat_view c.args.parts.now)) c.args.at (tys_view c.args.types.now) (scope_view c.args.bound.now.items))
      (grind (arith, common_steps)) (λ h. omega arith) c.loop-i.invariant;
}

pub bind_items-loop-item-preserved : goal.bind_items-loop-item-preserved
bind_items-loop-item-preserved t c =
    item_step (around_view c.args.decls.now c.args.scope.now) c.args.items.now (ty_view c.args.ty.now) c.loop-item.item-index c.item-item.result c.loop-item.patterns.items c.push.new.self.items c.in_ok-pattern.pattern (scope_view c.loop-item.bound.items) (scope_view c.bind.new.bound.items)
    (bound_by_items (around_view c.args.decls.now c.args.scope.now) (pats_from (map pat_view c.args.items.now)) (ty_view c.args.ty.now) (scope_view c.args.bound.now.items))
    (omega arith) c.item-item.is c.in_ok-pattern.ensures.exact c.in_ok-push.ensures.items c.loop-item.invariant

pub bind_items-returns : goal.bind_items-returns
bind_items-returns t c = record {
  exact = sym c.loop-item.invariant
      ∙ items_done (around_view c.args.decls.now c.args.scope.now) c.args.items.now (ty_view c.args.ty.now) c.loop-item.item-index c.loop-item.patterns.items (scope_view c.loop-item.bound.items) (omega arith);
}

pub bind-returns-in_ok-inside-in-Call-2 : goal.bind-returns-in_ok-inside-in-Call-2
bind-returns-in_ok-inside-in-Call-2 t c = record {
  exact = applied_is (around_view c.args.decls.now c.args.scope.now) c.args.tree.now c.in-Call.constructor c.in-Call.arguments c.deref-in-Call.result.now c.deref-in-Call-2.result.now (ty_view c.args.ty.now) (ty_view c.in_ok-taken-in-Call.taken.argument.now) c.in_ok-taken-in-Call.taken.position (scope_view c.args.bound.now.items) (scope_view c.bind_argument.new.bound.items) c.in_ok-inside-in-Call.inside c.in_ok-inside-in-Call-2.inside
      c.in-Call.is c.deref-in-Call.ensures c.deref-in-Call-2.ensures.value c.in_ok-taken-in-Call.ensures.exact c.in_ok-inside-in-Call.ensures.exact c.in_ok-inside-in-Call-2.ensures.ok;
}

pub bind-returns-in_ok-items-in-List-ty : goal.bind-returns-in_ok-items-in-List-ty
bind-returns-in_ok-items-in-List-ty t c = record {
  exact = then_ok _ _ _ _ (list_is (around_view c.args.decls.now c.args.scope.now) c.args.tree.now c.in-List.items c.deref-in-List-ty.result.now c.args.ty.now c.deref-in-List-ty-2.result.now c.in-List-ty.item (scope_view c.args.bound.now.items) c.in-List.is c.deref-in-List-ty.ensures.value c.in-List-ty.is c.deref-in-List-ty-2.ensures) c.in_ok-items-in-List-ty.ensures.exact
      ∙ list_made (scope_view c.bind_items.new.bound.items) c.in_ok-items-in-List-ty.items;
}

pub bind-returns-in_err-items-in-List-ty : goal.bind-returns-in_err-items-in-List-ty
bind-returns-in_err-items-in-List-ty t c = record {
  exact = let p = err_from_is_err_and c.from_residual-in_err-items-in-List-ty.result c.from_residual-in_err-items-in-List-ty.ensures.1 in
      passed_on (bound_view c.bind_items.new.bound.items) c.from_residual-in_err-items-in-List-ty.result _ _ _ p.1 p.2
      (then_refused _ _ _ _ (list_is (around_view c.args.decls.now c.args.scope.now) c.args.tree.now c.in-List.items c.deref-in-List-ty.result.now c.args.ty.now c.deref-in-List-ty-2.result.now c.in-List-ty.item (scope_view c.args.bound.now.items) c.in-List.is c.deref-in-List-ty.ensures.value c.in-List-ty.is c.deref-in-List-ty-2.ensures) c.in_err-items-in-List-ty.ensures.exact);
}

pub bind-returns-in_err-head-in-List-ty-2 : goal.bind-returns-in_err-head-in-List-ty-2
bind-returns-in_err-head-in-List-ty-2 t c = record {
  exact = let p = err_from_is_err_and c.from_residual-in_err-head-in-List-ty-2.result c.from_residual-in_err-head-in-List-ty-2.ensures.1 in
      passed_on (bound_view c.bind.new.bound.items) c.from_residual-in_err-head-in-List-ty-2.result _ _ _ p.1 p.2
      (then_refused _ _ _ _ (cons_is (around_view c.args.decls.now c.args.scope.now) c.args.tree.now c.deref-in-List-ty-2-2.result.now c.in-Cons.tail.value c.in-Cons.head c.in-Cons.tail c.args.ty.now c.deref-in-List-ty-2-3.result.now c.in-List-ty-2.item (scope_view c.args.bound.now.items) c.in-Cons.is c.deref-in-List-ty-2-2.ensures refl c.in-List-ty-2.is c.deref-in-List-ty-2-3.ensures) c.in_err-head-in-List-ty-2.ensures.exact);
}

pub bind-returns-in_err-tail-in-List-ty-2 : goal.bind-returns-in_err-tail-in-List-ty-2
bind-returns-in_err-tail-in-List-ty-2 t c = record {
  exact = let p = err_from_is_err_and c.from_residual-in_err-tail-in-List-ty-2.result c.from_residual-in_err-tail-in-List-ty-2.ensures.1 in
      passed_on (bound_view c.bind-in-List-ty-2.new.bound.items) c.from_residual-in_err-tail-in-List-ty-2.result _ _ _ p.1 p.2
      (then_refused _ _ _ _ (then_ok _ _ _ _ (cons_is (around_view c.args.decls.now c.args.scope.now) c.args.tree.now c.deref-in-List-ty-2-2.result.now c.deref-in-List-ty-2-4.result.now c.in-Cons.head c.in-Cons.tail c.args.ty.now c.deref-in-List-ty-2-3.result.now c.in-List-ty-2.item (scope_view c.args.bound.now.items) c.in-Cons.is c.deref-in-List-ty-2-2.ensures c.deref-in-List-ty-2-4.ensures c.in-List-ty-2.is c.deref-in-List-ty-2-3.ensures) c.in_ok-head-in-List-ty-2.ensures.exact) c.in_err-tail-in-List-ty-2.ensures.exact);
}

pub bind-returns-in_ok-pattern-in-List-ty-2 : goal.bind-returns-in_ok-pattern-in-List-ty-2
bind-returns-in_ok-pattern-in-List-ty-2 t c = record {
  exact = then_ok _ _ _ _ (then_ok _ _ _ _ (cons_is (around_view c.args.decls.now c.args.scope.now) c.args.tree.now c.deref-in-List-ty-2-2.result.now c.deref-in-List-ty-2-4.result.now c.in-Cons.head c.in-Cons.tail c.args.ty.now c.deref-in-List-ty-2-3.result.now c.in-List-ty-2.item (scope_view c.args.bound.now.items) c.in-Cons.is c.deref-in-List-ty-2-2.ensures c.deref-in-List-ty-2-4.ensures c.in-List-ty-2.is c.deref-in-List-ty-2-3.ensures) c.in_ok-head-in-List-ty-2.ensures.exact) c.in_ok-tail-in-List-ty-2.ensures.exact
      ∙ ap (λ q. ok (record { pattern = q; locals = scope_view c.bind-in-List-ty-2.new.bound.items })) (sym c.in_ok-pattern-in-List-ty-2.ensures.exact);
}

pub bind-returns-in_err-taken-in-Call : goal.bind-returns-in_err-taken-in-Call
bind-returns-in_err-taken-in-Call t c = record {
  exact = let p = err_from_is_err_and c.from_residual-in_err-taken-in-Call.result c.from_residual-in_err-taken-in-Call.ensures.1 in
      passed_on (bound_view c.args.bound.now.items) c.from_residual-in_err-taken-in-Call.result _ _ _ p.1 p.2
      (not_taken _ _ _ _ (call_is (around_view c.args.decls.now c.args.scope.now) c.args.tree.now c.in-Call.constructor c.in-Call.arguments c.deref-in-Call.result.now c.in-Call.arguments.items (ty_view c.args.ty.now) (scope_view c.args.bound.now.items) c.in-Call.is c.deref-in-Call.ensures refl) c.in_err-taken-in-Call.ensures.exact);
}

pub bind-returns-in_err-inside-in-Call : goal.bind-returns-in_err-inside-in-Call
bind-returns-in_err-inside-in-Call t c = record {
  exact = let p = err_from_is_err_and c.from_residual-in_err-inside-in-Call.result c.from_residual-in_err-inside-in-Call.ensures.1 in
      passed_on (bound_view c.bind_argument.new.bound.items) c.from_residual-in_err-inside-in-Call.result _ _ _ p.1 p.2
      (then_refused _ _ _ _ ((call_is (around_view c.args.decls.now c.args.scope.now) c.args.tree.now c.in-Call.constructor c.in-Call.arguments c.deref-in-Call.result.now c.deref-in-Call-2.result.now (ty_view c.args.ty.now) (scope_view c.args.bound.now.items) c.in-Call.is c.deref-in-Call.ensures c.deref-in-Call-2.ensures.value) ∙ ap (λ x. applied_rule x (λ u. argument_in (around_view c.args.decls.now c.args.scope.now) (pats_from (map pat_view c.deref-in-Call-2.result.now)) c.args.tree.now.at (scope_view c.args.bound.now.items) u)) c.in_ok-taken-in-Call.ensures.exact) c.in_err-inside-in-Call.ensures.exact);
}
