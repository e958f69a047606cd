-- One part or arm more stands ahead of the rest; a backtick makes so many tokens.
use Rattle.std.proofs.Common.{◌∙◌, ◌∷◌, [], map, sym, ap, subst}
use Rattle.std.proofs.lemmas.List.{map-append}
use Rattle.cpn_core.specs.Inscriptions.{multiset_view, arc_arm_view}
use Rattle.cpn_trees.specs.Trees.{asts_from}
use Rattle.cpn_trees.specs.PatViews.{pat_view}
use Rattle.cpn_trees.specs.AstViews.{ast_view, arm_view, arms_from}
use Rattle.cpn_typing.specs.Multisets.{marked, marked_each, marked_arms}
use Rattle.cpn_declared.specs.Answers.{refusal_of, Answers}
use Rattle.cpn_forms.specs.ScopeViews.{scope_view}
use Rattle.cpn_declared.specs.TypeViews.{ty_view}
use Rattle.cpn_types.specs.Sites.{site_view, arm_at}
use Rattle.cpn_typing.proofs.Answered.{answers_on, refuses_through}
use Rattle.cpn_types.proofs.MarkedForms.{many_marked, later_marked, one_marked}
use Rattle.cpn_types.proofs.MarkedParts.{next_part, no_part, last_part, next_arm, no_arm, last_arm}
use Rattle.cpn_types.proofs.sites.Site.+multiset.Goals as goal

pub tokens-returns-then-is_times-clause-exact : goal.tokens-returns-then-is_times-clause-exact
tokens-returns-then-is_times-clause-exact t c =
    subst (Answers multiset_view c.many.result)
    (many_marked (site_view c.args.self.now) c.args.tree.now c.in-Infix.operator c.in-Infix.sign c.in-Infix.left c.in-Infix.right c.deref.result.now c.deref-then-is_times.result.now (scope_view c.args.scope.now.items)
    c.in-Infix.is
    (sym c.is_times.ensures.exact ∙ c.if-is_times.true)
    c.deref.ensures
    c.deref-then-is_times.ensures)
    c.many.ensures.exact

pub tokens-returns-then-is_later-clause-exact : goal.tokens-returns-then-is_later-clause-exact
tokens-returns-then-is_later-clause-exact t c =
    subst (Answers multiset_view c.later.result)
    (later_marked (site_view c.args.self.now) c.args.tree.now c.in-Infix.operator c.in-Infix.sign c.in-Infix.left c.in-Infix.right c.deref-then-is_later.result.now c.deref-then-is_later-2.result.now (scope_view c.args.scope.now.items)
    c.in-Infix.is
    (sym c.is_later.ensures.exact ∙ c.if-is_later.true)
    c.deref-then-is_later.ensures
    c.deref-then-is_later-2.ensures)
    c.later.ensures.exact

pub tokens-returns-else-is_later-clause-exact : goal.tokens-returns-else-is_later-clause-exact
tokens-returns-else-is_later-clause-exact t c =
    subst (Answers multiset_view c.one.result)
    (one_marked (site_view c.args.self.now) c.args.tree.now c.in-Infix.operator c.in-Infix.sign c.in-Infix.left c.in-Infix.right (scope_view c.args.scope.now.items)
    c.in-Infix.is
    (sym c.is_times.ensures.exact ∙ c.if-is_times.false)
    (sym c.is_later.ensures.exact ∙ c.if-is_later.false))
    c.one.ensures.exact

pub parts-returns-in_err-part-clause-exact : goal.parts-returns-in_err-part-clause-exact
parts-returns-in_err-part-clause-exact t c =
    let g = site_view c.args.self.now in
    let whole = marked_each g (asts_from (map ast_view c.args.trees.now)) (scope_view c.args.scope.now.items) in
    answers_on refusal_of _ c.from_residual.result c.in_err-part.field-0.0 whole c.from_residual.ensures.1
    (refuses_through (refusal_of c.in_err-part.field-0.0) (marked g (ast_view c.tree-item.result) (scope_view c.loop-tree.scope.items)) whole
    (λ r h. no_part g c.args.trees.now c.loop-tree.tree-index c.tree-item.result (scope_view c.args.scope.now.items) (map multiset_view c.loop-tree.parts.items) r whole
    c.loop-tree-test.true
    c.tree-item.is
    (ap (λ s. marked g (ast_view c.tree-item.result) (scope_view s)) (sym c.loop-tree.invariant.locals) ∙ h)
    c.loop-tree.invariant.left)
    c.in_err-part.ensures.exact)

pub parts-loop-tree-preserved : goal.parts-loop-tree-preserved
parts-loop-tree-preserved t c = record {
  left = next_part (site_view c.args.self.now) c.args.trees.now c.loop-tree.tree-index c.tree-item.result (scope_view c.args.scope.now.items) (map multiset_view c.loop-tree.parts.items) (map multiset_view c.push.new.self.items) (multiset_view c.in_ok-part.part)
      (marked_each (site_view c.args.self.now) (asts_from (map ast_view c.args.trees.now)) (scope_view c.args.scope.now.items))
      c.loop-tree-test.true
      c.tree-item.is
      (ap (λ s. marked (site_view c.args.self.now) (ast_view c.tree-item.result) (scope_view s)) (sym c.loop-tree.invariant.locals) ∙ c.in_ok-part.ensures.exact)
      (ap (map multiset_view) c.in_ok-push.ensures.items ∙ map-append multiset_view c.loop-tree.parts.items (c.in_ok-part.part ∷ []))
      c.loop-tree.invariant.left;
  locals = c.in_ok-part.ensures.locals ∙ c.loop-tree.invariant.locals;
}

pub parts-returns-clause-exact : goal.parts-returns-clause-exact
parts-returns-clause-exact t c =
    last_part (site_view c.args.self.now) c.args.trees.now c.loop-tree.tree-index (scope_view c.args.scope.now.items) (map multiset_view c.loop-tree.parts.items)
    (marked_each (site_view c.args.self.now) (asts_from (map ast_view c.args.trees.now)) (scope_view c.args.scope.now.items))
    c.loop-tree-test.false
    c.loop-tree.invariant.left

pub arms-loop-arm-preserved : goal.arms-loop-arm-preserved
arms-loop-arm-preserved t c = record {
  left = next_arm (site_view c.args.self.now) c.args.arms.now c.loop-arm.arm-index c.arm-item.result (scope_view c.args.scope.now.items) (ty_view c.args.subject.now) (map arc_arm_view c.loop-arm.made.items) (map arc_arm_view c.push.new.self.items) (arc_arm_view c.in_ok-result.result)
      (marked_arms (site_view c.args.self.now) (arms_from (map arm_view c.args.arms.now)) (scope_view c.args.scope.now.items) (ty_view c.args.subject.now))
      c.loop-arm-test.true
      c.arm-item.is
      (ap (λ s. arm_at (site_view c.args.self.now) (pat_view c.arm-item.result.pattern) (ast_view c.arm-item.result.result) (scope_view s) (ty_view c.args.subject.now)) (sym c.loop-arm.invariant.locals) ∙ c.in_ok-result.ensures.exact)
      (ap (map arc_arm_view) c.in_ok-push.ensures.items ∙ map-append arc_arm_view c.loop-arm.made.items (c.in_ok-result.result ∷ []))
      c.loop-arm.invariant.left;
  locals = c.in_ok-result.ensures.locals ∙ c.loop-arm.invariant.locals;
}

pub arms-returns-clause-exact : goal.arms-returns-clause-exact
arms-returns-clause-exact t c =
    last_arm (site_view c.args.self.now) c.args.arms.now c.loop-arm.arm-index (scope_view c.args.scope.now.items) (ty_view c.args.subject.now) (map arc_arm_view c.loop-arm.made.items)
    (marked_arms (site_view c.args.self.now) (arms_from (map arm_view c.args.arms.now)) (scope_view c.args.scope.now.items) (ty_view c.args.subject.now))
    c.loop-arm-test.false
    c.loop-arm.invariant.left

pub arms-returns-in_err-result-clause-exact : goal.arms-returns-in_err-result-clause-exact
arms-returns-in_err-result-clause-exact t c =
    let g = site_view c.args.self.now in
    let whole = marked_arms g (arms_from (map arm_view c.args.arms.now)) (scope_view c.args.scope.now.items) (ty_view c.args.subject.now) in
    answers_on refusal_of _ c.from_residual.result c.in_err-result.field-0.0 whole c.from_residual.ensures.1
    (refuses_through (refusal_of c.in_err-result.field-0.0) (arm_at g (pat_view c.arm-item.result.pattern) (ast_view c.arm-item.result.result) (scope_view c.loop-arm.scope.items) (ty_view c.args.subject.now)) whole
    (λ r h. no_arm g c.args.arms.now c.loop-arm.arm-index c.arm-item.result (scope_view c.args.scope.now.items) (ty_view c.args.subject.now) (map arc_arm_view c.loop-arm.made.items) r whole
    c.loop-arm-test.true
    c.arm-item.is
    (ap (λ s. arm_at g (pat_view c.arm-item.result.pattern) (ast_view c.arm-item.result.result) (scope_view s) (ty_view c.args.subject.now)) (sym c.loop-arm.invariant.locals) ∙ h)
    c.loop-arm.invariant.left)
    c.in_err-result.ensures.exact)
