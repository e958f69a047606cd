-- Each form is checked by its rule, over its parts.
use Rattle.std.proofs.lemmas.Result.{err_from_is_err_and}
use Rattle.std.proofs.Common.{◌∙◌, [], ◌∷◌, ◌++◌, map, arith, length, sym, ap, subst, rules, refl, option_map, drop, take, ◌+◌, ◌-◌, ◌≤◌}
use Rattle.cpn_trees.specs.AstViews.{local_view, locals_from, arms_from, ast_view}
use Rattle.cpn_typing.specs.Expressions.{typed_let, typed_arms, typed_parts, typed_form, spot_at, typed_items}
use Rattle.cpn_declared.specs.DeclsViews.{decls_view}
use Rattle.cpn_forms.specs.ScopeViews.{scope_view}
use Rattle.cpn_forms.specs.ContextViews.{context_view}
use Rattle.cpn_forms.specs.FormViews.{wanted_view, spot_view, items_view, parts_view, arms_view}
use Rattle.cpn_forms.specs.BoundViews.{bound_view}
use Rattle.cpn_typing.specs.Answers.{Refuses}
use Rattle.cpn_typing.proofs.Answered.{answers_on}
use Rattle.cpn_types.specs.Around.{typed_then, arguments_in, typed_in}
use Rattle.cpn_types.proofs.ValueFronts.{values_step, values_refused, body_refused, body_typed, take_front, further_front}
use Rattle.cpn_core.specs.Inscriptions.{expr_view}
use Rattle.cpn_typing.specs.Names.{ok, ◌>>=◌, found, local_of}
use Rattle.cpn_declared.specs.Answers.{Answers, refusal_of}
use Rattle.cpn_forms.specs.Calls.{tuple_made, function_makes}
use Rattle.cpn_declared.specs.TypeViews.{ty_view, tys_view}
use Rattle.cpn_types.proofs.CallFronts.{arguments_are, predeclared_is, function_is, some_there, offset_there}
use Rattle.cpn_trees.specs.PatViews.{pat_view}
use Rattle.cpn_typing.specs.PatternRules.{typed_pattern}
use Rattle.cpn_types.proofs.ArmFronts.{arms_step, pattern_refused, result_refused, arms_done}
use Rattle.cpn_trees.specs.Trees.{asts_from}
use Rattle.cpn_typing.specs.Rules.{call_rule, called_as, part, prefix_rule}
use Rattle.cpn_forms.specs.TypedViews.{typed_view}
use Rattle.cpn_types.proofs.FormRules.{infix_apart, prefix_makes, prefix_refused}
use Rattle.cpn_types.proofs.FormViews.{call_is, let_is, prefix_is, infix_is, if_is, case_is, fold_is}
use Rattle.cpn_types.proofs.Fronts.{items_step, items_refused, items_done, parts_step, parts_refused, parts_done}
use Rattle.cpn_trees.specs.AstViews as trees
use Rattle.cpn_core.specs.Inscriptions as inscriptions
use Rattle.cpn_types.proofs.FoldRules.{fold_refused}
use Rattle.cpn_types.proofs.surroundings.Surroundings.+check.Goals as goal

pub among_values-loop-local-preserved : goal.among_values-loop-local-preserved
among_values-loop-local-preserved t c = record {
  all = values_step (decls_view c.args.self.now.decls.now) (context_view c.args.self.now.context) c.loop-local.scope.items c.typed.new.scope.items c.push-in-loop-local.new.self.items c.args.values.now c.loop-local.local-index c.local-item.result c.loop-local.exprs.items c.push.new.self.items c.in_ok-typed.typed c.as_str.result (typed_then c.args.self.now c.args.body.now (wanted_view c.args.wanted))
      (typed_let (decls_view c.args.self.now.decls.now) (context_view c.args.self.now.context) (locals_from (map local_view c.args.values.now)) (scope_view c.args.scope.now.items) (typed_then c.args.self.now c.args.body.now (wanted_view c.args.wanted)))
      (omega arith) c.local-item.is c.in_ok-typed.ensures.exact c.in_ok-push.ensures.items c.typed.ensures.locals c.in_ok-push-2.ensures.items c.as_str.ensures.value c.loop-local.invariant.all;
  further = further_front (length c.args.scope.now.items) c.loop-local.scope.items c.typed.new.scope.items c.push-in-loop-local.new.self.items _ c.loop-local.invariant.further c.typed.ensures.locals c.in_ok-push-2.ensures.items;
  outer = take_front (length c.args.scope.now.items) c.loop-local.scope.items c.typed.new.scope.items c.push-in-loop-local.new.self.items c.args.scope.now.items _ c.loop-local.invariant.further c.typed.ensures.locals c.in_ok-push-2.ensures.items c.loop-local.invariant.outer;
}

pub among_values-returns-in_err-typed-clause-exact : goal.among_values-returns-in_err-typed-clause-exact
among_values-returns-in_err-typed-clause-exact t c =
    answers_on refusal_of typed_view c.from_residual.result c.in_err-typed.field-0.0 (typed_let (decls_view c.args.self.now.decls.now) (context_view c.args.self.now.context) (locals_from (map local_view c.args.values.now)) (scope_view c.args.scope.now.items) (typed_then c.args.self.now c.args.body.now (wanted_view c.args.wanted))) c.from_residual.ensures.1
    (values_refused (refusal_of c.in_err-typed.field-0.0) (decls_view c.args.self.now.decls.now) (context_view c.args.self.now.context) (scope_view c.loop-local.scope.items) c.args.values.now c.loop-local.local-index c.local-item.result (map expr_view c.loop-local.exprs.items) (typed_then c.args.self.now c.args.body.now (wanted_view c.args.wanted)) (typed_let (decls_view c.args.self.now.decls.now) (context_view c.args.self.now.context) (locals_from (map local_view c.args.values.now)) (scope_view c.args.scope.now.items) (typed_then c.args.self.now c.args.body.now (wanted_view c.args.wanted)))
    (omega arith) c.local-item.is c.in_err-typed.ensures.exact c.loop-local.invariant.all)

pub among_values-returns-in_err-body-clause-exact : goal.among_values-returns-in_err-body-clause-exact
among_values-returns-in_err-body-clause-exact t c =
    answers_on refusal_of typed_view c.from_residual-in_err-body.result c.in_err-body.field-0.0 (typed_let (decls_view c.args.self.now.decls.now) (context_view c.args.self.now.context) (locals_from (map local_view c.args.values.now)) (scope_view c.args.scope.now.items) (typed_then c.args.self.now c.args.body.now (wanted_view c.args.wanted))) c.from_residual-in_err-body.ensures.1
    (body_refused (refusal_of c.in_err-body.field-0.0) (decls_view c.args.self.now.decls.now) (context_view c.args.self.now.context) (scope_view c.loop-local.scope.items) c.args.values.now c.loop-local.local-index (map expr_view c.loop-local.exprs.items) (typed_then c.args.self.now c.args.body.now (wanted_view c.args.wanted)) (typed_let (decls_view c.args.self.now.decls.now) (context_view c.args.self.now.context) (locals_from (map local_view c.args.values.now)) (scope_view c.args.scope.now.items) (typed_then c.args.self.now c.args.body.now (wanted_view c.args.wanted)))
    (omega arith) c.in_err-body.ensures.exact c.loop-local.invariant.all)

pub among_values-returns-clause-exact : goal.among_values-returns-clause-exact
among_values-returns-clause-exact t c =
    subst (Answers typed_view c.nested.result)
    (sym (body_typed (decls_view c.args.self.now.decls.now) (context_view c.args.self.now.context) (scope_view c.loop-local.scope.items) c.args.values.now c.loop-local.local-index (map expr_view c.loop-local.exprs.items) (typed_view c.in_ok-body.body) (typed_then c.args.self.now c.args.body.now (wanted_view c.args.wanted)) (typed_let (decls_view c.args.self.now.decls.now) (context_view c.args.self.now.context) (locals_from (map local_view c.args.values.now)) (scope_view c.args.scope.now.items) (typed_then c.args.self.now c.args.body.now (wanted_view c.args.wanted)))
    (omega arith) c.in_ok-body.ensures.exact c.loop-local.invariant.all))
    c.nested.ensures.exact

pub among_values-returns-in_err-typed-clause-further : goal.among_values-returns-in_err-typed-clause-further
among_values-returns-in_err-typed-clause-further t c = subst (λ s. length c.args.scope.now.items ≤ length s) (sym c.typed.ensures.locals) c.loop-local.invariant.further

pub among_values-returns-in_err-typed-clause-outer : goal.among_values-returns-in_err-typed-clause-outer
among_values-returns-in_err-typed-clause-outer t c = ap (take (length c.args.scope.now.items)) c.typed.ensures.locals ∙ c.loop-local.invariant.outer

pub among_values-returns-in_err-body-clause-further : goal.among_values-returns-in_err-body-clause-further
among_values-returns-in_err-body-clause-further t c = subst (λ s. length c.args.scope.now.items ≤ length s) (sym c.typed-2.ensures.locals) c.loop-local.invariant.further

pub among_values-returns-in_err-body-clause-outer : goal.among_values-returns-in_err-body-clause-outer
among_values-returns-in_err-body-clause-outer t c = ap (take (length c.args.scope.now.items)) c.typed-2.ensures.locals ∙ c.loop-local.invariant.outer

pub among_values-returns-clause-further : goal.among_values-returns-clause-further
among_values-returns-clause-further t c = subst (λ s. length c.args.scope.now.items ≤ length s) (sym c.typed-2.ensures.locals) c.loop-local.invariant.further

pub among_values-returns-clause-outer : goal.among_values-returns-clause-outer
among_values-returns-clause-outer t c = ap (take (length c.args.scope.now.items)) c.typed-2.ensures.locals ∙ c.loop-local.invariant.outer

pub argument-returns-in_err-parts-clause-exact : goal.argument-returns-in_err-parts-clause-exact
argument-returns-in_err-parts-clause-exact t c =
    subst (Answers expr_view c.from_residual-in_err-parts.result)
    (sym (arguments_are c.args.self.now c.args.arguments.now.items c.deref.result.now c.index-2.result.now c.args.at c.args.scope.now.items (ty_view c.args.wanted.now) (tys_view c.parts_wanted.result.now) (omega (arith, c.args.arguments.now.ok.0)) c.deref.ensures.value c.parts_wanted.ensures.exact (search rules)))
    (search rules)

pub argument-returns-clause-exact : goal.argument-returns-clause-exact
argument-returns-clause-exact t c =
    subst (Answers expr_view c.tuple_made.result)
    (sym (arguments_are c.args.self.now c.args.arguments.now.items c.deref.result.now c.index-2.result.now c.args.at c.args.scope.now.items (ty_view c.args.wanted.now) (tys_view c.parts_wanted.result.now) (omega (arith, c.args.arguments.now.ok.0)) c.deref.ensures.value c.parts_wanted.ensures.exact (search rules)
    ∙ ap (λ p. p >>= tuple_made (ty_view c.args.wanted.now) c.index-2.result.now.at) c.in_ok-parts.ensures.exact))
    c.tuple_made.ensures.exact

pub arms-loop-arm-preserved : goal.arms-loop-arm-preserved
arms-loop-arm-preserved t c = record {
  all = arms_step (decls_view c.args.self.now.decls.now) (context_view c.args.self.now.context) (scope_view c.args.scope.now.items) (scope_view c.loop-arm.scope.items) (ty_view c.args.subject.now) c.args.arms.now c.loop-arm.arm-index c.arm-item.result (wanted_view c.lent.result) (option_map ty_view c.loop-arm.ty) c.loop-arm.typed_arms.items c.push.new.self.items (record { pat = c.in_ok-pattern.pattern.pattern; result = c.in_ok-result.result.expr }) c.in_ok-pattern.pattern.locals.items c.in_ok-result.result
      (typed_arms (decls_view c.args.self.now.decls.now) (context_view c.args.self.now.context) (arms_from (map trees.arm_view c.args.arms.now)) (scope_view c.args.scope.now.items) (ty_view c.args.subject.now) (wanted_view c.args.wanted))
      (ap scope_view c.loop-arm.invariant.locals) c.lent.ensures.same c.in_ok-push.ensures.items refl (omega arith) c.arm-item.is (ap (λ s. typed_pattern (decls_view c.args.self.now.decls.now) (pat_view c.arm-item.result.pattern) (scope_view s) (ty_view c.args.subject.now)) (sym c.deref.ensures.value) ∙ c.in_ok-pattern.ensures.exact) c.in_ok-result.ensures.exact c.loop-arm.invariant.all;
  locals = c.inside.ensures.locals ∙ c.loop-arm.invariant.locals;
}

pub arms-returns-clause-exact : goal.arms-returns-clause-exact
arms-returns-clause-exact t c =
    sym c.loop-arm.invariant.all
    ∙ arms_done (decls_view c.args.self.now.decls.now) (context_view c.args.self.now.context) (scope_view c.args.scope.now.items) (ty_view c.args.subject.now) c.args.arms.now c.loop-arm.arm-index (option_map ty_view c.loop-arm.ty) (map inscriptions.arm_view c.loop-arm.typed_arms.items) (omega arith)

pub arms-returns-in_err-pattern-clause-exact : goal.arms-returns-in_err-pattern-clause-exact
arms-returns-in_err-pattern-clause-exact t c =
    answers_on refusal_of arms_view c.from_residual-in_err-pattern.result c.in_err-pattern.field-0.0 (typed_arms (decls_view c.args.self.now.decls.now) (context_view c.args.self.now.context) (arms_from (map trees.arm_view c.args.arms.now)) (scope_view c.args.scope.now.items) (ty_view c.args.subject.now) (wanted_view c.args.wanted)) c.from_residual-in_err-pattern.ensures.1
    (pattern_refused (refusal_of c.in_err-pattern.field-0.0) (decls_view c.args.self.now.decls.now) (context_view c.args.self.now.context) (scope_view c.args.scope.now.items) (scope_view c.loop-arm.scope.items) (ty_view c.args.subject.now) c.args.arms.now c.loop-arm.arm-index c.arm-item.result (option_map ty_view c.loop-arm.ty) (map inscriptions.arm_view c.loop-arm.typed_arms.items) (typed_arms (decls_view c.args.self.now.decls.now) (context_view c.args.self.now.context) (arms_from (map trees.arm_view c.args.arms.now)) (scope_view c.args.scope.now.items) (ty_view c.args.subject.now) (wanted_view c.args.wanted))
    (ap scope_view c.loop-arm.invariant.locals) (omega arith) c.arm-item.is
    (subst (λ s. Refuses (refusal_of c.in_err-pattern.field-0.0) (typed_pattern (decls_view c.args.self.now.decls.now) (pat_view c.arm-item.result.pattern) (scope_view s) (ty_view c.args.subject.now))) c.deref.ensures.value c.in_err-pattern.ensures.exact)
    c.loop-arm.invariant.all)

pub arms-returns-in_err-result-clause-exact : goal.arms-returns-in_err-result-clause-exact
arms-returns-in_err-result-clause-exact t c =
    answers_on refusal_of arms_view c.from_residual-in_err-result.result c.in_err-result.field-0.0 (typed_arms (decls_view c.args.self.now.decls.now) (context_view c.args.self.now.context) (arms_from (map trees.arm_view c.args.arms.now)) (scope_view c.args.scope.now.items) (ty_view c.args.subject.now) (wanted_view c.args.wanted)) c.from_residual-in_err-result.ensures.1
    (result_refused (refusal_of c.in_err-result.field-0.0) (decls_view c.args.self.now.decls.now) (context_view c.args.self.now.context) (scope_view c.args.scope.now.items) (scope_view c.loop-arm.scope.items) (ty_view c.args.subject.now) c.args.arms.now c.loop-arm.arm-index c.arm-item.result (wanted_view c.lent.result) (option_map ty_view c.loop-arm.ty) (map inscriptions.arm_view c.loop-arm.typed_arms.items) (bound_view c.in_ok-pattern.pattern.locals.items c.in_ok-pattern.pattern.pattern) (typed_arms (decls_view c.args.self.now.decls.now) (context_view c.args.self.now.context) (arms_from (map trees.arm_view c.args.arms.now)) (scope_view c.args.scope.now.items) (ty_view c.args.subject.now) (wanted_view c.args.wanted))
    (ap scope_view c.loop-arm.invariant.locals) c.lent.ensures.same (omega arith) c.arm-item.is
    (ap (λ s. typed_pattern (decls_view c.args.self.now.decls.now) (pat_view c.arm-item.result.pattern) (scope_view s) (ty_view c.args.subject.now)) (sym c.deref.ensures.value) ∙ c.in_ok-pattern.ensures.exact)
    c.in_err-result.ensures.exact c.loop-arm.invariant.all)

pub call-returns-in-Predeclared-clause-exact : goal.call-returns-in-Predeclared-clause-exact
call-returns-in-Predeclared-clause-exact t c =
    let asts = asts_from (map ast_view c.args.arguments.now.items) in
    let xs = arguments_in c.args.self.now c.args.arguments.now.items c.args.spot.at c.args.scope.now.items in
    subst (λ k. Answers typed_view c.predeclared.result (call_rule k (spot_view c.args.spot) c.args.name.now asts xs)) (c.in-Predeclared.ensures.exact ∙ ap (λ s. called_as (found c.args.name.now (scope_view s) (decls_view c.args.self.now.decls.now))) c.deref.ensures.value)
    (subst (Answers typed_view c.predeclared.result) (sym (predeclared_is c.in-Predeclared.function (spot_view c.args.spot) c.args.name.now asts xs)) c.predeclared.ensures.exact)

pub call-returns-in_ok-arguments-in-Function-clause-exact : goal.call-returns-in_ok-arguments-in-Function-clause-exact
call-returns-in_ok-arguments-in-Function-clause-exact t c =
    let asts = asts_from (map ast_view c.args.arguments.now.items) in
    let xs = arguments_in c.args.self.now c.args.arguments.now.items c.args.spot.at c.args.scope.now.items in
    subst (λ k. Answers typed_view c.function_called.result (call_rule k (spot_view c.args.spot) c.args.name.now asts xs))
    (c.in-Function.ensures.exact ∙ ap (λ s. called_as (found c.args.name.now (scope_view s) (decls_view c.args.self.now.decls.now))) c.deref.ensures.value)
    (subst (Answers typed_view c.function_called.result)
    (sym (function_is c.args.self.now c.args.arguments.now.items c.deref-in-Function.result.now c.args.spot.at c.args.scope.now.items c.in-Function.number (tys_view c.in-Function.parameters.now.items) (ty_view c.in-Function.given.now) (spot_view c.args.spot) c.args.name.now (some_there c.args.arguments.now.items (search rules)) c.deref-in-Function.ensures.value
    ∙ ap (λ p. p >>= function_makes c.in-Function.number (spot_view c.args.spot) (tys_view c.in-Function.parameters.now.items) (ty_view c.in-Function.given.now))
    (ap (λ ts. typed_parts (decls_view c.args.self.now.decls.now) (context_view c.args.self.now.context) (asts_from (map ast_view (drop 0 c.deref-in-Function.result.now))) (scope_view c.args.scope.now.items) (tys_view ts)) (sym c.deref-in-Function-2.ensures.value) ∙ c.in_ok-arguments-in-Function.ensures.exact)))
    c.function_called.ensures.exact)

pub form-returns-in-Call-clause-exact : goal.form-returns-in-Call-clause-exact
form-returns-in-Call-clause-exact t c =
    subst (λ f. Answers typed_view c.call.result (typed_form (decls_view c.args.self.now.decls.now) (context_view c.args.self.now.context) f c.args.at (scope_view c.args.scope.now.items) (wanted_view c.args.wanted)))
    (sym (call_is c.args.form.now c.in-Call.function c.in-Call.arguments c.deref-in-Call.result.now c.in-Call.is c.deref-in-Call.ensures))
    c.call.ensures.exact

pub form-returns-in-Let-clause-exact : goal.form-returns-in-Let-clause-exact
form-returns-in-Let-clause-exact t c =
    subst (λ f. Answers typed_view c.with_values.result (typed_form (decls_view c.args.self.now.decls.now) (context_view c.args.self.now.context) f c.args.at (scope_view c.args.scope.now.items) (wanted_view c.args.wanted)))
    (sym (let_is c.args.form.now c.in-Let.values c.in-Let.body c.deref-in-Let.result.now c.deref-in-Let-2.result.now c.in-Let.is c.deref-in-Let.ensures.value c.deref-in-Let-2.ensures))
    c.with_values.ensures.exact

pub form-returns-in-Infix-clause-exact : goal.form-returns-in-Infix-clause-exact
form-returns-in-Infix-clause-exact t c =
    let left = part (ast_view c.deref-in-Infix.result.now) (typed_in c.args.self.now c.deref-in-Infix.result.now c.args.scope.now.items) in
    let right = part (ast_view c.deref-in-Infix-2.result.now) (typed_in c.args.self.now c.deref-in-Infix-2.result.now c.args.scope.now.items) in
    subst (λ f. Answers typed_view c.infix.result (typed_form (decls_view c.args.self.now.decls.now) (context_view c.args.self.now.context) f c.args.at (scope_view c.args.scope.now.items) (wanted_view c.args.wanted)))
    (sym (infix_is c.args.form.now c.in-Infix.operator c.in-Infix.sign c.in-Infix.left c.in-Infix.right c.deref-in-Infix.result.now c.deref-in-Infix-2.result.now c.in-Infix.is c.deref-in-Infix.ensures c.deref-in-Infix-2.ensures))
    (subst (Answers typed_view c.infix.result)
    (sym (infix_apart c.in-Infix.operator (spot_at (context_view c.args.self.now.context) c.args.at (wanted_view c.args.wanted)) c.in-Infix.sign left right))
    c.infix.ensures.exact)

pub form-returns-in-If-clause-exact : goal.form-returns-in-If-clause-exact
form-returns-in-If-clause-exact t c =
    subst (λ f. Answers typed_view c.branches.result (typed_form (decls_view c.args.self.now.decls.now) (context_view c.args.self.now.context) f c.args.at (scope_view c.args.scope.now.items) (wanted_view c.args.wanted)))
    (sym (if_is c.args.form.now c.in-If.condition c.in-If.consequence c.in-If.alternative c.deref-in-If.result.now c.deref-in-If-2.result.now c.deref-in-If-3.result.now c.in-If.is c.deref-in-If.ensures c.deref-in-If-2.ensures c.deref-in-If-3.ensures))
    c.branches.ensures.exact

pub form-returns-in-Prefix-clause-exact : goal.form-returns-in-Prefix-clause-exact
form-returns-in-Prefix-clause-exact t c =
    subst (λ f. Answers typed_view c.prefix.result (typed_form (decls_view c.args.self.now.decls.now) (context_view c.args.self.now.context) f c.args.at (scope_view c.args.scope.now.items) (wanted_view c.args.wanted)))
    (sym (prefix_is c.args.form.now c.in-Prefix.operator c.in-Prefix.operand c.deref-in-Prefix.result.now c.in-Prefix.is c.deref-in-Prefix.ensures))
    c.prefix.ensures.exact

pub form-returns-in-Case-clause-exact : goal.form-returns-in-Case-clause-exact
form-returns-in-Case-clause-exact t c =
    subst (λ f. Answers typed_view c.case.result (typed_form (decls_view c.args.self.now.decls.now) (context_view c.args.self.now.context) f c.args.at (scope_view c.args.scope.now.items) (wanted_view c.args.wanted)))
    (sym (case_is c.args.form.now c.in-Case.subject c.in-Case.arms c.deref-in-Case.result.now c.deref-in-Case-2.result.now c.in-Case.is c.deref-in-Case.ensures c.deref-in-Case-2.ensures.value))
    c.case.ensures.exact

pub form-returns-in-Fold-clause-exact : goal.form-returns-in-Fold-clause-exact
form-returns-in-Fold-clause-exact t c =
    subst (λ f. Answers typed_view c.fold.result (typed_form (decls_view c.args.self.now.decls.now) (context_view c.args.self.now.context) f c.args.at (scope_view c.args.scope.now.items) (wanted_view c.args.wanted)))
    (sym (fold_is c.args.form.now c.in-Fold.item c.in-Fold.sum c.in-Fold.list c.in-Fold.start c.in-Fold.body c.deref-in-Fold.result.now c.deref-in-Fold-2.result.now c.deref-in-Fold-3.result.now c.deref-in-Fold-4.result.now c.deref-in-Fold-5.result.now c.in-Fold.is c.deref-in-Fold.ensures c.deref-in-Fold-2.ensures c.deref-in-Fold-3.ensures c.deref-in-Fold-4.ensures c.deref-in-Fold-5.ensures))
    c.fold.ensures.exact

pub items-loop-tree-preserved : goal.items-loop-tree-preserved
items-loop-tree-preserved t c = record {
  all = items_step (decls_view c.args.self.now.decls.now) (context_view c.args.self.now.context) (scope_view c.args.scope.now.items) (scope_view c.loop-tree.scope.items) c.args.items.now c.loop-tree.tree-index c.tree-item.result (wanted_view c.lent.result) (option_map ty_view c.loop-tree.ty) c.loop-tree.exprs.items c.in_ok-typed.typed c.push.new.self.items
      (typed_items (decls_view c.args.self.now.decls.now) (context_view c.args.self.now.context) (asts_from (map ast_view c.args.items.now)) (scope_view c.args.scope.now.items) (wanted_view c.args.wanted))
      (ap scope_view c.loop-tree.invariant.locals) c.lent.ensures.same c.in_ok-push.ensures.items (omega arith) c.tree-item.is c.in_ok-typed.ensures.exact c.loop-tree.invariant.all;
  locals = c.typed.ensures.locals ∙ c.loop-tree.invariant.locals;
}

pub items-returns-in_err-typed-clause-exact : goal.items-returns-in_err-typed-clause-exact
items-returns-in_err-typed-clause-exact t c =
    answers_on refusal_of items_view c.from_residual-in_err-typed.result c.in_err-typed.field-0.0 (typed_items (decls_view c.args.self.now.decls.now) (context_view c.args.self.now.context) (asts_from (map ast_view c.args.items.now)) (scope_view c.args.scope.now.items) (wanted_view c.args.wanted)) c.from_residual-in_err-typed.ensures.1
    (items_refused (refusal_of c.in_err-typed.field-0.0) (decls_view c.args.self.now.decls.now) (context_view c.args.self.now.context) (scope_view c.args.scope.now.items) (scope_view c.loop-tree.scope.items) c.args.items.now c.loop-tree.tree-index c.tree-item.result (wanted_view c.lent.result) (option_map ty_view c.loop-tree.ty) (map expr_view c.loop-tree.exprs.items) (typed_items (decls_view c.args.self.now.decls.now) (context_view c.args.self.now.context) (asts_from (map ast_view c.args.items.now)) (scope_view c.args.scope.now.items) (wanted_view c.args.wanted))
    (ap scope_view c.loop-tree.invariant.locals) c.lent.ensures.same (omega arith) c.tree-item.is c.in_err-typed.ensures.exact c.loop-tree.invariant.all)

pub items-returns-clause-exact : goal.items-returns-clause-exact
items-returns-clause-exact t c =
    sym c.loop-tree.invariant.all
    ∙ items_done (decls_view c.args.self.now.decls.now) (context_view c.args.self.now.context) (scope_view c.args.scope.now.items) c.args.items.now c.loop-tree.tree-index (option_map ty_view c.loop-tree.ty) c.loop-tree.exprs.items (omega arith)

pub prefix-returns-in_err-typed-clause-exact : goal.prefix-returns-in_err-typed-clause-exact
prefix-returns-in_err-typed-clause-exact t c =
    let a = part (ast_view c.args.operand.now) (typed_in c.args.self.now c.args.operand.now c.args.scope.now.items) in
    answers_on refusal_of typed_view c.from_residual.result c.in_err-typed.field-0.0 (prefix_rule c.args.operator (spot_view c.args.spot) a) c.from_residual.ensures.1
    (prefix_refused (refusal_of c.in_err-typed.field-0.0) c.args.operator (spot_view c.args.spot) a (wanted_view c.lent.result) (c.lent.ensures.same ∙ c.operand_wanted-wanted.ensures.exact) c.in_err-typed.ensures.exact)

pub prefix-returns-clause-exact : goal.prefix-returns-clause-exact
prefix-returns-clause-exact t c =
    let a = part (ast_view c.args.operand.now) (typed_in c.args.self.now c.args.operand.now c.args.scope.now.items) in
    subst (Answers typed_view c.operand_makes.result)
    (sym (prefix_makes c.args.operator (spot_view c.args.spot) a c.args.operand.now.at (wanted_view c.lent.result) (typed_view c.in_ok-typed.typed) (offset_there c.args.operand.now) (c.lent.ensures.same ∙ c.operand_wanted-wanted.ensures.exact) c.in_ok-typed.ensures.exact))
    c.operand_makes.ensures.exact

pub parts-loop-index-preserved : goal.parts-loop-index-preserved
parts-loop-index-preserved t c = record {
  behind = omega arith;
  all = parts_step (decls_view c.args.self.now.decls.now) (context_view c.args.self.now.context) (scope_view c.args.scope.now.items) (scope_view c.loop-index.scope.items) c.args.parts.now c.loop-index.index (c.loop-index.index - c.args.from) (c.loop-index.index + 1) (c.loop-index.index + 1 - c.args.from) c.index-parts-index.result c.args.wanted.now (wanted_view c.wanted_at.result) c.loop-index.exprs.items c.loop-index.types.items c.in_ok-typed.typed c.push.new.self.items c.push-in-loop-index.new.self.items
      (typed_parts (decls_view c.args.self.now.decls.now) (context_view c.args.self.now.context) (asts_from (map ast_view (drop c.args.from c.args.parts.now))) (scope_view c.args.scope.now.items) (tys_view c.args.wanted.now))
      (ap scope_view c.loop-index.invariant.locals) c.wanted_at.ensures.exact c.in_ok-push.ensures.items c.in_ok-push-2.ensures.items (omega arith) (omega arith) (omega arith) c.index-parts-index.is c.in_ok-typed.ensures.exact c.loop-index.invariant.all;
  locals = c.typed.ensures.locals ∙ c.loop-index.invariant.locals;
}

pub parts-returns-clause-exact : goal.parts-returns-clause-exact
parts-returns-clause-exact t c =
    sym c.loop-index.invariant.all
    ∙ parts_done (decls_view c.args.self.now.decls.now) (context_view c.args.self.now.context) (scope_view c.args.scope.now.items) c.args.parts.now c.loop-index.index (tys_view (drop (c.loop-index.index - c.args.from) c.args.wanted.now)) c.loop-index.exprs.items c.loop-index.types.items (omega arith)

pub parts-returns-in_err-typed-clause-exact : goal.parts-returns-in_err-typed-clause-exact
parts-returns-in_err-typed-clause-exact t c =
    answers_on refusal_of parts_view c.from_residual.result c.in_err-typed.field-0.0 (typed_parts (decls_view c.args.self.now.decls.now) (context_view c.args.self.now.context) (asts_from (map ast_view (drop c.args.from c.args.parts.now))) (scope_view c.args.scope.now.items) (tys_view c.args.wanted.now)) c.from_residual.ensures.1
    (parts_refused (refusal_of c.in_err-typed.field-0.0) (decls_view c.args.self.now.decls.now) (context_view c.args.self.now.context) (scope_view c.args.scope.now.items) (scope_view c.loop-index.scope.items) c.args.parts.now c.loop-index.index (c.loop-index.index - c.args.from) c.index-parts-index.result c.args.wanted.now (wanted_view c.wanted_at.result) (map expr_view c.loop-index.exprs.items) (map ty_view c.loop-index.types.items) (typed_parts (decls_view c.args.self.now.decls.now) (context_view c.args.self.now.context) (asts_from (map ast_view (drop c.args.from c.args.parts.now))) (scope_view c.args.scope.now.items) (tys_view c.args.wanted.now))
    (ap scope_view c.loop-index.invariant.locals) c.wanted_at.ensures.exact (omega arith) c.index-parts-index.is c.in_err-typed.ensures.exact c.loop-index.invariant.all)

pub fold-returns-in_err-body-clause-exact : goal.fold-returns-in_err-body-clause-exact
fold-returns-in_err-body-clause-exact t c =
    let p = err_from_is_err_and c.from_residual-in_err-body.result c.from_residual-in_err-body.ensures.1 in
    rw (p.1, p.2) (fold_refused (refusal_of c.in_err-body.field-0.0) c.args.self.now c.args.item.now c.args.total.now c.args.list.now c.args.start.now c.args.body.now c.args.scope.now.items (wanted_view c.args.wanted) (typed_view c.in_ok-list_typed.list_typed) (typed_view c.in_ok-start.start) (ty_view c.in_ok-item_type.item_type) (scope_view c.typed-2.new.scope.items ++ local_of c.args.item.now (ty_view c.in_ok-item_type.item_type) ∷ local_of c.args.total.now (ty_view c.in_ok-start.start.ty) ∷ [])
    c.in_ok-list_typed.ensures.exact
    c.in_ok-item_type.ensures.exact
    (ap (λ s. typed_in c.args.self.now c.args.start.now s (wanted_view c.args.wanted)) (sym c.typed.ensures.locals) ∙ c.in_ok-start.ensures.exact)
    (ap (λ s. scope_view s ++ local_of c.args.item.now (ty_view c.in_ok-item_type.item_type) ∷ local_of c.args.total.now (ty_view c.in_ok-start.start.ty) ∷ []) (c.typed-2.ensures.locals ∙ c.typed.ensures.locals))
    c.in_err-body.ensures.exact)
