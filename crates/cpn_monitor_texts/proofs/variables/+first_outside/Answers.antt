-- What is found part by part is what is found in the whole.
use Rattle.std.proofs.Common.{◌≡◌, ◌<◌, ◌∙◌, ℕ, List, length, get_or, map, ap, subst}
use Rattle.cpn_core.specs.declared.inscriptions.Arm.{Arm}
use Rattle.cpn_core.specs.declared.inscriptions.Expr.{Expr}
use Rattle.cpn_core.specs.Inscriptions.{arm_view, expr_view}
use Rattle.cpn_core.proofs.InscriptionLevels.{view_and, view_or, view_if, view_case, view_let, view_fold}
use Rattle.cpn_definitions.specs.Bindable.{variables_of, variables_of_arms}
use Rattle.cpn_definitions.specs.Inscription.{arms_from}
use Rattle.cpn_monitor_texts.specs.Variables.{first_outside}
use Rattle.cpn_monitor_texts.proofs.FirstOutside.{of_two, of_three, next_part, next_arm}
use Rattle.cpn_monitor_texts.proofs.variables.+first_outside.Goals as goal

-- what is found in an inscription that is the same
same : (vars : List ℕ) (e f : Expr) → e ≡ f → first_outside vars (variables_of (expr_view e)) ≡ first_outside vars (variables_of (expr_view f))
same vars e f is = ap (λ x. first_outside vars (variables_of (expr_view x))) is

pub first_outside-returns-in-And : goal.first_outside-returns-in-And
first_outside-returns-in-And t c = record {
  first = rw (c.in-And.is, view_and c.in-And.first c.in-And.second)
      (of_two c.args.vars.now _ _ c.first_outside.result c.first_outside-in-And.result c.earlier.result
      (c.first_outside.ensures.first ∙ same c.args.vars.now _ _ c.deref.ensures)
      (c.first_outside-in-And.ensures.first ∙ same c.args.vars.now _ _ c.deref-in-And.ensures) c.earlier.ensures.earlier);
}

pub first_outside-returns-in-Or : goal.first_outside-returns-in-Or
first_outside-returns-in-Or t c = record {
  first = rw (c.in-Or.is, view_or c.in-Or.first c.in-Or.second)
      (of_two c.args.vars.now _ _ c.first_outside-in-Or.result c.first_outside-in-Or-2.result c.earlier-in-Or.result
      (c.first_outside-in-Or.ensures.first ∙ same c.args.vars.now _ _ c.deref-in-Or.ensures)
      (c.first_outside-in-Or-2.ensures.first ∙ same c.args.vars.now _ _ c.deref-in-Or-2.ensures) c.earlier-in-Or.ensures.earlier);
}

pub first_outside-returns-in-If : goal.first_outside-returns-in-If
first_outside-returns-in-If t c = record {
  first = rw (c.in-If.is, view_if c.in-If.condition c.in-If.first c.in-If.second)
      (of_three c.args.vars.now _ _ _ c.first_outside-in-If.result c.first_outside-in-If-2.result c.first_outside-in-If-3.result c.earlier-in-If.result c.earlier-in-If-2.result
      (c.first_outside-in-If.ensures.first ∙ same c.args.vars.now _ _ c.deref-in-If.ensures)
      (c.first_outside-in-If-2.ensures.first ∙ same c.args.vars.now _ _ c.deref-in-If-2.ensures)
      (c.first_outside-in-If-3.ensures.first ∙ same c.args.vars.now _ _ c.deref-in-If-3.ensures) c.earlier-in-If.ensures.earlier c.earlier-in-If-2.ensures.earlier);
}

pub first_outside-returns-in-Case : goal.first_outside-returns-in-Case
first_outside-returns-in-Case t c = record {
  first = rw (c.in-Case.is, view_case c.in-Case.subject c.in-Case.arms)
      (of_two c.args.vars.now _ (variables_of_arms (arms_from (map arm_view c.in-Case.arms.items))) c.first_outside-in-Case.result c.first_of_arms.result c.earlier-in-Case.result
      (c.first_outside-in-Case.ensures.first ∙ same c.args.vars.now _ _ c.deref-in-Case.ensures) c.first_of_arms.ensures.first c.earlier-in-Case.ensures.earlier);
}

pub first_outside-returns-in-Let : goal.first_outside-returns-in-Let
first_outside-returns-in-Let t c = record {
  first = rw (c.in-Let.is, view_let c.in-Let.value c.in-Let.body)
      (of_two c.args.vars.now _ _ c.first_outside-in-Let.result c.first_outside-in-Let-2.result c.earlier-in-Let.result
      (c.first_outside-in-Let.ensures.first ∙ same c.args.vars.now _ _ c.deref-in-Let.ensures)
      (c.first_outside-in-Let-2.ensures.first ∙ same c.args.vars.now _ _ c.deref-in-Let-2.ensures) c.earlier-in-Let.ensures.earlier);
}

pub first_outside-returns-in-Fold : goal.first_outside-returns-in-Fold
first_outside-returns-in-Fold t c = record {
  first = rw (c.in-Fold.is, view_fold c.in-Fold.list c.in-Fold.start c.in-Fold.body)
      (of_three c.args.vars.now _ _ _ c.first_outside-in-Fold.result c.first_outside-in-Fold-2.result c.first_outside-in-Fold-3.result c.earlier-in-Fold.result c.earlier-in-Fold-2.result
      (c.first_outside-in-Fold.ensures.first ∙ same c.args.vars.now _ _ c.deref-in-Fold.ensures)
      (c.first_outside-in-Fold-2.ensures.first ∙ same c.args.vars.now _ _ c.deref-in-Fold-2.ensures)
      (c.first_outside-in-Fold-3.ensures.first ∙ same c.args.vars.now _ _ c.deref-in-Fold-3.ensures) c.earlier-in-Fold.ensures.earlier c.earlier-in-Fold-2.ensures.earlier);
}

pub first_of_each-loop-part-preserved : goal.first_of_each-loop-part-preserved
first_of_each-loop-part-preserved t c =
    let is = c.deref-part-items.ensures.value in
    next_part c.args.vars.now c.args.parts.now.items c.loop-part.part-index c.part-item.result (subst (λ (es : List Expr). c.loop-part.part-index < length es) is c.loop-part-test.true)
    (subst (λ (es : List Expr). c.part-item.result ≡ get_or es c.loop-part.part-index c.part-item.result) is c.part-item.is)
    c.loop-part.found c.first_outside.result c.earlier-found.result _ c.first_outside.ensures.first c.earlier-found.ensures.earlier c.loop-part.invariant

pub first_of_arms-loop-arm-preserved : goal.first_of_arms-loop-arm-preserved
first_of_arms-loop-arm-preserved t c =
    let is = c.deref-arm-items.ensures.value in
    next_arm c.args.vars.now c.args.arms.now.items c.loop-arm.arm-index c.arm-item.result (subst (λ (arms : List Arm). c.loop-arm.arm-index < length arms) is c.loop-arm-test.true)
    (subst (λ (arms : List Arm). c.arm-item.result ≡ get_or arms c.loop-arm.arm-index c.arm-item.result) is c.arm-item.is)
    c.loop-arm.found c.first_outside.result c.earlier-found.result _ c.first_outside.ensures.first c.earlier-found.ensures.earlier c.loop-arm.invariant
