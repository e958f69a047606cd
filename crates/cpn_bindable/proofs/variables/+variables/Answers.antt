-- What is found part by part is what stands in the whole.
use Rattle.std.proofs.Common.{map, refl}
use Rattle.cpn_definitions.specs.Inscription.{arms_from}
use Rattle.cpn_definitions.specs.Bindable.{variables_of, variables_of_each, variables_of_arms}
use Rattle.cpn_core.specs.Inscriptions.{expr_view, exprs_view, arm_view}
use Rattle.cpn_bindable.proofs.FoundVariables.{of_two, of_three, one_more, all_parts, in_and, in_or, in_if, in_case, in_let, in_fold, in_arm}
use Rattle.cpn_bindable.proofs.variables.+variables.Goals as goal

pub push_variables-returns-in_ok-push_variables-in-And : goal.push_variables-returns-in_ok-push_variables-in-And
push_variables-returns-in_ok-push_variables-in-And t c = record {
  all = of_two c.push_variables-in-And.result _ _ _ _ _ _ (in_and _ _ _ c.in-And.first c.in-And.second c.in-And.is c.deref.ensures c.deref-in-And.ensures)
      c.in_ok-push_variables-in-And.ensures.all c.push_variables-in-And.ensures.all;
}

pub push_variables-returns-in_ok-push_variables-in-Or : goal.push_variables-returns-in_ok-push_variables-in-Or
push_variables-returns-in_ok-push_variables-in-Or t c = record {
  all = of_two c.push_variables-in-Or-2.result _ _ _ _ _ _ (in_or _ _ _ c.in-Or.first c.in-Or.second c.in-Or.is c.deref-in-Or.ensures c.deref-in-Or-2.ensures)
      c.in_ok-push_variables-in-Or.ensures.all c.push_variables-in-Or-2.ensures.all;
}

pub push_variables-returns-in_ok-push_variables-in-If-2 : goal.push_variables-returns-in_ok-push_variables-in-If-2
push_variables-returns-in_ok-push_variables-in-If-2 t c = record {
  all = of_three c.push_variables-in-If-3.result _ _ _ _ _ _ _ _
      (in_if _ _ _ _ c.in-If.condition c.in-If.first c.in-If.second c.in-If.is c.deref-in-If.ensures c.deref-in-If-2.ensures c.deref-in-If-3.ensures)
      c.in_ok-push_variables-in-If.ensures.all c.in_ok-push_variables-in-If-2.ensures.all c.push_variables-in-If-3.ensures.all;
}

pub push_variables-returns-in_ok-push_variables-in-Case : goal.push_variables-returns-in_ok-push_variables-in-Case
push_variables-returns-in_ok-push_variables-in-Case t c = record {
  all = of_two c.push_of_arms.result _ _ _ _ _ _ (in_case _ _ c.in-Case.subject c.in-Case.arms c.in-Case.is c.deref-in-Case.ensures)
      c.in_ok-push_variables-in-Case.ensures.all c.push_of_arms.ensures.all;
}

pub push_variables-returns-in_ok-push_variables-in-Let : goal.push_variables-returns-in_ok-push_variables-in-Let
push_variables-returns-in_ok-push_variables-in-Let t c = record {
  all = of_two c.push_variables-in-Let-2.result _ _ _ _ _ _ (in_let _ _ _ c.in-Let.value c.in-Let.body c.in-Let.is c.deref-in-Let.ensures c.deref-in-Let-2.ensures)
      c.in_ok-push_variables-in-Let.ensures.all c.push_variables-in-Let-2.ensures.all;
}

pub push_variables-returns-in_ok-push_variables-in-Fold-2 : goal.push_variables-returns-in_ok-push_variables-in-Fold-2
push_variables-returns-in_ok-push_variables-in-Fold-2 t c = record {
  all = of_three c.push_variables-in-Fold-3.result _ _ _ _ _ _ _ _
      (in_fold _ _ _ _ c.in-Fold.list c.in-Fold.start c.in-Fold.body c.in-Fold.is c.deref-in-Fold.ensures c.deref-in-Fold-2.ensures c.deref-in-Fold-3.ensures)
      c.in_ok-push_variables-in-Fold.ensures.all c.in_ok-push_variables-in-Fold-2.ensures.all c.push_variables-in-Fold-3.ensures.all;
}

pub push_of_each-loop-part-preserved : goal.push_of_each-loop-part-preserved
push_of_each-loop-part-preserved t c =
    one_more (λ es. variables_of_each (exprs_view es)) (variables_of (expr_view c.part-item.result)) c.deref-part-items.result.now c.args.parts.now.items c.loop-part.part-index c.part-item.result _ _ _
    c.deref-part-items.ensures.value c.loop-part-test.true c.part-item.is (λ rest. refl) c.in_ok-push_variables.ensures.all c.loop-part.invariant

pub push_of_each-returns : goal.push_of_each-returns
push_of_each-returns t c = record {
  all = all_parts (λ es. variables_of_each (exprs_view es)) c.deref-part-items.result.now c.args.parts.now.items c.loop-part.part-index _ _
      c.deref-part-items.ensures.value c.loop-part-test.false refl c.loop-part.invariant;
}

pub push_of_arms-loop-arm-preserved : goal.push_of_arms-loop-arm-preserved
push_of_arms-loop-arm-preserved t c =
    one_more (λ arms. variables_of_arms (arms_from (map arm_view arms))) (variables_of (expr_view c.arm-item.result.result)) c.deref-arm-items.result.now c.args.arms.now.items c.loop-arm.arm-index c.arm-item.result _ _ _
    c.deref-arm-items.ensures.value c.loop-arm-test.true c.arm-item.is (in_arm c.arm-item.result) c.in_ok-push_variables.ensures.all c.loop-arm.invariant

pub push_of_arms-returns : goal.push_of_arms-returns
push_of_arms-returns t c = record {
  all = all_parts (λ arms. variables_of_arms (arms_from (map arm_view arms))) c.deref-arm-items.result.now c.args.arms.now.items c.loop-arm.arm-index _ _
      c.deref-arm-items.ensures.value c.loop-arm-test.false refl c.loop-arm.invariant;
}
