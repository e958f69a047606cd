-- What is found part by part is what stands in the whole.
use Rattle.std.proofs.Common.{map, refl}
use Rattle.cpn_definitions.specs.Inscription.{inscriptions_from, arc_arms_from}
use Rattle.cpn_typing.specs.InscriptionVariables.{inscription_variables, each_variables, arms_variables}
use Rattle.cpn_core.specs.Inscriptions.{multiset_view, arc_arm_view}
use Rattle.cpn_bindable.proofs.FoundVariables.{of_two, of_three, one_more, all_parts, in_times, in_later, in_chosen, in_selected, in_bound, in_arc_arm}
use Rattle.cpn_bindable.proofs.variables.+arc_variables.Goals as goal

pub push_arc_variables-returns-in_ok-push_variables-in-Times : goal.push_arc_variables-returns-in_ok-push_variables-in-Times
push_arc_variables-returns-in_ok-push_variables-in-Times t c = record {
  all = of_two c.push_variables-in-Times-2.result _ _ _ _ _ _ (in_times _ c.in-Times.count c.in-Times.value c.in-Times.is) c.in_ok-push_variables-in-Times.ensures.all c.push_variables-in-Times-2.ensures.all;
}

pub push_arc_variables-returns-in_ok-push_arc_variables-in-Later : goal.push_arc_variables-returns-in_ok-push_arc_variables-in-Later
push_arc_variables-returns-in_ok-push_arc_variables-in-Later t c = record {
  all = of_two c.push_variables-in-Later.result _ _ _ _ _ _ (in_later _ _ c.in-Later.tokens c.in-Later.delay c.in-Later.is c.deref.ensures)
      c.in_ok-push_arc_variables-in-Later.ensures.all c.push_variables-in-Later.ensures.all;
}

pub push_arc_variables-returns-in_ok-push_arc_variables-in-If : goal.push_arc_variables-returns-in_ok-push_arc_variables-in-If
push_arc_variables-returns-in_ok-push_arc_variables-in-If t c = record {
  all = of_three c.push_arc_variables-in-If-2.result _ _ _ _ _ _ _ _
      (in_chosen _ _ _ c.in-If.condition c.in-If.first c.in-If.second c.in-If.is c.deref-in-If.ensures c.deref-in-If-2.ensures)
      c.in_ok-push_variables-in-If.ensures.all c.in_ok-push_arc_variables-in-If.ensures.all c.push_arc_variables-in-If-2.ensures.all;
}

pub push_arc_variables-returns-in_ok-push_variables-in-Case : goal.push_arc_variables-returns-in_ok-push_variables-in-Case
push_arc_variables-returns-in_ok-push_variables-in-Case t c = record {
  all = of_two c.push_of_arc_arms.result _ _ _ _ _ _ (in_selected _ c.in-Case.subject c.in-Case.arms c.in-Case.is)
      c.in_ok-push_variables-in-Case.ensures.all c.push_of_arc_arms.ensures.all;
}

pub push_arc_variables-returns-in_ok-push_variables-in-Let : goal.push_arc_variables-returns-in_ok-push_variables-in-Let
push_arc_variables-returns-in_ok-push_variables-in-Let t c = record {
  all = of_two c.push_arc_variables-in-Let.result _ _ _ _ _ _ (in_bound _ _ c.in-Let.value c.in-Let.tokens c.in-Let.is c.deref-in-Let.ensures)
      c.in_ok-push_variables-in-Let.ensures.all c.push_arc_variables-in-Let.ensures.all;
}

pub push_of_sum-loop-part-preserved : goal.push_of_sum-loop-part-preserved
push_of_sum-loop-part-preserved t c =
    one_more (λ ms. each_variables (inscriptions_from (map multiset_view ms))) (inscription_variables (multiset_view c.part-item.result)) c.deref-part-items.result.now c.args.parts.now.items c.loop-part.part-index c.part-item.result _ _ _
    c.deref-part-items.ensures.value c.loop-part-test.true c.part-item.is (λ rest. refl) c.in_ok-push_arc_variables.ensures.all c.loop-part.invariant

pub push_of_sum-returns : goal.push_of_sum-returns
push_of_sum-returns t c = record {
  all = all_parts (λ ms. each_variables (inscriptions_from (map multiset_view ms))) c.deref-part-items.result.now c.args.parts.now.items c.loop-part.part-index _ _
      c.deref-part-items.ensures.value c.loop-part-test.false refl c.loop-part.invariant;
}

pub push_of_arc_arms-loop-arm-preserved : goal.push_of_arc_arms-loop-arm-preserved
push_of_arc_arms-loop-arm-preserved t c =
    one_more (λ arms. arms_variables (arc_arms_from (map arc_arm_view arms))) (inscription_variables (multiset_view c.arm-item.result.result)) c.deref-arm-items.result.now c.args.arms.now.items c.loop-arm.arm-index c.arm-item.result _ _ _
    c.deref-arm-items.ensures.value c.loop-arm-test.true c.arm-item.is (in_arc_arm c.arm-item.result) c.in_ok-push_arc_variables.ensures.all c.loop-arm.invariant

pub push_of_arc_arms-returns : goal.push_of_arc_arms-returns
push_of_arc_arms-returns t c = record {
  all = all_parts (λ arms. arms_variables (arc_arms_from (map arc_arm_view arms))) c.deref-arm-items.result.now c.args.arms.now.items c.loop-arm.arm-index _ _
      c.deref-arm-items.ensures.value c.loop-arm-test.false refl c.loop-arm.invariant;
}
