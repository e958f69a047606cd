-- Each turn plans one stage more, and fewer variables are left.
use Rattle.std.proofs.Common.{[], ◌∷◌, arith, eqb-true, sym, ap, ◌∙◌, subst}
use Rattle.cpn_core.specs.Nets.{net_view, transition_view}
use Rattle.cpn_stages.specs.Stages.{those_without}
use Rattle.cpn_search.specs.StageViews.{stage_view, stages_view}
use Rattle.cpn_search.specs.Plans.{IsNext}
use Rattle.cpn_search.proofs.PlanSteps.{none_planned, planned_on, left_on, values_on, fewer_on, none_at_all, all_planned}
use Rattle.cpn_search.proofs.plan.push_further.Goals as goal

pub loop-alloc-init : goal.loop-alloc-init
loop-alloc-init c = (none_planned (net_view c.args.net.now) (transition_view c.args.transition.now) c.args.left.items (stages_view c.args.stages.now.items), c.requires.left, λ h. h)

pub loop-alloc-preserved : goal.loop-alloc-preserved
loop-alloc-preserved c =
    let x = c.in_ok-variable.field-0.variable in
    let next = subst (λ xs. IsNext (net_view c.args.net.now) (transition_view c.args.transition.now) xs x (stage_view c.in_ok-variable.field-0.stage)) c.deref.ensures.value c.in_ok-variable.ensures.next in
    let fewer = c.in_ok-left.ensures.exact ∙ ap (those_without (x ∷ [])) c.deref-in-loop-alloc.ensures.value in (
      planned_on (net_view c.args.net.now) (transition_view c.args.transition.now) c.args.left.items c.loop-alloc.left.items c.in_ok-left.left.items (stages_view c.args.stages.now.items) c.loop-alloc.stages.items c.push.new.self.items x c.in_ok-variable.field-0.stage
          c.loop-alloc.invariant.0 next c.in_ok-push.ensures.items fewer,
      left_on (transition_view c.args.transition.now) c.loop-alloc.left.items c.in_ok-left.left.items x c.loop-alloc.invariant.1 fewer,
      λ before. values_on (net_view c.args.net.now) c.loop-alloc.stages.items c.push.new.self.items c.in_ok-variable.field-0.stage (c.loop-alloc.invariant.2 before) c.in_ok-variable.ensures.values c.in_ok-push.ensures.items,
    )

pub loop-alloc-smaller : goal.loop-alloc-smaller
loop-alloc-smaller c =
    let x = c.in_ok-variable.field-0.variable in
    let next = subst (λ xs. IsNext (net_view c.args.net.now) (transition_view c.args.transition.now) xs x (stage_view c.in_ok-variable.field-0.stage)) c.deref.ensures.value c.in_ok-variable.ensures.next in
    let fewer = c.in_ok-left.ensures.exact ∙ ap (those_without (x ∷ [])) c.deref-in-loop-alloc.ensures.value in
    fewer_on (net_view c.args.net.now) (transition_view c.args.transition.now) c.loop-alloc.left.items c.in_ok-left.left.items x c.in_ok-variable.field-0.stage next fewer

pub returns : goal.returns
returns c = record {
  further = all_planned (net_view c.args.net.now) (transition_view c.args.transition.now) c.args.left.items c.loop-alloc.left.items (stages_view c.args.stages.now.items) (stages_view c.loop-alloc.stages.items) c.loop-alloc.invariant.0
      (none_at_all c.loop-alloc.left.items (λ h. omega (arith, eqb-true _ _ (sym c.loop-alloc-test.ensures))));
  values = c.loop-alloc.invariant.2;
}
