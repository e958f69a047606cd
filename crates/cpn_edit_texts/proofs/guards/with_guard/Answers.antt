-- It has all of the transition but its guard and its variables.
use Rattle.std.proofs.Common.{◌∙◌, List, map, sym, ap, subst}
use Rattle.std.specs.Prelude.{string_bytes}
use Rattle.cpn_bindable.specs.Transitions.{transition_with}
use Rattle.cpn_core.specs.Inscriptions.{expr_view}
use Rattle.cpn_core.specs.Nets.{arcs_view, transition_view}
use Rattle.cpn_core.specs.declared.inscriptions.Guard.{Guard}
use Rattle.cpn_core.specs.declared.nets.PlaceArc.{PlaceArc}
use Rattle.cpn_typing.specs.AcceptedTransitions.{HasItsVariables}
use Rattle.cpn_edit_texts.proofs.NetTransitions.{completed_is, its_transition}
use Rattle.cpn_edit_texts.proofs.guards.with_guard.Goals as goal

pub returns : goal.returns
returns c = record {
  completed = (
      let name = string_bytes c.in_ok-name.name in
      let vars = c.in_ok-vars.vars.items in
      let its = subst (λ (g : Guard). HasItsVariables (transition_with g c.in_ok-delay.delay c.in_ok-inputs.inputs.items c.in_ok-outputs.outputs.items vars name)) (sym c.in_ok-new.ensures.ok)
      (subst (λ (outs : List PlaceArc). HasItsVariables (transition_with c.args.guard c.in_ok-delay.delay c.in_ok-inputs.inputs.items outs vars name)) c.as_slice-4.ensures.value
      (subst (λ (ins : List PlaceArc). HasItsVariables (transition_with c.args.guard c.in_ok-delay.delay ins c.as_slice-4.result.now vars name)) c.as_slice-3.ensures.value (c.in_ok-vars.ensures.exact name))) in
      rw (← its_transition c.args.net.now c.args.number c.index-transition.result.now c.requires.there c.index-transition.ensures)
      (completed_is (transition_view c.index-transition.result.now) (map expr_view c.args.guard.conjuncts.items) _
      (c.in_ok-name.ensures.ok ∙ c.as_str.ensures.value)
      (ap (λ (g : Guard). map expr_view g.conjuncts.items) c.in_ok-new.ensures.ok)
      c.in_ok-delay.ensures.same
      (c.in_ok-inputs.ensures.same ∙ ap arcs_view c.as_slice.ensures.value)
      (c.in_ok-outputs.ensures.same ∙ ap arcs_view c.as_slice-2.ensures.value)
      its));
}
