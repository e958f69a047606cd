-- The variables are those of the transition.
use Rattle.std.proofs.Common.{refl, subst}
use Rattle.std.specs.Prelude.{string_bytes}
use Rattle.cpn_typing.specs.AcceptedTransitions.{HasItsVariables}
use Rattle.cpn_bindable.specs.Transitions.{transition_with}
use Rattle.cpn_module_nets.proofs.joining.completed.Goals as goal

pub returns : goal.returns
returns c = record {
  completed = record {
    same = refl;
    variables =
        subst (λ ins. HasItsVariables (transition_with c.args.transition.guard.value c.args.transition.delay ins c.args.transition.outputs.items c.in_ok-vars.vars.items (string_bytes c.args.transition.name))) c.as_slice.ensures.value
        (subst (λ outs. HasItsVariables (transition_with c.args.transition.guard.value c.args.transition.delay c.as_slice.result.now outs c.in_ok-vars.vars.items (string_bytes c.args.transition.name))) c.as_slice-2.ensures.value (rw c.deref.ensures at (c.in_ok-vars.ensures.exact (string_bytes c.args.transition.name))));
  };
}
