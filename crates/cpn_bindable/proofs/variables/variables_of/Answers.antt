-- What is found part by part are the variables of the transition.
use Rattle.std.proofs.Common.{◌↔◌, map, Contains, subst}
use Rattle.std.specs.List.{flat_map}
use Rattle.cpn_definitions.specs.Bindable.{variables_of, variables_of_each}
use Rattle.cpn_typing.specs.AcceptedTransitions.{delay_variables, arcs_variables}
use Rattle.cpn_core.specs.Inscriptions.{expr_view, exprs_view}
use Rattle.cpn_core.specs.Nets.{arcs_view, delay_view}
use Rattle.cpn_bindable.proofs.GatheredVariables.{each_is_flat, gathered}
use Rattle.cpn_bindable.proofs.variables.variables_of.Goals as goal

pub returns : goal.returns
returns c = record {
  exact = λ name. record {
    listed = c.rising.ensures.rises;
    exact = λ x. subst (λ xs. Contains c.rising.result.items x ↔ Contains xs x)
        (gathered c.new-found.result.items c.push_of_each.new.found.items c.push_of_delay.new.found.items c.push_of_arcs.new.found.items c.push_of_arcs-2.new.found.items
        (flat_map variables_of (map expr_view c.args.guard.now.conjuncts.items))
        (delay_variables (delay_view c.args.delay.now))
        (arcs_variables (arcs_view c.args.inputs.now))
        (arcs_variables (arcs_view c.args.outputs.now))
        (variables_of_each (exprs_view c.args.guard.now.conjuncts.items))
        c.new-found.ensures.items
        c.in_ok-push_of_each.ensures.all
        (each_is_flat (map expr_view c.args.guard.now.conjuncts.items))
        c.in_ok-push_of_delay.ensures.all
        c.in_ok-push_of_arcs.ensures.all
        c.in_ok-push_of_arcs-2.ensures.all)
        (c.rising.ensures.same x);
  };
}
