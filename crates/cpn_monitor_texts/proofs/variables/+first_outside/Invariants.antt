-- What was found so far, or else what is found in the rest, is what is to be found.
use Rattle.std.proofs.Common.{◌≡◌, map, drop}
use Rattle.std.specs.Option.{option_or}
use Rattle.cpn_definitions.specs.Inscription.{arms_from}
use Rattle.cpn_definitions.specs.Bindable.{variables_of_each, variables_of_arms}
use Rattle.cpn_core.specs.Inscriptions.{exprs_view, arm_view}
use Rattle.cpn_monitor_texts.specs.Variables.{first_outside}
use Rattle.cpn_monitor_texts.proofs.variables.+first_outside.Given as goal

abbrev pub invariant-first_of_each-loop-part : goal.invariant-first_of_each-loop-part
invariant-first_of_each-loop-part l =
    option_or l.found (first_outside l.vars (variables_of_each (exprs_view (drop l.part-index l.parts.items)))) ≡ first_outside l.vars (variables_of_each (exprs_view l.parts.items))

abbrev pub invariant-first_of_arms-loop-arm : goal.invariant-first_of_arms-loop-arm
invariant-first_of_arms-loop-arm l =
    option_or l.found (first_outside l.vars (variables_of_arms (arms_from (map arm_view (drop l.arm-index l.arms.items))))) ≡ first_outside l.vars (variables_of_arms (arms_from (map arm_view l.arms.items)))
