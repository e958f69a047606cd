-- What was found so far and what is left to find are what is to be found.
use Rattle.std.proofs.Common.{◌≡◌, ◌++◌, map, drop}
use Rattle.cpn_definitions.specs.Inscription.{arms_from}
use Rattle.cpn_definitions.specs.Bindable.{variables_of_each, variables_of_arms}
use Rattle.cpn_core.specs.Inscriptions.{exprs_view, arm_view}
use Rattle.cpn_bindable.proofs.variables.+variables.Given as goal

abbrev pub invariant-push_of_each-loop-part : goal.invariant-push_of_each-loop-part
invariant-push_of_each-loop-part l =
    l.found.items ++ variables_of_each (exprs_view (drop l.part-index l.parts.items)) ≡ l.initial.found.items ++ variables_of_each (exprs_view l.parts.items)

abbrev pub invariant-push_of_arms-loop-arm : goal.invariant-push_of_arms-loop-arm
invariant-push_of_arms-loop-arm l =
    l.found.items ++ variables_of_arms (arms_from (map arm_view (drop l.arm-index l.arms.items))) ≡ l.initial.found.items ++ variables_of_arms (arms_from (map arm_view l.arms.items))
