-- What was found so far and what is left to find are what is to be found.
use Rattle.std.proofs.Common.{◌≡◌, ◌++◌, map, drop}
use Rattle.cpn_definitions.specs.Inscription.{inscriptions_from, arc_arms_from}
use Rattle.cpn_typing.specs.InscriptionVariables.{each_variables, arms_variables}
use Rattle.cpn_core.specs.Inscriptions.{multiset_view, arc_arm_view}
use Rattle.cpn_bindable.proofs.variables.+arc_variables.Given as goal

abbrev pub invariant-push_of_sum-loop-part : goal.invariant-push_of_sum-loop-part
invariant-push_of_sum-loop-part l =
    l.found.items ++ each_variables (inscriptions_from (map multiset_view (drop l.part-index l.parts.items))) ≡ l.initial.found.items ++ each_variables (inscriptions_from (map multiset_view l.parts.items))

abbrev pub invariant-push_of_arc_arms-loop-arm : goal.invariant-push_of_arc_arms-loop-arm
invariant-push_of_arc_arms-loop-arm l =
    l.found.items ++ arms_variables (arc_arms_from (map arc_arm_view (drop l.arm-index l.arms.items))) ≡ l.initial.found.items ++ arms_variables (arc_arms_from (map arc_arm_view l.arms.items))
