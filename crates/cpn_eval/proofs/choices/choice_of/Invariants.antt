-- The value fits none of the arms so far.
use Rattle.std.proofs.Common.{◌≡◌, List, map, drop}
use Rattle.cpn_definitions.specs.Value.{PlainValue}
use Rattle.cpn_definitions.specs.Inscription.{arms_from}
use Rattle.cpn_definitions.specs.Meaning.{Setting, meant_among}
use Rattle.cpn_core.specs.Views.{value_view}
use Rattle.cpn_core.specs.Inscriptions.{arm_view}
use Rattle.cpn_eval.proofs.choices.choice_of.Given as goal

abbrev pub invariant-loop-arm : goal.invariant-loop-arm
invariant-loop-arm l =
    (s : Setting) (ls : List PlainValue)
    → meant_among (arms_from (map arm_view l.arms)) (value_view l.value) s ls ≡ meant_among (arms_from (map arm_view (drop l.arm-index l.arms))) (value_view l.value) s ls
