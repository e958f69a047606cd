-- The value fits none of the arms so far.
use Rattle.std.proofs.Common.{◌≡◌, ℕ, List, drop}
use Rattle.cpn_definitions.specs.Value.{PlainValue}
use Rattle.cpn_definitions.specs.Colour.{PlainColour}
use Rattle.cpn_definitions.specs.Meaning.{Setting}
use Rattle.cpn_core.specs.Views.{value_view}
use Rattle.cpn_eval.specs.Arms.{among}
use Rattle.cpn_eval.proofs.arms.arm_for.Given as goal

abbrev pub invariant-loop-position : goal.invariant-loop-position
invariant-loop-position l =
    (colour : PlainColour) (s : Setting) (locals : List PlainValue) (before : ℕ)
    → among l.arms (value_view l.value) colour s locals before ≡ among (drop l.position l.arms) (value_view l.value) colour s locals before
