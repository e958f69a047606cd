-- Which arm of a `case` over tokens is taken.
use Rattle.std.specs.Prelude.{ℕ, ◌≡◌, List, ◌++◌, map, get_or, Result, Ok, Err}
use Rattle.cpn_definitions.specs.Value.{PlainValue}
use Rattle.cpn_definitions.specs.Colour.{PlainColour}
use Rattle.cpn_definitions.specs.Outcome.{Outcome}
use Rattle.cpn_definitions.specs.Inscription.{arc_arms_from}
use Rattle.cpn_definitions.specs.Meaning.{Setting}
use Rattle.cpn_definitions.specs.Terms.{PlainTerm, terms_behind, terms_among}
use Rattle.cpn_core.specs.Views.{value_view}
use Rattle.cpn_core.specs.declared.inscriptions.MArm.{MArm}
use Rattle.cpn_core.specs.Inscriptions.{multiset_view, arc_arm_view}
use Rattle.cpn_eval.specs.Answers.{Stops}
use Rattle.cpn_eval.specs.declared.refusals.NoValue.{NoValue}
use Rattle.cpn_eval.specs.declared.arms.Fit.{Fit}

-- what arms give for a value
abbrev pub among : List MArm → PlainValue → PlainColour → Setting → List PlainValue → ℕ → Outcome (List PlainTerm)
among arms v colour s locals before = terms_among (arc_arms_from (map arc_arm_view arms)) v colour s locals before

-- the arms give what the one that the value fits gives with what its pattern binds, or they stop for the reason
abbrev pub Takes : List MArm → PlainValue → Result Fit NoValue → Type 0
Takes arms v (Ok fit) = (arm : MArm) (colour : PlainColour) (s : Setting) (locals : List PlainValue) (before : ℕ)
    → arm ≡ get_or arms fit.position arm
    → among arms v colour s locals before ≡ terms_behind (multiset_view arm.result) colour s (locals ++ map value_view fit.bound.items) before
Takes arms v (Err reason) = (colour : PlainColour) (s : Setting) (locals : List PlainValue) (before : ℕ) → Stops reason (among arms v colour s locals before)
