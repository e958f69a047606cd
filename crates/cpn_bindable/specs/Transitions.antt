-- Transitions whose parts are checked: their variables, and the net that their answer speaks of.
use Rattle.std.specs.Prelude.{◌≡◌, ℕ, List, map, Option}
use Rattle.std.specs.declared.alloc.Global.{Global}
use Rattle.std.specs.declared.sync.Arc.{Arc}
use Rattle.cpn_definitions.specs.Bindable.{binding_terms}
use Rattle.cpn_definitions.specs.Net.{PlainArc, PlainTransition}
use Rattle.cpn_core.specs.declared.inscriptions.Expr.{Expr}
use Rattle.cpn_core.specs.declared.inscriptions.Guard.{Guard}
use Rattle.cpn_core.specs.declared.nets.PlaceArc.{PlaceArc}
use Rattle.cpn_core.specs.Inscriptions.{expr_view}
use Rattle.cpn_core.specs.Nets.{arcs_view, delay_view}

-- a transition of these parts, under a name
abbrev pub transition_with : Guard → Option (Arc Expr Global) → List PlaceArc → List PlaceArc → List ℕ → List ℕ → PlainTransition
transition_with guard delay inputs outputs vars name = record {
  name = name;
  guard = map expr_view guard.conjuncts.items;
  delay = delay_view delay;
  inputs = arcs_view inputs;
  outputs = arcs_view outputs;
  vars = vars;
}

-- an arc carries the binding terms of its inscription
abbrev pub CarriesItsTerms : PlainArc → Type 0
CarriesItsTerms arc = arc.terms ≡ binding_terms arc.expr
