-- The input arcs from which not each value that is taken is that of a binding term. Source: own choice.
use Rattle.std.specs.Prelude.{◌≡◌, ℕ, Bool, true, false, ◌&&◌, List, [], ◌∷◌, Contains}
use Rattle.cpn_definitions.specs.Inscription.{ArcInscription, sum_of, ArcInscriptions, no_inscriptions, more_inscriptions}
use Rattle.cpn_definitions.specs.Net.{BindingTerm, PlainArc, PlainTransition}
use Rattle.cpn_definitions.specs.Bindable.{binding_term, binding_terms}

abbrev pub is_there : List BindingTerm → Bool
is_there [] = false
is_there (term ∷ terms) = true

-- whether each part of the root sum of an inscription is a binding term
abbrev pub each_is_term : ArcInscriptions → Bool
each_is_term no_inscriptions = true
each_is_term (more_inscriptions m ms) = is_there (binding_term m) && each_is_term ms

abbrev pub is_of_terms : ArcInscription → Bool
is_of_terms (sum_of ms) = each_is_term ms
is_of_terms m = is_there (binding_term m)

-- Reads otherwise: the transition has an input arc from the place whose root sum has a part that is no binding term.
pub record ReadsOtherwise (t : PlainTransition) (place : ℕ) : Type 0 where
  pub arc : PlainArc
  pub is_input : Contains t.inputs arc
  pub from_it : arc.place ≡ place
  pub otherwise : is_of_terms arc.expr ≡ false

-- Has a term there: the transition has a binding term on an input arc from the place.
pub record HasTermOn (t : PlainTransition) (place : ℕ) : Type 0 where
  pub arc : PlainArc
  pub is_input : Contains t.inputs arc
  pub from_it : arc.place ≡ place
  pub carries : is_there (binding_terms arc.expr) ≡ true
