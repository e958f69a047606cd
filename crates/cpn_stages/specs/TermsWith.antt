-- The bindings in which a binding term has a value, and what is enabled with it.
-- Source: own choice.
use Rattle.std.specs.Prelude.{◌≡◌, ℕ, ◌↔◌, List, Contains}
use Rattle.cpn_definitions.specs.Value.{PlainValue}
use Rattle.cpn_definitions.specs.Lists.{Rises}
use Rattle.cpn_definitions.specs.Marking.{Marking}
use Rattle.cpn_definitions.specs.Net.{BindingTerm, PlainArc, PlainTransition, PlainNet, transition_at}
use Rattle.cpn_definitions.specs.Meaning.{PlainBinding}
use Rattle.cpn_definitions.specs.Bindable.{binding_terms}
use Rattle.cpn_definitions.specs.Enabled.{PlainEntry, PlainFound, entry_cmp, entries_of, IsEarliest}
use Rattle.cpn_stages.specs.Partial.{as_partial}
use Rattle.cpn_stages.specs.Instances.{IsInstance}

-- In the binding a binding term on an input arc from the place has the value.
pub record HasTermWith (t : PlainTransition) (place : ℕ) (v : PlainValue) (b : PlainBinding) : Type 0 where
  pub arc : PlainArc
  pub is_input : Contains t.inputs arc
  pub from_it : arc.place ≡ place
  pub term : BindingTerm
  pub is_term : Contains (binding_terms arc.expr) term
  pub has_value : IsInstance (as_partial b) term.pattern v

-- Enabled with a value on a place: of the bindings of a transition that are covered at some time, the list has each in which a
-- binding term on an arc from the place has the value once, in order, with the least such time; and it has no other.
pub record EnabledWith (n : PlainNet) (m : Marking) (t place : ℕ) (v : PlainValue) (found : List PlainFound) : Type 0 where
  pub rising : Rises entry_cmp (entries_of t found)
  pub exact : (x : PlainEntry) → Contains (entries_of t found) x ↔ ((x.element.transition ≡ t) × IsEarliest n m 0 x × HasTermWith (transition_at n t) place v x.element.binding)
