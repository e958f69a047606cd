-- The variables of the transitions of a module have to be bindable. Source: own choice.
use Rattle.std.specs.Prelude.{◌≡◌, ℕ, suc, Bool, true, List, [], ◌∷◌}
use Rattle.std.specs.List.{AllByRecursion}
use Rattle.cpn_definitions.specs.Bindable.{binding_terms}
use Rattle.cpn_definitions.specs.Net.{PlainTransition, PlainNet}
use Rattle.cpn_typing.specs.Names.{ok}
use Rattle.cpn_typing.specs.Names as checks
use Rattle.cpn_typing.specs.BindableRule.{IsBindableAnswer}
use Rattle.cpn_text_refusals.specs.Refusals.{typing}
use Rattle.cpn_module_nets.specs.Reading.{inscription, Reading, read, refused}
use Rattle.cpn_module_nets.specs.Pointers.{transition_pointer}

-- each input arc of a transition carries the binding terms of its inscription
abbrev pub HasItsTerms : PlainTransition → Type 0
HasItsTerms t = AllByRecursion (λ arc. arc.terms ≡ binding_terms arc.expr) t.inputs

-- Whether the variables of each transition of the module of a number, which are numbered from i on, are bindable: the first
-- refusal counts.
pub data AreBindable (n : PlainNet) (m : ℕ) : ℕ → List PlainTransition → Reading Bool → Type 0 where
  none_left : (i : ℕ) → AreBindable n m i [] (read true)
  these_are : (i : ℕ) (t : PlainTransition) (ts : List PlainTransition) (r : Reading Bool) → IsBindableAnswer n t (ok tt) → AreBindable n m (suc i) ts r → AreBindable n m i (t ∷ ts) r
  one_is_not : (i : ℕ) (t : PlainTransition) (ts : List PlainTransition) (r : checks.Refusal) → IsBindableAnswer n t (checks.refused r)
      → AreBindable n m i (t ∷ ts) (refused (inscription (transition_pointer m i) (typing r)))
