-- Transitions whose variables are bindable, one after another.
use Rattle.std.proofs.Common.{◌≡◌, ℕ, zero, suc, ◌+◌, ◌<◌, ◌≤◌, Bool, true, List, [], ◌∷◌, length, drop, get_or, map, refl, subst, add-one, arith}
use Rattle.std.specs.Prelude.{Option, Some, None, option_map}
use Rattle.std.specs.List.{AllByRecursion}
use Rattle.std.proofs.lemmas.List.{drop_more, drop_all}
use Rattle.cpn_definitions.specs.Net.{PlainTransition, PlainNet}
use Rattle.cpn_core.specs.Nets.{transition_view}
use Rattle.cpn_core.specs.declared.nets.Transition.{Transition}
use Rattle.cpn_typing.specs.Names.{ok, Refusal as TypeRefusal}
use Rattle.cpn_typing.specs.BindableRule.{IsBindableAnswer}
use Rattle.cpn_typing.specs.Answers.{RefusesBy as ForbidsBy}
use Rattle.cpn_text_refusals.specs.Refusals.{typing}
use Rattle.cpn_module_nets.specs.Reading.{NetRefusal, Reading, read, inscription}
use Rattle.cpn_module_nets.specs.Answers.{RefusesBy}
use Rattle.cpn_module_nets.specs.Transitions.{HasItsTerms, AreBindable, none_left, these_are, one_is_not}
use Rattle.cpn_module_nets.specs.Pointers.{transition_pointer}

module _ (n : PlainNet) (m : ℕ) (ts : List Transition) (i : ℕ) (t : Transition) (lt : i < length ts) (at : t ≡ get_or ts i t) where
  next_one : map transition_view (drop i ts) ≡ transition_view t ∷ map transition_view (drop (i + 1) ts)
  next_one = rw (drop_more ts i t lt, ← at) refl

  -- the variables of the next are bindable
  pub bindable_more : (r : Reading Bool) → IsBindableAnswer n (transition_view t) (ok tt) → AreBindable n m (i + 1) (map transition_view (drop (i + 1) ts)) r → AreBindable n m i (map transition_view (drop i ts)) r
  bindable_more r h k = rw next_one (these_are i (transition_view t) (map transition_view (drop (i + 1) ts)) r h (subst (λ j. AreBindable n m j (map transition_view (drop (i + 1) ts)) r) (add-one i) k))

  -- one of them is not
  pub bindable_not : (all : List PlainTransition) (o : Option TypeRefusal) (q : Option NetRefusal) → ((r : Reading Bool) → AreBindable n m i (map transition_view (drop i ts)) r → AreBindable n m 0 all r)
      → q ≡ option_map (λ r. inscription (transition_pointer m i) (typing r)) o → ForbidsBy (IsBindableAnswer n (transition_view t)) o → RefusesBy (AreBindable n m 0 all) q
  bindable_not all None q inv is h = rw is tt
  bindable_not all (Some r) q inv is h = rw is (inv _ (rw next_one (one_is_not i (transition_view t) (map transition_view (drop (i + 1) ts)) r h)))

pub bindable_all : (n : PlainNet) (m : ℕ) (ts : List Transition) (i : ℕ) → length ts ≤ i → AreBindable n m i (map transition_view (drop i ts)) (read true)
bindable_all n m ts i past = rw (drop_all i ts past) (none_left i)

-- the arcs of each carry their terms
pub terms_there : (ts : List Transition) (i : ℕ) (d : Transition) → i < length ts → AllByRecursion HasItsTerms (map transition_view ts) → HasItsTerms (transition_view (get_or ts i d))
terms_there [] i d lt all = absurd (omega arith)
terms_there (t ∷ ts) zero d lt all = all.0
terms_there (t ∷ ts) (suc i) d lt all = terms_there ts i d (omega arith) all.1
