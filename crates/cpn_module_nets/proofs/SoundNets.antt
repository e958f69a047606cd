-- Each transition of the net of a module is sound in it: its inscriptions are accepted, its variables bindable, its arcs few.
use Rattle.std.proofs.Common.{◌≡◌, ℕ, suc, Bool, List, [], ◌∷◌, refl}
use Rattle.std.specs.List.{AllByRecursion}
use Rattle.cpn_definitions.specs.Bindable.{IsBindable}
use Rattle.cpn_definitions.specs.Net.{PlainArc, PlainTransition, Coloured, PlainNet}
use Rattle.cpn_definitions.specs.Sound.{IsSoundArc, IsSoundInput, IsSoundTransition}
use Rattle.cpn_definitions.proofs.RisingLists.{in_from_contains, of_one_in}
use Rattle.cpn_typing.specs.AcceptedTransitions.{HasItsVariables, ArcMeans}
use Rattle.cpn_typing.specs.BindableRule.{IsBindableAnswer, too_many_are_there, one_is_not, all_are}
use Rattle.cpn_typing.specs.Consistency.{IsConsistent}
use Rattle.cpn_typing.specs.Multisets.{output}
use Rattle.cpn_typing.specs.Names.{Declared, Checked, ok}
use Rattle.cpn_typing.proofs.MeaningfulTransitions.{accepted_is_meaningful}
use Rattle.cpn_typing.proofs.SolvableTransitions.{accepted_is_solvable}
use Rattle.cpn_readings.specs.ItemByItem.{EachIs}
use Rattle.cpn_accepted.specs.Completed.{IsCompleted}
use Rattle.cpn_accepted.specs.Nets.{net_from}
use Rattle.cpn_module_nets.specs.Reading.{Reading, read}
use Rattle.cpn_module_nets.specs.Transitions.{AreBindable, none_left, these_are}
use Rattle.cpn_module_nets.specs.Transitions as listed
use Rattle.cpn_module_nets.proofs.AcceptedArcs.{IsGoodArc, IsGoodInput}
use Rattle.cpn_module_nets.proofs.AcceptedTransitions.{IsGoodTransition, good_accepted}
use Rattle.cpn_module_nets.proofs.FewArcs.{HasFewArcs}

-- ---- bindable variables

abbrev HasBindable : PlainNet → PlainTransition → Type 0
HasBindable n t = AllByRecursion (IsBindable n t) t.vars

accepted_bindable : (n : PlainNet) (t : PlainTransition) (c : Checked (Unit {0})) → IsBindableAnswer n t c → c ≡ ok tt → HasBindable n t
accepted_bindable n t c (too_many_are_there many) is = cc
accepted_bindable n t c (one_is_not few x one) is = cc
accepted_bindable n t c (all_are few all) is = all

bindable_then : (n : PlainNet) (m i : ℕ) (ts : List PlainTransition) (r : Reading Bool) (b : Bool) → AreBindable n m i ts r → r ≡ read b → AllByRecursion (HasBindable n) ts
bindable_then n m i [] r b (none_left i') is = tt
bindable_then n m i (t ∷ ts) r b (these_are i' t' ts' r' h more) is = (accepted_bindable n t (ok tt) h refl, bindable_then n m (suc i) ts r b more is)
bindable_then n m i (t ∷ ts) r b (listed.one_is_not i' t' ts' r' h) is = cc

bindable_each : (n : PlainNet) (m : ℕ) (ts : List PlainTransition) (b : Bool) → AreBindable n m 0 ts (read b) → AllByRecursion (HasBindable n) ts
bindable_each n m ts b h = bindable_then n m 0 ts (read b) b h refl

variables_each : (bares ts : List PlainTransition) → EachIs IsCompleted bares ts → AllByRecursion HasItsVariables ts
variables_each [] [] is = tt
variables_each [] (t ∷ ts) is = absurd is
variables_each (bare ∷ bares) [] is = absurd is
variables_each (bare ∷ bares) (t ∷ ts) is = (is.0.variables, variables_each bares ts is.1)

-- ---- a transition

module _ (ds : Declared) (good : IsConsistent ds) (places : List Coloured) (ts : List PlainTransition) where
  abbrev its_net : PlainNet
  its_net = net_from ds places ts

  inputs_sound : (t : PlainTransition) (arcs : List PlainArc) → AllByRecursion (IsGoodInput ds places) arcs → AllByRecursion (ArcMeans its_net t) arcs → AllByRecursion (IsSoundInput its_net t) arcs
  inputs_sound t [] all means = tt
  inputs_sound t (arc ∷ arcs) all means = (record { sound = record { place_known = all.0.good.place_known; colour_is = all.0.good.colour_is; means = means.0 }; terms_are = all.0.terms }, inputs_sound t arcs all.1 means.1)

  outputs_sound : (t : PlainTransition) (arcs : List PlainArc) → AllByRecursion (IsGoodArc ds places output) arcs → AllByRecursion (ArcMeans its_net t) arcs → AllByRecursion (IsSoundArc its_net t) arcs
  outputs_sound t [] all means = tt
  outputs_sound t (arc ∷ arcs) all means = (record { place_known = all.0.place_known; colour_is = all.0.colour_is; means = means.0 }, outputs_sound t arcs all.1 means.1)

  transition_sound : (t : PlainTransition) → IsGoodTransition ds places t → HasFewArcs t → HasItsVariables t → HasBindable its_net t → IsSoundTransition its_net t
  transition_sound t accepted few its bindable =
      let means = accepted_is_meaningful ds good its_net (record { functions_are = refl; variables_are = refl }) t (good_accepted ds places t accepted its) in
      record {
        listed = its.listed;
        declared = means.declared;
        bindable = λ x is. of_one_in (IsBindable its_net t) t.vars x bindable (in_from_contains t.vars x is);
        guard_means = means.guard_means;
        guard_solvable = accepted_is_solvable ds good its_net (record { functions_are = refl; variables_are = refl }) t (good_accepted ds places t accepted its);
        delay_means = means.delay_means;
        few_arcs = few;
        inputs_sound = inputs_sound t t.inputs accepted.inputs means.inputs_mean;
        outputs_sound = outputs_sound t t.outputs accepted.outputs means.outputs_mean;
      }

  each_sound : (all : List PlainTransition) → AllByRecursion (IsGoodTransition ds places) all → AllByRecursion HasFewArcs all → AllByRecursion HasItsVariables all → AllByRecursion (HasBindable its_net) all → AllByRecursion (IsSoundTransition its_net) all
  each_sound [] accepted few its bindable = tt
  each_sound (t ∷ all) accepted few its bindable = (transition_sound t accepted.0 few.0 its.0 bindable.0, each_sound all accepted.1 few.1 its.1 bindable.1)

  -- transitions that are read, and good, are sound
  pub transitions_sound : (m : ℕ) (b : Bool) (bares : List PlainTransition) → EachIs IsCompleted bares ts → AllByRecursion (IsGoodTransition ds places) ts → AllByRecursion HasFewArcs ts → AreBindable its_net m 0 ts (read b) → AllByRecursion (IsSoundTransition its_net) ts
  transitions_sound m b bares completed accepted few bindable = each_sound ts accepted few (variables_each bares ts completed) (bindable_each its_net m ts b bindable)
