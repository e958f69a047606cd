-- Nets of what is declared, with the same places, that differ in their transitions: what is sound in one of them is so in another.
use Rattle.std.proofs.Common.{◌≡◌, ◌==◌, ◌&&◌, ℕ, List, [], ◌∷◌, refl, sym, ap, ◌∙◌}
use Rattle.std.specs.List.{AllByRecursion}
use Rattle.cpn_definitions.specs.Bindable.{variables_of, IsBindable, by_term, by_size, by_guard, AreBindable, no_more, and_more}
use Rattle.cpn_definitions.specs.Colour.{admits}
use Rattle.cpn_definitions.specs.Meaning.{PlainBinding}
use Rattle.cpn_definitions.specs.Net.{PlainArc, PlainTransition, Coloured, PlainNet, variable_at}
use Rattle.cpn_definitions.specs.Occurrence.{binds}
use Rattle.cpn_definitions.specs.Sound.{IsSoundArc, IsSoundInput, IsSoundTransition}
use Rattle.cpn_definitions.proofs.RisingLists.{each_implied}
use Rattle.cpn_accepted.specs.Nets.{net_from}
use Rattle.cpn_typing.specs.DeclaresFor.{DeclaresFor}
use Rattle.cpn_typing.specs.Names.{Declared}

-- a net of what is declared is made of that, its places and its transitions
pub made_of : (ds : Declared) (n : PlainNet) → DeclaresFor ds n → n ≡ net_from ds n.places n.transitions
made_of ds n declares = rw (← declares.variables, ← declares.constants, ← declares.constructors, ← declares.functions) refl

module _ (ds : Declared) (places : List Coloured) (ts us : List PlainTransition) where
  -- the same variables are bound
  pub bound_alike : (xs : List ℕ) (b : PlainBinding) → binds (net_from ds places us) xs b ≡ binds (net_from ds places ts) xs b
  bound_alike [] [] = refl
  bound_alike [] (pair ∷ b) = refl
  bound_alike (x ∷ xs) [] = refl
  bound_alike (x ∷ xs) (pair ∷ b) = ap (λ rest. (x == pair.0) && admits (variable_at (net_from ds places us) x).colour pair.1 && rest) (bound_alike xs b)

  module _ (t : PlainTransition) where
    mutual
      pub bindable_alike : (x : ℕ) → IsBindable (net_from ds places ts) t x → IsBindable (net_from ds places us) t x
      bindable_alike x (by_term _ h) = by_term x h
      bindable_alike x (by_size _ h) = by_size x h
      bindable_alike x (by_guard _ e h all) = by_guard x e h (all_bindable_alike (variables_of e) all)

      all_bindable_alike : (xs : List ℕ) → AreBindable (net_from ds places ts) t xs → AreBindable (net_from ds places us) t xs
      all_bindable_alike xs no_more = no_more
      all_bindable_alike xs (and_more x rest h all) = and_more x rest (bindable_alike x h) (all_bindable_alike rest all)

    arc_alike : (arc : PlainArc) → IsSoundArc (net_from ds places ts) t arc → IsSoundArc (net_from ds places us) t arc
    arc_alike arc is = record {
      place_known = is.place_known;
      colour_is = is.colour_is;
      means = λ b time bound soon. is.means b time (sym (bound_alike t.vars b) ∙ bound) soon;
    }

    input_alike : (arc : PlainArc) → IsSoundInput (net_from ds places ts) t arc → IsSoundInput (net_from ds places us) t arc
    input_alike arc is = record { sound = arc_alike arc is.sound; terms_are = is.terms_are }

    -- a transition that is sound in the one is sound in the other
    pub sound_alike : IsSoundTransition (net_from ds places ts) t → IsSoundTransition (net_from ds places us) t
    sound_alike is = record {
      listed = is.listed;
      declared = is.declared;
      bindable = λ x listed. bindable_alike x (is.bindable x listed);
      guard_means = λ b bound. is.guard_means b (sym (bound_alike t.vars b) ∙ bound);
      guard_solvable = record {
        guard_listed = is.guard_solvable.guard_listed;
        equations_mean = λ x e equated xs b bound all. is.guard_solvable.equations_mean x e equated xs b (sym (bound_alike xs b) ∙ bound) all;
      };
      delay_means = λ b time bound soon. is.delay_means b time (sym (bound_alike t.vars b) ∙ bound) soon;
      few_arcs = is.few_arcs;
      inputs_sound = each_implied (IsSoundInput (net_from ds places ts) t) (IsSoundInput (net_from ds places us) t) t.inputs input_alike is.inputs_sound;
      outputs_sound = each_implied (IsSoundArc (net_from ds places ts) t) (IsSoundArc (net_from ds places us) t) t.outputs arc_alike is.outputs_sound;
    }

  -- so are transitions
  pub all_sound_alike : (all : List PlainTransition) → AllByRecursion (IsSoundTransition (net_from ds places ts)) all → AllByRecursion (IsSoundTransition (net_from ds places us)) all
  all_sound_alike all sound = each_implied (IsSoundTransition (net_from ds places ts)) (IsSoundTransition (net_from ds places us)) all sound_alike sound
