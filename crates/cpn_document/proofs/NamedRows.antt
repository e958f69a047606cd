-- Rows: a document of two modules, fusion sets and monitors that is well named, and documents with one name too often.
use Rattle.std.proofs.Common.{ℕ, List, [], ◌∷◌, map, refl, codes, None}
use Rattle.std.specs.List.{IsDistinct}
use Rattle.cpn_document.specs.Document.{RawModule, RawDocument}
use Rattle.cpn_document.specs.Monitors.{count}
use Rattle.cpn_document.specs.Texts.{is_name}
use Rattle.cpn_document.specs.WellNamed.{IsWellNamed, AreWellNamed}

abbrev a : List ℕ
a = codes "a"

abbrev b : List ℕ
b = codes "b"

-- a module with these names of places, transitions and substitution transitions
abbrev module_of : List (List ℕ) → List (List ℕ) → List (List ℕ) → RawModule
module_of places transitions subs = record {
  name = a;
  places = map (λ name. record { name = name; colour = []; initial = None; port = None }) places;
  transitions = map (λ name. record { name = name; guard = None; delay = None }) transitions;
  arcs = [];
  subs = map (λ name. record { name = name; submodule = []; assign = [] }) subs;
}

-- a place may have the name of a transition or a substitution transition
well_named : IsWellNamed (module_of (a ∷ b ∷ []) (a ∷ []) (b ∷ []))
unfolding IsDistinct is_name
well_named = record {
  places = record { formed = refl; distinct = ((refl, tt), (tt, tt)) };
  transitions = record { formed = refl; distinct = (tt, tt) };
  subs = record { formed = refl; distinct = (tt, tt) };
  apart = (refl, tt);
}

two_places_have_one_name : IsWellNamed (module_of (a ∷ b ∷ a ∷ []) [] []) → ⊥
unfolding IsDistinct
two_places_have_one_name h = let same = h.places.distinct.0.1.0 in cc

two_transitions_have_one_name : IsWellNamed (module_of [] (a ∷ a ∷ []) []) → ⊥
unfolding IsDistinct
two_transitions_have_one_name h = let same = h.transitions.distinct.0.0 in cc

two_substitution_transitions_have_one_name : IsWellNamed (module_of [] [] (a ∷ a ∷ [])) → ⊥
unfolding IsDistinct
two_substitution_transitions_have_one_name h = let same = h.subs.distinct.0.0 in cc

a_substitution_transition_has_the_name_of_a_transition : IsWellNamed (module_of [] (b ∷ a ∷ []) (a ∷ [])) → ⊥
a_substitution_transition_has_the_name_of_a_transition h = let same = h.apart.0 in cc

a_place_has_no_name : IsWellNamed (module_of (codes "a/b" ∷ []) [] []) → ⊥
unfolding is_name
a_place_has_no_name h = let no = h.places.formed in cc

-- ---- documents

-- a document with these names of modules, fusion sets and monitors
abbrev document_of : List (List ℕ) → List (List ℕ) → List (List ℕ) → RawDocument
document_of modules fusions monitors = record {
  version = 1;
  declarations = [];
  top = a;
  modules = map (λ name. record { name = name; places = []; transitions = []; arcs = []; subs = [] }) modules;
  fusions = map (λ name. record { name = name; members = [] }) fusions;
  monitors = map (λ name. record { name = name; kind = count [] }) monitors;
  phases = [];
}

names_differ : AreWellNamed (document_of (a ∷ b ∷ []) (a ∷ b ∷ []) (a ∷ b ∷ []))
unfolding IsDistinct is_name
names_differ = record {
  modules = record { formed = refl; distinct = ((refl, tt), (tt, tt)) };
  fusions = record { formed = refl; distinct = ((refl, tt), (tt, tt)) };
  monitors = record { formed = refl; distinct = ((refl, tt), (tt, tt)) };
  each = (nothing_named, (nothing_named, tt));
}
  where
    nothing_named : {name : List ℕ} → IsWellNamed (record { name = name; places = []; transitions = []; arcs = []; subs = [] })
    nothing_named = record { places = record { formed = refl; distinct = tt }; transitions = record { formed = refl; distinct = tt }; subs = record { formed = refl; distinct = tt }; apart = tt }

two_modules_have_one_name : AreWellNamed (document_of (a ∷ a ∷ []) [] []) → ⊥
unfolding IsDistinct
two_modules_have_one_name h = let same = h.modules.distinct.0.0 in cc

two_fusion_sets_have_one_name : AreWellNamed (document_of [] (a ∷ a ∷ []) []) → ⊥
unfolding IsDistinct
two_fusion_sets_have_one_name h = let same = h.fusions.distinct.0.0 in cc

two_monitors_have_one_name : AreWellNamed (document_of [] [] (a ∷ b ∷ b ∷ [])) → ⊥
unfolding IsDistinct
two_monitors_have_one_name h = let same = h.monitors.distinct.1.0.0 in cc
