-- Rows: a net whose places and transitions have flattened names, and nets where one has not.
use Rattle.std.proofs.Common.{ℕ, List, [], ◌∷◌, map, refl}
use Rattle.std.specs.Prelude.{codes, None}
use Rattle.cpn_definitions.specs.Net.{PlainNet, no_colour}
use Rattle.cpn_document.specs.Texts.{is_name, is_flat_name}
use Rattle.cpn_flat.specs.FlatNames.{HasFlatNames}

-- a net of these names
abbrev net : List (List ℕ) → List (List ℕ) → PlainNet
net places transitions = record {
  places = map (λ name. record { name = name; colour = no_colour }) places;
  transitions = map (λ name. record { name = name; guard = []; delay = None; inputs = []; outputs = []; vars = [] }) transitions;
  variables = [];
  constants = [];
  constructors = [];
  functions = [];
}

flat : HasFlatNames (net (codes "Top/a" ∷ codes "Top/part 2/a-b_c" ∷ []) (codes "Top/t u" ∷ []))
unfolding is_flat_name is_name
flat = record { places = refl; transitions = refl }

-- paths that are no names joined by `/`: one ends with it, one has a name that ends with a space
a_place_ends_with_a_slash : HasFlatNames (net (codes "Top/a" ∷ codes "Top/" ∷ []) []) → ⊥
unfolding is_flat_name is_name
a_place_ends_with_a_slash h = let no = h.places in cc

a_transition_has_a_name_that_ends_with_a_space : HasFlatNames (net [] (codes "Top /t" ∷ [])) → ⊥
unfolding is_flat_name is_name
a_transition_has_a_name_that_ends_with_a_space h = let no = h.transitions in cc
