-- Worked cases of names: words, paths, and nets with and without distinct names.
use Rattle.std.proofs.Common.{◌≡◌, ℕ, true, false, List, [], ◌∷◌, map, refl}
use Rattle.std.specs.Prelude.{codes, None}
use Rattle.std.specs.List.{IsDistinct, list_all, list_any}
use Rattle.cpn_definitions.specs.DistinctNames.{is_letter, is_digit, is_word, is_path, HasDistinctNames, HasWellSpelledNames}
use Rattle.cpn_definitions.specs.Net.{PlainNet, no_colour}

-- ---- letters and digits, and the bytes next to them

letters : list_all is_letter (codes "AZaz") ≡ true
letters = refl

no_letters : list_any is_letter (codes "@[`{") ≡ false
no_letters = refl

digits : list_all is_digit (codes "09") ≡ true
digits = refl

no_digits : list_any is_digit (codes "/:") ≡ false
no_digits = refl

-- ---- words and paths

a_word : is_word (codes "x_1") ≡ true
a_word = refl

a_digit_begins_no_word : is_word (codes "1x") ≡ false
a_digit_begins_no_word = refl

no_dash_in_a_word : is_word (codes "a-b") ≡ false
no_dash_in_a_word = refl

no_word_is_empty : is_word [] ≡ false
no_word_is_empty = refl

a_path : is_path (codes "Top/part 2/a-b_c") ≡ true
a_path = refl

no_brace_in_a_path : is_path (codes "Top/t {") ≡ false
no_brace_in_a_path = refl

no_colon_in_a_path : is_path (codes "Top:t") ≡ false
no_colon_in_a_path = refl

a_slash_begins_no_path : is_path (codes "/t") ≡ false
a_slash_begins_no_path = refl

no_path_is_empty : is_path [] ≡ false
no_path_is_empty = refl

-- ---- nets

-- a net of these names
abbrev net : List (List ℕ) → List (List ℕ) → List (List ℕ) → List (List (List ℕ)) → List (List (List ℕ)) → PlainNet
net places transitions variables constants constructors = record {
  places = map (λ name. record { name = name; colour = no_colour }) places;
  transitions = map (λ name. record { name = name; guard = []; delay = None; inputs = []; outputs = []; vars = [] }) transitions;
  variables = map (λ name. record { name = name; colour = no_colour }) variables;
  constants = constants;
  constructors = constructors;
  functions = [];
}

abbrev a : List ℕ
a = codes "a"

abbrev b : List ℕ
b = codes "b"

-- names of two kinds, or of two colour sets, may be the same
distinct : HasDistinctNames (net (a ∷ b ∷ []) (a ∷ b ∷ []) (a ∷ b ∷ []) ((a ∷ b ∷ []) ∷ (a ∷ []) ∷ []) ((a ∷ b ∷ []) ∷ (b ∷ []) ∷ []))
unfolding IsDistinct
distinct = record {
  places = ((refl, tt), (tt, tt));
  transitions = ((refl, tt), (tt, tt));
  variables = ((refl, tt), (tt, tt));
  constants = (((refl, tt), (tt, tt)), ((tt, tt), tt));
  constructors = (((refl, tt), (tt, tt)), ((tt, tt), tt));
}

two_places_have_one_name : HasDistinctNames (net (a ∷ a ∷ []) (a ∷ []) (a ∷ []) [] []) → ⊥
unfolding IsDistinct
two_places_have_one_name h = let same = h.places.0.0 in cc

two_transitions_have_one_name : HasDistinctNames (net (a ∷ []) (a ∷ b ∷ a ∷ []) (a ∷ []) [] []) → ⊥
unfolding IsDistinct
two_transitions_have_one_name h = let same = h.transitions.0.1.0 in cc

two_variables_have_one_name : HasDistinctNames (net (a ∷ []) (a ∷ []) (b ∷ a ∷ a ∷ []) [] []) → ⊥
unfolding IsDistinct
two_variables_have_one_name h = let same = h.variables.1.0.0 in cc

two_constants_have_one_name : HasDistinctNames (net [] [] [] ((a ∷ b ∷ []) ∷ (b ∷ b ∷ []) ∷ []) []) → ⊥
unfolding IsDistinct
two_constants_have_one_name h = let same = h.constants.1.0.0.0 in cc

two_constructors_have_one_name : HasDistinctNames (net [] [] [] [] ((a ∷ a ∷ []) ∷ [])) → ⊥
unfolding IsDistinct
two_constructors_have_one_name h = let same = h.constructors.0.0.0 in cc

well_spelled : HasWellSpelledNames (net (codes "Top/a" ∷ []) (codes "Top/t u" ∷ []) (a ∷ []) ((a ∷ []) ∷ []) ((b ∷ []) ∷ []))
well_spelled = record { places = refl; transitions = refl; variables = refl; constants = refl; constructors = refl }

a_place_has_no_path : HasWellSpelledNames (net (codes "a{" ∷ []) [] [] [] []) → ⊥
a_place_has_no_path h = let no = h.places in cc

a_transition_has_no_path : HasWellSpelledNames (net [] (codes "a:" ∷ []) [] [] []) → ⊥
a_transition_has_no_path h = let no = h.transitions in cc

-- what is a path and no word
a_variable_has_no_word : HasWellSpelledNames (net [] [] (codes "x-1" ∷ []) [] []) → ⊥
a_variable_has_no_word h = let no = h.variables in cc

a_constant_has_no_word : HasWellSpelledNames (net [] [] [] ((codes "a b" ∷ []) ∷ []) []) → ⊥
a_constant_has_no_word h = let no = h.constants in cc

a_constructor_has_no_word : HasWellSpelledNames (net [] [] [] [] ((codes "a/b" ∷ []) ∷ [])) → ⊥
a_constructor_has_no_word h = let no = h.constructors in cc
