-- Worked cases of patterns: what each form binds, and what it does not match.
use Rattle.std.proofs.Common.{◌≡◌, true, false, List, [], ◌∷◌, Option, Some, None, refl}
use Rattle.cpn_definitions.specs.Value.{PlainValue, unit, boolean, constant, text, tuple, bare, applied, from_list}
use Rattle.cpn_definitions.specs.Inscription.{PlainPattern, any_pattern, variable_pattern, literal_pattern, tuple_pattern, list_pattern, cons_pattern, bare_pattern, applied_pattern, patterns_from}
use Rattle.cpn_definitions.specs.Matching.{matched}
use Rattle.cpn_definitions.proofs.ShortForms.{whole, negative, pair_of, list_of, number_pattern, name_pattern}

-- a value that matches and binds nothing
abbrev binds_nothing : Option (List PlainValue)
binds_nothing = Some []

abbrev pair_pattern : PlainPattern → PlainPattern → PlainPattern
pair_pattern p q = tuple_pattern (patterns_from (p ∷ q ∷ []))

abbrev items_pattern : List PlainPattern → PlainPattern
items_pattern ps = list_pattern (patterns_from ps)

any_value : matched any_pattern (whole 3) ≡ binds_nothing
any_value = refl

name_binds : matched name_pattern (whole 3) ≡ Some (whole 3 ∷ [])
name_binds = refl

name_of_any_number : matched (variable_pattern 4) unit ≡ Some (unit ∷ [])
name_of_any_number = refl

same_number : matched (number_pattern 3) (whole 3) ≡ binds_nothing
same_number = refl

other_number : matched (number_pattern 3) (negative 3) ≡ None
other_number = refl

same_string : matched (literal_pattern (text (97 ∷ []))) (text (97 ∷ [])) ≡ binds_nothing
same_string = refl

longer_string : matched (literal_pattern (text (97 ∷ []))) (text (97 ∷ 98 ∷ [])) ≡ None
longer_string = refl

same_truth : matched (literal_pattern (boolean true)) (boolean true) ≡ binds_nothing
same_truth = refl

other_truth : matched (literal_pattern (boolean true)) (boolean false) ≡ None
other_truth = refl

same_constant : matched (literal_pattern (constant 1)) (constant 1) ≡ binds_nothing
same_constant = refl

other_constant : matched (literal_pattern (constant 1)) (constant 2) ≡ None
other_constant = refl

unit_matches : matched (literal_pattern unit) unit ≡ binds_nothing
unit_matches = refl

pair_binds_from_left : matched (pair_pattern name_pattern name_pattern) (pair_of (whole 1) (whole 2)) ≡ Some (whole 1 ∷ whole 2 ∷ [])
pair_binds_from_left = refl

pair_binds_some : matched (pair_pattern any_pattern name_pattern) (pair_of (whole 1) (whole 2)) ≡ Some (whole 2 ∷ [])
pair_binds_some = refl

pair_in_a_pair : matched (pair_pattern (pair_pattern name_pattern name_pattern) name_pattern) (pair_of (pair_of (whole 1) (whole 2)) (whole 3)) ≡ Some (whole 1 ∷ whole 2 ∷ whole 3 ∷ [])
pair_in_a_pair = refl

first_part_differs : matched (pair_pattern (number_pattern 9) name_pattern) (pair_of (whole 1) (whole 2)) ≡ None
first_part_differs = refl

second_part_differs : matched (pair_pattern name_pattern (number_pattern 9)) (pair_of (whole 1) (whole 2)) ≡ None
second_part_differs = refl

pair_against_three : matched (pair_pattern name_pattern name_pattern) (tuple (from_list (whole 1 ∷ whole 2 ∷ whole 3 ∷ []))) ≡ None
pair_against_three = refl

pair_against_a_list : matched (pair_pattern name_pattern name_pattern) (list_of (whole 1 ∷ whole 2 ∷ [])) ≡ None
pair_against_a_list = refl

list_binds : matched (items_pattern (name_pattern ∷ name_pattern ∷ [])) (list_of (whole 1 ∷ whole 2 ∷ [])) ≡ Some (whole 1 ∷ whole 2 ∷ [])
list_binds = refl

empty_list_matches : matched (items_pattern []) (list_of []) ≡ binds_nothing
empty_list_matches = refl

empty_list_against_one : matched (items_pattern []) (list_of (whole 1 ∷ [])) ≡ None
empty_list_against_one = refl

list_too_long : matched (items_pattern (name_pattern ∷ [])) (list_of (whole 1 ∷ whole 2 ∷ [])) ≡ None
list_too_long = refl

list_too_short : matched (items_pattern (name_pattern ∷ name_pattern ∷ [])) (list_of (whole 1 ∷ [])) ≡ None
list_too_short = refl

head_and_tail_bind : matched (cons_pattern name_pattern name_pattern) (list_of (whole 1 ∷ whole 2 ∷ whole 3 ∷ [])) ≡ Some (whole 1 ∷ list_of (whole 2 ∷ whole 3 ∷ []) ∷ [])
head_and_tail_bind = refl

tail_of_one_is_empty : matched (cons_pattern name_pattern name_pattern) (list_of (whole 1 ∷ [])) ≡ Some (whole 1 ∷ list_of [] ∷ [])
tail_of_one_is_empty = refl

two_heads : matched (cons_pattern name_pattern (cons_pattern name_pattern any_pattern)) (list_of (whole 1 ∷ whole 2 ∷ whole 3 ∷ [])) ≡ Some (whole 1 ∷ whole 2 ∷ [])
two_heads = refl

no_head : matched (cons_pattern any_pattern any_pattern) (list_of []) ≡ None
no_head = refl

head_differs : matched (cons_pattern (number_pattern 9) name_pattern) (list_of (whole 1 ∷ [])) ≡ None
head_differs = refl

tail_differs : matched (cons_pattern name_pattern (items_pattern [])) (list_of (whole 1 ∷ whole 2 ∷ [])) ≡ None
tail_differs = refl

constructor_matches : matched (bare_pattern 2) (bare 2) ≡ binds_nothing
constructor_matches = refl

other_constructor : matched (bare_pattern 2) (bare 1) ≡ None
other_constructor = refl

bare_against_applied : matched (bare_pattern 2) (applied 2 (whole 1)) ≡ None
bare_against_applied = refl

argument_binds : matched (applied_pattern 2 name_pattern) (applied 2 (whole 1)) ≡ Some (whole 1 ∷ [])
argument_binds = refl

argument_of_another : matched (applied_pattern 2 name_pattern) (applied 1 (whole 1)) ≡ None
argument_of_another = refl

argument_differs : matched (applied_pattern 2 (number_pattern 9)) (applied 2 (whole 1)) ≡ None
argument_differs = refl

applied_against_bare : matched (applied_pattern 2 any_pattern) (bare 2) ≡ None
applied_against_bare = refl
