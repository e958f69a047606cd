-- Worked cases of values: their order, their nodes, the colour sets that admit them and the names that they need; and of
-- the timed order and the timed subtraction.
use Rattle.std.proofs.Common.{◌≡◌, ℕ, pos, negsuc, true, false, [], ◌∷◌, Some, None, refl, Less, Equal, Greater}
use Rattle.cpn_definitions.specs.Value.{unit, boolean, int, constant, text, tuple, bare, applied, list, from_list, nodes_of}
use Rattle.cpn_definitions.specs.Order.{value_cmp}
use Rattle.cpn_definitions.specs.Colour.{PlainShape, PlainColour, admits, has_shape, unit_shape, boolean_shape, int_shape, text_shape, constant_shape, tuple_shape, union_shape, list_shape, no_shapes, more_shapes, no_constructors, without, taking}
use Rattle.cpn_definitions.specs.Marking.{PlainToken, add_token, without_token, without_latest, less, covers, stamps}
use Rattle.cpn_definitions.specs.Net.{PlainNet}
use Rattle.cpn_definitions.specs.Named.{has_names}
use Rattle.cpn_definitions.specs.Enabled.{PlainEntry, entry_cmp, ready, next_time}
use Rattle.cpn_definitions.specs.Times.{last_time}

-- ---- the order of values

negative_first : value_cmp (int (negsuc 0)) (int (pos 0)) ≡ Less
negative_first = refl

more_negative_first : value_cmp (int (negsuc 4)) (int (negsuc 1)) ≡ Less
more_negative_first = refl

false_first : value_cmp (boolean false) (boolean true) ≡ Less
false_first = refl

prefix_first : value_cmp (list (from_list (int (pos 1) ∷ []))) (list (from_list (int (pos 1) ∷ int (negsuc 6) ∷ []))) ≡ Less
prefix_first = refl

shorter_later : value_cmp (text (98 ∷ [])) (text (97 ∷ 122 ∷ [])) ≡ Greater
shorter_later = refl

tuples_by_first : value_cmp (tuple (from_list (int (pos 2) ∷ boolean false ∷ []))) (tuple (from_list (int (pos 1) ∷ boolean true ∷ []))) ≡ Greater
tuples_by_first = refl

constructors_by_position : value_cmp (applied 0 (int (pos 9))) (bare 1) ≡ Less
constructors_by_position = refl

constructors_by_argument : value_cmp (applied 2 (int (pos 3))) (applied 2 (int (pos 4))) ≡ Less
constructors_by_argument = refl

constants_by_position : value_cmp (constant 3) (constant 3) ≡ Equal
constants_by_position = refl

earlier_constant_first : value_cmp (constant 1) (constant 2) ≡ Less
earlier_constant_first = refl

positive_by_size : value_cmp (int (pos 3)) (int (pos 12)) ≡ Less
positive_by_size = refl

prefix_of_a_string_first : value_cmp (text (97 ∷ [])) (text (97 ∷ 32 ∷ [])) ≡ Less
prefix_of_a_string_first = refl

lists_by_first : value_cmp (list (from_list (int (pos 2) ∷ []))) (list (from_list (int (pos 1) ∷ int (pos 9) ∷ []))) ≡ Greater
lists_by_first = refl

empty_list_first : value_cmp (list (from_list [])) (list (from_list (int (negsuc 0) ∷ []))) ≡ Less
empty_list_first = refl

tuples_by_second : value_cmp (tuple (from_list (int (pos 1) ∷ boolean false ∷ []))) (tuple (from_list (int (pos 1) ∷ boolean true ∷ []))) ≡ Less
tuples_by_second = refl

position_before_argument : value_cmp (applied 1 (int (pos 3))) (applied 0 (int (pos 4))) ≡ Greater
position_before_argument = refl

bare_by_position : value_cmp (bare 1) (bare 2) ≡ Less
bare_by_position = refl

bare_after_an_earlier_constructor : value_cmp (bare 2) (applied 1 (int (pos 0))) ≡ Greater
bare_after_an_earlier_constructor = refl

-- ---- nodes

a_string_counts_its_bytes : nodes_of (text (97 ∷ 98 ∷ 99 ∷ [])) ≡ 4
a_string_counts_its_bytes = refl

the_empty_string_is_one_node : nodes_of (text []) ≡ 1
the_empty_string_is_one_node = refl

-- the list, a tuple with two truth values, a constructor with an integer, a constructor alone, unit, a constant
nested_nodes
    : nodes_of (list (from_list (tuple (from_list (boolean true ∷ boolean false ∷ [])) ∷ applied 0 (int (pos 300)) ∷ bare 1 ∷ unit ∷ constant 7 ∷ []))) ≡ 9
nested_nodes = refl

-- ---- colour sets

abbrev digits : PlainColour
digits = record { shape = int_shape (pos 0) (pos 9); timed = false }

digit_admitted : admits digits (int (pos 9)) ≡ true
digit_admitted = refl

ten_not_admitted : admits digits (int (pos 10)) ≡ false
ten_not_admitted = refl

nine_too_few : admits digits (int (negsuc 0)) ≡ false
nine_too_few = refl

zero_admitted : admits digits (int (pos 0)) ≡ true
zero_admitted = refl

no_integer : admits digits (boolean true) ≡ false
no_integer = refl

truth_values_and_unit : has_shape (boolean false) boolean_shape ≡ true
truth_values_and_unit = refl

no_unit : has_shape (boolean false) unit_shape ≡ false
no_unit = refl

the_unit : has_shape unit unit_shape ≡ true
the_unit = refl

-- a string of printable bytes: the space and the tilde are, a line's end and the byte behind the tilde are not
printable : has_shape (text (32 ∷ 126 ∷ [])) text_shape ≡ true
printable = refl

control_byte : has_shape (text (97 ∷ 31 ∷ [])) text_shape ≡ false
control_byte = refl

past_the_tilde : has_shape (text (127 ∷ [])) text_shape ≡ false
past_the_tilde = refl

last_constant : has_shape (constant 2) (constant_shape 0 3) ≡ true
last_constant = refl

past_the_last_constant : has_shape (constant 3) (constant_shape 0 3) ≡ false
past_the_last_constant = refl

abbrev truth_and_unit : PlainShape
truth_and_unit = tuple_shape (more_shapes boolean_shape (more_shapes unit_shape no_shapes))

a_pair : has_shape (tuple (from_list (boolean true ∷ unit ∷ []))) truth_and_unit ≡ true
a_pair = refl

items_exchanged : has_shape (tuple (from_list (unit ∷ boolean true ∷ []))) truth_and_unit ≡ false
items_exchanged = refl

second_item_wrong : has_shape (tuple (from_list (boolean true ∷ boolean true ∷ []))) truth_and_unit ≡ false
second_item_wrong = refl

an_item_too_few : has_shape (tuple (from_list (boolean true ∷ []))) truth_and_unit ≡ false
an_item_too_few = refl

an_item_too_many : has_shape (tuple (from_list (boolean true ∷ unit ∷ unit ∷ []))) truth_and_unit ≡ false
an_item_too_many = refl

an_empty_list : has_shape (list (from_list [])) (list_shape unit_shape) ≡ true
an_empty_list = refl

second_of_a_list_wrong : has_shape (list (from_list (unit ∷ boolean true ∷ []))) (list_shape unit_shape) ≡ false
second_of_a_list_wrong = refl

a_list_is_no_tuple : has_shape (tuple (from_list (unit ∷ []))) (list_shape unit_shape) ≡ false
a_list_is_no_tuple = refl

-- a union of a constructor alone and one with a string
abbrev none_or_text : PlainShape
none_or_text = union_shape 0 (without (taking text_shape no_constructors))

bare_where_none_is_declared : has_shape (bare 0) none_or_text ≡ true
bare_where_none_is_declared = refl

argument_left_out : has_shape (bare 1) none_or_text ≡ false
argument_left_out = refl

another_argument : has_shape (applied 1 unit) none_or_text ≡ false
another_argument = refl

past_the_last_constructor : has_shape (bare 2) none_or_text ≡ false
past_the_last_constructor = refl

argument_not_declared : admits (record { shape = union_shape 0 (without (taking text_shape no_constructors)); timed = true }) (applied 0 unit) ≡ false
argument_not_declared = refl

argument_declared : admits (record { shape = union_shape 0 (without (taking text_shape no_constructors)); timed = true }) (applied 1 (text (97 ∷ []))) ≡ true
argument_declared = refl

-- ---- names: a net with two constants of one enumeration and two constructors of one union

abbrev named_net : PlainNet
named_net =
    record { places = []; transitions = []; variables = []; constants = ((97 ∷ []) ∷ (98 ∷ []) ∷ []) ∷ []; constructors = ((99 ∷ []) ∷ (100 ∷ []) ∷ []) ∷ []; functions = [] }

each_has_its_name : has_names named_net (list_shape (tuple_shape (more_shapes (constant_shape 0 2) (more_shapes none_or_text no_shapes)))) ≡ true
each_has_its_name = refl

a_constant_without_a_name : has_names named_net (constant_shape 0 3) ≡ false
a_constant_without_a_name = refl

an_enumeration_without_names : has_names named_net (constant_shape 1 1) ≡ false
an_enumeration_without_names = refl

a_constructor_without_a_name : has_names named_net (union_shape 0 (without (without (without no_constructors)))) ≡ false
a_constructor_without_a_name = refl

an_argument_without_a_name : has_names named_net (union_shape 0 (taking (constant_shape 0 3) no_constructors)) ≡ false
an_argument_without_a_name = refl

an_item_without_a_name : has_names named_net (list_shape (tuple_shape (more_shapes unit_shape (more_shapes (constant_shape 0 3) no_shapes)))) ≡ false
an_item_without_a_name = refl

-- ---- the order of entries, ready and next

-- an entry of a transition with two variables of integers
abbrev entry : ℕ → ℕ → ℕ → ℕ → PlainEntry
entry earliest t x y = record { earliest = earliest; element = record { transition = t; binding = (0, int (pos x)) ∷ (1, int (pos y)) ∷ [] } }

by_transition_first : entry_cmp (entry 0 1 5 5) (entry 0 2 4 4) ≡ Less
by_transition_first = refl

by_the_first_variable : entry_cmp (entry 0 1 5 4) (entry 0 1 4 5) ≡ Greater
by_the_first_variable = refl

by_the_second_variable : entry_cmp (entry 0 1 5 4) (entry 0 1 5 5) ≡ Less
by_the_second_variable = refl

not_by_time : entry_cmp (entry 9 1 5 4) (entry 3 1 5 4) ≡ Equal
not_by_time = refl

ready_at_four : ready 4 (entry 3 0 1 1 ∷ entry 4 0 2 2 ∷ entry 5 0 3 3 ∷ entry 4 1 1 1 ∷ []) ≡ entry 4 0 2 2 ∷ entry 4 1 1 1 ∷ []
ready_at_four = refl

next_is_the_least : next_time (entry 7 0 1 1 ∷ entry 4 0 2 2 ∷ entry 5 0 3 3 ∷ []) ≡ Some 4
next_is_the_least = refl

no_next : next_time [] ≡ None
no_next = refl

the_last_time : last_time ≡ 4611686018427387904
the_last_time = refl

-- ---- the timed order and subtraction

latest_goes : less (1 ∷ 3 ∷ 5 ∷ []) (4 ∷ 5 ∷ []) ≡ 1 ∷ []
latest_goes = refl

too_late_stays : without_latest 2 (3 ∷ 5 ∷ []) ≡ 3 ∷ 5 ∷ []
too_late_stays = refl

not_yet_covered : covers (1 ∷ 4 ∷ []) (3 ∷ 3 ∷ []) ≡ false
not_yet_covered = refl

covered : covers (1 ∷ 4 ∷ []) (4 ∷ 4 ∷ []) ≡ true
covered = refl

-- a token 7 at a time stamp
abbrev seven : ℕ → PlainToken
seven stamp = record { value = int (pos 7); stamp = stamp }

latest_seven_goes : without_token (int (pos 7)) 4 (seven 1 ∷ seven 4 ∷ []) ≡ seven 1 ∷ []
latest_seven_goes = refl

earlier_seven_goes : without_token (int (pos 7)) 3 (seven 1 ∷ seven 4 ∷ []) ≡ seven 4 ∷ []
earlier_seven_goes = refl

seven_is_added_in_order : add_token (seven 3) (seven 1 ∷ seven 4 ∷ []) ≡ seven 1 ∷ seven 3 ∷ seven 4 ∷ []
seven_is_added_in_order = refl

abbrev six : ℕ → PlainToken
six stamp = record { value = int (pos 6); stamp = stamp }

by_value_then_by_stamp : add_token (six 5) (six 4 ∷ seven 1 ∷ []) ≡ six 4 ∷ six 5 ∷ seven 1 ∷ []
by_value_then_by_stamp = refl

another_value_stays : without_token (int (pos 6)) 4 (six 1 ∷ seven 4 ∷ []) ≡ seven 4 ∷ []
another_value_stays = refl

stamps_of_seven : stamps (int (pos 7)) (record { value = int (pos 6); stamp = 9 } ∷ seven 1 ∷ seven 4 ∷ []) ≡ 1 ∷ 4 ∷ []
stamps_of_seven = refl
