-- Worked cases of lists, strings, tuples and constructors: values, the fault `empty_list`, and `too_large` at 65,536 nodes and
-- at one more.
use Rattle.std.proofs.Common.{◌≡◌, ℕ, true, false, List, [], ◌∷◌, replicate, refl}
use Rattle.cpn_definitions.specs.Value.{PlainValue, unit, boolean, text, tuple, bare, applied, from_list, nodes_of}
use Rattle.cpn_definitions.specs.Outcome.{gives, faults, no_meaning, empty_list, too_large}
use Rattle.cpn_definitions.specs.Inscription.{cons, appending, head, tail, list_length, reversal, membership, string_size, component, concatenation, constructing, PlainExpr, literal, apply, exprs_from}
use Rattle.cpn_definitions.specs.Operations.{most_nodes}
use Rattle.cpn_definitions.proofs.ShortForms.{whole, negative, pair_of, list_of, number, minus, truth, string, of_one, of_two, pair, items, means}

abbrev one_two : PlainExpr
one_two = items (number 1 ∷ number 2 ∷ [])

abbrev nothing : PlainExpr
nothing = items []

-- ---- lists

listed : means one_two ≡ gives (list_of (whole 1 ∷ whole 2 ∷ []))
listed = refl

no_items : means nothing ≡ gives (list_of [])
no_items = refl

consed_first : means (of_two cons (number 0) one_two) ≡ gives (list_of (whole 0 ∷ whole 1 ∷ whole 2 ∷ []))
consed_first = refl

consed_alone : means (of_two cons (number 0) nothing) ≡ gives (list_of (whole 0 ∷ []))
consed_alone = refl

appended_lists : means (of_two appending one_two (items (number 3 ∷ []))) ≡ gives (list_of (whole 1 ∷ whole 2 ∷ whole 3 ∷ []))
appended_lists = refl

nothing_appended : means (of_two appending one_two nothing) ≡ gives (list_of (whole 1 ∷ whole 2 ∷ []))
nothing_appended = refl

head_of_list : means (of_one head one_two) ≡ gives (whole 1)
head_of_list = refl

tail_of_list : means (of_one tail one_two) ≡ gives (list_of (whole 2 ∷ []))
tail_of_list = refl

tail_of_one : means (of_one tail (items (number 1 ∷ []))) ≡ gives (list_of [])
tail_of_one = refl

no_head : means (of_one head nothing) ≡ faults empty_list
no_head = refl

no_tail : means (of_one tail nothing) ≡ faults empty_list
no_tail = refl

no_head_of_tail : means (of_one head (of_one tail (items (number 1 ∷ [])))) ≡ faults empty_list
no_head_of_tail = refl

length_of_list : means (of_one list_length one_two) ≡ gives (whole 2)
length_of_list = refl

length_of_nothing : means (of_one list_length nothing) ≡ gives (whole 0)
length_of_nothing = refl

reversed : means (of_one reversal (items (number 1 ∷ number 2 ∷ number 3 ∷ []))) ≡ gives (list_of (whole 3 ∷ whole 2 ∷ whole 1 ∷ []))
reversed = refl

nothing_reversed : means (of_one reversal nothing) ≡ gives (list_of [])
nothing_reversed = refl

member : means (of_two membership one_two (number 2)) ≡ gives (boolean true)
member = refl

no_member : means (of_two membership one_two (number 3)) ≡ gives (boolean false)
no_member = refl

no_member_of_nothing : means (of_two membership nothing (number 3)) ≡ gives (boolean false)
no_member_of_nothing = refl

member_comes_second : means (of_two membership (number 2) one_two) ≡ no_meaning
member_comes_second = refl

head_of_a_string : means (of_one head (string (97 ∷ []))) ≡ no_meaning
head_of_a_string = refl

list_behind_a_list : means (of_two cons one_two (number 0)) ≡ no_meaning
list_behind_a_list = refl

list_with_a_string : means (of_two appending one_two (string [])) ≡ no_meaning
list_with_a_string = refl

-- ---- strings

joined : means (of_two concatenation (string (97 ∷ [])) (string (98 ∷ 99 ∷ []))) ≡ gives (text (97 ∷ 98 ∷ 99 ∷ []))
joined = refl

empty_joined : means (of_two concatenation (string []) (string [])) ≡ gives (text [])
empty_joined = refl

size_of_string : means (of_one string_size (string (97 ∷ 98 ∷ 99 ∷ []))) ≡ gives (whole 3)
size_of_string = refl

size_of_empty_string : means (of_one string_size (string [])) ≡ gives (whole 0)
size_of_empty_string = refl

size_of_a_list : means (of_one string_size one_two) ≡ no_meaning
size_of_a_list = refl

length_of_a_string : means (of_one list_length (string (97 ∷ []))) ≡ no_meaning
length_of_a_string = refl

string_with_a_number : means (of_two concatenation (string []) (number 1)) ≡ no_meaning
string_with_a_number = refl

-- ---- tuples and constructors

paired : means (pair (number 1) (truth true)) ≡ gives (pair_of (whole 1) (boolean true))
paired = refl

first_component : means (of_one (component 1) (pair (number 1) (truth true))) ≡ gives (whole 1)
first_component = refl

second_component : means (of_one (component 2) (pair (number 1) (truth true))) ≡ gives (boolean true)
second_component = refl

no_third_component : means (of_one (component 3) (pair (number 1) (truth true))) ≡ no_meaning
no_third_component = refl

components_from_one : means (of_one (component 0) (pair (number 1) (truth true))) ≡ no_meaning
components_from_one = refl

component_of_a_list : means (of_one (component 1) one_two) ≡ no_meaning
component_of_a_list = refl

constructor_alone : means (apply (constructing 2) (exprs_from [])) ≡ gives (bare 2)
constructor_alone = refl

constructor_with_argument : means (apply (constructing 2) (exprs_from (minus 3 ∷ []))) ≡ gives (applied 2 (negative 3))
constructor_with_argument = refl

constructor_with_two : means (apply (constructing 2) (exprs_from (number 1 ∷ number 2 ∷ []))) ≡ no_meaning
constructor_with_two = refl

-- ---- nodes

nodes_of_a_value : nodes_of (tuple (from_list (whole 1 ∷ text (97 ∷ 98 ∷ []) ∷ list_of (unit ∷ bare 0 ∷ []) ∷ applied 1 (boolean true) ∷ []))) ≡ 10
nodes_of_a_value = refl

limit : most_nodes ≡ 65536
limit = refl

-- so many units, a list of so many nodes, a string of so many nodes; each has one node itself
abbrev units : ℕ → List PlainValue
units n = replicate n unit

abbrev list_behind : ℕ → PlainValue
list_behind n = list_of (units n)

abbrev string_behind : ℕ → PlainValue
string_behind n = text (replicate n 97)

abbrev known : PlainValue → PlainExpr
known v = literal v

largest_tuple : means (pair (number 1) (known (list_behind 65533))) ≡ gives (pair_of (whole 1) (list_behind 65533))
largest_tuple = refl

larger_tuple : means (pair (number 1) (known (list_behind 65534))) ≡ faults too_large
larger_tuple = refl

largest_list : means (items (number 1 ∷ known (list_behind 65533) ∷ [])) ≡ gives (list_of (whole 1 ∷ list_behind 65533 ∷ []))
largest_list = refl

larger_list : means (items (number 1 ∷ known (list_behind 65534) ∷ [])) ≡ faults too_large
larger_list = refl

largest_constructor : means (apply (constructing 0) (exprs_from (known (list_behind 65534) ∷ []))) ≡ gives (applied 0 (list_behind 65534))
largest_constructor = refl

larger_constructor : means (apply (constructing 0) (exprs_from (known (list_behind 65535) ∷ []))) ≡ faults too_large
larger_constructor = refl

largest_with_head : means (of_two cons (known unit) (known (list_behind 65534))) ≡ gives (list_behind 65535)
largest_with_head = refl

larger_with_head : means (of_two cons (known unit) (known (list_behind 65535))) ≡ faults too_large
larger_with_head = refl

larger_by_a_large_head : means (of_two cons (known (list_behind 65534)) nothing) ≡ gives (list_of (list_behind 65534 ∷ []))
larger_by_a_large_head = refl

too_large_by_a_large_head : means (of_two cons (known (list_behind 65535)) nothing) ≡ faults too_large
too_large_by_a_large_head = refl

largest_appended : means (of_two appending (known (list_behind 40000)) (known (list_behind 25535))) ≡ gives (list_behind 65535)
largest_appended = refl

larger_appended : means (of_two appending (known (list_behind 40000)) (known (list_behind 25536))) ≡ faults too_large
larger_appended = refl

largest_string : means (of_two concatenation (known (string_behind 40000)) (known (string_behind 25535))) ≡ gives (string_behind 65535)
largest_string = refl

larger_string : means (of_two concatenation (known (string_behind 40000)) (known (string_behind 25536))) ≡ faults too_large
larger_string = refl

largest_string_in_a_list : means (items (known (string_behind 65534) ∷ [])) ≡ gives (list_of (string_behind 65534 ∷ []))
largest_string_in_a_list = refl

larger_string_in_a_list : means (items (known (string_behind 65535) ∷ [])) ≡ faults too_large
larger_string_in_a_list = refl
