-- Worked cases of the meaning of inscriptions: names, the order of evaluation, what is not needed, locals, functions.
use Rattle.std.proofs.Common.{◌≡◌, ℕ, true, false, [], ◌∷◌, refl}
use Rattle.cpn_definitions.specs.Value.{PlainValue, boolean, applied}
use Rattle.cpn_definitions.specs.Outcome.{Outcome, gives, faults, no_meaning, overflow, divide_by_zero, empty_list, no_case}
use Rattle.cpn_definitions.specs.Inscription.{addition, subtraction, division, concatenation, equality, cons, appending, membership, constructing, any_pattern, variable_pattern, cons_pattern, tuple_pattern, bare_pattern, applied_pattern, patterns_from, PlainExpr, literal, variable, local, the_time, apply, conjunction, disjunction, choose, select, bind, accumulate, exprs_from, arms_from, PlainFunction, Functions}
use Rattle.cpn_definitions.specs.Meaning.{meaning}
use Rattle.cpn_definitions.proofs.ShortForms.{whole, negative, pair_of, list_of, number, minus, truth, of_two, pair, items, call, no_quotient, no_head, number_pattern, name_pattern, x, y, worked_binding, means}

-- ---- names

literal_is_itself : means (minus 5) ≡ gives (negative 5)
literal_is_itself = refl

variable_is_bound : means x ≡ gives (whole 7)
variable_is_bound = refl

second_variable_is_bound : means y ≡ gives (boolean true)
second_variable_is_bound = refl

variable_is_not_bound : means (variable 1) ≡ no_meaning
variable_is_not_bound = refl

no_local : means (local 0) ≡ no_meaning
no_local = refl

clock : means the_time ≡ gives (whole 5)
clock = refl

clock_at_another_time : meaning [] the_time [] 0 ≡ gives (whole 0)
clock_at_another_time = refl

-- ---- the first fault, from left to right: `1 div 0` before `hd []`, and the other way round

first_operand : means (of_two addition no_quotient no_head) ≡ faults divide_by_zero
first_operand = refl

second_operand : means (of_two addition no_head no_quotient) ≡ faults empty_list
second_operand = refl

second_operand_alone : means (of_two addition x no_head) ≡ faults empty_list
second_operand_alone = refl

operands_before_the_sum : means (of_two division no_head (number 0)) ≡ faults empty_list
operands_before_the_sum = refl

first_compared : means (of_two equality no_quotient no_head) ≡ faults divide_by_zero
first_compared = refl

first_of_a_pair : means (pair no_quotient no_head) ≡ faults divide_by_zero
first_of_a_pair = refl

second_of_a_pair : means (pair x no_head) ≡ faults empty_list
second_of_a_pair = refl

first_item : means (items (no_quotient ∷ no_head ∷ [])) ≡ faults divide_by_zero
first_item = refl

last_item : means (items (x ∷ y ∷ no_head ∷ [])) ≡ faults empty_list
last_item = refl

head_before_tail : means (of_two cons no_quotient no_head) ≡ faults divide_by_zero
head_before_tail = refl

first_list : means (of_two appending no_quotient no_head) ≡ faults divide_by_zero
first_list = refl

first_string : means (of_two concatenation no_quotient no_head) ≡ faults divide_by_zero
first_string = refl

list_before_member : means (of_two membership no_quotient no_head) ≡ faults divide_by_zero
list_before_member = refl

argument_of_a_constructor : means (apply (constructing 1) (exprs_from (no_head ∷ []))) ≡ faults empty_list
argument_of_a_constructor = refl

-- ---- `andalso` and `orelse`

both_true : means (conjunction (truth true) y) ≡ gives (boolean true)
both_true = refl

second_false : means (conjunction (truth true) (truth false)) ≡ gives (boolean false)
second_false = refl

first_false : means (conjunction (truth false) (truth true)) ≡ gives (boolean false)
first_false = refl

false_needs_no_more : means (conjunction (truth false) no_head) ≡ gives (boolean false)
false_needs_no_more = refl

true_needs_the_second : means (conjunction (truth true) no_head) ≡ faults empty_list
true_needs_the_second = refl

fault_of_the_first : means (conjunction no_quotient no_head) ≡ faults divide_by_zero
fault_of_the_first = refl

neither : means (disjunction (truth false) (truth false)) ≡ gives (boolean false)
neither = refl

second_true : means (disjunction (truth false) y) ≡ gives (boolean true)
second_true = refl

first_true : means (disjunction (truth true) (truth false)) ≡ gives (boolean true)
first_true = refl

true_needs_no_more : means (disjunction (truth true) no_head) ≡ gives (boolean true)
true_needs_no_more = refl

false_needs_the_second : means (disjunction (truth false) no_head) ≡ faults empty_list
false_needs_the_second = refl

fault_of_the_first_again : means (disjunction no_quotient no_head) ≡ faults divide_by_zero
fault_of_the_first_again = refl

conjunction_of_numbers : means (conjunction (number 1) y) ≡ no_meaning
conjunction_of_numbers = refl

disjunction_of_numbers : means (disjunction (number 1) y) ≡ no_meaning
disjunction_of_numbers = refl

-- ---- `if`

if_true : means (choose y (number 1) (number 2)) ≡ gives (whole 1)
if_true = refl

if_false : means (choose (truth false) (number 1) (number 2)) ≡ gives (whole 2)
if_false = refl

other_branch_is_not_needed : means (choose y (number 1) no_head) ≡ gives (whole 1)
other_branch_is_not_needed = refl

first_branch_is_not_needed : means (choose (truth false) no_head (number 2)) ≡ gives (whole 2)
first_branch_is_not_needed = refl

fault_of_the_branch : means (choose y no_head (number 2)) ≡ faults empty_list
fault_of_the_branch = refl

fault_of_the_condition : means (choose no_quotient no_head no_head) ≡ faults divide_by_zero
fault_of_the_condition = refl

if_of_a_number : means (choose x (number 1) (number 2)) ≡ no_meaning
if_of_a_number = refl

-- ---- `case`

abbrev cases_of : PlainExpr → PlainExpr
cases_of e = select e (arms_from ((number_pattern 1, number 10) ∷ (number_pattern 7, number 20) ∷ (name_pattern, of_two addition (local 0) (number 1)) ∷ (number_pattern 3, number 30) ∷ []))

first_arm : means (cases_of (number 1)) ≡ gives (whole 10)
first_arm = refl

second_arm : means (cases_of x) ≡ gives (whole 20)
second_arm = refl

first_that_matches : means (cases_of (number 3)) ≡ gives (whole 4)
first_that_matches = refl

no_arm : means (select (number 3) (arms_from ((number_pattern 1, number 1) ∷ (number_pattern 2, number 2) ∷ []))) ≡ faults no_case
no_arm = refl

no_arms_at_all : means (select x (arms_from [])) ≡ faults no_case
no_arms_at_all = refl

fault_of_the_subject : means (select no_quotient (arms_from ((any_pattern, no_head) ∷ []))) ≡ faults divide_by_zero
fault_of_the_subject = refl

later_arms_are_not_needed : means (select x (arms_from ((any_pattern, number 1) ∷ (any_pattern, no_head) ∷ []))) ≡ gives (whole 1)
later_arms_are_not_needed = refl

earlier_arms_are_not_needed : means (select x (arms_from ((number_pattern 1, no_head) ∷ (any_pattern, number 1) ∷ []))) ≡ gives (whole 1)
earlier_arms_are_not_needed = refl

fault_of_the_arm : means (select x (arms_from ((any_pattern, no_head) ∷ (any_pattern, number 1) ∷ []))) ≡ faults empty_list
fault_of_the_arm = refl

head_and_tail : means (select (items (number 1 ∷ number 2 ∷ [])) (arms_from ((cons_pattern name_pattern (variable_pattern 1), pair (local 1) (local 0)) ∷ []))) ≡ gives (pair_of (list_of (whole 2 ∷ [])) (whole 1))
head_and_tail = refl

with_or_without_argument : means (select (literal (applied 0 (whole 3))) (arms_from ((bare_pattern 0, number 1) ∷ (applied_pattern 0 name_pattern, local 0) ∷ []))) ≡ gives (whole 3)
with_or_without_argument = refl

-- ---- `let`

value_of_a_local : means (bind (number 3) (of_two addition (local 0) (local 0))) ≡ gives (whole 6)
value_of_a_local = refl

fault_of_a_local_that_is_not_read : means (bind no_head (number 3)) ≡ faults empty_list
fault_of_a_local_that_is_not_read = refl

inner_local_has_the_next_number : means (bind (number 3) (bind (number 4) (pair (local 0) (local 1)))) ≡ gives (pair_of (whole 3) (whole 4))
inner_local_has_the_next_number = refl

local_of_an_outer_value : means (bind (number 3) (bind (of_two addition (local 0) (number 1)) (local 1))) ≡ gives (whole 4)
local_of_an_outer_value = refl

local_is_gone_behind_its_form : means (pair (bind (number 3) (local 0)) (bind (number 4) (local 0))) ≡ gives (pair_of (whole 3) (whole 4))
local_is_gone_behind_its_form = refl

local_is_not_there_outside : means (pair (bind (number 3) (local 0)) (local 0)) ≡ no_meaning
local_is_not_there_outside = refl

local_is_not_there_in_its_own_value : means (bind (local 0) (number 1)) ≡ no_meaning
local_is_not_there_in_its_own_value = refl

-- ---- `foldl`: of its two locals the item comes first, then what has been made

folded_sum : means (accumulate (items (number 1 ∷ number 2 ∷ number 3 ∷ [])) (number 10) (of_two addition (local 0) (local 1))) ≡ gives (whole 16)
folded_sum = refl

folded_from_the_left : means (accumulate (items (number 1 ∷ number 2 ∷ [])) (number 10) (of_two subtraction (local 0) (local 1))) ≡ gives (whole 11)
folded_from_the_left = refl

folded_list_is_reversed : means (accumulate (items (number 1 ∷ number 2 ∷ [])) (items []) (of_two cons (local 0) (local 1))) ≡ gives (list_of (whole 2 ∷ whole 1 ∷ []))
folded_list_is_reversed = refl

nothing_folded : means (accumulate (items []) (number 10) no_head) ≡ gives (whole 10)
nothing_folded = refl

list_before_start : means (accumulate no_quotient no_head (local 0)) ≡ faults divide_by_zero
list_before_start = refl

start_before_body : means (accumulate (items (number 1 ∷ [])) no_head no_quotient) ≡ faults empty_list
start_before_body = refl

first_fault_of_the_body : means (accumulate (items (number 2 ∷ number 0 ∷ [])) (number 1) (of_two division (local 1) (local 0))) ≡ faults divide_by_zero
first_fault_of_the_body = refl

folded_past_the_end : means (accumulate (items (number 4611686018427387904 ∷ number 4611686018427387904 ∷ number 0 ∷ [])) (number 0) (of_two addition (local 0) (local 1))) ≡ faults overflow
folded_past_the_end = refl

fold_over_a_number : means (accumulate x (number 1) (local 0)) ≡ no_meaning
fold_over_a_number = refl

locals_of_all_binders : means (bind (number 1) (select (pair (number 2) (number 3)) (arms_from ((tuple_pattern (patterns_from (name_pattern ∷ variable_pattern 1 ∷ [])), accumulate (items (number 4 ∷ [])) (number 5) (items (local 0 ∷ local 1 ∷ local 2 ∷ local 3 ∷ local 4 ∷ []))) ∷ [])))) ≡ gives (list_of (whole 1 ∷ whole 2 ∷ whole 3 ∷ whole 4 ∷ whole 5 ∷ []))
locals_of_all_binders = refl

-- ---- functions

abbrev function : ℕ → PlainExpr → PlainFunction
function parameters body = record { parameters = parameters; body = body }

-- 0: one more; 1: a difference; 2: two more, by two calls of 0; 3: a value; 4: a call of itself; 5: a call of the next; 6: a
-- call of itself where its argument is not 0; 7: a second local beside one parameter; 8: a value whatever its argument is
abbrev functions : Functions
functions =
    function 1 (of_two addition (local 0) (number 1)) ∷ function 2 (of_two subtraction (local 0) (local 1)) ∷ function 1 (call 0 (call 0 (local 0 ∷ []) ∷ [])) ∷ function 0 (number 42)
    ∷ function 1 (call 4 (local 0 ∷ [])) ∷ function 1 (call 6 (local 0 ∷ [])) ∷ function 1 (choose (of_two equality (local 0) (number 0)) (number 0) (call 6 (local 0 ∷ []))) ∷ function 1 (local 1) ∷ function 1 (number 8) ∷ []

abbrev called_in : PlainExpr → Outcome PlainValue
called_in e = meaning functions e worked_binding 5

one_more : called_in (call 0 (x ∷ [])) ≡ gives (whole 8)
one_more = refl

arguments_in_their_order : called_in (call 1 (number 10 ∷ number 3 ∷ [])) ≡ gives (whole 7)
arguments_in_their_order = refl

call_of_an_earlier_one : called_in (call 2 (x ∷ [])) ≡ gives (whole 9)
call_of_an_earlier_one = refl

value_is_a_call : called_in (call 3 []) ≡ gives (whole 42)
value_is_a_call = refl

call_of_itself : called_in (call 4 (x ∷ [])) ≡ no_meaning
call_of_itself = refl

call_of_a_later_one : called_in (call 5 (number 0 ∷ [])) ≡ no_meaning
call_of_a_later_one = refl

call_that_is_not_needed : called_in (call 6 (number 0 ∷ [])) ≡ gives (whole 0)
call_that_is_not_needed = refl

call_of_itself_that_is_needed : called_in (call 6 (number 1 ∷ [])) ≡ no_meaning
call_of_itself_that_is_needed = refl

last_function : called_in (call 8 (x ∷ [])) ≡ gives (whole 8)
last_function = refl

no_such_function : called_in (call 9 (x ∷ [])) ≡ no_meaning
no_such_function = refl

no_functions : means (call 0 (x ∷ [])) ≡ no_meaning
no_functions = refl

too_few_arguments : called_in (call 1 (x ∷ [])) ≡ no_meaning
too_few_arguments = refl

too_many_arguments : called_in (call 0 (x ∷ x ∷ [])) ≡ no_meaning
too_many_arguments = refl

argument_of_a_value : called_in (call 3 (x ∷ [])) ≡ no_meaning
argument_of_a_value = refl

first_argument_first : called_in (call 1 (no_quotient ∷ no_head ∷ [])) ≡ faults divide_by_zero
first_argument_first = refl

second_argument : called_in (call 1 (x ∷ no_head ∷ [])) ≡ faults empty_list
second_argument = refl

argument_that_is_not_read : called_in (call 8 (no_head ∷ [])) ≡ faults empty_list
argument_that_is_not_read = refl

fault_in_a_body : called_in (call 0 (number 9223372036854775807 ∷ [])) ≡ faults overflow
fault_in_a_body = refl

fault_of_an_earlier_body : called_in (call 2 (number 9223372036854775806 ∷ [])) ≡ faults overflow
fault_of_an_earlier_body = refl

parameters_are_the_first_locals : called_in (bind (number 3) (call 0 (local 0 ∷ []))) ≡ gives (whole 4)
parameters_are_the_first_locals = refl

locals_of_the_caller_are_not_seen : called_in (bind (number 3) (bind (number 4) (call 7 (local 0 ∷ [])))) ≡ no_meaning
locals_of_the_caller_are_not_seen = refl

locals_are_there_behind_a_call : called_in (bind (number 3) (pair (call 0 (number 1 ∷ [])) (local 0))) ≡ gives (pair_of (whole 2) (whole 3))
locals_are_there_behind_a_call = refl

call_in_a_fold : called_in (accumulate (items (number 1 ∷ number 2 ∷ [])) (number 10) (call 1 (local 1 ∷ local 0 ∷ []))) ≡ gives (whole 7)
call_in_a_fold = refl
