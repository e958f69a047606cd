-- Worked cases of the terms of an inscription: coefficients, values, delays, sums, and which fault comes first.
use Rattle.std.proofs.Common.{◌≡◌, ℕ, ◌+◌, ◌^◌, neg_ℤ, pos, Bool, true, false, List, [], ◌∷◌, refl}
use Rattle.cpn_definitions.specs.Colour.{PlainColour, int_shape}
use Rattle.cpn_definitions.specs.Outcome.{Outcome, gives, faults, no_meaning, divide_by_zero, empty_list, no_case, not_in_colour, bad_coefficient, bad_delay, too_large}
use Rattle.cpn_definitions.specs.Inscription.{addition, PlainExpr, local, the_time, bind, ArcInscription, no_token, one, times, sum_of, later, stamped, chosen, selected, bound, inscriptions_from, arc_arms_from, any_pattern}
use Rattle.cpn_definitions.specs.Terms.{PlainTerm, delay_of, terms_of}
use Rattle.cpn_definitions.proofs.ShortForms.{whole, negative, number, minus, truth, of_two, no_quotient, no_head, number_pattern, name_pattern, x, y, worked_binding}

-- the colour set of the integers from 0 to 9
abbrev digits : PlainColour
digits = record { shape = int_shape (pos 0) (pos 9); timed = true }

abbrev terms : ArcInscription → Outcome (List PlainTerm)
terms m = terms_of [] m digits worked_binding 5

-- so many tokens of a number with a delay
abbrev term : ℕ → ℕ → ℕ → PlainTerm
term count k delay = record { value = whole k; count = count; delay = delay }

-- the greatest delay
abbrev longest : ℕ
longest = 2 ^ 62

-- so many tokens of a value; two parts and three; a delay; a condition with another branch without tokens
abbrev tokens : ℕ → PlainExpr → ArcInscription
tokens count e = times (number count) e

abbrev both : ArcInscription → ArcInscription → ArcInscription
both m n = sum_of (inscriptions_from (m ∷ n ∷ []))

abbrev three : ArcInscription → ArcInscription → ArcInscription → ArcInscription
three m n o = sum_of (inscriptions_from (m ∷ n ∷ o ∷ []))

abbrev after : ArcInscription → ℕ → ArcInscription
after m delay = later m (number delay)

abbrev where_true : Bool → ArcInscription → ArcInscription
where_true b m = chosen (truth b) m no_token

-- ---- coefficients

no_term : terms no_token ≡ gives []
no_term = refl

one_token : terms (one x) ≡ gives (term 1 7 0 ∷ [])
one_token = refl

three_tokens : terms (tokens 3 x) ≡ gives (term 3 7 0 ∷ [])
three_tokens = refl

no_token_of_seven : terms (tokens 0 x) ≡ gives (term 0 7 0 ∷ [])
no_token_of_seven = refl

computed_coefficient : terms (times (of_two addition (number 1) (number 1)) x) ≡ gives (term 2 7 0 ∷ [])
computed_coefficient = refl

negative_coefficient : terms (times (minus 1) x) ≡ faults bad_coefficient
negative_coefficient = refl

most_tokens : terms (tokens 65536 x) ≡ gives (term 65536 7 0 ∷ [])
most_tokens = refl

more_tokens : terms (tokens 65537 x) ≡ faults too_large
more_tokens = refl

coefficient_is_no_number : terms (times y x) ≡ no_meaning
coefficient_is_no_number = refl

-- ---- values

outside_the_colour_set : terms (one (number 10)) ≡ faults not_in_colour
outside_the_colour_set = refl

below_the_colour_set : terms (tokens 2 (minus 1)) ≡ faults not_in_colour
below_the_colour_set = refl

value_of_another_type : terms (one y) ≡ faults not_in_colour
value_of_another_type = refl

none_outside_the_colour_set : terms (tokens 0 (number 10)) ≡ faults not_in_colour
none_outside_the_colour_set = refl

fault_of_the_value : terms (one no_head) ≡ faults empty_list
fault_of_the_value = refl

none_of_a_fault : terms (tokens 0 no_head) ≡ faults empty_list
none_of_a_fault = refl

-- ---- delays

delayed : terms (after (one x) 4) ≡ gives (term 1 7 4 ∷ [])
delayed = refl

delayed_by_the_time : terms (later (one x) the_time) ≡ gives (term 1 7 5 ∷ [])
delayed_by_the_time = refl

longest_delay : terms (after (tokens 2 x) longest) ≡ gives (term 2 7 longest ∷ [])
longest_delay = refl

longer_delay : terms (after (tokens 2 x) (longest + 1)) ≡ faults bad_delay
longer_delay = refl

negative_delay : terms (later (one x) (minus 1)) ≡ faults bad_delay
negative_delay = refl

fault_of_the_delay : terms (later (one x) no_head) ≡ faults empty_list
fault_of_the_delay = refl

delay_is_no_number : terms (later (one x) y) ≡ no_meaning
delay_is_no_number = refl

none_delayed : terms (after (tokens 0 x) longest) ≡ gives (term 0 7 longest ∷ [])
none_delayed = refl

none_with_a_negative_delay : terms (later (tokens 0 x) (minus 1)) ≡ faults bad_delay
none_with_a_negative_delay = refl

none_with_a_longer_delay : terms (after (tokens 0 x) (longest + 1)) ≡ faults bad_delay
none_with_a_longer_delay = refl

stamped_token : terms (stamped (one x) (pos 3)) ≡ gives (term 1 7 3 ∷ [])
stamped_token = refl

longest_stamp : terms (stamped (one x) (pos longest)) ≡ gives (term 1 7 longest ∷ [])
longest_stamp = refl

longer_stamp : terms (stamped (one x) (pos (longest + 1))) ≡ faults bad_delay
longer_stamp = refl

negative_stamp : terms (stamped (one x) (neg_ℤ (pos 1))) ≡ faults bad_delay
negative_stamp = refl

twice_delayed : terms (after (after (one x) 4) 3) ≡ gives (term 1 7 7 ∷ [])
twice_delayed = refl

twice_stamped : terms (stamped (stamped (one x) (pos 4)) (pos 3)) ≡ gives (term 1 7 7 ∷ [])
twice_stamped = refl

longest_sum_of_delays : terms (after (after (one x) (2 ^ 61)) (2 ^ 61)) ≡ gives (term 1 7 longest ∷ [])
longest_sum_of_delays = refl

longer_sum_of_delays : terms (after (after (one x) (2 ^ 61)) (2 ^ 61 + 1)) ≡ faults bad_delay
longer_sum_of_delays = refl

none_with_a_longer_sum : terms (after (after (tokens 0 x) (2 ^ 61)) (2 ^ 61 + 1)) ≡ faults bad_delay
none_with_a_longer_sum = refl

-- ---- a term's coefficient, value and delay in this order, each checked before the next is evaluated; then the count

coefficient_first : terms (times no_quotient no_head) ≡ faults divide_by_zero
coefficient_first = refl

coefficient_is_checked_first : terms (times (minus 1) no_head) ≡ faults bad_coefficient
coefficient_is_checked_first = refl

coefficient_before_the_colour_set : terms (times (minus 1) (number 10)) ≡ faults bad_coefficient
coefficient_before_the_colour_set = refl

value_before_delay : terms (later (one no_quotient) no_head) ≡ faults divide_by_zero
value_before_delay = refl

value_is_checked_before_delay : terms (later (one (number 10)) no_head) ≡ faults not_in_colour
value_is_checked_before_delay = refl

colour_set_before_negative_delay : terms (later (one (number 10)) (minus 1)) ≡ faults not_in_colour
colour_set_before_negative_delay = refl

coefficient_before_delay : terms (later (times (minus 1) x) (minus 1)) ≡ faults bad_coefficient
coefficient_before_delay = refl

value_before_count : terms (tokens 70000 no_quotient) ≡ faults divide_by_zero
value_before_count = refl

colour_set_before_count : terms (tokens 70000 (number 10)) ≡ faults not_in_colour
colour_set_before_count = refl

delay_before_count : terms (later (tokens 70000 x) no_quotient) ≡ faults divide_by_zero
delay_before_count = refl

checked_delay_before_count : terms (later (tokens 70000 x) (minus 1)) ≡ faults bad_delay
checked_delay_before_count = refl

longer_delay_before_count : terms (after (tokens 70000 x) (longest + 1)) ≡ faults bad_delay
longer_delay_before_count = refl

stamp_before_count : terms (stamped (tokens 70000 x) (neg_ℤ (pos 1))) ≡ faults bad_delay
stamp_before_count = refl

count_with_a_delay : terms (after (tokens 70000 x) 1) ≡ faults too_large
count_with_a_delay = refl

-- ---- sums

sum_in_its_order : terms (both (tokens 2 (number 8)) (one x)) ≡ gives (term 2 8 0 ∷ term 1 7 0 ∷ [])
sum_in_its_order = refl

sum_of_equal_ones : terms (both (one x) (one x)) ≡ gives (term 1 7 0 ∷ term 1 7 0 ∷ [])
sum_of_equal_ones = refl

sum_with_none : terms (three (one x) no_token (one (number 8))) ≡ gives (term 1 7 0 ∷ term 1 8 0 ∷ [])
sum_with_none = refl

sum_of_sums : terms (both (both (one x) (one (number 8))) (one (number 9))) ≡ gives (term 1 7 0 ∷ term 1 8 0 ∷ term 1 9 0 ∷ [])
sum_of_sums = refl

first_part_first : terms (both (one no_quotient) (one no_head)) ≡ faults divide_by_zero
first_part_first = refl

first_part_whole : terms (both (later (one x) (minus 1)) (one no_head)) ≡ faults bad_delay
first_part_whole = refl

second_part : terms (both (one x) (one no_head)) ≡ faults empty_list
second_part = refl

most_in_two : terms (both (tokens 65535 x) (one (number 8))) ≡ gives (term 65535 7 0 ∷ term 1 8 0 ∷ [])
most_in_two = refl

more_in_two : terms (both (tokens 65535 x) (tokens 2 (number 8))) ≡ faults too_large
more_in_two = refl

most_and_none : terms (both (tokens 65536 x) (tokens 0 (number 8))) ≡ gives (term 65536 7 0 ∷ term 0 8 0 ∷ [])
most_and_none = refl

count_after_each_term : terms (three (tokens 40000 x) (tokens 40000 x) (one no_head)) ≡ faults too_large
count_after_each_term = refl

count_after_the_first_term : terms (both (tokens 65537 x) (one (number 10))) ≡ faults too_large
count_after_the_first_term = refl

second_value_before_count : terms (both (tokens 65536 x) (one no_quotient)) ≡ faults divide_by_zero
second_value_before_count = refl

second_delay_before_count : terms (both (tokens 65536 x) (later (one x) (minus 1))) ≡ faults bad_delay
second_delay_before_count = refl

count_through_an_inner_sum : terms (both (tokens 65536 x) (both no_token (one x))) ≡ faults too_large
count_through_an_inner_sum = refl

count_out_of_an_inner_sum : terms (both (both (tokens 65535 x) (one x)) (one x)) ≡ faults too_large
count_out_of_an_inner_sum = refl

count_through_if : terms (both (tokens 65536 x) (where_true true (one x))) ≡ faults too_large
count_through_if = refl

count_through_case : terms (both (tokens 65536 x) (selected x (arc_arms_from ((any_pattern, one x) ∷ [])))) ≡ faults too_large
count_through_case = refl

count_through_let : terms (both (tokens 65536 x) (bound x (one (local 0)))) ≡ faults too_large
count_through_let = refl

count_through_a_delay : terms (both (tokens 65536 x) (after (where_true true (one x)) 1)) ≡ faults too_large
count_through_a_delay = refl

-- ---- a delay over several terms, over one in another form, or over none: evaluated and checked once, after them

over_two : terms (after (both (one x) (tokens 2 (number 8))) 4) ≡ gives (term 1 7 4 ∷ term 2 8 4 ∷ [])
over_two = refl

added_to_each : terms (after (both (after (one x) 3) (one (number 8))) 4) ≡ gives (term 1 7 7 ∷ term 1 8 4 ∷ [])
added_to_each = refl

stamped_both : terms (stamped (both (stamped (one x) (pos 3)) (one (number 8))) (pos 4)) ≡ gives (term 1 7 7 ∷ term 1 8 4 ∷ [])
stamped_both = refl

one_of_them_too_long : terms (after (both (one (number 8)) (after (one x) longest)) 1) ≡ faults bad_delay
one_of_them_too_long = refl

none_of_them_too_long : terms (after (both (tokens 0 x) (one x)) (longest + 1)) ≡ faults bad_delay
none_of_them_too_long = refl

after_the_first_of_them : terms (later (both (one no_quotient) (one x)) no_head) ≡ faults divide_by_zero
after_the_first_of_them = refl

after_the_last_of_them : terms (later (both (one x) (one (number 10))) no_head) ≡ faults not_in_colour
after_the_last_of_them = refl

after_the_delays_in_them : terms (later (both (later (one x) (minus 1)) (one x)) no_head) ≡ faults bad_delay
after_the_delays_in_them = refl

after_the_count_of_them : terms (later (both (tokens 40000 x) (tokens 40000 x)) (minus 1)) ≡ faults too_large
after_the_count_of_them = refl

after_the_count_of_if : terms (later (where_true true (tokens 70000 x)) (minus 1)) ≡ faults too_large
after_the_count_of_if = refl

after_the_count_of_let : terms (later (bound x (tokens 70000 (local 0))) (minus 1)) ≡ faults too_large
after_the_count_of_let = refl

after_the_count_of_case : terms (later (selected x (arc_arms_from ((any_pattern, tokens 70000 x) ∷ []))) no_head) ≡ faults too_large
after_the_count_of_case = refl

after_the_count_of_a_delayed_one : terms (later (after (tokens 70000 x) 1) (minus 1)) ≡ faults too_large
after_the_count_of_a_delayed_one = refl

over_if : terms (after (where_true true (one x)) 4) ≡ gives (term 1 7 4 ∷ [])
over_if = refl

over_none : terms (after no_token 4) ≡ gives []
over_none = refl

longer_over_none : terms (after no_token (longest + 1)) ≡ gives []
longer_over_none = refl

longer_over_no_branch : terms (after (where_true false (one x)) (longest + 1)) ≡ gives []
longer_over_no_branch = refl

negative_over_none : terms (later no_token (minus 1)) ≡ faults bad_delay
negative_over_none = refl

fault_over_none : terms (later no_token no_head) ≡ faults empty_list
fault_over_none = refl

negative_stamp_over_none : terms (stamped no_token (neg_ℤ (pos 1))) ≡ faults bad_delay
negative_stamp_over_none = refl

-- ---- `if`, `case` and `let`

branch_of_if : terms (chosen y (one x) (one (number 8))) ≡ gives (term 1 7 0 ∷ [])
branch_of_if = refl

other_branch_of_if : terms (chosen (truth false) (one x) (one (number 8))) ≡ gives (term 1 8 0 ∷ [])
other_branch_of_if = refl

branch_that_is_not_needed : terms (chosen y (one x) (one no_head)) ≡ gives (term 1 7 0 ∷ [])
branch_that_is_not_needed = refl

other_branch_that_is_not_needed : terms (chosen (truth false) (one (number 10)) (one x)) ≡ gives (term 1 7 0 ∷ [])
other_branch_that_is_not_needed = refl

fault_of_the_condition : terms (chosen no_quotient (one no_head) no_token) ≡ faults divide_by_zero
fault_of_the_condition = refl

condition_is_no_truth : terms (chosen x (one x) (one x)) ≡ no_meaning
condition_is_no_truth = refl

first_arm_that_matches : terms (selected x (arc_arms_from ((number_pattern 1, one no_head) ∷ (name_pattern, tokens 2 (local 0)) ∷ (number_pattern 7, one (number 8)) ∷ []))) ≡ gives (term 2 7 0 ∷ [])
first_arm_that_matches = refl

no_arm_matches : terms (selected x (arc_arms_from ((number_pattern 1, one x) ∷ (number_pattern 2, one x) ∷ []))) ≡ faults no_case
no_arm_matches = refl

fault_of_the_subject : terms (selected no_quotient (arc_arms_from ((any_pattern, one no_head) ∷ []))) ≡ faults divide_by_zero
fault_of_the_subject = refl

local_of_let : terms (bound (number 2) (times (local 0) (local 0))) ≡ gives (term 2 2 0 ∷ [])
local_of_let = refl

locals_of_two_lets : terms (bound (number 2) (bound (number 3) (later (times (local 0) (local 1)) (of_two addition (local 0) (local 1))))) ≡ gives (term 2 3 5 ∷ [])
locals_of_two_lets = refl

local_of_let_and_case : terms (bound (number 2) (selected x (arc_arms_from ((name_pattern, times (local 0) (local 1)) ∷ [])))) ≡ gives (term 2 7 0 ∷ [])
local_of_let_and_case = refl

local_within_a_value : terms (bound (number 2) (one (bind (number 3) (of_two addition (local 0) (local 1))))) ≡ gives (term 1 5 0 ∷ [])
local_within_a_value = refl

local_is_gone_behind_let : terms (both (bound (number 2) (one (local 0))) (one (local 0))) ≡ no_meaning
local_is_gone_behind_let = refl

local_in_a_delay : terms (bound (number 2) (later (both (one x) (one x)) (local 0))) ≡ gives (term 1 7 2 ∷ term 1 7 2 ∷ [])
local_in_a_delay = refl

let_is_over_before_the_delay : terms (later (bound (number 2) (one x)) (local 0)) ≡ no_meaning
let_is_over_before_the_delay = refl

fault_of_let : terms (bound no_quotient (one no_head)) ≡ faults divide_by_zero
fault_of_let = refl

-- ---- the delay of a transition

longest_delay_of_a_transition : delay_of (whole longest) ≡ gives longest
longest_delay_of_a_transition = refl

longer_delay_of_a_transition : delay_of (whole (longest + 1)) ≡ faults bad_delay
longer_delay_of_a_transition = refl

negative_delay_of_a_transition : delay_of (negative 1) ≡ faults bad_delay
negative_delay_of_a_transition = refl
