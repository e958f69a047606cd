-- Worked cases of arithmetic and comparisons: values, and the faults `overflow` and `divide_by_zero`.
use Rattle.std.proofs.Common.{◌≡◌, ◌^◌, ◌-◌, Bool, true, false, List, [], ◌∷◌, map, refl}
use Rattle.cpn_definitions.specs.Value.{PlainValue, unit, boolean, constant, bare}
use Rattle.cpn_definitions.specs.Outcome.{Outcome, gives, faults, no_meaning, overflow, divide_by_zero}
use Rattle.cpn_definitions.specs.Inscription.{Operation, addition, subtraction, multiplication, division, remainder, negation, equality, inequality, less_than, at_most, greater_than, at_least, complement, operation, PlainExpr, literal, apply, exprs_from}
use Rattle.cpn_definitions.proofs.ShortForms.{whole, negative, greatest, least, number, minus, truth, string, of_one, of_two, items, means}

-- the greatest and the least integer as inscriptions
abbrev top : PlainExpr
top = literal greatest

abbrev bottom : PlainExpr
bottom = literal least

abbrev half : PlainExpr
half = number (2 ^ 62)

-- ---- `+` and `-`

sum : means (of_two addition (number 2) (minus 3)) ≡ gives (negative 1)
sum = refl

sum_at_the_top : means (of_two addition top (number 0)) ≡ gives greatest
sum_at_the_top = refl

sum_above_the_top : means (of_two addition top (number 1)) ≡ faults overflow
sum_above_the_top = refl

sum_at_the_bottom : means (of_two addition bottom (minus 0)) ≡ gives least
sum_at_the_bottom = refl

sum_below_the_bottom : means (of_two addition bottom (minus 1)) ≡ faults overflow
sum_below_the_bottom = refl

sum_of_both_ends : means (of_two addition top bottom) ≡ gives (negative 1)
sum_of_both_ends = refl

difference : means (of_two subtraction (number 3) (number 5)) ≡ gives (negative 2)
difference = refl

difference_at_the_top : means (of_two subtraction (minus 1) bottom) ≡ gives greatest
difference_at_the_top = refl

difference_above_the_top : means (of_two subtraction (number 0) bottom) ≡ faults overflow
difference_above_the_top = refl

difference_at_the_bottom : means (of_two subtraction (minus 1) top) ≡ gives least
difference_at_the_bottom = refl

difference_below_the_bottom : means (of_two subtraction bottom (number 1)) ≡ faults overflow
difference_below_the_bottom = refl

-- ---- `*` and `~`

product : means (of_two multiplication (minus 3) (number 4)) ≡ gives (negative 12)
product = refl

product_near_the_top : means (of_two multiplication top (minus 1)) ≡ gives (negative (2 ^ 63 - 1))
product_near_the_top = refl

product_at_the_top : means (of_two multiplication top (number 1)) ≡ gives greatest
product_at_the_top = refl

product_above_the_top : means (of_two multiplication half (number 2)) ≡ faults overflow
product_above_the_top = refl

product_at_the_bottom : means (of_two multiplication half (minus 2)) ≡ gives least
product_at_the_bottom = refl

product_below_the_bottom : means (of_two multiplication half (minus 3)) ≡ faults overflow
product_below_the_bottom = refl

least_times_minus_one : means (of_two multiplication bottom (minus 1)) ≡ faults overflow
least_times_minus_one = refl

negated : means (of_one negation (number 5)) ≡ gives (negative 5)
negated = refl

negated_twice : means (of_one negation (of_one negation (number 5))) ≡ gives (whole 5)
negated_twice = refl

greatest_negated : means (of_one negation top) ≡ gives (negative (2 ^ 63 - 1))
greatest_negated = refl

least_negated : means (of_one negation bottom) ≡ faults overflow
least_negated = refl

-- ---- `div` rounds towards minus infinity

quotient : means (of_two division (number 7) (number 2)) ≡ gives (whole 3)
quotient = refl

negative_quotient : means (of_two division (minus 7) (number 2)) ≡ gives (negative 4)
negative_quotient = refl

quotient_by_negative : means (of_two division (number 7) (minus 2)) ≡ gives (negative 4)
quotient_by_negative = refl

quotient_of_two_negatives : means (of_two division (minus 7) (minus 2)) ≡ gives (whole 3)
quotient_of_two_negatives = refl

even_quotient : means (of_two division (minus 8) (number 2)) ≡ gives (negative 4)
even_quotient = refl

even_quotient_by_negative : means (of_two division (number 8) (minus 2)) ≡ gives (negative 4)
even_quotient_by_negative = refl

even_quotient_of_two_negatives : means (of_two division (minus 8) (minus 2)) ≡ gives (whole 4)
even_quotient_of_two_negatives = refl

zero_divided : means (of_two division (number 0) (minus 3)) ≡ gives (whole 0)
zero_divided = refl

least_by_one : means (of_two division bottom (number 1)) ≡ gives least
least_by_one = refl

least_by_minus_one : means (of_two division bottom (minus 1)) ≡ faults overflow
least_by_minus_one = refl

greatest_by_minus_one : means (of_two division top (minus 1)) ≡ gives (negative (2 ^ 63 - 1))
greatest_by_minus_one = refl

least_by_least : means (of_two division bottom bottom) ≡ gives (whole 1)
least_by_least = refl

one_by_least : means (of_two division (number 1) bottom) ≡ gives (negative 1)
one_by_least = refl

quotient_by_zero : means (of_two division (number 7) (number 0)) ≡ faults divide_by_zero
quotient_by_zero = refl

zero_by_zero : means (of_two division (number 0) (number 0)) ≡ faults divide_by_zero
zero_by_zero = refl

-- ---- `mod` has the divisor's sign

rest : means (of_two remainder (number 7) (number 2)) ≡ gives (whole 1)
rest = refl

rest_of_negative : means (of_two remainder (minus 7) (number 2)) ≡ gives (whole 1)
rest_of_negative = refl

rest_by_negative : means (of_two remainder (number 7) (minus 2)) ≡ gives (negative 1)
rest_by_negative = refl

rest_of_two_negatives : means (of_two remainder (minus 7) (minus 2)) ≡ gives (negative 1)
rest_of_two_negatives = refl

rest_by_three : means (of_two remainder (minus 7) (number 3)) ≡ gives (whole 2)
rest_by_three = refl

rest_by_minus_three : means (of_two remainder (number 7) (minus 3)) ≡ gives (negative 2)
rest_by_minus_three = refl

no_rest : means (of_two remainder (minus 8) (number 2)) ≡ gives (whole 0)
no_rest = refl

no_rest_by_negative : means (of_two remainder (number 8) (minus 2)) ≡ gives (whole 0)
no_rest_by_negative = refl

rest_of_least_by_minus_one : means (of_two remainder bottom (minus 1)) ≡ gives (whole 0)
rest_of_least_by_minus_one = refl

rest_of_least_by_greatest : means (of_two remainder bottom top) ≡ gives (whole (2 ^ 63 - 2))
rest_of_least_by_greatest = refl

rest_of_greatest_by_least : means (of_two remainder top bottom) ≡ gives (negative 1)
rest_of_greatest_by_least = refl

rest_of_one_by_least : means (of_two remainder (number 1) bottom) ≡ gives (negative (2 ^ 63 - 1))
rest_of_one_by_least = refl

rest_by_zero : means (of_two remainder (minus 7) (number 0)) ≡ faults divide_by_zero
rest_by_zero = refl

-- ---- comparisons

-- an operation on 2 and 3, on 3 and 3, on 3 and 2
abbrev compares : Operation → List (Outcome PlainValue)
compares o = means (of_two o (number 2) (number 3)) ∷ means (of_two o (number 3) (number 3)) ∷ means (of_two o (number 3) (number 2)) ∷ []

-- the same of the strings `a`, `ab` and `b`: the first and the second, the second twice, the third and the second
abbrev compares_strings : Operation → List (Outcome PlainValue)
compares_strings o = means (of_two o (string (97 ∷ [])) (string (97 ∷ 98 ∷ []))) ∷ means (of_two o (string (97 ∷ 98 ∷ [])) (string (97 ∷ 98 ∷ []))) ∷ means (of_two o (string (98 ∷ [])) (string (97 ∷ 98 ∷ []))) ∷ []

abbrev truths : List Bool → List (Outcome PlainValue)
truths = map (λ b. gives (boolean b))

numbers_equal : compares equality ≡ truths (false ∷ true ∷ false ∷ [])
numbers_equal = refl

numbers_unequal : compares inequality ≡ truths (true ∷ false ∷ true ∷ [])
numbers_unequal = refl

numbers_less : compares less_than ≡ truths (true ∷ false ∷ false ∷ [])
numbers_less = refl

numbers_at_most : compares at_most ≡ truths (true ∷ true ∷ false ∷ [])
numbers_at_most = refl

numbers_greater : compares greater_than ≡ truths (false ∷ false ∷ true ∷ [])
numbers_greater = refl

numbers_at_least : compares at_least ≡ truths (false ∷ true ∷ true ∷ [])
numbers_at_least = refl

strings_equal : compares_strings equality ≡ truths (false ∷ true ∷ false ∷ [])
strings_equal = refl

strings_unequal : compares_strings inequality ≡ truths (true ∷ false ∷ true ∷ [])
strings_unequal = refl

strings_less : compares_strings less_than ≡ truths (true ∷ false ∷ false ∷ [])
strings_less = refl

strings_at_most : compares_strings at_most ≡ truths (true ∷ true ∷ false ∷ [])
strings_at_most = refl

strings_greater : compares_strings greater_than ≡ truths (false ∷ false ∷ true ∷ [])
strings_greater = refl

strings_at_least : compares_strings at_least ≡ truths (false ∷ true ∷ true ∷ [])
strings_at_least = refl

negative_is_less : means (of_two less_than (minus 2) (minus 1)) ≡ gives (boolean true)
negative_is_less = refl

lists_equal : means (of_two equality (items (number 1 ∷ number 2 ∷ [])) (items (number 1 ∷ number 2 ∷ []))) ≡ gives (boolean true)
lists_equal = refl

lists_of_two_lengths : means (of_two equality (items (number 1 ∷ [])) (items (number 1 ∷ number 2 ∷ []))) ≡ gives (boolean false)
lists_of_two_lengths = refl

constants_unequal : means (of_two inequality (literal (constant 1)) (literal (constant 2))) ≡ gives (boolean true)
constants_unequal = refl

no_order_of_truths : means (of_two less_than (truth false) (truth true)) ≡ no_meaning
no_order_of_truths = refl

no_order_of_constants : means (of_two at_most (literal (constant 1)) (literal (constant 2))) ≡ no_meaning
no_order_of_constants = refl

not_true : means (of_one complement (truth true)) ≡ gives (boolean false)
not_true = refl

not_false : means (of_one complement (truth false)) ≡ gives (boolean true)
not_false = refl

-- ---- what is not typed has no meaning

sum_with_a_truth : means (of_two addition (number 1) (truth true)) ≡ no_meaning
sum_with_a_truth = refl

product_with_unit : means (of_two multiplication (literal unit) (number 1)) ≡ no_meaning
product_with_unit = refl

quotient_of_a_constructor : means (of_two division (literal (bare 0)) (number 0)) ≡ no_meaning
quotient_of_a_constructor = refl

complement_of_a_number : means (of_one complement (number 1)) ≡ no_meaning
complement_of_a_number = refl

sum_of_one : means (of_one addition (number 1)) ≡ no_meaning
sum_of_one = refl

negation_of_two : means (of_two negation (number 1) (number 2)) ≡ no_meaning
negation_of_two = refl

sum_of_none : means (apply (operation addition) (exprs_from [])) ≡ no_meaning
sum_of_none = refl

sum_of_three : means (apply (operation addition) (exprs_from (number 1 ∷ number 2 ∷ number 3 ∷ []))) ≡ no_meaning
sum_of_three = refl
