-- Rows: each operator accepted and refused, with the text in front of it. Parts come before the form's own rule.
use Rattle.std.proofs.Common.{◌≡◌, refl, pos, true, [], ◌∷◌, Some, None, codes}
use Rattle.cpn_definitions.specs.Value as value
use Rattle.cpn_definitions.specs.Inscription.{addition, less_than, component, operation, literal, variable, apply, conjunction, disjunction, no_exprs, more_exprs}
use Rattle.cpn_trees.specs.declared.operators.Infix.TheVariants as sign
use Rattle.cpn_trees.specs.declared.operators.Prefix.TheVariants as prefix
use Rattle.cpn_trees.specs.Trees.{ast, text, truth, unit, if_else}
use Rattle.cpn_typing.specs.Types.{unit_type, bool_type, int_type, text_type, lists}
use Rattle.cpn_typing.specs.Names.{unknown, mismatch, ok, refused}
use Rattle.cpn_typing.specs.Contexts.{in_guard}
use Rattle.cpn_typing.specs.Rules.{two}
use Rattle.cpn_typing.specs.Expressions.{typed}
use Rattle.cpn_typing.proofs.WorkedNames.{names, type_wanted, type_of, num, word, between, front, tuple_at}

-- `()`, `"a"`
unit_is_unit : type_of (ast 0 unit) ≡ ok unit_type
unit_is_unit = refl

text_is_string : type_of (ast 0 (text (codes "a"))) ≡ ok text_type
text_is_string = refl

-- `7` where a string is wanted, `true` where a number is, `()` where a truth value is
number_not_wanted : type_wanted in_guard (Some text_type) (num 0 7) ≡ refused (mismatch 0)
number_not_wanted = refl

truth_not_wanted : type_wanted in_guard (Some int_type) (ast 0 (truth true)) ≡ refused (mismatch 0)
truth_not_wanted = refl

unit_not_wanted : type_wanted in_guard (Some bool_type) (ast 0 unit) ≡ refused (mismatch 0)
unit_not_wanted = refl

-- `x + 2`
sum_of_integers : typed names in_guard (between sign.Add 0 2 (word 0 (codes "x")) (num 4 2)) [] None
    ≡ ok (record { expr = apply (operation addition) (two (variable 0) (literal (value.int (pos 2)))); type_of = int_type })
sum_of_integers = refl

-- `1 + true`, `true + z`, `1 + z`, `1 + 2` where a truth value is wanted, `1 + true` where one is
sum_with_truth : type_of (between sign.Add 0 2 (num 0 1) (ast 4 (truth true))) ≡ refused (mismatch 4)
sum_with_truth = refl

sum_left_first : type_of (between sign.Add 0 5 (ast 0 (truth true)) (word 7 (codes "z"))) ≡ refused (mismatch 0)
sum_left_first = refl

sum_right_unknown : type_of (between sign.Add 0 2 (num 0 1) (word 4 (codes "z"))) ≡ refused (unknown (codes "z"))
sum_right_unknown = refl

sum_not_wanted : type_wanted in_guard (Some bool_type) (between sign.Add 0 2 (num 0 1) (num 4 2)) ≡ refused (mismatch 0)
sum_not_wanted = refl

part_before_form : type_wanted in_guard (Some bool_type) (between sign.Add 0 2 (num 0 1) (ast 4 (truth true))) ≡ refused (mismatch 4)
part_before_form = refl

-- `x - 1`, `x * 1`, `x div 1`, `x mod 1`, `x mod s`
difference : type_of (between sign.Subtract 0 2 (word 0 (codes "x")) (num 4 1)) ≡ ok int_type
difference = refl

product_of : type_of (between sign.Multiply 0 2 (word 0 (codes "x")) (num 4 1)) ≡ ok int_type
product_of = refl

quotient : type_of (between sign.Div 0 2 (word 0 (codes "x")) (num 6 1)) ≡ ok int_type
quotient = refl

remainder_of : type_of (between sign.Mod 0 2 (word 0 (codes "x")) (num 6 1)) ≡ ok int_type
remainder_of = refl

remainder_of_text : type_of (between sign.Mod 0 2 (word 0 (codes "x")) (word 6 (codes "s"))) ≡ refused (mismatch 6)
remainder_of_text = refl

-- `"a" ^ s`, `s ^ 1`
texts_joined : type_of (between sign.Concatenate 0 4 (ast 0 (text (codes "a"))) (word 6 (codes "s"))) ≡ ok text_type
texts_joined = refl

text_and_number : type_of (between sign.Concatenate 0 2 (word 0 (codes "s")) (num 4 1)) ≡ refused (mismatch 4)
text_and_number = refl

-- `x = 1`, `x = s`, `p <> p`, `h <> 1`
equal_integers : type_of (between sign.Equal 0 2 (word 0 (codes "x")) (num 4 1)) ≡ ok bool_type
equal_integers = refl

unlike_sides : type_of (between sign.Equal 0 2 (word 0 (codes "x")) (word 4 (codes "s"))) ≡ refused (mismatch 4)
unlike_sides = refl

unequal_pairs : type_of (between sign.NotEqual 0 2 (word 0 (codes "p")) (word 5 (codes "p"))) ≡ ok bool_type
unequal_pairs = refl

unequal_kinds : type_of (between sign.NotEqual 0 2 (word 0 (codes "h")) (num 5 1)) ≡ refused (mismatch 5)
unequal_kinds = refl

-- `x < 2`, `s >= "a"`, `x > s`, `b <= b`, `(1, 2) < z`
integers_compared : typed names in_guard (between sign.Less 0 2 (word 0 (codes "x")) (num 4 2)) [] (Some bool_type)
    ≡ ok (record { expr = apply (operation less_than) (two (variable 0) (literal (value.int (pos 2)))); type_of = bool_type })
integers_compared = refl

texts_compared : type_of (between sign.GreaterOrEqual 0 2 (word 0 (codes "s")) (ast 5 (text (codes "a")))) ≡ ok bool_type
texts_compared = refl

unlike_compared : type_of (between sign.Greater 0 2 (word 0 (codes "x")) (word 4 (codes "s"))) ≡ refused (mismatch 4)
unlike_compared = refl

truths_compared : type_of (between sign.LessOrEqual 0 2 (word 0 (codes "b")) (word 5 (codes "b"))) ≡ refused (mismatch 0)
truths_compared = refl

pair_compared : type_of (between sign.Less 0 7 (tuple_at 0 (num 1 1 ∷ num 4 2 ∷ [])) (word 9 (codes "z"))) ≡ refused (mismatch 0)
pair_compared = refl

-- `s <= s`, `x > 1`
texts_at_most : type_of (between sign.LessOrEqual 0 2 (word 0 (codes "s")) (word 5 (codes "s"))) ≡ ok bool_type
texts_at_most = refl

integers_greater : type_of (between sign.Greater 0 2 (word 0 (codes "x")) (num 4 1)) ≡ ok bool_type
integers_greater = refl

-- `b andalso b`, `x andalso b`, `b orelse b`, `b orelse 1`
both_true : typed names in_guard (between sign.Andalso 0 2 (word 0 (codes "b")) (word 10 (codes "b"))) [] None ≡ ok (record { expr = conjunction (variable 2) (variable 2); type_of = bool_type })
both_true = refl

number_andalso : type_of (between sign.Andalso 0 2 (word 0 (codes "x")) (word 10 (codes "b"))) ≡ refused (mismatch 0)
number_andalso = refl

either_true : typed names in_guard (between sign.Orelse 0 2 (word 0 (codes "b")) (word 9 (codes "b"))) [] None ≡ ok (record { expr = disjunction (variable 2) (variable 2); type_of = bool_type })
either_true = refl

orelse_number : type_of (between sign.Orelse 0 2 (word 0 (codes "b")) (num 9 1)) ≡ refused (mismatch 9)
orelse_number = refl

-- `1 :: xs`, `s :: xs`, `xs ^^ xs`, `x ^^ xs`, `xs ^^ x`
item_in_front : type_of (between sign.Cons 0 2 (num 0 1) (word 5 (codes "xs"))) ≡ ok (lists int_type)
item_in_front = refl

wrong_item_in_front : type_of (between sign.Cons 0 2 (word 0 (codes "s")) (word 5 (codes "xs"))) ≡ refused (mismatch 5)
wrong_item_in_front = refl

lists_appended : type_of (between sign.Append 0 3 (word 0 (codes "xs")) (word 6 (codes "xs"))) ≡ ok (lists int_type)
lists_appended = refl

number_appended : type_of (between sign.Append 0 2 (word 0 (codes "x")) (word 5 (codes "xs"))) ≡ refused (mismatch 0)
number_appended = refl

appended_number : type_of (between sign.Append 0 3 (word 0 (codes "xs")) (word 6 (codes "x"))) ≡ refused (mismatch 6)
appended_number = refl

-- `#1 p`, `#2 p`, `#3 p`, `#0 p`, `#1 x`, `#9 z`
first_component : typed names in_guard (front (prefix.Component (pos 1)) 0 (word 3 (codes "p"))) [] None
    ≡ ok (record { expr = apply (operation (component 1)) (more_exprs (variable 4) no_exprs); type_of = int_type })
first_component = refl

second_component : type_of (front (prefix.Component (pos 2)) 0 (word 3 (codes "p"))) ≡ ok text_type
second_component = refl

component_past_last : type_of (front (prefix.Component (pos 3)) 0 (word 3 (codes "p"))) ≡ refused (mismatch 3)
component_past_last = refl

component_zero : type_of (front (prefix.Component (pos 0)) 0 (word 3 (codes "p"))) ≡ refused (mismatch 3)
component_zero = refl

component_of_number : type_of (front (prefix.Component (pos 1)) 0 (word 3 (codes "x"))) ≡ refused (mismatch 3)
component_of_number = refl

component_of_unknown : type_of (front (prefix.Component (pos 9)) 0 (word 3 (codes "z"))) ≡ refused (unknown (codes "z"))
component_of_unknown = refl

-- `not b`, `not(1,2)`, `~ x`, `~ s`
not_truth : type_of (front prefix.Not 0 (word 4 (codes "b"))) ≡ ok bool_type
not_truth = refl

not_pair : type_of (front prefix.Not 0 (tuple_at 3 (num 4 1 ∷ num 6 2 ∷ []))) ≡ refused (mismatch 3)
not_pair = refl

negative : type_of (front prefix.Negate 0 (word 2 (codes "x"))) ≡ ok int_type
negative = refl

negative_text : type_of (front prefix.Negate 0 (word 2 (codes "s"))) ≡ refused (mismatch 2)
negative_text = refl

-- `if b then 1 else 2`, `if x then z else z`, `if b then 1 else s`, `if b then 1 else 2` where a string is wanted
if_integers : type_of (ast 0 (if_else (word 3 (codes "b")) (num 10 1) (num 17 2))) ≡ ok int_type
if_integers = refl

if_number : type_of (ast 0 (if_else (word 3 (codes "x")) (word 10 (codes "z")) (word 17 (codes "z")))) ≡ refused (mismatch 3)
if_number = refl

if_branches_differ : type_of (ast 0 (if_else (word 3 (codes "b")) (num 10 1) (word 17 (codes "s")))) ≡ refused (mismatch 17)
if_branches_differ = refl

if_not_wanted : type_wanted in_guard (Some text_type) (ast 0 (if_else (word 3 (codes "b")) (num 10 1) (num 17 2))) ≡ refused (mismatch 10)
if_not_wanted = refl
