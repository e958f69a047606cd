-- Rows: what may stand in a context: variables, `time`, and the forms of multisets, which are no inscriptions of one value.
use Rattle.std.proofs.Common.{◌≡◌, refl, pos, [], ◌∷◌, Some, None, codes}
use Rattle.cpn_definitions.specs.Inscription.{the_time}
use Rattle.cpn_trees.specs.declared.operators.Infix.TheVariants as sign
use Rattle.cpn_trees.specs.Trees.{PlainAst, ast, empty, time, stamped, sum, asts_from}
use Rattle.cpn_typing.specs.Types.{bool_type, int_type}
use Rattle.cpn_typing.specs.Names.{unknown, mismatch, not_closed, time_not_allowed, ok, refused}
use Rattle.cpn_typing.specs.Contexts.{in_function, on_input, on_output, in_marking, in_guard, in_delay, in_monitor}
use Rattle.cpn_typing.specs.Expressions.{typed}
use Rattle.cpn_typing.proofs.WorkedNames.{names, type_wanted, type_at, num, word, between, called, tuple_at}

-- ---- closed texts

-- `x` in an initial marking, in a `val` or `fun`, on an input arc; `z` and `x(1)` in a closed text
variable_in_marking : type_at in_marking (word 0 (codes "x")) ≡ refused (not_closed (codes "x"))
variable_in_marking = refl

variable_in_function : type_wanted in_function (Some bool_type) (word 0 (codes "x")) ≡ refused (not_closed (codes "x"))
variable_in_function = refl

variable_on_arc : type_at on_input (word 0 (codes "x")) ≡ ok int_type
variable_on_arc = refl

unknown_in_function : type_at in_function (word 0 (codes "z")) ≡ refused (unknown (codes "z"))
unknown_in_function = refl

variable_called_in_function : type_at in_function (called (codes "x") 0 (num 2 1 ∷ [])) ≡ refused (unknown (codes "x"))
variable_called_in_function = refl

-- `k` and `red` in a closed text
value_in_function : type_at in_function (word 0 (codes "k")) ≡ ok int_type
value_in_function = refl

-- ---- `time`

abbrev now : PlainAst
now = ast 0 time

time_on_output : typed names on_output now [] None ≡ ok (record { expr = the_time; type_of = int_type })
time_on_output = refl

time_in_delay : type_at in_delay now ≡ ok int_type
time_in_delay = refl

time_not_wanted : type_wanted in_delay (Some bool_type) now ≡ refused (mismatch 0)
time_not_wanted = refl

time_in_guard : type_at in_guard now ≡ refused (time_not_allowed 0)
time_in_guard = refl

time_in_monitor : type_wanted in_monitor (Some bool_type) now ≡ refused (time_not_allowed 0)
time_in_monitor = refl

time_on_input : type_at on_input now ≡ refused (time_not_allowed 0)
time_on_input = refl

time_in_marking : type_at in_marking now ≡ refused (time_not_allowed 0)
time_in_marking = refl

time_in_function : type_at in_function now ≡ refused (time_not_allowed 0)
time_in_function = refl

-- `1 + time` where both are refused: the left part first
left_before_time : type_at in_guard (between sign.Add 0 2 (word 0 (codes "z")) (ast 4 time)) ≡ refused (unknown (codes "z"))
left_before_time = refl

-- ---- `@+`: `1 @+ 2`

abbrev delayed : PlainAst
delayed = between sign.Later 0 2 (num 0 1) (num 5 2)

delay_in_guard : type_at in_guard delayed ≡ refused (time_not_allowed 2)
delay_in_guard = refl

delay_in_delay : type_at in_delay delayed ≡ refused (time_not_allowed 2)
delay_in_delay = refl

delay_in_monitor : type_at in_monitor delayed ≡ refused (time_not_allowed 2)
delay_in_monitor = refl

delay_in_function : type_at in_function delayed ≡ refused (mismatch 0)
delay_in_function = refl

delay_within_output : type_at on_output delayed ≡ refused (mismatch 0)
delay_within_output = refl

delay_within_input : type_at on_input delayed ≡ refused (mismatch 0)
delay_within_input = refl

delay_within_marking : type_at in_marking delayed ≡ refused (mismatch 0)
delay_within_marking = refl

-- `z @+ 1`, `1 @+ s` in a guard: the parts first
delayed_part_first : type_at in_guard (between sign.Later 0 2 (word 0 (codes "z")) (num 5 1)) ≡ refused (unknown (codes "z"))
delayed_part_first = refl

delay_part_first : type_at in_guard (between sign.Later 0 2 (num 0 1) (word 5 (codes "s"))) ≡ refused (mismatch 5)
delay_part_first = refl

-- `(1, x @+ 2)` on an output arc
delay_in_tuple : type_at on_output (tuple_at 0 (num 1 1 ∷ between sign.Later 4 6 (word 4 (codes "x")) (num 9 2) ∷ [])) ≡ refused (mismatch 4)
delay_in_tuple = refl

-- ---- `@`: `1 @ 2`, and `z @ 2`

abbrev with_stamp : PlainAst
with_stamp = ast 0 (stamped (num 0 1) 2 (pos 2))

stamp_in_guard : type_at in_guard with_stamp ≡ refused (time_not_allowed 2)
stamp_in_guard = refl

stamp_in_delay : type_at in_delay with_stamp ≡ refused (time_not_allowed 2)
stamp_in_delay = refl

stamp_in_function : type_at in_function with_stamp ≡ refused (time_not_allowed 2)
stamp_in_function = refl

stamp_within_marking : type_at in_marking with_stamp ≡ refused (mismatch 0)
stamp_within_marking = refl

stamp_within_output : type_at on_output with_stamp ≡ refused (mismatch 0)
stamp_within_output = refl

stamped_part_first : type_at in_guard (ast 0 (stamped (word 0 (codes "z")) 2 (pos 2))) ≡ refused (unknown (codes "z"))
stamped_part_first = refl

-- ---- `++`, the backtick, `empty`

-- `1 ++ 2`, `1 ++ z`, ``1`x``, ``s`z``, `empty`
sum_in_guard : type_at in_guard (ast 0 (sum (asts_from (num 0 1 ∷ num 5 2 ∷ [])))) ≡ refused (mismatch 0)
sum_in_guard = refl

summand_first : type_at on_output (ast 0 (sum (asts_from (num 0 1 ∷ word 5 (codes "z") ∷ [])))) ≡ refused (unknown (codes "z"))
summand_first = refl

coefficient_in_guard : type_at in_guard (between sign.Times 0 1 (num 0 1) (word 2 (codes "x"))) ≡ refused (mismatch 0)
coefficient_in_guard = refl

coefficient_first : type_at in_delay (between sign.Times 0 1 (word 0 (codes "s")) (word 2 (codes "z"))) ≡ refused (mismatch 0)
coefficient_first = refl

token_first : type_at in_delay (between sign.Times 0 1 (num 0 1) (word 2 (codes "z"))) ≡ refused (unknown (codes "z"))
token_first = refl

empty_in_function : type_at in_function (ast 0 empty) ≡ refused (mismatch 0)
empty_in_function = refl

empty_in_guard : type_wanted in_guard (Some bool_type) (ast 0 empty) ≡ refused (mismatch 0)
empty_in_guard = refl
