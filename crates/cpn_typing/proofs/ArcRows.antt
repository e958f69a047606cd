-- Inscriptions of arcs and initial markings, guards, delays and monitors with what they become or their first refusal, by
-- computing: each sentence of the rules kept and broken, and which of two refusals comes first.
use Rattle.std.proofs.Common.{◌≡◌, refl, ℕ, pos, true, false, List, [], ◌∷◌, codes}
use Rattle.cpn_definitions.specs.Value as value
use Rattle.cpn_definitions.specs.Colour.{PlainColour, int_shape, list_shape}
use Rattle.cpn_definitions.specs.Inscription.{operation, addition, greater_than, listing, variable_pattern, literal_pattern, PlainExpr, literal, variable, local, the_time, apply, accumulate, no_exprs, exprs_from, ArcInscription, no_token, one, times, sum_of, later, stamped, chosen, selected, bound, inscriptions_from, arc_arms_from}
use Rattle.cpn_trees.specs.declared.operators.Infix.TheVariants as sign
use Rattle.cpn_trees.specs.Trees.{PlainAst, ast, number, truth, empty, time, name, list, tuple, infixed, sum, if_else, case_of, let_in, fold, no_ast, asts_from, no_arm, more_arms, no_local, more_locals, pat, any, pat_name, pat_number}
use Rattle.cpn_trees.specs.Trees as tree
use Rattle.cpn_typing.specs.Names.{Name, Declared, nothing_declared, unknown, mismatch, not_closed, input_delay, time_not_allowed, Checked, ok, refused}
use Rattle.cpn_typing.specs.ColourSets.{least_int, greatest_int}
use Rattle.cpn_typing.specs.Multisets.{input, output, checked_arc, checked_init}
use Rattle.cpn_typing.specs.GuardsAndDelays.{checked_guard, checked_delay, checked_value}
use Rattle.cpn_typing.proofs.FunctionRows.{behind, x, n, named, num}

-- `INT`, `B` of the truth values, and the variable `x : INT`, number 0
abbrev declared_by : Checked Declared → Declared
declared_by (ok ds) = ds
declared_by (refused r) = nothing_declared

abbrev ds : Declared
ds = declared_by (behind [])

abbrev ints : PlainColour
ints = record { shape = int_shape least_int greatest_int; timed = false }

abbrev timed_ints : PlainColour
timed_ints = record { shape = int_shape least_int greatest_int; timed = true }

abbrev lists_of_ints : PlainColour
lists_of_ints = record { shape = list_shape (int_shape least_int greatest_int); timed = false }

-- on an input arc of an untimed place; on an output arc of an untimed one and of a timed one; initial markings of both
abbrev on_input : PlainAst → Checked ArcInscription
on_input = checked_arc ds input ints

abbrev on_timed_input : PlainAst → Checked ArcInscription
on_timed_input = checked_arc ds input timed_ints

abbrev on_output : PlainAst → Checked ArcInscription
on_output = checked_arc ds output ints

abbrev on_timed_output : PlainAst → Checked ArcInscription
on_timed_output = checked_arc ds output timed_ints

abbrev marked_first : PlainAst → Checked ArcInscription
marked_first = checked_init ds ints

abbrev marked_first_timed : PlainAst → Checked ArcInscription
marked_first_timed = checked_init ds timed_ints

-- trees, with the offsets of their first tokens and signs
abbrev counted : ℕ → ℕ → PlainAst → PlainAst → PlainAst
counted at s k e = ast at (infixed sign.Times s k e)

abbrev delayed : ℕ → ℕ → PlainAst → PlainAst → PlainAst
delayed at s m d = ast at (infixed sign.Later s m d)

abbrev at_stamp : ℕ → ℕ → PlainAst → ℕ → PlainAst
at_stamp at s m z = ast at (tree.stamped m s (pos z))

abbrev sum_at : ℕ → List PlainAst → PlainAst
sum_at at parts = ast at (sum (asts_from parts))

abbrev true_at : ℕ → PlainAst
true_at at = ast at (truth true)

abbrev q : Name
q = codes "q"

abbrev int : ℕ → PlainExpr
int k = literal (value.int (pos k))

-- ---- multisets

-- `x`, `7`, ``2`x``, `empty`
one_row : on_input (named 0 x) ≡ ok (one (variable 0))
one_row = refl

times_row : on_input (counted 0 1 (num 0 2) (named 2 x)) ≡ ok (times (int 2) (variable 0))
times_row = refl

empty_row : on_input (ast 0 empty) ≡ ok no_token
empty_row = refl

-- ``1`x ++ 7``, and a sum in parentheses within a sum
sum_row : on_input (sum_at 0 (counted 0 1 (num 0 1) (named 2 x) ∷ num 7 7 ∷ [])) ≡ ok (sum_of (inscriptions_from (times (int 1) (variable 0) ∷ one (int 7) ∷ [])))
sum_row = refl

inner_sum_row : on_input (sum_at 0 (sum_at 0 (named 1 x ∷ num 6 7 ∷ []) ∷ ast 12 empty ∷ [])) ≡ ok (sum_of (inscriptions_from (sum_of (inscriptions_from (one (variable 0) ∷ one (int 7) ∷ [])) ∷ no_token ∷ [])))
inner_sum_row = refl

-- ``if x > 1 then 2`x else empty``, and with tokens alone
abbrev above_one : PlainAst
above_one = ast 3 (infixed sign.Greater 5 (named 3 x) (num 7 1))

abbrev is_above_one : PlainExpr
is_above_one = apply (operation greater_than) (exprs_from (variable 0 ∷ int 1 ∷ []))

if_row : on_input (ast 0 (if_else above_one (counted 14 15 (num 14 2) (named 16 x)) (ast 23 empty))) ≡ ok (chosen is_above_one (times (int 2) (variable 0)) no_token)
if_row = refl

if_tokens_row : on_input (ast 0 (if_else above_one (named 14 x) (num 21 7))) ≡ ok (chosen is_above_one (one (variable 0)) (one (int 7)))
if_tokens_row = refl

-- an `if` within a sum
if_in_sum_row : on_input (sum_at 0 (num 0 7 ∷ ast 5 (if_else above_one (named 14 x) (ast 21 empty)) ∷ [])) ≡ ok (sum_of (inscriptions_from (one (int 7) ∷ chosen is_above_one (one (variable 0)) no_token ∷ [])))
if_in_sum_row = refl

-- ``case x of 1 => empty | n => 2`n``
case_row : on_input (ast 0 (case_of (named 5 x) (more_arms (pat 10 (pat_number (pos 1))) (ast 15 empty) (more_arms (pat 23 (pat_name n)) (counted 28 29 (num 28 2) (named 30 n)) no_arm))))
    ≡ ok (selected (variable 0) (arc_arms_from ((literal_pattern (value.int (pos 1)), no_token) ∷ (variable_pattern 0, times (int 2) (local 0)) ∷ [])))
case_row = refl

-- ``let val n = x in 2`n end``
let_row : on_input (ast 0 (let_in (more_locals n (named 12 x) no_local) (counted 17 18 (num 17 2) (named 19 n)))) ≡ ok (bound (variable 0) (times (int 2) (local 0)))
let_row = refl

-- a `foldl` is an inscription of one value
fold_row : on_input (ast 0 (fold n q (ast 14 (list (asts_from (num 15 1 ∷ [])))) (num 23 0) (named 28 q))) ≡ ok (one (accumulate (apply listing (exprs_from (int 1 ∷ []))) (int 0) (local 1)))
fold_row = refl

-- the place's type is wanted: `[]` at a place of lists, alone, behind a backtick and as a result
list_row : checked_arc ds input lists_of_ints (ast 0 (list no_ast)) ≡ ok (one (apply listing no_exprs))
list_row = refl

list_times_row : checked_arc ds input lists_of_ints (counted 0 1 (num 0 2) (ast 2 (list no_ast))) ≡ ok (times (int 2) (apply listing no_exprs))
list_times_row = refl

list_if_row : checked_arc ds input lists_of_ints (ast 0 (if_else (true_at 3) (ast 13 (list no_ast)) (ast 21 (list no_ast)))) ≡ ok (chosen (literal (value.boolean true)) (one (apply listing no_exprs)) (one (apply listing no_exprs)))
list_if_row = refl

-- ---- types

token_type_row : on_input (true_at 0) ≡ refused (mismatch 0)
token_type_row = refl

coefficient_row : on_input (counted 0 4 (true_at 0) (named 5 x)) ≡ refused (mismatch 0)
coefficient_row = refl

times_type_row : on_input (counted 0 1 (num 0 2) (true_at 2)) ≡ refused (mismatch 2)
times_type_row = refl

delay_type_row : on_timed_output (delayed 0 2 (named 0 x) (true_at 5)) ≡ refused (mismatch 5)
delay_type_row = refl

test_type_row : on_input (ast 0 (if_else (named 3 x) (named 10 x) (named 17 x))) ≡ refused (mismatch 3)
test_type_row = refl

branch_type_row : on_input (ast 0 (if_else (true_at 3) (ast 13 empty) (true_at 24))) ≡ refused (mismatch 24)
branch_type_row = refl

arm_type_row : on_input (ast 0 (case_of (named 5 x) (more_arms (pat 10 any) (true_at 15) no_arm))) ≡ refused (mismatch 15)
arm_type_row = refl

pattern_type_row : on_input (ast 0 (case_of (true_at 5) (more_arms (pat 13 (pat_number (pos 1))) (named 18 x) no_arm))) ≡ refused (mismatch 13)
pattern_type_row = refl

-- from left to right: ``q`true``, ``true`q``, `q ++ true`, `true ++ q`
coefficient_first_row : on_input (counted 0 1 (named 0 q) (true_at 2)) ≡ refused (unknown q)
coefficient_first_row = refl

coefficient_type_first_row : on_input (counted 0 4 (true_at 0) (named 5 q)) ≡ refused (mismatch 0)
coefficient_type_first_row = refl

sum_first_row : on_input (sum_at 0 (named 0 q ∷ true_at 5 ∷ [])) ≡ refused (unknown q)
sum_first_row = refl

sum_type_first_row : on_input (sum_at 0 (true_at 0 ∷ named 8 q ∷ [])) ≡ refused (mismatch 0)
sum_type_first_row = refl

-- ---- where multisets do not stand: ``1`(1`x)``, `1 + empty`, `(1 ++ 2) + 3`, `1 + (2 @+ 3)`, `1 + (2 @ 3)`
inner_times_row : on_input (counted 0 1 (num 0 1) (counted 3 4 (num 3 1) (named 5 x))) ≡ refused (mismatch 3)
inner_times_row = refl

inner_empty_row : on_input (ast 0 (infixed sign.Add 2 (num 0 1) (ast 4 empty))) ≡ refused (mismatch 4)
inner_empty_row = refl

sum_as_operand_row : on_input (ast 0 (infixed sign.Add 9 (sum_at 0 (num 1 1 ∷ num 6 2 ∷ [])) (num 11 3))) ≡ refused (mismatch 0)
sum_as_operand_row = refl

inner_delay_row : on_input (ast 0 (infixed sign.Add 2 (num 0 1) (delayed 4 7 (num 5 2) (num 10 3)))) ≡ refused (mismatch 4)
inner_delay_row = refl

inner_delay_output_row : on_timed_output (ast 0 (infixed sign.Add 2 (num 0 1) (delayed 4 7 (num 5 2) (num 10 3)))) ≡ refused (mismatch 4)
inner_delay_output_row = refl

inner_stamp_row : marked_first_timed (ast 0 (infixed sign.Add 2 (num 0 1) (at_stamp 4 7 (num 5 2) 3))) ≡ refused (mismatch 4)
inner_stamp_row = refl

-- a list of multisets, and a multiset as a subject
list_of_empty_row : checked_arc ds input lists_of_ints (ast 0 (list (asts_from (ast 1 empty ∷ [])))) ≡ refused (mismatch 1)
list_of_empty_row = refl

subject_row : on_input (ast 0 (case_of (ast 5 empty) (more_arms (pat 14 any) (named 19 x) no_arm))) ≡ refused (mismatch 5)
subject_row = refl

-- ---- `@+`

delay_row : on_timed_output (delayed 0 2 (named 0 x) (num 5 3)) ≡ ok (later (one (variable 0)) (int 3))
delay_row = refl

-- over several terms, and within a sum
delay_of_sum_row : on_timed_output (delayed 0 11 (sum_at 0 (named 1 x ∷ num 6 7 ∷ [])) (num 14 3)) ≡ ok (later (sum_of (inscriptions_from (one (variable 0) ∷ one (int 7) ∷ []))) (int 3))
delay_of_sum_row = refl

delay_in_sum_row : on_timed_output (sum_at 0 (delayed 0 2 (named 0 x) (num 5 3) ∷ num 10 7 ∷ [])) ≡ ok (sum_of (inscriptions_from (later (one (variable 0)) (int 3) ∷ one (int 7) ∷ [])))
delay_in_sum_row = refl

delay_of_delay_row : on_timed_output (delayed 0 9 (delayed 0 3 (named 1 x) (num 6 3)) (num 12 4)) ≡ ok (later (later (one (variable 0)) (int 3)) (int 4))
delay_of_delay_row = refl

delay_in_branch_row : on_timed_output (ast 0 (if_else (true_at 3) (delayed 13 15 (named 13 x) (num 18 3)) (ast 25 empty))) ≡ ok (chosen (literal (value.boolean true)) (later (one (variable 0)) (int 3)) no_token)
delay_in_branch_row = refl

-- refused at its sign: on an input arc, also of a timed place; on an untimed place's output; in an initial marking
input_delay_row : on_input (delayed 0 2 (named 0 x) (num 5 3)) ≡ refused (input_delay 2)
input_delay_row = refl

timed_input_delay_row : on_timed_input (delayed 0 2 (named 0 x) (num 5 3)) ≡ refused (input_delay 2)
timed_input_delay_row = refl

untimed_delay_row : on_output (delayed 0 2 (named 0 x) (num 5 3)) ≡ refused (time_not_allowed 2)
untimed_delay_row = refl

marking_delay_row : marked_first_timed (delayed 0 2 (num 0 7) (num 5 3)) ≡ refused (time_not_allowed 2)
marking_delay_row = refl

-- its parts come first: `q @+ 1`, `x @+ true`, `x @+ time` on an input arc
part_before_delay_row : on_input (delayed 0 2 (named 0 q) (num 5 3)) ≡ refused (unknown q)
part_before_delay_row = refl

delay_type_before_row : on_input (delayed 0 2 (named 0 x) (true_at 5)) ≡ refused (mismatch 5)
delay_type_before_row = refl

time_before_delay_row : on_input (delayed 0 2 (named 0 x) (ast 5 time)) ≡ refused (time_not_allowed 5)
time_before_delay_row = refl

-- the inner one of two signs comes first
inner_sign_first_row : on_input (delayed 0 9 (delayed 0 3 (named 1 x) (num 6 3)) (num 12 4)) ≡ refused (input_delay 3)
inner_sign_first_row = refl

stamp_before_delay_row : on_input (delayed 0 7 (at_stamp 0 3 (named 1 x) 5) (num 10 4)) ≡ refused (time_not_allowed 3)
stamp_before_delay_row = refl

-- ---- `@`

stamp_row : marked_first_timed (at_stamp 0 2 (num 0 7) 5) ≡ ok (stamped (one (int 7)) (pos 5))
stamp_row = refl

-- ``1`7@0 ++ 1`7@3``
stamps_row : marked_first_timed (sum_at 0 (at_stamp 0 3 (counted 0 1 (num 0 1) (num 2 7)) 0 ∷ at_stamp 9 12 (counted 9 10 (num 9 1) (num 11 7)) 3 ∷ []))
    ≡ ok (sum_of (inscriptions_from (stamped (times (int 1) (int 7)) (pos 0) ∷ stamped (times (int 1) (int 7)) (pos 3) ∷ [])))
stamps_row = refl

untimed_stamp_row : marked_first (at_stamp 0 2 (num 0 7) 5) ≡ refused (time_not_allowed 2)
untimed_stamp_row = refl

input_stamp_row : on_timed_input (at_stamp 0 2 (named 0 x) 5) ≡ refused (time_not_allowed 2)
input_stamp_row = refl

output_stamp_row : on_timed_output (at_stamp 0 2 (named 0 x) 5) ≡ refused (time_not_allowed 2)
output_stamp_row = refl

part_before_stamp_row : on_timed_output (at_stamp 0 2 (named 0 q) 5) ≡ refused (unknown q)
part_before_stamp_row = refl

-- ---- `time`

output_time_row : on_output (ast 0 time) ≡ ok (one the_time)
output_time_row = refl

time_in_delay_row : on_timed_output (delayed 0 2 (named 0 x) (ast 5 time)) ≡ ok (later (one (variable 0)) the_time)
time_in_delay_row = refl

input_time_row : on_input (ast 0 time) ≡ refused (time_not_allowed 0)
input_time_row = refl

marking_time_row : marked_first_timed (counted 0 1 (num 0 1) (ast 2 time)) ≡ refused (time_not_allowed 2)
marking_time_row = refl

-- ---- initial markings are closed

marking_row : marked_first (counted 0 1 (num 0 3) (num 2 7)) ≡ ok (times (int 3) (int 7))
marking_row = refl

marking_variable_row : marked_first (counted 0 1 (num 0 1) (named 2 x)) ≡ refused (not_closed x)
marking_variable_row = refl

marking_coefficient_row : marked_first (counted 0 1 (named 0 x) (named 2 q)) ≡ refused (not_closed x)
marking_coefficient_row = refl

-- a local of the name is no variable
marking_local_row : marked_first (ast 0 (let_in (more_locals x (num 12 7) no_local) (named 17 x))) ≡ ok (bound (int 7) (one (local 0)))
marking_local_row = refl

-- ---- guards

guard_row : checked_guard ds (asts_from (above_one ∷ true_at 10 ∷ [])) ≡ ok (is_above_one ∷ literal (value.boolean true) ∷ [])
guard_row = refl

no_guard_row : checked_guard ds no_ast ≡ ok []
no_guard_row = refl

guard_type_row : checked_guard ds (asts_from (true_at 1 ∷ named 7 x ∷ [])) ≡ refused (mismatch 7)
guard_type_row = refl

guard_list_row : checked_guard ds (asts_from (ast 0 (list no_ast) ∷ [])) ≡ refused (mismatch 0)
guard_list_row = refl

guard_first_row : checked_guard ds (asts_from (named 1 x ∷ named 4 q ∷ [])) ≡ refused (mismatch 1)
guard_first_row = refl

guard_time_row : checked_guard ds (asts_from (ast 0 (infixed sign.Greater 5 (ast 0 time) (num 7 1)) ∷ [])) ≡ refused (time_not_allowed 0)
guard_time_row = refl

guard_delay_row : checked_guard ds (asts_from (delayed 0 2 (named 0 x) (num 5 3) ∷ [])) ≡ refused (time_not_allowed 2)
guard_delay_row = refl

guard_stamp_row : checked_guard ds (asts_from (at_stamp 0 2 (named 0 x) 3 ∷ [])) ≡ refused (time_not_allowed 2)
guard_stamp_row = refl

guard_empty_row : checked_guard ds (asts_from (ast 0 empty ∷ [])) ≡ refused (mismatch 0)
guard_empty_row = refl

-- ---- delays

delay_of_transition_row : checked_delay ds (ast 0 (infixed sign.Add 5 (ast 0 time) (named 7 x))) ≡ ok (apply (operation addition) (exprs_from (the_time ∷ variable 0 ∷ [])))
delay_of_transition_row = refl

delay_truth_row : checked_delay ds (true_at 0) ≡ refused (mismatch 0)
delay_truth_row = refl

delay_twice_row : checked_delay ds (delayed 3 5 (num 3 1) (num 8 2)) ≡ refused (time_not_allowed 5)
delay_twice_row = refl

delay_stamp_row : checked_delay ds (at_stamp 0 2 (num 0 1) 2) ≡ refused (time_not_allowed 2)
delay_stamp_row = refl

delay_times_row : checked_delay ds (counted 0 1 (num 0 1) (num 2 2)) ≡ refused (mismatch 0)
delay_times_row = refl

-- ---- monitors

value_row : checked_value ds (ast 0 (infixed sign.Add 2 (named 0 x) (num 4 1))) ≡ ok (apply (operation addition) (exprs_from (variable 0 ∷ int 1 ∷ [])))
value_row = refl

value_time_row : checked_value ds (ast 0 time) ≡ refused (time_not_allowed 0)
value_time_row = refl

value_delay_row : checked_value ds (delayed 0 2 (named 0 x) (num 5 3)) ≡ refused (time_not_allowed 2)
value_delay_row = refl

value_truth_row : checked_value ds (true_at 0) ≡ refused (mismatch 0)
value_truth_row = refl
