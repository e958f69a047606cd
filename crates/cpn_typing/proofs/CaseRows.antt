-- Rows: `case` and its patterns.
use Rattle.std.proofs.Common.{◌≡◌, refl, pos, true, [], ◌∷◌, Some, None, codes}
use Rattle.cpn_definitions.specs.Value as value
use Rattle.cpn_definitions.specs.Inscription.{listing, variable, local, apply, select, no_exprs, no_arms, more_arms, any_pattern, variable_pattern, literal_pattern, tuple_pattern, list_pattern, cons_pattern, bare_pattern, applied_pattern, no_patterns, more_patterns}
use Rattle.cpn_trees.specs.Trees.{PlainPat, pat, any, pat_number, pat_text, pat_truth, pat_call, pat_unit, pat_tuple, pat_list, pat_cons, pats_from}
use Rattle.cpn_typing.specs.Types.{PlainTy, unit_type, bool_type, int_type, text_type, enumeration, union, lists}
use Rattle.cpn_typing.specs.Names.{local_of, unknown, duplicate, mismatch, Checked, ok, refused}
use Rattle.cpn_typing.specs.Contexts.{in_guard}
use Rattle.cpn_typing.specs.PatternRules.{BoundPattern, typed_pattern}
use Rattle.cpn_typing.specs.Expressions.{typed}
use Rattle.cpn_typing.proofs.WorkedNames.{names, pair_type, type_wanted, type_of, num, word, empty_at, let_at, case_at, case_two, pat_word}

-- a pattern against a type, where there is no local
abbrev against : PlainTy → PlainPat → Checked BoundPattern
against t p = typed_pattern names p [] t

-- ---- `case`

-- `case xs of y::ys => ys | _ => []`
two_arms : typed names in_guard (case_two 0 (word 5 (codes "xs")) (pat 11 (pat_cons (pat_word 11 (codes "y")) (pat_word 14 (codes "ys")))) (word 20 (codes "ys")) (pat 25 any) (empty_at 30)) [] None
    ≡ ok (record { expr = select (variable 3) (more_arms (cons_pattern (variable_pattern 0) (variable_pattern 1)) (local 1) (more_arms any_pattern (apply listing no_exprs) no_arms)); type_of = lists int_type })
two_arms = refl

-- `case x of 1 => 1 | _ => s`, `case x of 1 => z | "a" => 1`, `case z of 1 => 1`, `case x of "a" => z`
results_differ : type_of (case_two 0 (word 5 (codes "x")) (pat 10 (pat_number (pos 1))) (num 15 1) (pat 19 any) (word 24 (codes "s"))) ≡ refused (mismatch 24)
results_differ = refl

result_before_later_pattern : type_of (case_two 0 (word 5 (codes "x")) (pat 10 (pat_number (pos 1))) (word 15 (codes "z")) (pat 19 (pat_text (codes "a"))) (num 26 1)) ≡ refused (unknown (codes "z"))
result_before_later_pattern = refl

subject_first : type_of (case_at 0 (word 5 (codes "z")) (pat 10 (pat_number (pos 1))) (num 15 1)) ≡ refused (unknown (codes "z"))
subject_first = refl

pattern_before_result : type_of (case_at 0 (word 5 (codes "x")) (pat 10 (pat_text (codes "a"))) (word 17 (codes "z"))) ≡ refused (mismatch 10)
pattern_before_result = refl

-- `case x of y => y` where a string is wanted
result_not_wanted : type_wanted in_guard (Some text_type) (case_at 0 (word 5 (codes "x")) (pat_word 10 (codes "y")) (word 15 (codes "y"))) ≡ refused (mismatch 15)
result_not_wanted = refl

-- `let val w = 1 in case s of y => y end`: locals are numbered from the outermost inwards
numbered_inwards : type_of (let_at 0 (codes "w") (num 12 1) (case_at 17 (word 22 (codes "s")) (pat_word 27 (codes "y")) (word 32 (codes "y")))) ≡ ok text_type
numbered_inwards = refl

number_of_second : typed_pattern names (pat_word 0 (codes "y")) (local_of (codes "w") int_type ∷ []) text_type ≡ ok (record { pattern = variable_pattern 1; locals = local_of (codes "y") text_type ∷ [] })
number_of_second = refl

-- ---- literals

-- `1`, `"a"`, `true`, `()`, `_`, each against its type, and against another
number_pattern : against int_type (pat 0 (pat_number (pos 1))) ≡ ok (record { pattern = literal_pattern (value.int (pos 1)); locals = [] })
number_pattern = refl

text_pattern : against text_type (pat 0 (pat_text (codes "a"))) ≡ ok (record { pattern = literal_pattern (value.text (codes "a")); locals = [] })
text_pattern = refl

truth_pattern : against bool_type (pat 0 (pat_truth true)) ≡ ok (record { pattern = literal_pattern (value.boolean true); locals = [] })
truth_pattern = refl

unit_pattern : against unit_type (pat 0 pat_unit) ≡ ok (record { pattern = literal_pattern value.unit; locals = [] })
unit_pattern = refl

anything_pattern : against pair_type (pat 0 any) ≡ ok (record { pattern = any_pattern; locals = [] })
anything_pattern = refl

number_against_text : against text_type (pat 0 (pat_number (pos 1))) ≡ refused (mismatch 0)
number_against_text = refl

unit_against_truth : against bool_type (pat 0 pat_unit) ≡ refused (mismatch 0)
unit_against_truth = refl

-- ---- names

-- `x`, `f`, `k`, `hd` bind locals; `red` against its enumeration, against another, against a number
variable_name_binds : against int_type (pat_word 0 (codes "x")) ≡ ok (record { pattern = variable_pattern 0; locals = local_of (codes "x") int_type ∷ [] })
variable_name_binds = refl

function_name_binds : against int_type (pat_word 0 (codes "f")) ≡ ok (record { pattern = variable_pattern 0; locals = local_of (codes "f") int_type ∷ [] })
function_name_binds = refl

value_name_binds : against text_type (pat_word 0 (codes "k")) ≡ ok (record { pattern = variable_pattern 0; locals = local_of (codes "k") text_type ∷ [] })
value_name_binds = refl

predeclared_name_binds : against text_type (pat_word 0 (codes "hd")) ≡ ok (record { pattern = variable_pattern 0; locals = local_of (codes "hd") text_type ∷ [] })
predeclared_name_binds = refl

constant_pattern : against (enumeration 0) (pat_word 0 (codes "green")) ≡ ok (record { pattern = literal_pattern (value.constant 1); locals = [] })
constant_pattern = refl

constant_of_another : against (enumeration 0) (pat_word 0 (codes "small")) ≡ refused (mismatch 0)
constant_of_another = refl

constant_against_number : against int_type (pat_word 0 (codes "red")) ≡ refused (mismatch 0)
constant_against_number = refl

-- `red` where a local hides it
hidden_constant_binds : typed_pattern names (pat_word 0 (codes "red")) (local_of (codes "red") int_type ∷ []) (enumeration 0) ≡ ok (record { pattern = variable_pattern 1; locals = local_of (codes "red") (enumeration 0) ∷ [] })
hidden_constant_binds = refl

-- ---- constructors

-- `e`, `o`, `c` against the union of `e` and `c`
bare_constructor : against (union 0) (pat_word 0 (codes "e")) ≡ ok (record { pattern = bare_pattern 1; locals = [] })
bare_constructor = refl

bare_of_another : against (union 0) (pat_word 0 (codes "o")) ≡ refused (mismatch 0)
bare_of_another = refl

argument_is_missing : against (union 0) (pat_word 0 (codes "c")) ≡ refused (unknown (codes "c"))
argument_is_missing = refl

-- `c(y)`, `c("a")`, `c(y)` against a number, `e(y)`, `z(y)`, `x(y)`
with_argument : against (union 0) (pat 0 (pat_call (codes "c") (pats_from (pat_word 2 (codes "y") ∷ [])))) ≡ ok (record { pattern = applied_pattern 0 (variable_pattern 0); locals = local_of (codes "y") int_type ∷ [] })
with_argument = refl

argument_of_another_type : against (union 0) (pat 0 (pat_call (codes "c") (pats_from (pat 2 (pat_text (codes "a")) ∷ [])))) ≡ refused (mismatch 2)
argument_of_another_type = refl

constructor_against_number : against int_type (pat 0 (pat_call (codes "c") (pats_from (pat_word 2 (codes "y") ∷ [])))) ≡ refused (mismatch 0)
constructor_against_number = refl

takes_no_argument : against (union 0) (pat 0 (pat_call (codes "e") (pats_from (pat_word 2 (codes "y") ∷ [])))) ≡ refused (unknown (codes "e"))
takes_no_argument = refl

no_constructor : against (union 0) (pat 0 (pat_call (codes "z") (pats_from (pat_word 2 (codes "y") ∷ [])))) ≡ refused (unknown (codes "z"))
no_constructor = refl

-- `d(y,w)`, `d(q)`, `d(y,w,1)`, `c(y,w)`
argument_by_parts : against (union 0) (pat 0 (pat_call (codes "d") (pats_from (pat_word 2 (codes "y") ∷ pat_word 4 (codes "w") ∷ []))))
    ≡ ok (record { pattern = applied_pattern 2 (tuple_pattern (more_patterns (variable_pattern 0) (more_patterns (variable_pattern 1) no_patterns))); locals = local_of (codes "y") int_type ∷ local_of (codes "w") text_type ∷ [] })
argument_by_parts = refl

argument_whole : against (union 0) (pat 0 (pat_call (codes "d") (pats_from (pat_word 2 (codes "q") ∷ [])))) ≡ ok (record { pattern = applied_pattern 2 (variable_pattern 0); locals = local_of (codes "q") pair_type ∷ [] })
argument_whole = refl

argument_with_a_part_more : against (union 0) (pat 0 (pat_call (codes "d") (pats_from (pat_word 2 (codes "y") ∷ pat_word 4 (codes "w") ∷ pat 6 (pat_number (pos 1)) ∷ [])))) ≡ refused (mismatch 2)
argument_with_a_part_more = refl

parts_of_no_tuple : against (union 0) (pat 0 (pat_call (codes "c") (pats_from (pat_word 2 (codes "y") ∷ pat_word 4 (codes "w") ∷ [])))) ≡ refused (mismatch 2)
parts_of_no_tuple = refl

-- ---- tuples and lists

-- `(y,w)`, `(y,y)`, `(y,w,1)`, `(y)` is `y`, `(1,2)`; `(y,w)` against a number
tuple_of_locals : against pair_type (pat 0 (pat_tuple (pats_from (pat_word 1 (codes "y") ∷ pat_word 3 (codes "w") ∷ []))))
    ≡ ok (record { pattern = tuple_pattern (more_patterns (variable_pattern 0) (more_patterns (variable_pattern 1) no_patterns)); locals = local_of (codes "y") int_type ∷ local_of (codes "w") text_type ∷ [] })
tuple_of_locals = refl

local_twice : against pair_type (pat 0 (pat_tuple (pats_from (pat_word 1 (codes "y") ∷ pat_word 3 (codes "y") ∷ [])))) ≡ refused (duplicate (codes "y"))
local_twice = refl

tuple_with_a_part_more : against pair_type (pat 0 (pat_tuple (pats_from (pat_word 1 (codes "y") ∷ pat_word 3 (codes "w") ∷ pat 5 (pat_number (pos 1)) ∷ [])))) ≡ refused (mismatch 0)
tuple_with_a_part_more = refl

part_of_another_type : against pair_type (pat 0 (pat_tuple (pats_from (pat 1 (pat_number (pos 1)) ∷ pat 3 (pat_number (pos 2)) ∷ [])))) ≡ refused (mismatch 3)
part_of_another_type = refl

tuple_against_number : against int_type (pat 0 (pat_tuple (pats_from (pat_word 1 (codes "y") ∷ pat_word 3 (codes "w") ∷ [])))) ≡ refused (mismatch 0)
tuple_against_number = refl

-- `[]`, `[y,1]`, `[y,y]`, `y::ys`, `y::y`, `y::1`; `[]` and `y::ys` against a number
empty_pattern : against (lists int_type) (pat 0 (pat_list (pats_from []))) ≡ ok (record { pattern = list_pattern no_patterns; locals = [] })
empty_pattern = refl

list_of_patterns : against (lists int_type) (pat 0 (pat_list (pats_from (pat_word 1 (codes "y") ∷ pat 3 (pat_number (pos 1)) ∷ []))))
    ≡ ok (record { pattern = list_pattern (more_patterns (variable_pattern 0) (more_patterns (literal_pattern (value.int (pos 1))) no_patterns)); locals = local_of (codes "y") int_type ∷ [] })
list_of_patterns = refl

item_twice : against (lists int_type) (pat 0 (pat_list (pats_from (pat_word 1 (codes "y") ∷ pat_word 3 (codes "y") ∷ [])))) ≡ refused (duplicate (codes "y"))
item_twice = refl

head_and_tail_twice : against (lists int_type) (pat 0 (pat_cons (pat_word 0 (codes "y")) (pat_word 3 (codes "y")))) ≡ refused (duplicate (codes "y"))
head_and_tail_twice = refl

tail_is_no_number : against (lists int_type) (pat 0 (pat_cons (pat_word 0 (codes "y")) (pat 3 (pat_number (pos 1))))) ≡ refused (mismatch 3)
tail_is_no_number = refl

list_against_number : against int_type (pat 0 (pat_list (pats_from []))) ≡ refused (mismatch 0)
list_against_number = refl

cons_against_number : against int_type (pat 0 (pat_cons (pat_word 0 (codes "y")) (pat_word 3 (codes "ys")))) ≡ refused (mismatch 0)
cons_against_number = refl
