-- Rows: what names mean alone and in front of a parenthesis, what hides them, and the forms that bind locals.
use Rattle.std.proofs.Common.{◌≡◌, refl, pos, true, [], ◌∷◌, Some, None, codes}
use Rattle.cpn_definitions.specs.Value as value
use Rattle.cpn_definitions.specs.Inscription.{addition, list_length, membership, operation, tupling, listing, constructing, calling, literal, variable, local, apply, bind, accumulate, no_exprs, more_exprs}
use Rattle.cpn_trees.specs.declared.operators.Infix.TheVariants as sign
use Rattle.cpn_trees.specs.Trees.{ast, text, truth, let_in, no_local, more_locals, fold}
use Rattle.cpn_typing.specs.Types.{bool_type, int_type, text_type, enumeration, union, lists}
use Rattle.cpn_typing.specs.Names.{unknown, mismatch, ok, refused}
use Rattle.cpn_typing.specs.Contexts.{in_guard}
use Rattle.cpn_typing.specs.Rules.{two}
use Rattle.cpn_typing.specs.Expressions.{typed}
use Rattle.cpn_typing.proofs.WorkedNames.{names, pair_type, type_wanted, type_of, num, word, between, called, tuple_at, list_at, let_at}

-- ---- names alone

-- `red`, `e`, `k`; `c`, `f`, `hd`, `z`; `green` where a number is wanted
constant_alone : typed names in_guard (word 0 (codes "red")) [] None ≡ ok (record { expr = literal (value.constant 0); type_of = enumeration 0 })
constant_alone = refl

constructor_alone : typed names in_guard (word 0 (codes "e")) [] None ≡ ok (record { expr = apply (constructing 1) no_exprs; type_of = union 0 })
constructor_alone = refl

value_alone : typed names in_guard (word 0 (codes "k")) [] None ≡ ok (record { expr = apply (calling 1) no_exprs; type_of = int_type })
value_alone = refl

constructor_wants_argument : type_of (word 0 (codes "c")) ≡ refused (unknown (codes "c"))
constructor_wants_argument = refl

function_alone : type_of (word 0 (codes "f")) ≡ refused (unknown (codes "f"))
function_alone = refl

predeclared_alone : type_of (word 0 (codes "hd")) ≡ refused (unknown (codes "hd"))
predeclared_alone = refl

nothing_of_the_name : type_of (word 0 (codes "z")) ≡ refused (unknown (codes "z"))
nothing_of_the_name = refl

constant_not_wanted : type_wanted in_guard (Some int_type) (word 0 (codes "green")) ≡ refused (mismatch 0)
constant_not_wanted = refl

-- ---- constructors

-- `c(1)`, `c(s)`, `c(1,2)`, `c(1,z)`
one_argument : typed names in_guard (called (codes "c") 0 (num 2 1 ∷ [])) [] None
    ≡ ok (record { expr = apply (constructing 0) (more_exprs (literal (value.int (pos 1))) no_exprs); type_of = union 0 })
one_argument = refl

argument_of_another_type : type_of (called (codes "c") 0 (word 2 (codes "s") ∷ [])) ≡ refused (mismatch 2)
argument_of_another_type = refl

two_for_no_tuple : type_of (called (codes "c") 0 (num 2 1 ∷ num 4 2 ∷ [])) ≡ refused (mismatch 2)
two_for_no_tuple = refl

parts_before_their_number : type_of (called (codes "c") 0 (num 2 1 ∷ word 4 (codes "z") ∷ [])) ≡ refused (unknown (codes "z"))
parts_before_their_number = refl

-- `d(1,"a")`, `d(p)`, `d(1,2)`, `d(1,"a",3)`
parts_of_tuple : typed names in_guard (called (codes "d") 0 (num 2 1 ∷ ast 4 (text (codes "a")) ∷ [])) [] None
    ≡ ok (record { expr = apply (constructing 2) (more_exprs (apply tupling (two (literal (value.int (pos 1))) (literal (value.text (codes "a"))))) no_exprs); type_of = union 0 })
parts_of_tuple = refl

tuple_itself : type_of (called (codes "d") 0 (word 2 (codes "p") ∷ [])) ≡ ok (union 0)
tuple_itself = refl

wrong_part : type_of (called (codes "d") 0 (num 2 1 ∷ num 4 2 ∷ [])) ≡ refused (mismatch 4)
wrong_part = refl

too_many_parts : type_of (called (codes "d") 0 (num 2 1 ∷ ast 4 (text (codes "a")) ∷ num 8 3 ∷ [])) ≡ refused (mismatch 2)
too_many_parts = refl

-- `e(1)`, `red(1)`
constructor_takes_none : type_of (called (codes "e") 0 (num 2 1 ∷ [])) ≡ refused (unknown (codes "e"))
constructor_takes_none = refl

constant_called : type_of (called (codes "red") 0 (num 4 1 ∷ [])) ≡ refused (unknown (codes "red"))
constant_called = refl

-- ---- calls

-- `f(1,b)`, `f(1)`, `f(1,b,2)`, `f(b,z)`, `f(1,b)` where a truth value is wanted
function_called : typed names in_guard (called (codes "f") 0 (num 2 1 ∷ word 4 (codes "b") ∷ [])) [] None
    ≡ ok (record { expr = apply (calling 0) (two (literal (value.int (pos 1))) (variable 2)); type_of = int_type })
function_called = refl

too_few_arguments : type_of (called (codes "f") 0 (num 2 1 ∷ [])) ≡ refused (mismatch 0)
too_few_arguments = refl

too_many_arguments : type_of (called (codes "f") 0 (num 2 1 ∷ word 4 (codes "b") ∷ num 6 2 ∷ [])) ≡ refused (mismatch 0)
too_many_arguments = refl

first_argument_first : type_of (called (codes "f") 0 (word 2 (codes "b") ∷ word 4 (codes "z") ∷ [])) ≡ refused (mismatch 2)
first_argument_first = refl

result_not_wanted : type_wanted in_guard (Some bool_type) (called (codes "f") 0 (num 2 1 ∷ word 4 (codes "b") ∷ [])) ≡ refused (mismatch 0)
result_not_wanted = refl

-- `k(1)`, `x(1)`, `y(z)`: the name comes before the parts
value_called : type_of (called (codes "k") 0 (num 2 1 ∷ [])) ≡ refused (unknown (codes "k"))
value_called = refl

variable_called : type_of (called (codes "x") 0 (num 2 1 ∷ [])) ≡ refused (unknown (codes "x"))
variable_called = refl

name_before_parts : type_of (called (codes "y") 0 (word 2 (codes "z") ∷ [])) ≡ refused (unknown (codes "y"))
name_before_parts = refl

-- ---- predeclared functions

-- `hd(xs)`, `tl(xs)`, `length(xs)`, `rev(xs)`, `mem(xs,1)`, `size(s)`
head_of : type_of (called (codes "hd") 0 (word 3 (codes "xs") ∷ [])) ≡ ok int_type
head_of = refl

tail_of : type_of (called (codes "tl") 0 (word 3 (codes "xs") ∷ [])) ≡ ok (lists int_type)
tail_of = refl

length_of : typed names in_guard (called (codes "length") 0 (word 7 (codes "xs") ∷ [])) [] None
    ≡ ok (record { expr = apply (operation list_length) (more_exprs (variable 3) no_exprs); type_of = int_type })
length_of = refl

reverse_of : type_of (called (codes "rev") 0 (word 4 (codes "xs") ∷ [])) ≡ ok (lists int_type)
reverse_of = refl

member_of : typed names in_guard (called (codes "mem") 0 (word 4 (codes "xs") ∷ num 7 1 ∷ [])) [] None
    ≡ ok (record { expr = apply (operation membership) (two (variable 3) (literal (value.int (pos 1)))); type_of = bool_type })
member_of = refl

size_of : type_of (called (codes "size") 0 (word 5 (codes "s") ∷ [])) ≡ ok int_type
size_of = refl

-- `hd(1)`, `hd(xs,xs)`, `mem(xs)`, `mem(xs,s)`, `mem(1,z)`, `size(xs)`
head_of_number : type_of (called (codes "hd") 0 (num 3 1 ∷ [])) ≡ refused (mismatch 3)
head_of_number = refl

head_of_two : type_of (called (codes "hd") 0 (word 3 (codes "xs") ∷ word 6 (codes "xs") ∷ [])) ≡ refused (mismatch 0)
head_of_two = refl

member_of_one : type_of (called (codes "mem") 0 (word 4 (codes "xs") ∷ [])) ≡ refused (mismatch 0)
member_of_one = refl

member_of_another_type : type_of (called (codes "mem") 0 (word 4 (codes "xs") ∷ word 7 (codes "s") ∷ [])) ≡ refused (mismatch 7)
member_of_another_type = refl

member_of_number : type_of (called (codes "mem") 0 (num 4 1 ∷ word 6 (codes "z") ∷ [])) ≡ refused (mismatch 4)
member_of_number = refl

size_of_list : type_of (called (codes "size") 0 (word 5 (codes "xs") ∷ [])) ≡ refused (mismatch 5)
size_of_list = refl

-- ---- tuples and lists

-- `(1,s)`; `(1,z)`; `(1,2)`, `(1,"a",3)`, where a pair of an integer and a string is wanted
pair : type_of (tuple_at 0 (num 1 1 ∷ word 3 (codes "s") ∷ [])) ≡ ok pair_type
pair = refl

unknown_part : type_of (tuple_at 0 (num 1 1 ∷ word 3 (codes "z") ∷ [])) ≡ refused (unknown (codes "z"))
unknown_part = refl

part_not_wanted : type_wanted in_guard (Some pair_type) (tuple_at 0 (num 1 1 ∷ num 3 2 ∷ [])) ≡ refused (mismatch 3)
part_not_wanted = refl

one_part_more : type_wanted in_guard (Some pair_type) (tuple_at 0 (num 1 1 ∷ ast 3 (text (codes "a")) ∷ num 7 3 ∷ [])) ≡ refused (mismatch 0)
one_part_more = refl

-- `[1,x]`; `[1,s]`; `[1]` where a list of strings, and where a number is wanted
list_of_integers : typed names in_guard (list_at 0 (num 1 1 ∷ word 3 (codes "x") ∷ [])) [] None
    ≡ ok (record { expr = apply listing (two (literal (value.int (pos 1))) (variable 0)); type_of = lists int_type })
list_of_integers = refl

items_differ : type_of (list_at 0 (num 1 1 ∷ word 3 (codes "s") ∷ [])) ≡ refused (mismatch 3)
items_differ = refl

item_not_wanted : type_wanted in_guard (Some (lists text_type)) (list_at 0 (num 1 1 ∷ [])) ≡ refused (mismatch 1)
item_not_wanted = refl

list_not_wanted : type_wanted in_guard (Some int_type) (list_at 0 (num 1 1 ∷ [])) ≡ refused (mismatch 0)
list_not_wanted = refl

-- ---- locals

-- `let val x = true in x end`: the local hides the variable
variable_hidden : typed names in_guard (let_at 0 (codes "x") (ast 12 (truth true)) (word 20 (codes "x"))) [] None
    ≡ ok (record { expr = bind (literal (value.boolean true)) (local 0); type_of = bool_type })
variable_hidden = refl

-- `let val y = 1 val y = s in y end`: the second hides the first, and both are there
local_hidden : typed names in_guard (ast 0 (let_in (more_locals (codes "y") (num 12 1) (more_locals (codes "y") (word 22 (codes "s")) no_local)) (word 27 (codes "y")))) [] None
    ≡ ok (record { expr = bind (literal (value.int (pos 1))) (bind (variable 1) (local 1)); type_of = text_type })
local_hidden = refl

-- `let val y = 1 val w = y in w end`: each value is seen by those behind it
value_seen : type_of (ast 0 (let_in (more_locals (codes "y") (num 12 1) (more_locals (codes "w") (word 22 (codes "y")) no_local)) (word 27 (codes "w")))) ≡ ok int_type
value_seen = refl

-- `let val y = y in 1 end`: but not by its own; `let val y = 1 in y end` where a string is wanted
not_seen_by_itself : type_of (let_at 0 (codes "y") (word 12 (codes "y")) (num 17 1)) ≡ refused (unknown (codes "y"))
not_seen_by_itself = refl

let_not_wanted : type_wanted in_guard (Some text_type) (let_at 0 (codes "y") (num 12 1) (word 17 (codes "y"))) ≡ refused (mismatch 17)
let_not_wanted = refl

-- `let val hd = xs in hd(hd) end`, `let val f = 1 in f(1,b) end`, `let val c = 1 in c end`: locals hide whatever has their
-- name
predeclared_hidden : type_of (let_at 0 (codes "hd") (word 13 (codes "xs")) (called (codes "hd") 19 (word 22 (codes "hd") ∷ []))) ≡ refused (unknown (codes "hd"))
predeclared_hidden = refl

function_hidden : type_of (let_at 0 (codes "f") (num 12 1) (called (codes "f") 17 (num 19 1 ∷ word 21 (codes "b") ∷ []))) ≡ refused (unknown (codes "f"))
function_hidden = refl

constructor_hidden : type_of (let_at 0 (codes "c") (num 12 1) (word 17 (codes "c"))) ≡ ok int_type
constructor_hidden = refl

-- `foldl y, a over xs from 0 do y + a`
fold_of_sum : typed names in_guard (ast 0 (fold (codes "y") (codes "a") (word 16 (codes "xs")) (num 24 0) (between sign.Add 29 31 (word 29 (codes "y")) (word 33 (codes "a"))))) [] None
    ≡ ok (record { expr = accumulate (variable 3) (literal (value.int (pos 0))) (apply (operation addition) (two (local 0) (local 1))); type_of = int_type })
fold_of_sum = refl

-- `foldl a, a over xs from s do a`: the one name means what has been made so far
fold_of_one_name : type_of (ast 0 (fold (codes "a") (codes "a") (word 16 (codes "xs")) (word 24 (codes "s")) (word 29 (codes "a")))) ≡ ok text_type
fold_of_one_name = refl

-- `foldl y, a over x from z do a`, `foldl y, a over xs from s do y`, `foldl y, a over xs from 0 do a` where a string is wanted
fold_over_number : type_of (ast 0 (fold (codes "y") (codes "a") (word 16 (codes "x")) (word 23 (codes "z")) (word 28 (codes "a")))) ≡ refused (mismatch 16)
fold_over_number = refl

fold_body_of_another_type : type_of (ast 0 (fold (codes "y") (codes "a") (word 16 (codes "xs")) (word 24 (codes "s")) (word 29 (codes "y")))) ≡ refused (mismatch 29)
fold_body_of_another_type = refl

fold_not_wanted : type_wanted in_guard (Some text_type) (ast 0 (fold (codes "y") (codes "a") (word 16 (codes "xs")) (num 24 0) (word 29 (codes "a")))) ≡ refused (mismatch 24)
fold_not_wanted = refl
