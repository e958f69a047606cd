-- Rows: where `[]` has a type, and where it has none and is refused.
use Rattle.std.proofs.Common.{◌≡◌, refl, [], ◌∷◌, Some, None, codes}
use Rattle.cpn_definitions.specs.Inscription.{equality, operation, listing, variable, apply, no_exprs}
use Rattle.cpn_trees.specs.declared.operators.Infix.TheVariants as sign
use Rattle.cpn_trees.specs.Trees.{ast, if_else, fold, pat, any}
use Rattle.cpn_typing.specs.Types.{bool_type, int_type, tuples, lists, types_from}
use Rattle.cpn_typing.specs.Names.{unknown, mismatch, ok, refused}
use Rattle.cpn_typing.specs.Contexts.{in_guard}
use Rattle.cpn_typing.specs.Rules.{two}
use Rattle.cpn_typing.specs.Expressions.{typed}
use Rattle.cpn_typing.proofs.WorkedNames.{names, type_wanted, type_of, num, word, between, called, tuple_at, list_at, empty_at, let_at, case_at}

-- `[]`, where nothing, a list, or a number is wanted
alone_without_type : type_of (empty_at 0) ≡ refused (mismatch 0)
alone_without_type = refl

takes_wanted : type_wanted in_guard (Some (lists int_type)) (empty_at 0) ≡ ok (lists int_type)
takes_wanted = refl

number_wanted : type_wanted in_guard (Some int_type) (empty_at 0) ≡ refused (mismatch 0)
number_wanted = refl

-- `[] = xs`, `xs = []`, `[] = []`, `[] = 1`, `[] = z`, `[] < xs`
left_takes_right : typed names in_guard (between sign.Equal 0 3 (empty_at 0) (word 5 (codes "xs"))) [] None
    ≡ ok (record { expr = apply (operation equality) (two (apply listing no_exprs) (variable 3)); type_of = bool_type })
left_takes_right = refl

right_takes_left : type_of (between sign.Equal 0 3 (word 0 (codes "xs")) (empty_at 5)) ≡ ok bool_type
right_takes_left = refl

neither_side : type_of (between sign.Equal 0 3 (empty_at 0) (empty_at 5)) ≡ refused (mismatch 0)
neither_side = refl

number_on_the_right : type_of (between sign.Equal 0 3 (empty_at 0) (num 5 1)) ≡ refused (mismatch 0)
number_on_the_right = refl

unknown_on_the_right : type_of (between sign.Equal 0 3 (empty_at 0) (word 5 (codes "z"))) ≡ refused (unknown (codes "z"))
unknown_on_the_right = refl

not_compared : type_of (between sign.Less 0 3 (empty_at 0) (word 5 (codes "xs"))) ≡ refused (mismatch 0)
not_compared = refl

-- `[] ^^ xs`, `[] ^^ 1`, `[] ^^ []` where a list is wanted, and where nothing is
appended_to : type_of (between sign.Append 0 3 (empty_at 0) (word 6 (codes "xs"))) ≡ ok (lists int_type)
appended_to = refl

appended_to_number : type_of (between sign.Append 0 3 (empty_at 0) (num 6 1)) ≡ refused (mismatch 6)
appended_to_number = refl

both_appended_wanted : type_wanted in_guard (Some (lists int_type)) (between sign.Append 0 3 (empty_at 0) (empty_at 6)) ≡ ok (lists int_type)
both_appended_wanted = refl

both_appended : type_of (between sign.Append 0 3 (empty_at 0) (empty_at 6)) ≡ refused (mismatch 0)
both_appended = refl

-- `1 :: []`, `[] :: xs`, `[] :: []` where a list of lists is wanted
tail_of_cons : type_of (between sign.Cons 0 2 (num 0 1) (empty_at 5)) ≡ ok (lists int_type)
tail_of_cons = refl

head_of_cons : type_of (between sign.Cons 0 3 (empty_at 0) (word 6 (codes "xs"))) ≡ refused (mismatch 0)
head_of_cons = refl

head_of_wanted_cons : type_wanted in_guard (Some (lists (lists int_type))) (between sign.Cons 0 3 (empty_at 0) (empty_at 6)) ≡ ok (lists (lists int_type))
head_of_wanted_cons = refl

-- `if b then [] else xs`, `if b then [] else []`, `if b then [] else 1`
branch_takes_other : type_of (ast 0 (if_else (word 3 (codes "b")) (empty_at 10) (word 18 (codes "xs")))) ≡ ok (lists int_type)
branch_takes_other = refl

no_branch : type_of (ast 0 (if_else (word 3 (codes "b")) (empty_at 10) (empty_at 18))) ≡ refused (mismatch 10)
no_branch = refl

branch_with_number : type_of (ast 0 (if_else (word 3 (codes "b")) (empty_at 10) (num 18 1))) ≡ refused (mismatch 10)
branch_with_number = refl

-- `[[]]`, `[xs, []]`, `[[], xs]`
item_without_type : type_of (list_at 0 (empty_at 1 ∷ [])) ≡ refused (mismatch 1)
item_without_type = refl

item_behind_another : type_of (list_at 0 (word 1 (codes "xs") ∷ empty_at 5 ∷ [])) ≡ ok (lists (lists int_type))
item_behind_another = refl

item_before_another : type_of (list_at 0 (empty_at 1 ∷ word 5 (codes "xs") ∷ [])) ≡ refused (mismatch 1)
item_before_another = refl

-- `([], 1)` where a pair is wanted, and where nothing is
part_of_wanted : type_wanted in_guard (Some (tuples (types_from (lists int_type ∷ int_type ∷ [])))) (tuple_at 0 (empty_at 1 ∷ num 5 1 ∷ [])) ≡ ok (tuples (types_from (lists int_type ∷ int_type ∷ [])))
part_of_wanted = refl

part_without_type : type_of (tuple_at 0 (empty_at 1 ∷ num 5 1 ∷ [])) ≡ refused (mismatch 1)
part_without_type = refl

-- `hd([])`, `rev([])` where a list is wanted, `mem([], 1)`, `let val y = [] in 1 end`, `case [] of _ => 1`
head_of_none : type_of (called (codes "hd") 0 (empty_at 3 ∷ [])) ≡ refused (mismatch 3)
head_of_none = refl

reversed_none : type_wanted in_guard (Some (lists int_type)) (called (codes "rev") 0 (empty_at 4 ∷ [])) ≡ refused (mismatch 4)
reversed_none = refl

member_of_none : type_of (called (codes "mem") 0 (empty_at 4 ∷ num 8 1 ∷ [])) ≡ refused (mismatch 4)
member_of_none = refl

let_none : type_of (let_at 0 (codes "y") (empty_at 12) (num 18 1)) ≡ refused (mismatch 12)
let_none = refl

case_none : type_of (case_at 0 (empty_at 5) (pat 11 any) (num 16 1)) ≡ refused (mismatch 5)
case_none = refl

-- `foldl y, a over xs from [] do y :: a` where a list is wanted, and where nothing is
start_of_wanted : type_wanted in_guard (Some (lists int_type)) (ast 0 (fold (codes "y") (codes "a") (word 16 (codes "xs")) (empty_at 24) (between sign.Cons 30 32 (word 30 (codes "y")) (word 35 (codes "a"))))) ≡ ok (lists int_type)
start_of_wanted = refl

start_without_type : type_of (ast 0 (fold (codes "y") (codes "a") (word 16 (codes "xs")) (empty_at 24) (between sign.Cons 30 32 (word 30 (codes "y")) (word 35 (codes "a"))))) ≡ refused (mismatch 24)
start_without_type = refl
