-- Values and functions with what they declare or their first refusal, by computing: each sentence of the rules kept and
-- broken, and which of two refusals comes first.
use Rattle.std.proofs.Common.{◌≡◌, refl, ℕ, pos, List, [], ◌∷◌, ◌++◌, Option, Some, None, codes}
use Rattle.cpn_definitions.specs.Value as value
use Rattle.cpn_definitions.specs.Inscription.{operation, addition, calling, literal, local, apply, bind, no_exprs, exprs_from, Functions}
use Rattle.cpn_trees.specs.declared.operators.Infix.TheVariants as sign
use Rattle.cpn_trees.specs.Trees.{PlainAst, ast, number, empty, time, name, call, list, infixed, stamped, let_in, no_ast, asts_from, no_local, more_locals}
use Rattle.cpn_trees.specs.DeclTrees.{PlainDecl, decl, PlainParameter, value, function, enumeration, bool}
use Rattle.cpn_typing.specs.Types.{bool_type, int_type, no_types, types_from}
use Rattle.cpn_typing.specs.Names.{Name, a_function, Declared, unknown, duplicate, mismatch, not_closed, time_not_allowed, Checked, ok, refused}
use Rattle.cpn_typing.proofs.DeclarationRows.{colset, var, refused_for, meant_after, after, INT, A, B, int_set, a, c}

-- `val n = e;`, `fun n(ps) : r = e;`
abbrev val : Name → PlainAst → PlainDecl
val n e = decl 0 (value n e)

abbrev fun : Name → List PlainParameter → Name → PlainAst → PlainDecl
fun n ps r e = decl 0 (function n ps r e)

abbrev of : Name → Name → PlainParameter
of n colour = record { name = n; colour = colour }

abbrev functions_after : Checked Declared → Option Functions
functions_after (ok ds) = Some ds.functions
functions_after (refused r) = None

-- `INT`, `B` of the truth values, and the variable `x : INT`
abbrev pub x : Name
x = codes "x"

abbrev pub n : Name
n = codes "n"

abbrev pub m : Name
m = codes "m"

abbrev pub f : Name
f = codes "f"

abbrev pub g : Name
g = codes "g"

abbrev pub first : List PlainDecl
first = int_set ∷ colset B bool ∷ var (x ∷ []) INT ∷ []

abbrev pub behind : List PlainDecl → Checked Declared
behind ds = after (first ++ ds)

abbrev pub num : ℕ → ℕ → PlainAst
num at k = ast at (number (pos k))

abbrev pub named : ℕ → Name → PlainAst
named at w = ast at (name w)

-- ---- values

-- `val n = 2;`
value_row : meant_after (behind (val n (num 8 2) ∷ [])) n ≡ Some (a_function 0 no_types int_type)
value_row = refl

value_body_row : functions_after (behind (val n (num 8 2) ∷ [])) ≡ Some (record { parameters = 0; body = literal (value.int (pos 2)) } ∷ [])
value_body_row = refl

-- `val n = [];` has no type
value_empty_list_row : refused_for (behind (val n (ast 8 (list no_ast)) ∷ [])) ≡ Some (mismatch 8)
value_empty_list_row = refl

-- `val n = x;`, `val n = q;`, `val n = n;`
value_closed_row : refused_for (behind (val n (named 8 x) ∷ [])) ≡ Some (not_closed x)
value_closed_row = refl

value_unknown_row : refused_for (behind (val n (named 8 c) ∷ [])) ≡ Some (unknown c)
value_unknown_row = refl

value_itself_row : refused_for (behind (val n (named 8 n) ∷ [])) ≡ Some (unknown n)
value_itself_row = refl

-- `val n = time;`, `val n = 1 @+ 2;`, `val n = 1 @ 2;`, `val n = empty;`, ``val n = 1`2;``
value_time_row : refused_for (behind (val n (ast 8 time) ∷ [])) ≡ Some (time_not_allowed 8)
value_time_row = refl

value_delay_row : refused_for (behind (val n (ast 8 (infixed sign.Later 10 (num 8 1) (num 13 2))) ∷ [])) ≡ Some (mismatch 8)
value_delay_row = refl

value_stamp_row : refused_for (behind (val n (ast 8 (stamped (num 8 1) 10 (pos 2))) ∷ [])) ≡ Some (time_not_allowed 10)
value_stamp_row = refl

value_empty_row : refused_for (behind (val n (ast 8 empty) ∷ [])) ≡ Some (mismatch 8)
value_empty_row = refl

value_times_row : refused_for (behind (val n (ast 8 (infixed sign.Times 9 (num 8 1) (num 10 2))) ∷ [])) ≡ Some (mismatch 8)
value_times_row = refl

-- the name comes before the inscription: `val x = q;`, `val rev = q;`, `val a = 1;` behind `colset A = with a;`
value_duplicate_row : refused_for (behind (val x (named 8 c) ∷ [])) ≡ Some (duplicate x)
value_duplicate_row = refl

value_predeclared_row : refused_for (behind (val (codes "rev") (named 10 c) ∷ [])) ≡ Some (duplicate (codes "rev"))
value_predeclared_row = refl

value_constant_row : refused_for (behind (colset A (enumeration (a ∷ [])) ∷ val a (num 8 1) ∷ [])) ≡ Some (duplicate a)
value_constant_row = refl

-- a colour set may have the same name
value_two_spaces_row : refused_for (behind (val INT (num 10 1) ∷ [])) ≡ None
value_two_spaces_row = refl

-- `val n = 2; val m = n + 1;`: a later one uses an earlier one, by its number
value_used_row : functions_after (behind (val n (num 8 2) ∷ val m (ast 8 (infixed sign.Add 10 (named 8 n) (num 12 1))) ∷ []))
    ≡ Some (record { parameters = 0; body = literal (value.int (pos 2)) }
    ∷ record { parameters = 0; body = apply (operation addition) (exprs_from (apply (calling 0) no_exprs ∷ literal (value.int (pos 1)) ∷ [])) } ∷ [])
value_used_row = refl

-- `val n = 2; val m = n(1);`
value_called_row : refused_for (behind (val n (num 8 2) ∷ val m (ast 8 (call n (asts_from (num 10 1 ∷ [])))) ∷ [])) ≡ Some (unknown n)
value_called_row = refl

-- ---- functions

-- `fun f(n : INT, m : B) : INT = n;`
function_row : meant_after (behind (fun f (of n INT ∷ of m B ∷ []) INT (named 40 n) ∷ [])) f ≡ Some (a_function 0 (types_from (int_type ∷ bool_type ∷ [])) int_type)
function_row = refl

function_body_row : functions_after (behind (fun f (of n INT ∷ of m B ∷ []) B (named 40 m) ∷ [])) ≡ Some (record { parameters = 2; body = local 1 } ∷ [])
function_body_row = refl

-- parameters, from left to right: two of one name; an unknown colour set
parameters_row : refused_for (behind (fun f (of n INT ∷ of n INT ∷ []) INT (named 40 n) ∷ [])) ≡ Some (duplicate n)
parameters_row = refl

parameter_unknown_first_row : refused_for (behind (fun f (of n A ∷ of n INT ∷ []) INT (named 40 n) ∷ [])) ≡ Some (unknown A)
parameter_unknown_first_row = refl

parameter_duplicate_first_row : refused_for (behind (fun f (of n INT ∷ of n A ∷ []) INT (named 40 n) ∷ [])) ≡ Some (duplicate n)
parameter_duplicate_first_row = refl

-- the function's own name comes before its parameters, these before its result, and that before its inscription
name_of_function_first_row : refused_for (behind (fun x (of n INT ∷ of n A ∷ []) INT (named 40 n) ∷ [])) ≡ Some (duplicate x)
name_of_function_first_row = refl

parameters_first_row : refused_for (behind (fun f (of n A ∷ []) A (named 40 c) ∷ [])) ≡ Some (unknown A)
parameters_first_row = refl

result_first_row : refused_for (behind (fun f (of n INT ∷ []) A (named 40 c) ∷ [])) ≡ Some (unknown A)
result_first_row = refl

predeclared_function_row : refused_for (behind (fun (codes "length") (of n INT ∷ []) INT (named 40 n) ∷ [])) ≡ Some (duplicate (codes "length"))
predeclared_function_row = refl

-- a parameter hides a variable and a predeclared function
parameter_hides_row : functions_after (behind (fun f (of x INT ∷ []) INT (named 40 x) ∷ [])) ≡ Some (record { parameters = 1; body = local 0 } ∷ [])
parameter_hides_row = refl

parameter_hides_predeclared_row : refused_for (behind (fun f (of (codes "hd") INT ∷ []) INT (named 40 (codes "hd")) ∷ [])) ≡ None
parameter_hides_predeclared_row = refl

-- a parameter may have the function's name
parameter_as_function_row : refused_for (behind (fun f (of f INT ∷ []) INT (named 40 f) ∷ [])) ≡ None
parameter_as_function_row = refl

-- the inscription has the result's type, and uses no variable
result_row : refused_for (behind (fun f (of n INT ∷ []) B (named 40 n) ∷ [])) ≡ Some (mismatch 40)
result_row = refl

function_closed_row : refused_for (behind (fun f (of n INT ∷ []) INT (named 40 x) ∷ [])) ≡ Some (not_closed x)
function_closed_row = refl

-- `fun f(n : INT) : INT = f(n);`, and a later function
function_itself_row : refused_for (behind (fun f (of n INT ∷ []) INT (ast 40 (call f (asts_from (named 42 n ∷ [])))) ∷ [])) ≡ Some (unknown f)
function_itself_row = refl

later_function_row : refused_for (behind (fun f (of n INT ∷ []) INT (ast 40 (call g (asts_from (named 42 n ∷ [])))) ∷ fun g (of n INT ∷ []) INT (named 40 n) ∷ [])) ≡ Some (unknown g)
later_function_row = refl

earlier_function_row : functions_after (behind (fun f (of n INT ∷ []) INT (named 40 n) ∷ fun g (of n INT ∷ []) INT (ast 40 (call f (asts_from (named 42 n ∷ [])))) ∷ []))
    ≡ Some (record { parameters = 1; body = local 0 } ∷ record { parameters = 1; body = apply (calling 0) (exprs_from (local 0 ∷ [])) } ∷ [])
earlier_function_row = refl

-- a function of parameters alone is no value: `val m = f;`
function_alone_row : refused_for (behind (fun f (of n INT ∷ []) INT (named 40 n) ∷ val m (named 8 f) ∷ [])) ≡ Some (unknown f)
function_alone_row = refl

-- a value or a function is no colour set
function_colour_row : refused_for (behind (val n (num 8 2) ∷ var (m ∷ []) n ∷ [])) ≡ Some (unknown n)
function_colour_row = refl

-- locals of an inscription come behind the parameters: `let val k = n in k end`
let_row : functions_after (behind (fun f (of n INT ∷ []) INT (ast 40 (let_in (more_locals m (named 52 n) no_local) (named 57 m))) ∷ [])) ≡ Some (record { parameters = 1; body = bind (local 0) (local 1) } ∷ [])
let_row = refl
