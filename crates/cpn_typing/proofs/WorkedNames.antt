-- The declared names of the rows, and short words for their trees.
use Rattle.std.proofs.Common.{ℕ, pos, List, [], ◌∷◌, Option, Some, None, codes}
use Rattle.cpn_trees.specs.declared.operators.Infix.{Infix}
use Rattle.cpn_trees.specs.declared.operators.Prefix.{Prefix}
use Rattle.cpn_trees.specs.Trees.{PlainAst, ast, number, name, call, tuple, list, let_in, prefixed, infixed, case_of, asts_from, PlainPat, pat, pat_name, no_arm, more_arms, no_ast, no_local, more_locals}
use Rattle.cpn_typing.specs.Types.{PlainTy, bool_type, int_type, text_type, enumeration, union, tuples, lists, types_from}
use Rattle.cpn_typing.specs.Names.{Name, NamedMeaning, Meant, a_variable, a_constant, a_constructor, a_function, Declared, Checked, ok, ◌>>=◌}
use Rattle.cpn_typing.specs.Contexts.{Context, in_guard}
use Rattle.cpn_typing.specs.Expressions.{typed}

-- colset PAIR = product INT * STRING;
abbrev pub pair_type : PlainTy
pair_type = tuples (types_from (int_type ∷ text_type ∷ []))

abbrev pub meaning_of : Name → Meant → NamedMeaning
meaning_of n m = record { name = n; meant = m }

-- var x : INT; var s : STRING; var b : BOOL; var xs : list INT; var p : PAIR; var h : HUE; var v : SHAPE;
-- colset HUE = with red | green; colset SIZE = with small; colset SHAPE = union c : INT + e + d : PAIR;
-- colset OTHER = union o; fun f(i : INT, j : BOOL) : INT; val k of type INT
abbrev pub names : Declared
names = record {
  colours = [];
  names =
      meaning_of (codes "x") (a_variable 0 int_type) ∷ meaning_of (codes "s") (a_variable 1 text_type) ∷ meaning_of (codes "b") (a_variable 2 bool_type)
      ∷ meaning_of (codes "xs") (a_variable 3 (lists int_type)) ∷ meaning_of (codes "p") (a_variable 4 pair_type)
      ∷ meaning_of (codes "h") (a_variable 5 (enumeration 0)) ∷ meaning_of (codes "v") (a_variable 6 (union 0))
      ∷ meaning_of (codes "red") (a_constant 0 0) ∷ meaning_of (codes "green") (a_constant 0 1) ∷ meaning_of (codes "small") (a_constant 1 0)
      ∷ meaning_of (codes "c") (a_constructor 0 0 (Some int_type)) ∷ meaning_of (codes "e") (a_constructor 0 1 None)
      ∷ meaning_of (codes "d") (a_constructor 0 2 (Some pair_type)) ∷ meaning_of (codes "o") (a_constructor 1 0 None)
      ∷ meaning_of (codes "f") (a_function 0 (types_from (int_type ∷ bool_type ∷ [])) int_type) ∷ meaning_of (codes "k") (a_function 1 (types_from []) int_type) ∷ [];
  variables = [];
  enumerations = [];
  unions = [];
  functions = [];
}

-- the type that is found of a tree in a context, at a wanted type or with none; in a guard
abbrev pub type_wanted : Context → Option PlainTy → PlainAst → Checked PlainTy
type_wanted context w a = typed names context a [] w >>= λ r. ok r.type_of

abbrev pub type_at : Context → PlainAst → Checked PlainTy
type_at context a = type_wanted context None a

abbrev pub type_of : PlainAst → Checked PlainTy
type_of a = type_at in_guard a

-- ---- trees, each with the offset of its first token

abbrev pub num : ℕ → ℕ → PlainAst
num at n = ast at (number (pos n))

abbrev pub word : ℕ → Name → PlainAst
word at n = ast at (name n)

-- an operator with the offset of its sign
abbrev pub between : Infix → ℕ → ℕ → PlainAst → PlainAst → PlainAst
between o at s a b = ast at (infixed o s a b)

abbrev pub front : Prefix → ℕ → PlainAst → PlainAst
front o at a = ast at (prefixed o a)

abbrev pub called : Name → ℕ → List PlainAst → PlainAst
called n at xs = ast at (call n (asts_from xs))

abbrev pub tuple_at : ℕ → List PlainAst → PlainAst
tuple_at at xs = ast at (tuple (asts_from xs))

abbrev pub list_at : ℕ → List PlainAst → PlainAst
list_at at xs = ast at (list (asts_from xs))

-- `[]`
abbrev pub empty_at : ℕ → PlainAst
empty_at at = ast at (list no_ast)

-- a `let` with one value
abbrev pub let_at : ℕ → Name → PlainAst → PlainAst → PlainAst
let_at at n a b = ast at (let_in (more_locals n a no_local) b)

-- a `case` with one arm, and with two
abbrev pub case_at : ℕ → PlainAst → PlainPat → PlainAst → PlainAst
case_at at a p r = ast at (case_of a (more_arms p r no_arm))

abbrev pub case_two : ℕ → PlainAst → PlainPat → PlainAst → PlainPat → PlainAst → PlainAst
case_two at a p r q t = ast at (case_of a (more_arms p r (more_arms q t no_arm)))

abbrev pub pat_word : ℕ → Name → PlainPat
pat_word at n = pat at (pat_name n)
