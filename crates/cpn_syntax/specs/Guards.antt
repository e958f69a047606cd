-- The grammar of guards: SpellsGuard parts u says that the tokens u spell a guard of these conjuncts. One case for
-- each line:
--
--   guard := [ e {, e} ] | e
--
-- A text of both lines is one of the first: its brackets are no list. Source: own choice after CPN ML.
use Rattle.std.specs.Prelude.{Bool, true, [], ◌∷◌, ◌++◌}
use Rattle.cpn_lex.specs.Token.{PlainToken}
use Rattle.cpn_lex.specs.declared.symbols.Symbol.TheVariants as sign
use Rattle.cpn_syntax.specs.Texts.{Text, Is}
use Rattle.cpn_syntax.specs.Inscriptions.{Spells, SpellsParts}
use Rattle.cpn_trees.specs.Trees.{PlainAst, ast, list, PlainAsts, no_ast, more_asts}

-- the inscription is a list with an item, in brackets that enclose the text
abbrev pub IsInBrackets : PlainAst → Text → Type 0
IsInBrackets (ast at (list (more_asts a rest))) (t ∷ u) = Is sign.OpenBracket t
IsInBrackets _ _ = ⊥

pub data SpellsGuard : PlainAsts → Text → Type 0 where
  -- guard := [ e {, e} ]
  conjuncts_line : (t1 t2 : PlainToken) {parts : PlainAsts} (u : Text)
      → Is sign.OpenBracket t1 → SpellsParts parts u → Is sign.CloseBracket t2
      → SpellsGuard parts (t1 ∷ u ++ t2 ∷ [])
  -- guard := e
  inscription_line : {a : PlainAst} (u : Text) → Spells 0 a u → (IsInBrackets a u → ⊥) → SpellsGuard (more_asts a no_ast) u

-- the conjuncts of a guard that is spelled as the inscription, with an open bracket in front or not
abbrev pub conjuncts_of : PlainAst → Bool → PlainAsts
conjuncts_of (ast at (list (more_asts a rest))) true = more_asts a rest
conjuncts_of a bracketed = more_asts a no_ast
