-- The grammar of delays: SpellsDelay a u says that the tokens u spell the delay a. One case for each line:
--
--   delay := e | @+ e
--
-- Source: own choice after CPN ML.
use Rattle.std.specs.Prelude.{◌∷◌}
use Rattle.cpn_lex.specs.Token.{PlainToken}
use Rattle.cpn_lex.specs.declared.symbols.Symbol.TheVariants as sign
use Rattle.cpn_syntax.specs.Texts.{Text, Is}
use Rattle.cpn_syntax.specs.Inscriptions.{Spells}
use Rattle.cpn_trees.specs.Trees.{PlainAst}

pub data SpellsDelay : PlainAst → Text → Type 0 where
  -- delay := e
  delay_line : {a : PlainAst} (u : Text) → Spells 0 a u → SpellsDelay a u
  -- delay := @+ e
  later_line : (t : PlainToken) {a : PlainAst} (u : Text) → Is sign.AtPlus t → Spells 0 a u → SpellsDelay a (t ∷ u)
