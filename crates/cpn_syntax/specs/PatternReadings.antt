-- A pattern at the front of a text, and the arrow behind it. Source: own choice.
use Rattle.std.specs.Prelude.{◌≡◌, ◌∷◌, ◌++◌}
use Rattle.cpn_lex.specs.Token.{PlainToken}
use Rattle.cpn_lex.specs.declared.symbols.Symbol.TheVariants as sign
use Rattle.cpn_syntax.specs.declared.refusals.SyntaxError.{SyntaxError}
use Rattle.cpn_syntax.specs.Texts.{Text, Is}
use Rattle.cpn_syntax.specs.Faults.{fault_at}
use Rattle.cpn_syntax.specs.Progress.{Agrees}
use Rattle.cpn_trees.specs.Trees.{PlainPat}
use Rattle.cpn_syntax.specs.Patterns.{SpellsPat}

-- the text is a pattern
abbrev pub IsPattern : Text → Type 0
IsPattern text = (p : PlainPat) × SpellsPat 0 p text

-- The front of the text spells the pattern, and an arrow stands behind it. Whatever pattern a text with this front
-- and this arrow begins with, in front of an arrow, it is this one, and what stands behind its arrow is the same.
pub record IsReadAsPattern (from to : Text) (p : PlainPat) : Type 0 where
  pub used : Text
  pub arrow : PlainToken
  pub split : from ≡ used ++ arrow ∷ to
  pub spells : SpellsPat 0 p used
  pub is_arrow : Is sign.Arrow arrow
  pub only : (q : PlainPat) (u : Text) (t : PlainToken) (v w : Text) → used ++ arrow ∷ w ≡ u ++ t ∷ v → SpellsPat 0 q u → Is sign.Arrow t → (q ≡ p) × (v ≡ w)

-- The text begins as a pattern does, up to a token or to its end: no pattern, with an arrow behind it, goes on so.
pub record BreaksOffInPattern (from : Text) (fault : SyntaxError) : Type 0 where
  pub used : Text
  pub rest : Text
  pub split : from ≡ used ++ rest
  pub fault_is : fault ≡ fault_at rest
  pub viable : (w : Text) × IsPattern (used ++ w)
  pub none : (q : PlainPat) (u : Text) (t : PlainToken) (v w : Text) → Agrees rest w → used ++ w ≡ u ++ t ∷ v → SpellsPat 0 q u → Is sign.Arrow t → ⊥
