-- An inscription at the front of a text, read as far as it reaches. Source: own choice.
use Rattle.std.specs.Prelude.{◌≡◌, ◌++◌}
use Rattle.cpn_syntax.specs.declared.refusals.SyntaxError.{SyntaxError}
use Rattle.cpn_syntax.specs.Texts.{Text}
use Rattle.cpn_syntax.specs.Faults.{fault_at}
use Rattle.cpn_syntax.specs.Progress.{Agrees}
use Rattle.cpn_trees.specs.Trees.{PlainAst}
use Rattle.cpn_syntax.specs.Inscriptions.{Spells}
use Rattle.cpn_syntax.specs.Completions.{Closing, Closes}
use Rattle.cpn_syntax.specs.ReadForms.{IsInscription}

-- The front of the text spells the inscription, and whatever inscription a text with this front is, with nothing or a
-- semicolon behind it, it is this one, and what stands behind it is the rest.
pub record IsReadAs (from to : Text) (a : PlainAst) : Type 0 where
  pub used : Text
  pub split : from ≡ used ++ to
  pub spells : Spells 0 a used
  pub only : (close : Closing) (b : PlainAst) (u v w : Text) → Agrees to w → used ++ w ≡ u ++ v → Spells 0 b u → Closes close v → (b ≡ a) × Closes close w

-- The text begins as an inscription does, up to a token or to its end: no inscription, with nothing or a semicolon
-- behind it, goes on so.
pub record BreaksOffAt (from : Text) (fault : SyntaxError) : Type 0 where
  pub used : Text
  pub rest : Text
  pub split : from ≡ used ++ rest
  pub fault_is : fault ≡ fault_at rest
  pub viable : (w : Text) × IsInscription (used ++ w)
  pub none : (close : Closing) (b : PlainAst) (u v w : Text) → Agrees rest w → used ++ w ≡ u ++ v → Spells 0 b u → Closes close v → ⊥
