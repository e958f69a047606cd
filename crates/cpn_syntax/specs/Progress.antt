-- What it means that the reading of a text comes from one state to another, and that it stops. A state has a
-- meaning for the tokens that were read, Read, and one for those that may come, Takes. Source: own choice.
use Rattle.std.specs.Prelude.{◌≡◌, [], ◌∷◌, ◌++◌}
use Rattle.cpn_syntax.specs.declared.refusals.SyntaxError.{SyntaxError}
use Rattle.cpn_syntax.specs.Texts.{Text}
use Rattle.cpn_syntax.specs.Faults.{fault_at}

-- a text that looks as the rest does, as far as one token shows
abbrev pub Agrees : Text → Text → Type 0
Agrees [] w = w ≡ []
Agrees (t ∷ rest) w = (further : Text) × (w ≡ t ∷ further)

-- From a state before a text the reading comes to another one before the rest of it.
pub record Leads {S R : Type 0} (Read : S → Text → Type 0) (Takes : S → R → Text → Type 0) (old : S) (from : Text) (new : S) (to : Text) : Type 0 where
  pub used : Text
  pub split : from ≡ used ++ to
  pub reads : (before : Text) → Read old before → Read new (before ++ used)
  pub only : (r : R) (w : Text) → Agrees to w → Takes old r (used ++ w) → Takes new r w

-- From a state before a text the reading comes to a token, or to the end of the text, with which nothing goes on:
-- what was read until then is the beginning of a whole text, and with what comes next it is none.
pub record Stops {S R : Type 0} (Read : S → Text → Type 0) (Takes : S → R → Text → Type 0) (Whole : Text → Type 0) (old : S) (from : Text) (fault : SyntaxError) : Type 0 where
  pub used : Text
  pub rest : Text
  pub split : from ≡ used ++ rest
  pub fault_is : fault ≡ fault_at rest
  pub viable : (before : Text) → Read old before → (w : Text) × Whole (before ++ used ++ w)
  pub none : (r : R) (w : Text) → Agrees rest w → Takes old r (used ++ w) → ⊥
