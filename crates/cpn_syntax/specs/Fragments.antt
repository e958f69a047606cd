-- A part of the grammar at the front of a text, read as far as it reaches. A part says which tokens spell which
-- trees; Ends says what may stand behind it. Source: own choice.
use Rattle.std.specs.Prelude.{◌≡◌, [], ◌++◌}
use Rattle.cpn_syntax.specs.declared.refusals.SyntaxError.{SyntaxError}
use Rattle.cpn_syntax.specs.Texts.{Text}
use Rattle.cpn_syntax.specs.Faults.{fault_at}
use Rattle.cpn_syntax.specs.Progress.{Agrees}

-- a tree, and what stands behind its tokens
pub data Front {A : Type 0} (Part : A → Text → Type 0) (Ends : Text → Type 0) : A → Text → Text → Type 0 where
  front : {a : A} (u v : Text) → Part a u → Ends v → Front Part Ends a v (u ++ v)

-- a part of which nothing is left to be read
pub data Whole {A : Type 0} : A → A → Text → Type 0 where
  whole : {a : A} → Whole a a []

-- What is left of a part, once tokens of it are read, is another part.
pub record Leaves {A : Type 0} (Part Rest : A → Text → Type 0) (Ends : Text → Type 0) (from to : Text) : Type 0 where
  pub used : Text
  pub split : from ≡ used ++ to
  pub reads : (a : A) (w : Text) → Rest a w → Part a (used ++ w)
  pub only : (a : A) (v w : Text) → Agrees to w → Front Part Ends a v (used ++ w) → Front Rest Ends a v w

-- The front of the text spells the tree, and no other one, up to the rest.
abbrev pub ReadsAs : {A : Type 0} → (A → Text → Type 0) → (Text → Type 0) → Text → Text → A → Type 0
ReadsAs Part Ends from to a = Leaves Part (Whole a) Ends from to

-- The text begins as the part does, up to a token or to its end, and the part doesn't go on so.
pub record Halts {A : Type 0} (Part : A → Text → Type 0) (Ends : Text → Type 0) (from : Text) (fault : SyntaxError) : Type 0 where
  pub used : Text
  pub rest : Text
  pub split : from ≡ used ++ rest
  pub fault_is : fault ≡ fault_at rest
  pub viable : (a : A) × (w : Text) × Part a (used ++ w)
  pub none : (a : A) (v w : Text) → Agrees rest w → Front Part Ends a v (used ++ w) → ⊥
