-- The small parts that the lines of the grammar are made of.
use Rattle.std.specs.Prelude.{ℕ, Bool, true, false, List, [], ◌∷◌, ◌++◌}
use Rattle.cpn_lex.specs.Token.{PlainToken}
use Rattle.cpn_lex.specs.declared.symbols.Symbol.{Symbol}
use Rattle.cpn_syntax.specs.Texts.{Text, Is, IsName}

-- one token
pub data One {A : Type 0} (Fits : A → PlainToken → Type 0) : A → Text → Type 0 where
  one : {a : A} (t : PlainToken) → Fits a t → One Fits a (t ∷ [])

-- [s], and whether it is there
pub data Optional (s : Symbol) : Bool → Text → Type 0 where
  present : (t : PlainToken) → Is s t → Optional s true (t ∷ [])
  absent : Optional s false []

-- p {s p}: one or several parts, each but the first behind a sign
pub data Each {A : Type 0} (Part : A → Text → Type 0) (s : Symbol) : List A → Text → Type 0 where
  last_one : {a : A} (u : Text) → Part a u → Each Part s (a ∷ []) u
  next_one : (t : PlainToken) {a : A} {rest : List A} (u v : Text) → Part a u → Is s t → Each Part s rest v
      → Each Part s (a ∷ rest) (u ++ t ∷ v)

-- N {s N}
abbrev pub Names : Symbol → List (List ℕ) → Text → Type 0
Names s = Each (One IsName) s
