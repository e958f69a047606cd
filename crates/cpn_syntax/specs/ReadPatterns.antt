-- How far the reading of a pattern has come: which tokens were read until then, and which may come.
use Rattle.std.specs.Prelude.{ℕ, ◌≡◌, ◌+◌, ◌*◌, List, [], ◌∷◌, ◌++◌, length}
use Rattle.cpn_lex.specs.Token.{PlainToken}
use Rattle.cpn_lex.specs.declared.symbols.Symbol.TheVariants as sign
use Rattle.cpn_syntax.specs.Texts.{Text, Is, offset_of}
use Rattle.cpn_trees.specs.Trees.{PlainPat}
use Rattle.cpn_syntax.specs.Patterns.{SpellsPat}
use Rattle.cpn_syntax.specs.OpenPatterns.{PlainBracket, behind, inside, OpenPats, OpensBracket}
use Rattle.cpn_syntax.specs.PatternCompletions.{WantsPat, HasPat}

-- a part is to be read, or a part was read which began at an offset and binds so tightly, or the whole pattern
pub data PatState : Type 0 where
  wanting : OpenPats → PatState
  having : ℕ → ℕ → PlainPat → OpenPats → PatState
  whole : PlainPat → PatState

-- {pat ,}
pub data SpellsEach : List PlainPat → Text → Type 0 where
  none_yet : SpellsEach [] []
  with_comma : (t : PlainToken) {p : PlainPat} {parts : List PlainPat} (u v : Text) → SpellsPat 0 p u → Is sign.Comma t → SpellsEach parts v
      → SpellsEach (p ∷ parts) (u ++ t ∷ v)

-- the tokens that left these forms open
pub data Opened : OpenPats → Text → Type 0 where
  none_open : Opened [] []
  open_behind : {st : OpenPats} {p : PlainPat} {before : Text} (t : PlainToken) (u : Text) → Opened st before → SpellsPat 1 p u → Is sign.DoubleColon t
      → Opened (behind (offset_of u) p ∷ st) (before ++ u ++ t ∷ [])
  open_bracket : {st : OpenPats} {bracket : PlainBracket} {start : ℕ} {parts : List PlainPat} {before : Text} (u v : Text)
      → Opened st before → OpensBracket bracket start u → SpellsEach parts v
      → Opened (inside bracket start parts ∷ st) (before ++ u ++ v)

-- the tokens that were read
abbrev pub ReadPat : PatState → Text → Type 0
ReadPat (wanting st) text = Opened st text
ReadPat (having at k p st) text = (before : Text) × (u : Text) × Opened st before × SpellsPat k p u × (at ≡ offset_of u) × (text ≡ before ++ u)
ReadPat (whole p) text = SpellsPat 0 p text

-- the tokens that may come: with them the pattern is this one, and the text behind its arrow that one
abbrev pub TakesPat : PatState → PlainPat × Text → Text → Type 0
TakesPat (wanting st) r w = WantsPat st r w
TakesPat (having at k p st) r w = HasPat at k p st r w
TakesPat (whole p) r w = (t : PlainToken) × Is sign.Arrow t × (w ≡ t ∷ r.1) × (r.0 ≡ p)

-- how many steps are left at most: each reads a token or leaves a form
abbrev pub steps_left : PatState → Text → ℕ
steps_left (wanting st) text = 2 * length text + length st + 1
steps_left (having at k p st) text = 2 * length text + length st + 1
steps_left (whole p) text = 0
