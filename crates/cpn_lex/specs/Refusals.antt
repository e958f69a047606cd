-- Why a text has no tokens: the first rule that it breaks, and where.
-- Source: the lexis of the inscription language, own choice.
use Rattle.std.specs.Prelude.{◌≡◌, ℕ, ℤ, ◌+◌, FitsSigned, true, false, List, [], ◌∷◌, ◌++◌}
use Rattle.std.specs.Int.{w64}
use Rattle.cpn_lex.specs.declared.refusals.LexError.{LexError}
use Rattle.cpn_lex.specs.declared.refusals.LexError.TheVariants.{BadByte, OpenString, NumberTooLarge}
use Rattle.cpn_lex.specs.Token.{PlainToken, number}
use Rattle.cpn_lex.specs.Lexis.{is_blank, is_quote, is_backslash, is_escapable, is_plain, IsToken, HasNoToken}
use Rattle.cpn_lex.specs.Tokens.{Goes}

-- In a string that opened at the first offset, what stands from the second on breaks a rule: the text ends, or a
-- byte may not stand there.
pub data BreaksString (opened : ℕ) : ℕ → List ℕ → LexError → Type 0 where
  ends : (at : ℕ) → BreaksString opened at [] (OpenString opened)
  ends_escaped : (at backslash : ℕ) → is_backslash backslash ≡ true → BreaksString opened at (backslash ∷ []) (OpenString opened)
  bad : (at byte : ℕ) (rest : List ℕ) → is_plain byte ≡ false → is_escapable byte ≡ false → BreaksString opened at (byte ∷ rest) (BadByte at)
  bad_escaped : (at backslash byte : ℕ) (rest : List ℕ) → is_backslash backslash ≡ true → is_escapable byte ≡ false → BreaksString opened at (backslash ∷ byte ∷ rest) (BadByte (at + 1))
  past : (at byte : ℕ) (rest : List ℕ) (refusal : LexError) → is_plain byte ≡ true → BreaksString opened (at + 1) rest refusal → BreaksString opened at (byte ∷ rest) refusal
  past_escaped : (at backslash byte : ℕ) (rest : List ℕ) (refusal : LexError) → is_backslash backslash ≡ true → is_escapable byte ≡ true → BreaksString opened (at + 1 + 1) rest refusal → BreaksString opened at (backslash ∷ byte ∷ rest) refusal

-- What stands at an offset breaks a rule: no token begins there, or a string that isn't closed or has a bad byte,
-- or a number that isn't within 64 bits.
pub data BreaksAt : ℕ → List ℕ → LexError → Type 0 where
  no_token : (at byte : ℕ) (rest : List ℕ) → is_blank byte ≡ false → is_quote byte ≡ false → HasNoToken (byte ∷ rest) → BreaksAt at (byte ∷ rest) (BadByte at)
  no_string : (at quote : ℕ) (rest : List ℕ) (refusal : LexError) → is_quote quote ≡ true → BreaksString at (at + 1) rest refusal → BreaksAt at (quote ∷ rest) refusal
  too_large : (at : ℕ) (front rest : List ℕ) (z : ℤ) → IsToken front rest (number z) → (FitsSigned w64 z → ⊥) → BreaksAt at (front ++ rest) (NumberTooLarge at)

-- The first rule that a text breaks: up to there it is tokens and blanks.
pub record Breaks (text : List ℕ) (refusal : LexError) : Type 0 where
  pub tokens : List PlainToken
  pub at : ℕ
  pub rest : List ℕ
  pub goes : Goes 0 text tokens at rest
  pub breaks : BreaksAt at rest refusal
