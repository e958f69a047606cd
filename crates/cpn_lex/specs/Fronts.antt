-- What the readers of one token answer at the front of a text.
use Rattle.std.specs.Prelude.{◌≡◌, ℕ, ◌<◌, ◌≤◌, ℤ, pos, neg_ℤ, Bool, false, ◌&&◌, ◌||◌, if◌then◌else◌, List, [], ◌∷◌, length, take, drop, Option, Some, None}
use Rattle.cpn_lex.specs.declared.symbols.Symbol.{Symbol}
use Rattle.cpn_lex.specs.declared.refusals.LexError.{LexError}
use Rattle.cpn_lex.specs.declared.refusals.LexError.TheVariants.{Memory, BadByte, OpenString, NumberTooLarge, TooLong}
use Rattle.cpn_lex.specs.Symbols.{signs}
use Rattle.cpn_lex.specs.Lookup.{symbol_in}
use Rattle.cpn_lex.specs.Token.{PlainKind, name, symbol}
use Rattle.cpn_lex.specs.Lexis.{is_digit, is_letter, is_quote, is_tilde, IsToken}

-- The token at the front of the text, and how many bytes it has.
pub record Begins (bytes : List ℕ) (kind : PlainKind) (len : ℕ) : Type 0 where
  pub some : 0 < len
  pub within : len ≤ length bytes
  pub token : IsToken (take len bytes) (drop len bytes) kind

-- An error says that a rule is broken, as told; want of memory says nothing.
abbrev pub Says : (LexError → Type 0) → LexError → Type 0
Says IsBroken Memory = Unit {0}
Says IsBroken TooLong = ⊥
Says IsBroken (BadByte at) = IsBroken (BadByte at)
Says IsBroken (OpenString at) = IsBroken (OpenString at)
Says IsBroken (NumberTooLarge at) = IsBroken (NumberTooLarge at)

-- whether the first byte passes
abbrev pub begins_with : (ℕ → Bool) → List ℕ → Bool
begins_with p [] = false
begins_with p (first ∷ rest) = p first

-- whether a number begins here: a digit, or `~` and a digit
abbrev pub begins_number : List ℕ → Bool
begins_number [] = false
begins_number (first ∷ rest) = is_digit first || (is_tilde first && begins_with is_digit rest)

-- what a name is: the reserved word that was found, or a name where none was
abbrev pub named : Option Symbol → List ℕ → PlainKind
named None bytes = name bytes
named (Some word) bytes = symbol word

-- the number of a sign and a size
abbrev pub signed : Bool → ℕ → ℤ
signed is_negative size = if is_negative then neg_ℤ (pos size) else pos size

-- the sign of the first two bytes
abbrev pub long_sign : List ℕ → Option Symbol
long_sign [] = None
long_sign (first ∷ []) = None
long_sign (first ∷ second ∷ rest) = symbol_in signs (first ∷ second ∷ [])

-- No name, number or string begins here.
pub record BeginsSign (bytes : List ℕ) : Type 0 where
  pub some : 0 < length bytes
  pub no_letter : begins_with is_letter bytes ≡ false
  pub no_number : begins_number bytes ≡ false
  pub no_quote : begins_with is_quote bytes ≡ false
