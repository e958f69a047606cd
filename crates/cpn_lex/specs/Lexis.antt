-- How each kind of token is spelled, and which one stands at the front of a text.
-- Source: the lexis of the inscription language, own choice after CPN ML.
use Rattle.std.specs.Prelude.{◌≡◌, ◌≢◌, ℕ, ℤ, pos, neg_ℤ, FitsSigned, Bool, true, not, ◌&&◌, ◌||◌, ◌==◌, nat_le, List, [], ◌∷◌, ◌++◌}
use Rattle.std.specs.Int.{w64}
use Rattle.std.specs.List.{list_all}
use Rattle.std.specs.Str.Parse.{digits_value}
use Rattle.cpn_lex.specs.declared.symbols.Symbol.{Symbol}
use Rattle.cpn_lex.specs.Symbols.{spelling}
use Rattle.cpn_lex.specs.Token.{PlainKind, name, number, text, symbol}

-- ---- bytes

-- a space, a tab, a line feed, a carriage return
abbrev pub is_blank : ℕ → Bool
is_blank byte = byte == 0x20 || byte == 0x09 || byte == 0x0A || byte == 0x0D

abbrev pub is_digit : ℕ → Bool
is_digit byte = nat_le 0x30 byte && nat_le byte 0x39

abbrev pub is_letter : ℕ → Bool
is_letter byte = (nat_le 0x41 byte && nat_le byte 0x5A) || (nat_le 0x61 byte && nat_le byte 0x7A)

-- a letter, a digit, `_`
abbrev pub is_name_byte : ℕ → Bool
is_name_byte byte = is_letter byte || is_digit byte || byte == 0x5F

abbrev pub is_tilde : ℕ → Bool
is_tilde byte = byte == 0x7E

abbrev pub is_quote : ℕ → Bool
is_quote byte = byte == 0x22

abbrev pub is_backslash : ℕ → Bool
is_backslash byte = byte == 0x5C

-- what may follow a backslash in a string
abbrev pub is_escapable : ℕ → Bool
is_escapable byte = is_quote byte || is_backslash byte

-- what stands for itself in a string
abbrev pub is_plain : ℕ → Bool
is_plain byte = nat_le 0x20 byte && nat_le byte 0x7E && not (is_escapable byte)

-- ---- tokens

-- A name: a letter, then letters, digits and `_`.
abbrev pub IsName : List ℕ → Type 0
IsName [] = ⊥
IsName (first ∷ rest) = (is_letter first ≡ true) × (list_all is_name_byte rest ≡ true)

-- one digit or more
abbrev pub AreDigits : List ℕ → Type 0
AreDigits [] = ⊥
AreDigits (first ∷ rest) = (is_digit first ≡ true) × (list_all is_digit rest ≡ true)

-- A number: digits, or `~` directly followed by digits, for the negative one.
pub data IsNumber : List ℕ → ℤ → Type 0 where
  not_negative : (digits : List ℕ) → AreDigits digits → IsNumber digits (pos (digits_value 10 digits))
  negative : (tilde : ℕ) (digits : List ℕ) → is_tilde tilde ≡ true → AreDigits digits → IsNumber (tilde ∷ digits) (neg_ℤ (pos (digits_value 10 digits)))

-- What follows the opening quote of a string, up to its closing quote, and the bytes that the string means:
-- `\"` stands for `"`, and `\\` for `\`.
pub data Closes : List ℕ → List ℕ → Type 0 where
  closed : (quote : ℕ) → is_quote quote ≡ true → Closes (quote ∷ []) []
  plain : (byte : ℕ) (rest meant : List ℕ) → is_plain byte ≡ true → Closes rest meant → Closes (byte ∷ rest) (byte ∷ meant)
  escaped : (backslash byte : ℕ) (rest meant : List ℕ) → is_backslash backslash ≡ true → is_escapable byte ≡ true → Closes rest meant → Closes (backslash ∷ byte ∷ rest) (byte ∷ meant)

-- A string, and the bytes that it means.
abbrev pub IsString : List ℕ → List ℕ → Type 0
IsString [] meant = ⊥
IsString (first ∷ rest) meant = (is_quote first ≡ true) × Closes rest meant

-- These bytes spell a token of this kind. A reserved word is no name.
pub data Spells : List ℕ → PlainKind → Type 0 where
  a_name : (bytes : List ℕ) → IsName bytes → ((s : Symbol) → spelling s ≢ bytes) → Spells bytes (name bytes)
  a_number : (bytes : List ℕ) (z : ℤ) → IsNumber bytes z → Spells bytes (number z)
  a_string : (bytes meant : List ℕ) → IsString bytes meant → Spells bytes (text meant)
  a_symbol : (bytes : List ℕ) (s : Symbol) → spelling s ≡ bytes → Spells bytes (symbol s)

-- ---- the token at the front of a text

-- Longest: with what follows them, no more bytes than these spell a token.
abbrev pub IsLongest : List ℕ → List ℕ → Type 0
IsLongest front rest = (byte : ℕ) (more after : List ℕ) (kind : PlainKind) → rest ≡ byte ∷ more ++ after → Spells (front ++ byte ∷ more) kind → ⊥

-- The token at the front of a text: the bytes that spell it, what follows them, and what it is.
pub record IsToken (front rest : List ℕ) (kind : PlainKind) : Type 0 where
  pub spelled : Spells front kind
  pub longest : IsLongest front rest

-- No token stands at the front of the text.
abbrev pub HasNoToken : List ℕ → Type 0
HasNoToken bytes = (front rest : List ℕ) (kind : PlainKind) → bytes ≡ front ++ rest → Spells front kind → ⊥

-- A number has to be within 64 bits.
abbrev pub Fits : PlainKind → Type 0
Fits (number z) = FitsSigned w64 z
Fits (name bytes) = Unit {0}
Fits (text meant) = Unit {0}
Fits (symbol s) = Unit {0}
