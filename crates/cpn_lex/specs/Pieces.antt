-- What stands at one offset in a string.
use Rattle.std.specs.Prelude.{◌≡◌, ℕ, ◌<◌, true, false, List, length, slice_index}
use Rattle.cpn_lex.specs.declared.strings.Piece.{Piece}
use Rattle.cpn_lex.specs.declared.strings.Piece.TheVariants.{Plain, Escaped, Quote, Bad, BadEscape, End}
use Rattle.cpn_lex.specs.Lexis.{is_quote, is_backslash, is_escapable, is_plain}

-- the piece at the front of a byte and those after it
abbrev pub IsPiece : ℕ → List ℕ → Piece → Type 0
IsPiece first rest (Plain byte) = (is_plain first ≡ true) × (byte ≡ first)
IsPiece first rest (Escaped byte) = (is_backslash first ≡ true) × (0 < length rest) × (byte ≡ slice_index rest 0) × (is_escapable byte ≡ true)
IsPiece first rest Quote = is_quote first ≡ true
IsPiece first rest Bad = (is_plain first ≡ false) × (is_escapable first ≡ false)
IsPiece first rest BadEscape = (is_backslash first ≡ true) × (0 < length rest) × (is_escapable (slice_index rest 0) ≡ false)
IsPiece first rest End = (is_backslash first ≡ true) × (length rest ≡ 0)
