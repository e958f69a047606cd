-- Worked rows of the definitions.
use Rattle.std.proofs.Common.{true, [], ◌∷◌, refl}
use Rattle.std.specs.Prelude.{negsuc, codes}
use Rattle.std.proofs.Common.{lit<}
use Rattle.cpn_lex.specs.declared.symbols.Symbol.TheVariants.{Tilde}
use Rattle.cpn_lex.specs.declared.refusals.LexError.TheVariants.{BadByte, OpenString}
use Rattle.cpn_lex.specs.Lookup.{symbol_in}
use Rattle.cpn_lex.specs.Token.{name, number, text, symbol}
use Rattle.cpn_lex.specs.Lexis.{closed, plain, escaped, Spells, a_number, a_string, negative}
use Rattle.cpn_lex.specs.Tokens.{stops, blank, token, Lexes}
use Rattle.cpn_lex.specs.Refusals.{ends, past, bad_escaped, BreaksAt, no_string, Breaks}
use Rattle.cpn_lex.proofs.ByteRuns.{name_begins, number_begins}
use Rattle.cpn_lex.proofs.LongestSigns.{one_begins}

-- `~5` spells -5
tilde_five : Spells (codes "~5") (number (negsuc 4))
tilde_five = a_number (codes "~5") (negsuc 4) (negative 0x7E (codes "5") refl (refl, refl))

-- a quote, `a\"b` and a quote spell the string `a"b`
escaped_quote : Spells (0x22 ∷ 0x61 ∷ 0x5C ∷ 0x22 ∷ 0x62 ∷ 0x22 ∷ []) (text (0x61 ∷ 0x22 ∷ 0x62 ∷ []))
escaped_quote = a_string _ _ (refl, plain 0x61 _ _ refl (escaped 0x5C 0x22 _ _ refl refl (plain 0x62 _ _ refl (closed 0x22 refl))))

-- `~5 ~x` is -5, `~` and x
two_tildes : Lexes (codes "~5 ~x") (record { kind = number (negsuc 4); at = 0 } ∷ record { kind = symbol Tilde; at = 3 } ∷ record { kind = name (codes "x"); at = 4 } ∷ [])
unfolding symbol_in
two_tildes =
    token 0 (codes "~5") (codes " ~x") (number (negsuc 4)) _ 5 [] (number_begins (codes "~5 ~x") refl true refl 1 refl).token (record { sfits = lit< tt })
    (blank 2 0x20 (codes "~x") _ 5 [] refl
    (token 3 (codes "~") (codes "x") (symbol Tilde) _ 5 [] (one_begins (codes "~x") Tilde refl refl (record { some = lit< tt; no_letter = refl; no_number = refl; no_quote = refl })).token tt
    (token 4 (codes "x") [] (name (codes "x")) [] 5 [] (name_begins (codes "x") refl).token tt (stops 5 []))))

-- a and a string that isn't closed
open_string : Breaks (0x61 ∷ 0x22 ∷ 0x62 ∷ []) (OpenString 1)
unfolding symbol_in
open_string = record {
  tokens = record { kind = name (codes "a"); at = 0 } ∷ [];
  at = 1;
  rest = 0x22 ∷ 0x62 ∷ [];
  goes = token 0 (codes "a") (0x22 ∷ 0x62 ∷ []) (name (codes "a")) [] 1 (0x22 ∷ 0x62 ∷ []) (name_begins (0x61 ∷ 0x22 ∷ 0x62 ∷ []) refl).token tt (stops 1 (0x22 ∷ 0x62 ∷ []));
  breaks = no_string 1 0x22 (0x62 ∷ []) (OpenString 1) refl (past 2 0x62 [] (OpenString 1) refl (ends 3));
}

-- a quote and `a\x`: the x may not stand behind the backslash
bad_escape : BreaksAt 0 (0x22 ∷ 0x61 ∷ 0x5C ∷ 0x78 ∷ []) (BadByte 3)
bad_escape = no_string 0 0x22 _ (BadByte 3) refl (past 1 0x61 _ (BadByte 3) refl (bad_escaped 2 0x5C 0x78 [] refl refl))
