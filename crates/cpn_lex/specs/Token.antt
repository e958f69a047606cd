-- Tokens as plain data: what a token of the program stands for.
use Rattle.std.specs.Prelude.{ℕ, ℤ, List, map, string_bytes}
use Rattle.cpn_lex.specs.declared.symbols.Symbol.{Symbol}
use Rattle.cpn_lex.specs.declared.tokens.Kind.{Kind}
use Rattle.cpn_lex.specs.declared.tokens.Token.{Token}

-- What a token is. A string is the bytes that it means.
pub data PlainKind : Type 0 where
  name : List ℕ → PlainKind
  number : ℤ → PlainKind
  text : List ℕ → PlainKind
  symbol : Symbol → PlainKind

-- A token, and the offset of its first byte.
pub record PlainToken : Type 0 where
  pub kind : PlainKind
  pub at : ℕ

-- what a token of the program stands for
abbrev pub kind_view : Kind → PlainKind
kind_view (Kind.Name s) = name (string_bytes s)
kind_view (Kind.Number z) = number z
kind_view (Kind.Text s) = text (string_bytes s)
kind_view (Kind.Symbol s) = symbol s

abbrev pub token_view : Token → PlainToken
token_view t = record { kind = kind_view t.kind; at = t.at }

abbrev pub tokens_view : List Token → List PlainToken
tokens_view = map token_view
