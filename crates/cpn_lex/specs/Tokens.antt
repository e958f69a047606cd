-- The tokens of a text. Source: the lexis of the inscription language, own choice after CPN ML.
use Rattle.std.specs.Prelude.{◌≡◌, ℕ, ◌+◌, true, List, [], ◌∷◌, ◌++◌, length}
use Rattle.cpn_lex.specs.Token.{PlainKind, PlainToken}
use Rattle.cpn_lex.specs.Lexis.{is_blank, IsToken, Fits}

-- From an offset on, a text is these tokens, with blanks round them, up to an end from which the rest is left.
pub data Goes : ℕ → List ℕ → List PlainToken → ℕ → List ℕ → Type 0 where
  stops : (at : ℕ) (text : List ℕ) → Goes at text [] at text
  blank : (at byte : ℕ) (text : List ℕ) (tokens : List PlainToken) (end : ℕ) (rest : List ℕ) →
      is_blank byte ≡ true → Goes (at + 1) text tokens end rest → Goes at (byte ∷ text) tokens end rest
  token : (at : ℕ) (front text : List ℕ) (kind : PlainKind) (tokens : List PlainToken) (end : ℕ) (rest : List ℕ) →
      IsToken front text kind → Fits kind → Goes (at + length front) text tokens end rest →
      Goes at (front ++ text) (record { kind = kind; at = at } ∷ tokens) end rest

-- Tokens: the text is these tokens to its end.
abbrev pub Lexes : List ℕ → List PlainToken → Type 0
Lexes text tokens = Goes 0 text tokens (length text) []
