-- What the reader of tokens has not read yet.
use Rattle.std.specs.Prelude.{◌≡◌, [], ◌∷◌}
use Rattle.cpn_lex.specs.Token.{PlainToken, tokens_view}
use Rattle.cpn_syntax.specs.declared.readers.Reader.{Reader}
use Rattle.cpn_syntax.specs.Texts.{Text}

-- the tokens that are not read yet
abbrev pub unread : Reader → Text
unread r = tokens_view r.rest.now

-- one token was read, and it fits
abbrev pub Reads : (PlainToken → Type 0) → Text → Text → Type 0
Reads fits old new = (t : PlainToken) × fits t × (old ≡ t ∷ new)

-- the next token fits
abbrev pub Begins : (PlainToken → Type 0) → Text → Type 0
Begins fits [] = ⊥
Begins fits (t ∷ rest) = fits t
