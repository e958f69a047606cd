-- Texts as the tokens that they are made of, and the tokens that the grammar names.
use Rattle.std.specs.Prelude.{ℕ, ℤ, ◌≡◌, List, [], ◌∷◌}
use Rattle.cpn_lex.specs.Token.{PlainToken}
use Rattle.cpn_lex.specs.Token as token
use Rattle.cpn_lex.specs.declared.symbols.Symbol.{Symbol}

abbrev pub Text : Type 0
Text = List PlainToken

-- a sign or a reserved word
abbrev pub Is : Symbol → PlainToken → Type 0
Is s t = t.kind ≡ token.symbol s

-- N, num and string of the grammar
abbrev pub IsName : List ℕ → PlainToken → Type 0
IsName n t = t.kind ≡ token.name n

abbrev pub IsNumber : ℤ → PlainToken → Type 0
IsNumber z t = t.kind ≡ token.number z

abbrev pub IsText : List ℕ → PlainToken → Type 0
IsText bytes t = t.kind ≡ token.text bytes

-- where a text begins: the offset of its first token
abbrev pub offset_of : Text → ℕ
offset_of [] = 0
offset_of (t ∷ rest) = t.at
