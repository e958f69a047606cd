-- The forms that are open while a pattern is read, the innermost first: what stands left of the part that is read
-- next. Source: own choice.
use Rattle.std.specs.Prelude.{ℕ, List, [], ◌∷◌}
use Rattle.cpn_lex.specs.Token.{PlainToken}
use Rattle.cpn_lex.specs.declared.symbols.Symbol.{Symbol}
use Rattle.cpn_lex.specs.declared.symbols.Symbol.TheVariants as sign
use Rattle.cpn_syntax.specs.Texts.{Text, Is, IsName}
use Rattle.cpn_trees.specs.Trees.{PlainPat, pat, pat_call, pat_tuple, pat_list, PlainPats, no_pat, more_pats}

-- What patterns with commas between them stand in.
pub data PlainBracket : Type 0 where
  -- ( pat {, pat} )
  round : PlainBracket
  -- [ pat {, pat} ]
  square : PlainBracket
  -- N ( pat {, pat} )
  call : List ℕ → PlainBracket

-- The number of each is the offset of the form's first token.
pub data PlainOpenPat : Type 0 where
  -- ppre :: _
  behind : ℕ → PlainPat → PlainOpenPat
  -- a bracket, {pat ,} _
  inside : PlainBracket → ℕ → List PlainPat → PlainOpenPat

abbrev pub OpenPats : Type 0
OpenPats = List PlainOpenPat

-- the tokens that open a bracket, from an offset on
pub data OpensBracket : PlainBracket → ℕ → Text → Type 0 where
  opens_round : (t : PlainToken) → Is sign.OpenParenthesis t → OpensBracket round t.at (t ∷ [])
  opens_square : (t : PlainToken) → Is sign.OpenBracket t → OpensBracket square t.at (t ∷ [])
  opens_call : {n : List ℕ} (t t1 : PlainToken) → IsName n t → Is sign.OpenParenthesis t1 → OpensBracket (call n) t.at (t ∷ t1 ∷ [])

-- the sign that closes it
abbrev pub closing : PlainBracket → Symbol
closing round = sign.CloseParenthesis
closing square = sign.CloseBracket
closing (call n) = sign.CloseParenthesis

-- the pattern that a bracket around patterns is: parentheses around one add nothing to it
abbrev pub bracketed : PlainBracket → ℕ → PlainPats → PlainPat
bracketed round at (more_pats p no_pat) = p
bracketed round at ps = pat at (pat_tuple ps)
bracketed square at ps = pat at (pat_list ps)
bracketed (call n) at ps = pat at (pat_call n ps)
