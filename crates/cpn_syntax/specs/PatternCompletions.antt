-- Which tokens complete the forms that are open, and an arrow behind them: to which pattern, and to which text behind
-- the arrow. WantsPat says so where a part is to be read next, HasPat where a part was read: it began at an offset
-- and binds so tightly. Source: own choice.
use Rattle.std.specs.Prelude.{ℕ, ℤ, ◌≤◌, true, false, List, [], ◌∷◌, ◌++◌}
use Rattle.cpn_lex.specs.Token.{PlainToken}
use Rattle.cpn_lex.specs.declared.symbols.Symbol.TheVariants as sign
use Rattle.cpn_syntax.specs.Texts.{Text, Is, IsName, IsNumber, IsText, offset_of}
use Rattle.cpn_trees.specs.Trees.{PlainPat, pat, PlainPatForm, any, pat_name, pat_number, pat_text, pat_truth, pat_unit, pat_list, pat_cons, no_pat, pats_from}
use Rattle.cpn_syntax.specs.OpenPatterns.{PlainBracket, behind, inside, OpenPats, OpensBracket, closing, bracketed}

-- a part with no patterns in it
pub data SpellsSimple : PlainPatForm → Text → Type 0 where
  a_name : {n : List ℕ} (t : PlainToken) → IsName n t → SpellsSimple (pat_name n) (t ∷ [])
  an_underscore : (t : PlainToken) → Is sign.Underscore t → SpellsSimple any (t ∷ [])
  a_number : {z : ℤ} (t : PlainToken) → IsNumber z t → SpellsSimple (pat_number z) (t ∷ [])
  a_text : {bytes : List ℕ} (t : PlainToken) → IsText bytes t → SpellsSimple (pat_text bytes) (t ∷ [])
  a_true : (t : PlainToken) → Is sign.True t → SpellsSimple (pat_truth true) (t ∷ [])
  a_false : (t : PlainToken) → Is sign.False t → SpellsSimple (pat_truth false) (t ∷ [])
  a_unit : (t1 t2 : PlainToken) → Is sign.OpenParenthesis t1 → Is sign.CloseParenthesis t2 → SpellsSimple pat_unit (t1 ∷ t2 ∷ [])
  no_items : (t1 t2 : PlainToken) → Is sign.OpenBracket t1 → Is sign.CloseBracket t2 → SpellsSimple (pat_list no_pat) (t1 ∷ t2 ∷ [])

mutual
  pub data WantsPat : OpenPats → PlainPat × Text → Text → Type 0 where
    simple : {st : OpenPats} {r : PlainPat × Text} {form : PlainPatForm} {w : Text} (u : Text) → SpellsSimple form u
        → HasPat (offset_of u) 1 (pat (offset_of u) form) st r w
        → WantsPat st r (u ++ w)
    begin_bracket : {st : OpenPats} {r : PlainPat × Text} {bracket : PlainBracket} {start : ℕ} {w : Text} (u : Text) → OpensBracket bracket start u
        → WantsPat (inside bracket start [] ∷ st) r w
        → WantsPat st r (u ++ w)

  pub data HasPat : ℕ → ℕ → PlainPat → OpenPats → PlainPat × Text → Text → Type 0 where
    -- `::` takes the part as the item in front
    cons_sign : {at k : ℕ} {p : PlainPat} {st : OpenPats} {r : PlainPat × Text} {w : Text} (t : PlainToken) → 1 ≤ k → Is sign.DoubleColon t
        → WantsPat (behind at p ∷ st) r w
        → HasPat at k p st r (t ∷ w)
    end_cons : {at k start : ℕ} {p q : PlainPat} {st : OpenPats} {r : PlainPat × Text} {w : Text}
        → HasPat start 0 (pat start (pat_cons q p)) st r w
        → HasPat at k p (behind start q ∷ st) r w
    next_inside : {at k start : ℕ} {p : PlainPat} {bracket : PlainBracket} {parts : List PlainPat} {st : OpenPats} {r : PlainPat × Text} {w : Text} (t : PlainToken)
        → Is sign.Comma t
        → WantsPat (inside bracket start (parts ++ p ∷ []) ∷ st) r w
        → HasPat at k p (inside bracket start parts ∷ st) r (t ∷ w)
    end_bracket : {at k start : ℕ} {p : PlainPat} {bracket : PlainBracket} {parts : List PlainPat} {st : OpenPats} {r : PlainPat × Text} {w : Text} (t : PlainToken)
        → Is (closing bracket) t
        → HasPat start 1 (bracketed bracket start (pats_from (parts ++ p ∷ []))) st r w
        → HasPat at k p (inside bracket start parts ∷ st) r (t ∷ w)
    -- nothing is open
    end_pattern : {at k : ℕ} {p : PlainPat} {w : Text} (t : PlainToken) → Is sign.Arrow t → HasPat at k p [] (p, w) (t ∷ w)
