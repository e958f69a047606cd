-- The grammar of patterns: SpellsPat l p u says that the tokens u spell the pattern p, which binds at least as
-- tightly as l: 0 for any pattern, 1 for one that may stand in front of `::`. One case for each line:
--
--   pat  := ppre [:: pat]
--   ppre := N | _ | num | string | true | false | N ( pat {, pat} )
--         | ( ) | ( pat {, pat} ) | [ [pat {, pat}] ]
--
-- Parentheses around one pattern add nothing to its tree. Source: own choice after CPN ML.
use Rattle.std.specs.Prelude.{ℕ, ℤ, ◌≤◌, true, false, List, [], ◌∷◌, ◌++◌}
use Rattle.cpn_lex.specs.Token.{PlainToken}
use Rattle.cpn_lex.specs.declared.symbols.Symbol.TheVariants as sign
use Rattle.cpn_syntax.specs.Texts.{Text, Is, IsName, IsNumber, IsText, offset_of}
use Rattle.cpn_trees.specs.Trees.{PlainPat, pat, any, pat_name, pat_number, pat_text, pat_truth, pat_call, pat_unit, pat_tuple, pat_list, pat_cons, PlainPats, no_pat, more_pats}

mutual
  pub data SpellsPat : ℕ → PlainPat → Text → Type 0 where
    -- pat := ppre :: pat
    cons_line : (t : PlainToken) {p q : PlainPat} (u v : Text) → SpellsPat 1 p u → Is sign.DoubleColon t → SpellsPat 0 q v
        → SpellsPat 0 (pat (offset_of u) (pat_cons p q)) (u ++ t ∷ v)
    -- ppre := N
    name_line : {l : ℕ} (t : PlainToken) {n : List ℕ} → l ≤ 1 → IsName n t → SpellsPat l (pat t.at (pat_name n)) (t ∷ [])
    -- ppre := _
    any_line : {l : ℕ} (t : PlainToken) → l ≤ 1 → Is sign.Underscore t → SpellsPat l (pat t.at any) (t ∷ [])
    -- ppre := num
    number_line : {l : ℕ} (t : PlainToken) {z : ℤ} → l ≤ 1 → IsNumber z t → SpellsPat l (pat t.at (pat_number z)) (t ∷ [])
    -- ppre := string
    text_line : {l : ℕ} (t : PlainToken) {bytes : List ℕ} → l ≤ 1 → IsText bytes t → SpellsPat l (pat t.at (pat_text bytes)) (t ∷ [])
    -- ppre := true | false
    true_line : {l : ℕ} (t : PlainToken) → l ≤ 1 → Is sign.True t → SpellsPat l (pat t.at (pat_truth true)) (t ∷ [])
    false_line : {l : ℕ} (t : PlainToken) → l ≤ 1 → Is sign.False t → SpellsPat l (pat t.at (pat_truth false)) (t ∷ [])
    -- ppre := N ( pat {, pat} )
    call_line : {l : ℕ} (t t1 t2 : PlainToken) {n : List ℕ} {ps : PlainPats} (u : Text) → l ≤ 1
        → IsName n t → Is sign.OpenParenthesis t1 → SpellsPats ps u → Is sign.CloseParenthesis t2
        → SpellsPat l (pat t.at (pat_call n ps)) (t ∷ t1 ∷ u ++ t2 ∷ [])
    -- ppre := ( )
    unit_line : {l : ℕ} (t1 t2 : PlainToken) → l ≤ 1 → Is sign.OpenParenthesis t1 → Is sign.CloseParenthesis t2
        → SpellsPat l (pat t1.at pat_unit) (t1 ∷ t2 ∷ [])
    -- ppre := ( pat )
    group_line : {l : ℕ} (t1 t2 : PlainToken) {p : PlainPat} (u : Text) → l ≤ 1
        → Is sign.OpenParenthesis t1 → SpellsPat 0 p u → Is sign.CloseParenthesis t2
        → SpellsPat l p (t1 ∷ u ++ t2 ∷ [])
    -- ppre := ( pat , pat {, pat} )
    tuple_line : {l : ℕ} (t1 t2 t3 : PlainToken) {p : PlainPat} {ps : PlainPats} (u v : Text) → l ≤ 1
        → Is sign.OpenParenthesis t1 → SpellsPat 0 p u → Is sign.Comma t2 → SpellsPats ps v → Is sign.CloseParenthesis t3
        → SpellsPat l (pat t1.at (pat_tuple (more_pats p ps))) (t1 ∷ u ++ t2 ∷ v ++ t3 ∷ [])
    -- ppre := [ ]
    no_items_line : {l : ℕ} (t1 t2 : PlainToken) → l ≤ 1 → Is sign.OpenBracket t1 → Is sign.CloseBracket t2
        → SpellsPat l (pat t1.at (pat_list no_pat)) (t1 ∷ t2 ∷ [])
    -- ppre := [ pat {, pat} ]
    items_line : {l : ℕ} (t1 t2 : PlainToken) {ps : PlainPats} (u : Text) → l ≤ 1
        → Is sign.OpenBracket t1 → SpellsPats ps u → Is sign.CloseBracket t2
        → SpellsPat l (pat t1.at (pat_list ps)) (t1 ∷ u ++ t2 ∷ [])

  -- pat {, pat}
  pub data SpellsPats : PlainPats → Text → Type 0 where
    last_pat : {p : PlainPat} (u : Text) → SpellsPat 0 p u → SpellsPats (more_pats p no_pat) u
    next_pat : (t : PlainToken) {p : PlainPat} {ps : PlainPats} (u v : Text) → SpellsPat 0 p u → Is sign.Comma t → SpellsPats ps v
        → SpellsPats (more_pats p ps) (u ++ t ∷ v)
