-- What the next token says of a text that completes the open forms of a pattern: begins_pat where a part is wanted,
-- goes_on where one was read that no `::` takes.
use Rattle.std.proofs.Common.{◌≡◌, ℕ, ◌≤◌, ◌⊎◌, inl, inr, true, false, [], ◌∷◌, ◌++◌, refl, arith}
use Rattle.cpn_lex.specs.Token.{PlainToken, PlainKind}
use Rattle.cpn_lex.specs.Token as token
use Rattle.cpn_lex.specs.declared.symbols.Symbol.{Symbol}
use Rattle.cpn_lex.specs.declared.symbols.Symbol.TheVariants as sign
use Rattle.cpn_syntax.specs.Texts.{Text, Is}
use Rattle.cpn_syntax.specs.Unread.{Begins}
use Rattle.cpn_trees.specs.Trees.{PlainPat, pat, any, pat_name, pat_number, pat_text, pat_truth, pat_unit, pat_list, pat_cons, no_pat, pats_from}
use Rattle.cpn_syntax.specs.OpenPatterns.{PlainBracket, round, square, call, behind, inside, OpenPats, opens_round, opens_square, opens_call, closing, bracketed}
use Rattle.cpn_syntax.specs.PatternCompletions.{a_name, an_underscore, a_number, a_text, a_true, a_false, a_unit, no_items, WantsPat, simple, begin_bracket, HasPat, cons_sign, end_cons, next_inside, end_bracket, end_pattern}

-- the next token is this symbol, and the text behind it is as said
abbrev pub Next : Symbol → (Text → Type 0) → Text → Type 0
Next s After w = (t : PlainToken) × (rest : Text) × Is s t × (w ≡ t ∷ rest) × After rest

-- ---- where a part is wanted

abbrev pub BeginsBySign : OpenPats → PlainPat × Text → Symbol → ℕ → Text → Type 0
BeginsBySign st r sign.Underscore at w = HasPat at 1 (pat at any) st r w
BeginsBySign st r sign.True at w = HasPat at 1 (pat at (pat_truth true)) st r w
BeginsBySign st r sign.False at w = HasPat at 1 (pat at (pat_truth false)) st r w
BeginsBySign st r sign.OpenParenthesis at w = Next sign.CloseParenthesis (HasPat at 1 (pat at pat_unit) st r) w ⊎ WantsPat (inside round at [] ∷ st) r w
BeginsBySign st r sign.OpenBracket at w = Next sign.CloseBracket (HasPat at 1 (pat at (pat_list no_pat)) st r) w ⊎ WantsPat (inside square at [] ∷ st) r w
BeginsBySign st r _ at w = ⊥

abbrev pub BeginsByKind : OpenPats → PlainPat × Text → PlainKind → ℕ → Text → Type 0
BeginsByKind st r (token.name n) at w = HasPat at 1 (pat at (pat_name n)) st r w ⊎ Next sign.OpenParenthesis (WantsPat (inside (call n) at [] ∷ st) r) w
BeginsByKind st r (token.number z) at w = HasPat at 1 (pat at (pat_number z)) st r w
BeginsByKind st r (token.text bytes) at w = HasPat at 1 (pat at (pat_text bytes)) st r w
BeginsByKind st r (token.symbol s) at w = BeginsBySign st r s at w

abbrev pub BeginsPat : OpenPats → PlainPat × Text → Text → Type 0
BeginsPat st r [] = ⊥
BeginsPat st r (t ∷ w) = BeginsByKind st r t.kind t.at w

pub begins_pat : {st : OpenPats} {r : PlainPat × Text} {w : Text} → WantsPat st r w → BeginsPat st r w
begins_pat (simple _ (a_name t is) more) = rw is (inl more)
begins_pat (simple _ (an_underscore t is) more) = rw is more
begins_pat (simple _ (a_number t is) more) = rw is more
begins_pat (simple _ (a_text t is) more) = rw is more
begins_pat (simple _ (a_true t is) more) = rw is more
begins_pat (simple _ (a_false t is) more) = rw is more
begins_pat (simple {w = w} _ (a_unit t1 t2 opens closes) more) = rw opens (inl (t2, w, closes, refl, more))
begins_pat (simple {w = w} _ (no_items t1 t2 opens closes) more) = rw opens (inl (t2, w, closes, refl, more))
begins_pat (begin_bracket _ (opens_round t is) more) = rw is (inr more)
begins_pat (begin_bracket _ (opens_square t is) more) = rw is (inr more)
begins_pat (begin_bracket {w = w} _ (opens_call t t1 is opens) more) = rw is (inr (t1, w, opens, refl, more))

-- a sign that begins no part
pub begins_no_part : (st : OpenPats) (r : PlainPat × Text) (s : Symbol) (at : ℕ) (w : Text)
    → (s ≡ sign.Underscore → ⊥) → (s ≡ sign.True → ⊥) → (s ≡ sign.False → ⊥) → (s ≡ sign.OpenParenthesis → ⊥) → (s ≡ sign.OpenBracket → ⊥)
    → BeginsBySign st r s at w → ⊥
begins_no_part st r sign.Underscore at w no1 no2 no3 no4 no5 h = no1 refl
begins_no_part st r sign.True at w no1 no2 no3 no4 no5 h = no2 refl
begins_no_part st r sign.False at w no1 no2 no3 no4 no5 h = no3 refl
begins_no_part st r sign.OpenParenthesis at w no1 no2 no3 no4 no5 h = no4 refl
begins_no_part st r sign.OpenBracket at w no1 no2 no3 no4 no5 h = no5 refl
begins_no_part st r _ at w no1 no2 no3 no4 no5 h = h

-- ---- where a part was read

-- a part that no `::` takes
pub no_cons : {at k : ℕ} {p : PlainPat} {st : OpenPats} {r : PlainPat × Text} {w : Text} → (1 ≤ k → Begins (Is sign.DoubleColon) w → ⊥) → HasPat at k p st r w → HasPat at 0 p st r w
no_cons none (cons_sign t le is more) = absurd (none le is)
no_cons none (end_cons more) = end_cons more
no_cons none (next_inside t is more) = next_inside t is more
no_cons none (end_bracket t is more) = end_bracket t is more
no_cons none (end_pattern t is) = end_pattern t is

abbrev pub GoesOn : PlainPat → OpenPats → PlainPat × Text → Text → Type 0
GoesOn p [] r w = (t : PlainToken) × Is sign.Arrow t × (w ≡ t ∷ r.1) × (r.0 ≡ p)
GoesOn p (behind start q ∷ st) r w = HasPat start 0 (pat start (pat_cons q p)) st r w
GoesOn p (inside bracket start parts ∷ st) r w =
    Next sign.Comma (WantsPat (inside bracket start (parts ++ p ∷ []) ∷ st) r) w
    ⊎ Next (closing bracket) (HasPat start 1 (bracketed bracket start (pats_from (parts ++ p ∷ []))) st r) w

pub goes_on : {at : ℕ} {p : PlainPat} {st : OpenPats} {r : PlainPat × Text} {w : Text} → HasPat at 0 p st r w → GoesOn p st r w
goes_on (cons_sign t le is more) = absurd (omega arith)
goes_on (end_cons more) = more
goes_on (next_inside {w = w} t is more) = inl (t, w, is, refl, more)
goes_on (end_bracket {w = w} t is more) = inr (t, w, is, refl, more)
goes_on (end_pattern t is) = (t, is, refl, refl)

-- a sign that closes no bracket
pub closes_none : (bracket : PlainBracket) (t : PlainToken) (s : Symbol) → (sign.CloseParenthesis ≡ s → ⊥) → (sign.CloseBracket ≡ s → ⊥) → Is (closing bracket) t → Is s t → ⊥
closes_none round t s no1 no2 closes is = no1 cc
closes_none square t s no1 no2 closes is = no2 cc
closes_none (call n) t s no1 no2 closes is = no1 cc

-- what never follows a part: an open parenthesis
pub no_parenthesis : {at k : ℕ} {p : PlainPat} {st : OpenPats} {r : PlainPat × Text} {w : Text} → HasPat at k p st r w → Begins (Is sign.OpenParenthesis) w → ⊥
no_parenthesis (cons_sign t le is more) opens = cc
no_parenthesis (end_cons more) opens = no_parenthesis more opens
no_parenthesis (next_inside t is more) opens = cc
no_parenthesis (end_bracket {bracket = b} t is more) opens = closes_none b t sign.OpenParenthesis (λ e. cc) (λ e. cc) is opens
no_parenthesis (end_pattern t is) opens = cc

-- only a part that binds tightly is taken by `::`
tight : {at k : ℕ} {p : PlainPat} {st : OpenPats} {r : PlainPat × Text} {t : PlainToken} {w : Text} → HasPat at k p st r (t ∷ w) → Is sign.DoubleColon t → 1 ≤ k
tight (cons_sign t le is more) cons = le
tight (end_cons more) cons = let no : 1 ≤ 0 = tight more cons in absurd (omega arith)
tight (next_inside t is more) cons = cc
tight (end_bracket {bracket = b} t is more) cons = absurd (closes_none b t sign.DoubleColon (λ e. cc) (λ e. cc) is cons)
tight (end_pattern t is) cons = cc

pub takes_cons : {at k : ℕ} {p : PlainPat} {st : OpenPats} {r : PlainPat × Text} {t : PlainToken} {w : Text} → HasPat at k p st r (t ∷ w) → Is sign.DoubleColon t → WantsPat (behind at p ∷ st) r w
takes_cons (cons_sign t le is more) cons = more
takes_cons (end_cons more) cons = let no : 1 ≤ 0 = tight more cons in absurd (omega arith)
takes_cons (next_inside t is more) cons = cc
takes_cons (end_bracket {bracket = b} t is more) cons = absurd (closes_none b t sign.DoubleColon (λ e. cc) (λ e. cc) is cons)
takes_cons (end_pattern t is) cons = cc
