-- What the tokens spell that were read of a pattern, and that each beginning of one goes on to a pattern.
use Rattle.std.proofs.Common.{◌≡◌, ℕ, ◌≤◌, List, [], ◌∷◌, ◌++◌, refl, append_assoc, append-nil, arith}
use Rattle.cpn_lex.specs.Token.{PlainToken}
use Rattle.cpn_lex.specs.Token as token
use Rattle.cpn_lex.specs.declared.symbols.Symbol.{Symbol}
use Rattle.cpn_lex.specs.declared.symbols.Symbol.TheVariants as sign
use Rattle.cpn_syntax.specs.Texts.{Text, Is, offset_of}
use Rattle.cpn_trees.specs.Trees.{PlainPat, pat, PlainPatForm, PlainPats, pats_from}
use Rattle.cpn_syntax.specs.Patterns.{SpellsPat, cons_line, name_line, any_line, number_line, text_line, true_line, false_line, call_line, unit_line, group_line, tuple_line, no_items_line, items_line, SpellsPats, last_pat, next_pat}
use Rattle.cpn_syntax.specs.OpenPatterns.{PlainBracket, OpenPats, OpensBracket, opens_round, opens_square, opens_call, closing, bracketed}
use Rattle.cpn_syntax.specs.PatternCompletions.{SpellsSimple, a_name, an_underscore, a_number, a_text, a_true, a_false, a_unit, no_items}
use Rattle.cpn_syntax.specs.ReadPatterns.{SpellsEach, none_yet, with_comma, Opened, none_open, open_behind, open_bracket}
use Rattle.cpn_syntax.specs.PatternReadings.{IsPattern}
use Rattle.cpn_syntax.proofs.PatternCompletions.{tuple_tree}

-- what binds tightly serves where less is wanted
pub pat_down : {l m : ℕ} {p : PlainPat} {u : Text} → m ≤ l → SpellsPat l p u → SpellsPat m p u
pat_down {m = m} le (cons_line t u v head is tail) = let none : m ≡ 0 = omega arith in rw none (cons_line t u v head is tail)
pat_down le (name_line t l is) = name_line t (omega arith) is
pat_down le (any_line t l is) = any_line t (omega arith) is
pat_down le (number_line t l is) = number_line t (omega arith) is
pat_down le (text_line t l is) = text_line t (omega arith) is
pat_down le (true_line t l is) = true_line t (omega arith) is
pat_down le (false_line t l is) = false_line t (omega arith) is
pat_down le (call_line t t1 t2 u l is opens parts closes) = call_line t t1 t2 u (omega arith) is opens parts closes
pat_down le (unit_line t1 t2 l opens closes) = unit_line t1 t2 (omega arith) opens closes
pat_down le (group_line t1 t2 u l opens p closes) = group_line t1 t2 u (omega arith) opens p closes
pat_down le (tuple_line t1 t2 t3 u v l opens first comma parts closes) = tuple_line t1 t2 t3 u v (omega arith) opens first comma parts closes
pat_down le (no_items_line t1 t2 l opens closes) = no_items_line t1 t2 (omega arith) opens closes
pat_down le (items_line t1 t2 u l opens parts closes) = items_line t1 t2 u (omega arith) opens parts closes

pub spells_simple : {form : PlainPatForm} {u : Text} → SpellsSimple form u → SpellsPat 1 (pat (offset_of u) form) u
spells_simple (a_name t is) = name_line t (omega arith) is
spells_simple (an_underscore t is) = any_line t (omega arith) is
spells_simple (a_number t is) = number_line t (omega arith) is
spells_simple (a_text t is) = text_line t (omega arith) is
spells_simple (a_true t is) = true_line t (omega arith) is
spells_simple (a_false t is) = false_line t (omega arith) is
spells_simple (a_unit t1 t2 opens closes) = unit_line t1 t2 (omega arith) opens closes
spells_simple (no_items t1 t2 opens closes) = no_items_line t1 t2 (omega arith) opens closes

-- ---- patterns with commas between them

pub spells_last : {parts : List PlainPat} {p : PlainPat} {u v : Text} → SpellsEach parts u → SpellsPat 0 p v → SpellsPats (pats_from (parts ++ p ∷ [])) (u ++ v)
spells_last {v = v} none_yet last = last_pat v last
spells_last {v = w} (with_comma t u v first comma more) last = rw (append_assoc u (t ∷ v) w) (next_pat t u (v ++ w) first comma (spells_last more last))

pub spells_next : {parts : List PlainPat} {p : PlainPat} {u v : Text} (t : PlainToken) → SpellsEach parts u → SpellsPat 0 p v → Is sign.Comma t → SpellsEach (parts ++ p ∷ []) (u ++ v ++ t ∷ [])
spells_next {v = v} t none_yet next comma = with_comma t v [] next comma none_yet
spells_next {v = w} t2 (with_comma t u v first comma more) next comma2 =
    rw (append_assoc (u ++ t ∷ v) w (t2 ∷ []), append_assoc u (t ∷ v) (w ++ t2 ∷ []), ← append_assoc v w (t2 ∷ [])) (with_comma t u (v ++ w ++ t2 ∷ []) first comma (spells_next t2 more next comma2))

pub spells_bracket : {bracket : PlainBracket} {start : ℕ} {u : Text} {ps : PlainPats} {v : Text} (t : PlainToken) → OpensBracket bracket start u → SpellsPats ps v → Is (closing bracket) t → SpellsPat 1 (bracketed bracket start ps) (u ++ v ++ t ∷ [])
spells_bracket t2 (opens_round t is) (last_pat u last) closes = group_line t t2 u (omega arith) is last closes
spells_bracket t2 (opens_round t is) (next_pat t1 {p = p} u v first comma more) closes = rw (tuple_tree more t.at p) (tuple_line {l = 1} t t1 t2 u v (omega arith) is first comma more closes)
spells_bracket {v = v} t2 (opens_square t is) parts closes = items_line t t2 v (omega arith) is parts closes
spells_bracket {v = v} t2 (opens_call t t1 is opens) parts closes = call_line t t1 t2 v (omega arith) is opens parts closes

pub offset_bracket : {bracket : PlainBracket} {start : ℕ} {u : Text} → OpensBracket bracket start u → (v : Text) → offset_of (u ++ v) ≡ start
offset_bracket (opens_round t is) v = refl
offset_bracket (opens_square t is) v = refl
offset_bracket (opens_call t t1 is opens) v = refl

-- ---- each beginning goes on to a pattern

-- a token that is a symbol
abbrev a_sign : Symbol → PlainToken
a_sign s = record { kind = token.symbol s; at = 0 }

pub goes_on_from : {st : OpenPats} {p : PlainPat} {before u : Text} → Opened st before → SpellsPat 0 p u → (w : Text) × IsPattern (before ++ u ++ w)
goes_on_from {p = p} {u = u} none_open part = ([], (p, rw (append-nil u) part))
goes_on_from {u = w} (open_behind {before = b} t u opened head is) part =
    let found = goes_on_from opened (cons_line t u w head is part) in
    (found.0, rw (append_assoc (b ++ u) (t ∷ []) w, append_assoc b u (t ∷ w)) found.1)
goes_on_from {u = w} (open_bracket {bracket = bracket} {before = b} u v opened opens each) part =
    let c = a_sign (closing bracket) in
    let found = goes_on_from opened (pat_down {m = 0} (omega arith) (spells_bracket c opens (spells_last each part) refl)) in
    (c ∷ found.0, rw (append_assoc (b ++ u) v w, append_assoc b u (v ++ w), ← append_assoc (b ++ (u ++ (v ++ w))) (c ∷ []) found.0, append_assoc b (u ++ (v ++ w)) (c ∷ [])) found.1)

pub goes_on_any : {st : OpenPats} {before : Text} → Opened st before → (w : Text) × IsPattern (before ++ w)
goes_on_any {before = b} opened =
    let c = a_sign sign.Underscore in
    let found = goes_on_from opened (any_line c (omega arith) refl) in
    (c ∷ found.0, rw (← append_assoc b (c ∷ []) found.0) found.1)
