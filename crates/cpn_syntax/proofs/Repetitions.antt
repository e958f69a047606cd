-- Repetitions whose parts were read one after the other: with a further part they go on, and with a last one they
-- are spelled whole. What binds more tightly is spelled where less is wanted.
use Rattle.std.proofs.Common.{◌≡◌, ℕ, ◌≤◌, List, [], ◌∷◌, ◌++◌, append_assoc, append-nil, arith}
use Rattle.cpn_lex.specs.Token.{PlainToken}
use Rattle.cpn_lex.specs.declared.symbols.Symbol.{Symbol}
use Rattle.cpn_lex.specs.declared.symbols.Symbol.TheVariants as sign
use Rattle.cpn_syntax.specs.Texts.{Text, Is, IsName}
use Rattle.cpn_syntax.specs.Patterns.{SpellsPat}
use Rattle.cpn_trees.specs.Trees.{PlainPat, PlainAst, no_ast, more_asts, no_arm, more_arms, no_local, more_locals}
use Rattle.cpn_syntax.specs.Inscriptions.{Spells, if_line, case_line, fold_line, sum_line, stamp_line, infix_line, not_line, negate_line, component_line, number_line, text_line, true_line, false_line, empty_line, time_line, name_line, call_line, unit_line, group_line, tuple_line, no_items_line, items_line, let_line, SpellsParts, last_part, next_part, SpellsTerms, last_term, next_term, SpellsArms, last_arm, next_arm, SpellsLocals, last_local, next_local}
use Rattle.cpn_syntax.specs.OpenForms.{after_asts, after_arms, after_locals}
use Rattle.cpn_syntax.specs.ReadForms as read
use Rattle.cpn_syntax.specs.ReadForms.{Before, ArmsBefore, LocalsBefore}

pub spells_down : {l k : ℕ} {a : PlainAst} {u : Text} → l ≤ k → Spells k a u → Spells l a u
spells_down le (if_line t1 t2 t3 u v w low is1 c is2 a is3 b) = if_line t1 t2 t3 u v w (omega arith) is1 c is2 a is3 (spells_down le b)
spells_down {l} le (case_line t1 t2 u v is1 a is2 arms) = let none : l ≡ 0 = omega arith in rw none (case_line t1 t2 u v is1 a is2 arms)
spells_down le (fold_line t1 n1 t2 n2 t3 t4 t5 u v w low is1 item is2 total is3 a is4 s is5 b) = fold_line t1 n1 t2 n2 t3 t4 t5 u v w (omega arith) is1 item is2 total is3 a is4 s is5 (spells_down le b)
spells_down le (sum_line u v low first more) = sum_line u v (omega arith) first more
spells_down le (stamp_line t n u low first is num) = stamp_line t n u (omega arith) first is num
spells_down le (infix_line t u v o low first is second) = infix_line t u v o (omega arith) first is second
spells_down le (not_line t u low is a) = not_line t u (omega arith) is a
spells_down le (negate_line t u low is a) = negate_line t u (omega arith) is a
spells_down le (component_line t n u low is num a) = component_line t n u (omega arith) is num a
spells_down le (number_line t low is) = number_line t (omega arith) is
spells_down le (text_line t low is) = text_line t (omega arith) is
spells_down le (true_line t low is) = true_line t (omega arith) is
spells_down le (false_line t low is) = false_line t (omega arith) is
spells_down le (empty_line t low is) = empty_line t (omega arith) is
spells_down le (time_line t low is) = time_line t (omega arith) is
spells_down le (name_line t low is) = name_line t (omega arith) is
spells_down le (call_line t t1 t2 u low is opens parts closes) = call_line t t1 t2 u (omega arith) is opens parts closes
spells_down le (unit_line t1 t2 low opens closes) = unit_line t1 t2 (omega arith) opens closes
spells_down le (group_line t1 t2 u low opens a closes) = group_line t1 t2 u (omega arith) opens a closes
spells_down le (tuple_line t1 t2 t3 u v low opens first comma parts closes) = tuple_line t1 t2 t3 u v (omega arith) opens first comma parts closes
spells_down le (no_items_line t1 t2 low opens closes) = no_items_line t1 t2 (omega arith) opens closes
spells_down le (items_line t1 t2 u low opens parts closes) = items_line t1 t2 u (omega arith) opens parts closes
spells_down le (let_line t1 t2 t3 u v low is locals is2 a is3) = let_line t1 t2 t3 u v (omega arith) is locals is2 a is3

-- ---- a further part

pub before_more : {l : ℕ} {s : Symbol} {parts : List PlainAst} {u : Text} → Before l s parts u → {a : PlainAst} (v : Text) (t : PlainToken) → Spells l a v → Is s t
    → Before l s (parts ++ a ∷ []) (u ++ (v ++ t ∷ []))
before_more read.no_part v t a is = read.part t v [] a is read.no_part
before_more (read.part t1 u1 u2 first is1 rest) v t a is = rw (append_assoc u1 (t1 ∷ u2) (v ++ t ∷ [])) (read.part t1 u1 (u2 ++ (v ++ t ∷ [])) first is1 (before_more rest v t a is))

pub arms_more : {arms : List (PlainPat × PlainAst)} {u : Text} → ArmsBefore arms u → {p : PlainPat} {a : PlainAst} (v w : Text) (t1 t2 : PlainToken)
    → SpellsPat 0 p v → Is sign.Arrow t1 → Spells 1 a w → Is sign.Bar t2
    → ArmsBefore (arms ++ (p, a) ∷ []) (u ++ (v ++ t1 ∷ w ++ t2 ∷ []))
arms_more read.no_arm v w t1 t2 p is1 a is2 = read.one_arm t1 t2 v w [] p is1 a is2 read.no_arm
arms_more (read.one_arm s1 s2 u1 u2 u3 q js1 first js2 rest) v w t1 t2 p is1 a is2 =
    rw (append_assoc (u1 ++ s1 ∷ u2) (s2 ∷ u3) (v ++ t1 ∷ w ++ t2 ∷ [])) (read.one_arm s1 s2 u1 u2 (u3 ++ (v ++ t1 ∷ w ++ t2 ∷ [])) q js1 first js2 (arms_more rest v w t1 t2 p is1 a is2))

pub locals_more : {locals : List (List ℕ × PlainAst)} {u : Text} → LocalsBefore locals u → {n : List ℕ} {a : PlainAst} (t1 m t2 : PlainToken) (v : Text)
    → Is sign.Val t1 → IsName n m → Is sign.Equal t2 → Spells 0 a v
    → LocalsBefore (locals ++ (n, a) ∷ []) (u ++ t1 ∷ m ∷ t2 ∷ v)
locals_more read.no_local t1 m t2 v is name equal a = rw (← append-nil v) (read.one_local t1 m t2 v [] is name equal a read.no_local)
locals_more (read.one_local s1 k s2 u1 u2 js other same first rest) t1 m t2 v is name equal a =
    rw (append_assoc u1 u2 (t1 ∷ m ∷ t2 ∷ v)) (read.one_local s1 k s2 u1 (u2 ++ t1 ∷ m ∷ t2 ∷ v) js other same first (locals_more rest t1 m t2 v is name equal a))

-- ---- the last part

pub parts_whole : {parts : List PlainAst} {u : Text} → Before 0 sign.Comma parts u → {a : PlainAst} (v : Text) → Spells 0 a v
    → SpellsParts (after_asts parts (more_asts a no_ast)) (u ++ v)
parts_whole read.no_part v a = last_part v a
parts_whole (read.part t u1 u2 first is rest) v a = rw (append_assoc u1 (t ∷ u2) v) (next_part t u1 (u2 ++ v) first is (parts_whole rest v a))

-- the terms of a sum behind its first, from the `++` in front of them on
pub terms_whole : {terms : List PlainAst} {u : Text} (t : PlainToken) → Is sign.DoublePlus t → Before 3 sign.DoublePlus terms u → {a : PlainAst} (v : Text) → Spells 3 a v
    → SpellsTerms (after_asts terms (more_asts a no_ast)) (t ∷ u ++ v)
terms_whole t is read.no_part v a = last_term t v is a
terms_whole t is (read.part t1 u1 u2 first is1 rest) v a = rw (append_assoc u1 (t1 ∷ u2) v) (next_term t u1 (t1 ∷ u2 ++ v) is first (terms_whole t1 is1 rest v a))

pub arms_whole : {arms : List (PlainPat × PlainAst)} {u : Text} → ArmsBefore arms u → {p : PlainPat} {a : PlainAst} (v w : Text) (t : PlainToken)
    → SpellsPat 0 p v → Is sign.Arrow t → Spells 0 a w
    → SpellsArms (after_arms arms (more_arms p a no_arm)) (u ++ (v ++ t ∷ w))
arms_whole read.no_arm v w t p is a = last_arm t v w p is a
arms_whole (read.one_arm s1 s2 u1 u2 u3 q js1 first js2 rest) v w t p is a =
    rw (append_assoc (u1 ++ s1 ∷ u2) (s2 ∷ u3) (v ++ t ∷ w)) (next_arm s1 s2 u1 u2 (u3 ++ (v ++ t ∷ w)) q js1 first js2 (arms_whole rest v w t p is a))

-- the values of a `let`, its first and those read behind it
pub locals_whole : {n : List ℕ} {a : PlainAst} (t1 m t2 : PlainToken) (v : Text) → Is sign.Val t1 → IsName n m → Is sign.Equal t2 → Spells 0 a v
    → {rest : List (List ℕ × PlainAst)} {w : Text} → LocalsBefore rest w → SpellsLocals (more_locals n a (after_locals rest no_local)) (t1 ∷ m ∷ t2 ∷ v ++ w)
locals_whole t1 m t2 v is name equal a read.no_local = rw (append-nil v) (last_local t1 m t2 v is name equal a)
locals_whole t1 m t2 v is name equal a (read.one_local s1 k s2 u1 u2 js other same first rest) =
    next_local t1 m t2 v (s1 ∷ k ∷ s2 ∷ u1 ++ u2) is name equal a (locals_whole s1 k s2 u1 js other same first rest)
