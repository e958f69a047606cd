-- A text that spells a part of a pattern completes the forms that want that part, if the text behind it completes
-- the forms that have it: complete_pat. So a pattern, with its arrow, is what is wanted where no form is open.
use Rattle.std.proofs.Common.{◌≡◌, ℕ, ◌≤◌, List, [], ◌∷◌, ◌++◌, refl, sym, ap, ◌∙◌, append_assoc, arith}
use Rattle.cpn_lex.specs.Token.{PlainToken}
use Rattle.cpn_syntax.specs.Texts.{Text, Is, offset_of}
use Rattle.cpn_trees.specs.Trees.{PlainPat, pat, pat_tuple, PlainPats, no_pat, more_pats, pats_from}
use Rattle.cpn_syntax.specs.Patterns.{SpellsPat, cons_line, name_line, any_line, number_line, text_line, true_line, false_line, call_line, unit_line, group_line, tuple_line, no_items_line, items_line, SpellsPats, last_pat, next_pat}
use Rattle.cpn_syntax.specs.OpenPatterns.{PlainBracket, round, square, call, inside, OpenPats, opens_round, opens_square, opens_call, closing, bracketed}
use Rattle.cpn_syntax.specs.PatternCompletions.{a_name, an_underscore, a_number, a_text, a_true, a_false, a_unit, no_items, WantsPat, simple, begin_bracket, HasPat, cons_sign, end_cons, next_inside, end_bracket, end_pattern}

-- what binds more tightly serves too
pub pat_up : {at k m : ℕ} {p : PlainPat} {st : OpenPats} {r : PlainPat × Text} {w : Text} → k ≤ m → HasPat at k p st r w → HasPat at m p st r w
pat_up le (cons_sign t l is more) = cons_sign t (omega arith) is more
pat_up le (end_cons more) = end_cons more
pat_up le (next_inside t is more) = next_inside t is more
pat_up le (end_bracket t is more) = end_bracket t is more
pat_up le (end_pattern t is) = end_pattern t is

-- a text that spells a part isn't empty, so it begins where it does with any text behind it
pub offset_pat : {l : ℕ} {p : PlainPat} {u : Text} → SpellsPat l p u → (v : Text) → offset_of (u ++ v) ≡ offset_of u
offset_pat (cons_line t u v head is tail) w = rw (append_assoc u (t ∷ v) w) (offset_pat head (t ∷ v ++ w) ∙ sym (offset_pat head (t ∷ v)))
offset_pat _ w = refl

-- ---- parts one after the other

-- patterns in front of further ones
abbrev pub after_pats : List PlainPat → PlainPats → PlainPats
after_pats [] rest = rest
after_pats (p ∷ before) rest = more_pats p (after_pats before rest)

pub after_pats_more : (parts : List PlainPat) (p : PlainPat) (rest : PlainPats) → after_pats (parts ++ p ∷ []) rest ≡ after_pats parts (more_pats p rest)
after_pats_more [] p rest = refl
after_pats_more (first ∷ parts) p rest = ap (more_pats first) (after_pats_more parts p rest)

pub after_pats_last : (parts : List PlainPat) (p : PlainPat) → pats_from (parts ++ p ∷ []) ≡ after_pats parts (more_pats p no_pat)
after_pats_last [] p = refl
after_pats_last (first ∷ parts) p = ap (more_pats first) (after_pats_last parts p)

-- parentheses around two patterns at least
pub tuple_tree : {ps : PlainPats} {v : Text} → SpellsPats ps v → (at : ℕ) (p : PlainPat) → bracketed round at (more_pats p ps) ≡ pat at (pat_tuple (more_pats p ps))
tuple_tree (last_pat u last) at p = refl
tuple_tree (next_pat t u v first is more) at p = refl

-- ---- a part completes the forms that want it

mutual
  pub complete_pat : {l : ℕ} {p : PlainPat} {u : Text} → SpellsPat l p u → {st : OpenPats} {r : PlainPat × Text} {w : Text} → HasPat (offset_of u) l p st r w → WantsPat st r (u ++ w)
  complete_pat (cons_line t u v head is tail) {w = x} has =
      rw (append_assoc u (t ∷ v) x) (complete_pat head (cons_sign t (omega arith) is (complete_pat tail (end_cons (rw (offset_pat head (t ∷ v)) at has)))))
  complete_pat (name_line t l is) has = simple (t ∷ []) (a_name t is) (pat_up l has)
  complete_pat (any_line t l is) has = simple (t ∷ []) (an_underscore t is) (pat_up l has)
  complete_pat (number_line t l is) has = simple (t ∷ []) (a_number t is) (pat_up l has)
  complete_pat (text_line t l is) has = simple (t ∷ []) (a_text t is) (pat_up l has)
  complete_pat (true_line t l is) has = simple (t ∷ []) (a_true t is) (pat_up l has)
  complete_pat (false_line t l is) has = simple (t ∷ []) (a_false t is) (pat_up l has)
  complete_pat (call_line t t1 t2 {n = n} u l is opens parts closes) {w = x} has =
      begin_bracket (t ∷ t1 ∷ []) (opens_call t t1 is opens) (rw (append_assoc u (t2 ∷ []) x) (complete_pats parts (call n) [] t2 closes (pat_up l has)))
  complete_pat (unit_line t1 t2 l opens closes) has = simple (t1 ∷ t2 ∷ []) (a_unit t1 t2 opens closes) (pat_up l has)
  complete_pat (group_line t1 t2 u l opens p closes) {w = x} has =
      begin_bracket (t1 ∷ []) (opens_round t1 opens) (rw (append_assoc u (t2 ∷ []) x) (complete_pat p (end_bracket t2 closes (pat_up l has))))
  complete_pat (tuple_line t1 t2 t3 {p = p} u v l opens first comma parts closes) {w = x} has =
      begin_bracket (t1 ∷ []) (opens_round t1 opens) (rw (append_assoc (u ++ t2 ∷ v) (t3 ∷ []) x, append_assoc u (t2 ∷ v) (t3 ∷ x)) (complete_pat first
      (next_inside t2 comma (complete_pats parts round (p ∷ []) t3 closes (rw (tuple_tree parts t1.at p) (pat_up l has))))))
  complete_pat (no_items_line t1 t2 l opens closes) has = simple (t1 ∷ t2 ∷ []) (no_items t1 t2 opens closes) (pat_up l has)
  complete_pat (items_line t1 t2 u l opens parts closes) {w = x} has =
      begin_bracket (t1 ∷ []) (opens_square t1 opens) (rw (append_assoc u (t2 ∷ []) x) (complete_pats parts square [] t2 closes (pat_up l has)))

  -- the patterns of a bracket, behind those that were read, and the sign that closes it
  complete_pats : {ps : PlainPats} {v : Text} → SpellsPats ps v → (bracket : PlainBracket) (parts : List PlainPat) (t : PlainToken) {start : ℕ} {st : OpenPats} {r : PlainPat × Text} {w : Text}
      → Is (closing bracket) t → HasPat start 1 (bracketed bracket start (after_pats parts ps)) st r w → WantsPat (inside bracket start parts ∷ st) r (v ++ t ∷ w)
  complete_pats (last_pat {p = p} u last) bracket parts t closes has = complete_pat last (end_bracket t closes (rw (after_pats_last parts p) has))
  complete_pats (next_pat t1 {p = p} {ps = ps} u v first comma more) bracket parts t {w = x} closes has =
      rw (append_assoc u (t1 ∷ v) (t ∷ x)) (complete_pat first (next_inside t1 comma (complete_pats more bracket (parts ++ p ∷ []) t closes (rw (after_pats_more parts p ps) has))))
