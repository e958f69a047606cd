-- A text that spells a part completes the forms that want that part, if the text behind it completes the forms that
-- have it: complete. So a text of the grammar, with its closing, is what is wanted where no form is open.
use Rattle.std.proofs.Common.{◌≡◌, ℕ, ◌≤◌, List, [], ◌∷◌, ◌++◌, refl, sym, ap, ◌∙◌, append_assoc, arith}
use Rattle.cpn_lex.specs.Token.{PlainToken}
use Rattle.cpn_lex.specs.declared.symbols.Symbol.TheVariants as sign
use Rattle.cpn_trees.specs.declared.operators.Infix.{Infix}
use Rattle.cpn_trees.specs.declared.operators.Infix.TheVariants as op
use Rattle.cpn_syntax.specs.Texts.{Text, Is, IsName, offset_of}
use Rattle.cpn_syntax.specs.Patterns.{SpellsPat}
use Rattle.cpn_trees.specs.Trees.{PlainPat, PlainAst, ast, sum, case_of, PlainAsts, no_ast, more_asts, PlainArms, more_arms, PlainLocals, no_local, more_locals}
use Rattle.cpn_syntax.specs.Inscriptions.{precedence, left, Spells, if_line, case_line, fold_line, sum_line, stamp_line, infix_line, not_line, negate_line, component_line, number_line, text_line, true_line, false_line, empty_line, time_line, name_line, call_line, unit_line, group_line, tuple_line, no_items_line, items_line, let_line, SpellsParts, last_part, next_part, SpellsTerms, last_term, next_term, SpellsArms, last_arm, next_arm, SpellsLocals, last_local, next_local}
use Rattle.cpn_syntax.specs.OpenForms.{PlainOpen, subject, arm, terms, group, items, arguments, local, body, Opens, wanted, wants, after_asts, after_arms, after_locals}
use Rattle.cpn_syntax.specs.Completions as done
use Rattle.cpn_syntax.specs.Completions.{Closing, Closes, Wants, Has}

-- ---- what binds more tightly serves too

pub has_up : {close : Closing} {at k m : ℕ} {c b : PlainAst} {st : Opens} {w : Text} → k ≤ m → Has close at k c st b w → Has close at m c st b w
has_up le (done.go_on o t l p is more) = done.go_on o t (omega arith) p is more
has_up le (done.stamp t n l p is num more) = done.stamp t n (omega arith) p is num more
has_up le (done.first_term t l p is more) = done.first_term t (omega arith) p is more
has_up le (done.further_term t l is more) = done.further_term t (omega arith) is more
has_up le (done.end_operand r more) = done.end_operand (omega arith) more
has_up le (done.end_prefix r more) = done.end_prefix (omega arith) more
has_up le (done.end_sum r more) = done.end_sum (omega arith) more
has_up le (done.end_if more) = done.end_if (has_up (omega arith) more)
has_up le (done.end_fold more) = done.end_fold (has_up (omega arith) more)
has_up le (done.end_case more) = done.end_case more
has_up le (done.then_word t is more) = done.then_word t is more
has_up le (done.else_word t is more) = done.else_word t is more
has_up le (done.of_word t1 t2 u is sp arrow more) = done.of_word t1 t2 u is sp arrow more
has_up le (done.bar t1 t2 u l is sp arrow more) = done.bar t1 t2 u (omega arith) is sp arrow more
has_up le (done.from_word t is more) = done.from_word t is more
has_up le (done.do_word t is more) = done.do_word t is more
has_up le (done.next_in_group t is more) = done.next_in_group t is more
has_up le (done.end_group t is more) = done.end_group t is more
has_up le (done.end_tuple t is more) = done.end_tuple t is more
has_up le (done.next_item t is more) = done.next_item t is more
has_up le (done.end_items t is more) = done.end_items t is more
has_up le (done.next_argument t is more) = done.next_argument t is more
has_up le (done.end_call t is more) = done.end_call t is more
has_up le (done.next_local t1 t2 t3 is n e more) = done.next_local t1 t2 t3 is n e more
has_up le (done.in_word t is more) = done.in_word t is more
has_up le (done.end_let t is more) = done.end_let t is more
has_up le (done.all_read closes) = done.all_read closes

-- ---- a text that spells something is not empty

-- so it begins where it does with any text behind it
pub offset_front : {l : ℕ} {a : PlainAst} {u : Text} → Spells l a u → (v : Text) → offset_of (u ++ v) ≡ offset_of u
offset_front (sum_line u v l first more) w = rw append_assoc (offset_front first (v ++ w) ∙ sym (offset_front first v))
offset_front (stamp_line t n u l first is num) w = rw append_assoc (offset_front first (t ∷ n ∷ w) ∙ sym (offset_front first (t ∷ n ∷ [])))
offset_front (infix_line t u v o l first is second) w = rw append_assoc (offset_front first (t ∷ v ++ w) ∙ sym (offset_front first (t ∷ v)))
offset_front _ w = refl

-- ---- parts one after the other

after_asts_more : (parts : List PlainAst) (a : PlainAst) (rest : PlainAsts) → after_asts (parts ++ a ∷ []) rest ≡ after_asts parts (more_asts a rest)
after_asts_more [] a rest = refl
after_asts_more (first ∷ parts) a rest = ap (more_asts first) (after_asts_more parts a rest)

after_arms_more : (arms : List (PlainPat × PlainAst)) (p : PlainPat) (a : PlainAst) (rest : PlainArms) → after_arms (arms ++ (p, a) ∷ []) rest ≡ after_arms arms (more_arms p a rest)
after_arms_more [] p a rest = refl
after_arms_more (first ∷ arms) p a rest = ap (more_arms first.0 first.1) (after_arms_more arms p a rest)

after_locals_more : (locals : List (List ℕ × PlainAst)) (n : List ℕ) (a : PlainAst) (rest : PlainLocals) → after_locals (locals ++ (n, a) ∷ []) rest ≡ after_locals locals (more_locals n a rest)
after_locals_more [] n a rest = refl
after_locals_more (first ∷ locals) n a rest = ap (more_locals first.0 first.1) (after_locals_more locals n a rest)

-- an operand on the left binds at least as tightly as its line
pub tight_left : (o : Infix) → precedence o ≤ left o
tight_left op.Later = omega arith
tight_left _ = omega arith

-- ---- the tokens between two parts

-- `++` and the term behind it
pub data NextTerm (close : Closing) (start : ℕ) (parts : List PlainAst) (st : Opens) (b : PlainAst) : Text → Type 0 where
  opens_term : {w : Text} (t : PlainToken) → Is sign.DoublePlus t → Wants close (terms start parts ∷ st) b w → NextTerm close start parts st b (t ∷ w)

-- the pattern of an arm, `=>`, and what the arm gives
pub data NextArm (close : Closing) (start : ℕ) (a : PlainAst) (arms : List (PlainPat × PlainAst)) (st : Opens) (b : PlainAst) : Text → Type 0 where
  opens_arm : {p : PlainPat} {w : Text} (t : PlainToken) (u : Text) → SpellsPat 0 p u → Is sign.Arrow t → Wants close (arm start a arms p ∷ st) b w → NextArm close start a arms st b (u ++ t ∷ w)

-- `val N =` and the value behind it
pub data NextLocal (close : Closing) (start : ℕ) (locals : List (List ℕ × PlainAst)) (st : Opens) (b : PlainAst) : Text → Type 0 where
  opens_local : {n : List ℕ} {w : Text} (t1 m t2 : PlainToken) → Is sign.Val t1 → IsName n m → Is sign.Equal t2 → Wants close (local start locals n ∷ st) b w → NextLocal close start locals st b (t1 ∷ m ∷ t2 ∷ w)

first_term : {close : Closing} {at : ℕ} {c b : PlainAst} {st : Opens} {w : Text} → wants st ≤ 2 → NextTerm close at (c ∷ []) st b w → Has close at 3 c st b w
first_term le (opens_term t is more) = done.first_term t (omega arith) le is more

further_term : {close : Closing} {at start : ℕ} {c b : PlainAst} {parts : List PlainAst} {st : Opens} {w : Text} → NextTerm close start (parts ++ c ∷ []) st b w → Has close at 3 c (terms start parts ∷ st) b w
further_term (opens_term t is more) = done.further_term t (omega arith) is more

first_arm : {close : Closing} {at k start : ℕ} {c b : PlainAst} {st : Opens} {w : Text} (t : PlainToken) → Is sign.Of t → NextArm close start c [] st b w → Has close at k c (subject start ∷ st) b (t ∷ w)
first_arm t is (opens_arm t2 u p arrow more) = done.of_word t t2 u is p arrow more

further_arm : {close : Closing} {at k start : ℕ} {a c b : PlainAst} {arms : List (PlainPat × PlainAst)} {p : PlainPat} {st : Opens} {w : Text} (t : PlainToken) → 1 ≤ k → Is sign.Bar t → NextArm close start a (arms ++ (p, c) ∷ []) st b w → Has close at k c (arm start a arms p ∷ st) b (t ∷ w)
further_arm t le is (opens_arm t2 u p arrow more) = done.bar t t2 u le is p arrow more

first_local : {close : Closing} {st : Opens} {b : PlainAst} {w : Text} (t : PlainToken) → Is sign.Let t → NextLocal close t.at [] st b w → Wants close st b (t ∷ w)
first_local t is (opens_local t1 m t2 val_is name equal more) = done.begin_let t t1 m t2 is val_is name equal more

further_local : {close : Closing} {at k start : ℕ} {n : List ℕ} {c b : PlainAst} {locals : List (List ℕ × PlainAst)} {st : Opens} {w : Text} → NextLocal close start (locals ++ (n, c) ∷ []) st b w → Has close at k c (local start locals n ∷ st) b w
further_local (opens_local t1 m t2 is name equal more) = done.next_local t1 m t2 is name equal more

-- three parts of a text, and what stands behind it
pub three_parts : (u v w x : Text) → ((u ++ v) ++ w) ++ x ≡ u ++ (v ++ (w ++ x))
three_parts u v w x = append_assoc (u ++ v) w x ∙ append_assoc u v (w ++ x)

-- ---- a part completes the forms that want it

mutual
  pub complete : {close : Closing} {l : ℕ} {a : PlainAst} {u : Text} → Spells l a u → {st : Opens} {b : PlainAst} {w : Text} → wants st ≤ l → Has close (offset_of u) l a st b w → Wants close st b (u ++ w)
  complete (if_line t1 t2 t3 u v w l is1 c is2 a is3 b) {w = x} le has =
      done.begin_if t1 (omega arith) is1 (rw (three_parts u (t2 ∷ v) (t3 ∷ w) x) (complete c (omega arith)
      (done.then_word t2 is2 (complete a (omega arith) (done.else_word t3 is3 (complete b (omega arith) (done.end_if (has_up (omega arith) has))))))))
  complete (case_line t1 t2 u v is1 a is2 arms) {w = x} le has =
      done.begin_case t1 le is1 (rw (append_assoc u (t2 ∷ v) x) (complete a (omega arith) (first_arm t2 is2 (complete_arms arms has))))
  complete (fold_line t1 n1 t2 n2 t3 t4 t5 u v w l is1 item is2 total is3 a is4 s is5 b) {w = x} le has =
      done.begin_fold t1 n1 t2 n2 t3 (omega arith) is1 item is2 total is3 (rw (three_parts u (t4 ∷ v) (t5 ∷ w) x) (complete a (omega arith)
      (done.from_word t4 is4 (complete s (omega arith) (done.do_word t5 is5 (complete b (omega arith) (done.end_fold (has_up (omega arith) has))))))))
  complete (sum_line u v l first more) {w = x} le has =
      rw (append_assoc u v x) (complete first (omega arith) (first_term (omega arith) (complete_terms more (has_up l (rw (offset_front first v) at has)))))
  complete (stamp_line t n u l first is num) {w = x} le has =
      rw (append_assoc u (t ∷ n ∷ []) x) (complete first (omega arith) (done.stamp t n (omega arith) (omega arith) is num (has_up l (rw (offset_front first (t ∷ n ∷ [])) at has))))
  complete (infix_line t u v o l first is second) {w = x} le has =
      rw (append_assoc u (t ∷ v) x) (complete first (omega (arith, tight_left o)) (done.go_on o t (omega arith) (omega arith) is
      (complete second (omega arith) (done.end_operand (omega arith) (has_up l (rw (offset_front first (t ∷ v)) at has))))))
  complete (not_line t u l is a) le has = done.begin_not t is (complete a (omega arith) (done.end_prefix (omega arith) (has_up l has)))
  complete (negate_line t u l is a) le has = done.begin_negate t is (complete a (omega arith) (done.end_prefix (omega arith) (has_up l has)))
  complete (component_line t n u l is num a) le has = done.begin_component t n is num (complete a (omega arith) (done.end_prefix (omega arith) (has_up l has)))
  complete (number_line t l is) le has = done.whole_number t is (has_up l has)
  complete (text_line t l is) le has = done.whole_text t is (has_up l has)
  complete (true_line t l is) le has = done.whole_true t is (has_up l has)
  complete (false_line t l is) le has = done.whole_false t is (has_up l has)
  complete (empty_line t l is) le has = done.whole_empty t is (has_up l has)
  complete (time_line t l is) le has = done.whole_time t is (has_up l has)
  complete (name_line t l is) le has = done.whole_name t is (has_up l has)
  complete (call_line t t1 t2 {n = n} u l is opens parts closes) {w = x} le has =
      done.begin_call t t1 is opens (rw (append_assoc u (t2 ∷ []) x) (complete_parts parts (arguments t.at n) (λ ps. omega arith)
      (λ at c ps t' w is' more. done.next_argument t' is' more)
      (λ at c ps e. done.end_call t2 closes (rw e (has_up l has)))))
  complete (unit_line t1 t2 l opens closes) le has = done.whole_unit t1 t2 opens closes (has_up l has)
  complete (group_line t1 t2 u l opens a closes) {w = x} le has =
      done.begin_group t1 opens (rw (append_assoc u (t2 ∷ []) x) (complete a (omega arith) (done.end_group t2 closes (has_up l has))))
  complete (tuple_line t1 t2 t3 {a = a} u v l opens first comma parts closes) {w = x} le has =
      done.begin_group t1 opens (rw (three_parts u (t2 ∷ v) (t3 ∷ []) x) (complete first (omega arith) (done.next_in_group t2 comma
      (complete_parts parts (λ ps. group t1.at (a ∷ ps)) (λ ps. omega arith)
      (λ at c ps t' w is' more. done.next_in_group t' is' more)
      (λ at c ps e. done.end_tuple t3 closes (rw e (has_up l has)))))))
  complete (no_items_line t1 t2 l opens closes) le has = done.whole_no_items t1 t2 opens closes (has_up l has)
  complete (items_line t1 t2 u l opens parts closes) {w = x} le has =
      done.begin_items t1 opens (rw (append_assoc u (t2 ∷ []) x) (complete_parts parts (items t1.at) (λ ps. omega arith)
      (λ at c ps t' w is' more. done.next_item t' is' more)
      (λ at c ps e. done.end_items t2 closes (rw e (has_up l has)))))
  complete (let_line t1 t2 t3 u v l is locals is2 a is3) {w = x} le has =
      first_local t1 is (rw (three_parts u (t2 ∷ v) (t3 ∷ []) x) (complete_locals locals t2 is2
      (λ all e. complete a (omega arith) (done.end_let t3 is3 (rw e (has_up l has))))))

  -- further terms of a sum, the first of which stands behind a `++`
  complete_terms : {close : Closing} {rest : PlainAsts} {v : Text} → SpellsTerms rest v → {start : ℕ} {parts : List PlainAst} {st : Opens} {b : PlainAst} {w : Text}
      → Has close start 2 (ast start (sum (after_asts parts rest))) st b w → NextTerm close start parts st b (v ++ w)
  complete_terms (last_term t u is a) has = opens_term t is (complete a (omega arith) (done.end_sum (omega arith) has))
  complete_terms (next_term t {a = a} {terms = rest} u v is first more) {parts = parts} {w = x} has =
      opens_term t is (rw (append_assoc u v x) (complete first (omega arith) (further_term (complete_terms more (rw (after_asts_more parts a rest) has)))))

  -- the arms of a `case`, from its first or from the one behind a bar
  complete_arms : {close : Closing} {rest : PlainArms} {v : Text} → SpellsArms rest v → {start : ℕ} {a : PlainAst} {arms : List (PlainPat × PlainAst)} {st : Opens} {b : PlainAst} {w : Text}
      → Has close start 0 (ast start (case_of a (after_arms arms rest))) st b w → NextArm close start a arms st b (v ++ w)
  complete_arms (last_arm t u v pattern arrow a) {w = x} has = rw (append_assoc u (t ∷ v) x) (opens_arm t u pattern arrow (complete a (omega arith) (done.end_case has)))
  complete_arms (next_arm t1 t2 {p = p} {a = c} {arms = rest} u v w pattern arrow first is more) {arms = arms} {w = x} has =
      rw (three_parts u (t1 ∷ v) (t2 ∷ w) x) (opens_arm t1 u pattern arrow (complete first (omega arith)
      (further_arm t2 (omega arith) is (complete_arms more {w = x} (rw (after_arms_more arms p c rest) has)))))

  -- the values of a `let`, and behind `in` its body
  complete_locals : {close : Closing} {rest : PlainLocals} {v : Text} → SpellsLocals rest v → (t : PlainToken) → Is sign.In t → {start : ℕ} {locals : List (List ℕ × PlainAst)} {st : Opens} {b : PlainAst} {w : Text}
      → ((all : List (List ℕ × PlainAst)) → after_locals all no_local ≡ after_locals locals rest → Wants close (body start all ∷ st) b w) → NextLocal close start locals st b (v ++ t ∷ w)
  complete_locals (last_local t1 m t2 {n = n} {a = a} u is name equal first) t is_in {locals = locals} finish =
      opens_local t1 m t2 is name equal (complete first (omega arith) (done.in_word t is_in (finish (locals ++ (n, a) ∷ []) (after_locals_more locals n a no_local))))
  complete_locals (next_local t1 m t2 {n = n} {a = a} {locals = rest} u v is name equal first more) t is_in {locals = locals} {w = x} finish =
      opens_local t1 m t2 is name equal (rw (append_assoc u v (t ∷ x)) (complete first (omega arith) (further_local (complete_locals more t is_in
      (λ all e. finish all (e ∙ after_locals_more locals n a rest))))))

  -- the parts of a bracket, each behind the one before it and a comma
  complete_parts : {close : Closing} {rest : PlainAsts} {v : Text} → SpellsParts rest v → (bracket : List PlainAst → PlainOpen) → ((parts : List PlainAst) → wanted (bracket parts) ≤ 0) → {st : Opens} {b : PlainAst} {w : Text}
      → ((at : ℕ) (c : PlainAst) (parts : List PlainAst) (t : PlainToken) (w' : Text) → Is sign.Comma t → Wants close (bracket (parts ++ c ∷ []) ∷ st) b w' → Has close at 0 c (bracket parts ∷ st) b (t ∷ w'))
      → ((at : ℕ) (c : PlainAst) (parts : List PlainAst) → after_asts parts (more_asts c no_ast) ≡ rest → Has close at 0 c (bracket parts ∷ st) b w)
      → Wants close (bracket [] ∷ st) b (v ++ w)
  complete_parts (last_part {a = a} u last) bracket any comma finish = complete last (any []) (finish (offset_of u) a [] refl)
  complete_parts (next_part t {a = a} u v first is more) bracket any {w = x} comma finish =
      rw (append_assoc u (t ∷ v) x) (complete first (any []) (comma (offset_of u) a [] t (v ++ x) is
      (complete_parts more (λ parts. bracket (a ∷ parts)) (λ parts. any (a ∷ parts)) (λ at c parts. comma at c (a ∷ parts)) (λ at c parts e. finish at c (a ∷ parts) (ap (more_asts a) e)))))

-- a text of the grammar, with what stands behind it
pub complete_whole : {close : Closing} {b : PlainAst} {u w : Text} → Spells 0 b u → Closes close w → Wants close [] b (u ++ w)
complete_whole text closes = complete text (omega arith) (done.all_read closes)
