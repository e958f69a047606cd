-- What was read at each step of reading: what was read before it, with the tokens that it reads, is what was read
-- after it. One lemma for each case of Wants and of Has.
use Rattle.std.proofs.Common.{◌≡◌, ℕ, ℤ, ◌≤◌, min, true, false, List, [], ◌∷◌, ◌++◌, refl, sym, ◌∙◌, append_assoc, append-nil, arith}
use Rattle.cpn_lex.specs.Token.{PlainToken}
use Rattle.cpn_lex.specs.declared.symbols.Symbol.TheVariants as sign
use Rattle.cpn_trees.specs.declared.operators.Infix.{Infix}
use Rattle.cpn_trees.specs.declared.operators.Infix.TheVariants as op
use Rattle.cpn_trees.specs.declared.operators.Prefix.{Prefix}
use Rattle.cpn_trees.specs.declared.operators.Prefix.TheVariants as prefix
use Rattle.cpn_syntax.specs.Texts.{Text, Is, IsName, IsNumber, IsText, offset_of}
use Rattle.cpn_syntax.specs.Patterns.{SpellsPat}
use Rattle.cpn_trees.specs.Trees.{PlainPat, PlainAst, ast, number, text, truth, empty, time, name, call, unit, tuple, list, let_in, prefixed, infixed, stamped, sum, if_else, case_of, fold, no_ast, more_asts, no_arm, more_arms, no_local}
use Rattle.cpn_syntax.specs.Inscriptions as line
use Rattle.cpn_syntax.specs.Inscriptions.{sign_of, precedence, left, right, Spells}
use Rattle.cpn_syntax.specs.OpenForms.{PlainOpen, condition, consequence, alternative, subject, arm, fold_list, fold_start, fold_body, terms, behind, front, group, items, arguments, local, body, Opens, wanted, wants, after_asts, after_arms, after_locals}
use Rattle.cpn_syntax.specs.ReadForms as read
use Rattle.cpn_syntax.specs.ReadForms.{Before, LocalsBefore, Opening, becomes, ReadForms, State, want, have, Read}
use Rattle.cpn_syntax.proofs.Completions.{offset_front, three_parts}
use Rattle.cpn_syntax.proofs.Repetitions.{spells_down, before_more, arms_more, locals_more, parts_whole, terms_whole, arms_whole, locals_whole}

-- ---- how tightly the part has to bind that is read next

wanted_most : (form : PlainOpen) → wanted form ≤ 11
wanted_most (behind at op.Later s a) = omega arith
wanted_most (behind at _ s a) = omega arith
wanted_most _ = omega arith

pub wants_most : (st : Opens) → wants st ≤ 11
wants_most [] = omega arith
wants_most (form ∷ below) = wanted_most form

-- what less than a sum may be, anything may be
wanted_low : (form : PlainOpen) → wanted form ≤ 1 → wanted form ≤ 0
wanted_low (behind at op.Later s a) le = omega arith
wanted_low (behind at _ s a) le = omega arith
wanted_low _ le = omega arith

pub wants_low : (st : Opens) → wants st ≤ 1 → wants st ≤ 0
wants_low [] le = omega arith
wants_low (form ∷ below) le = wanted_low form le

-- ---- the first token of an open form

abbrev start_of : PlainOpen → ℕ
start_of (condition at) = at
start_of (consequence at c) = at
start_of (alternative at c a) = at
start_of (subject at) = at
start_of (arm at a arms p) = at
start_of (fold_list at item total) = at
start_of (fold_start at item total a) = at
start_of (fold_body at item total a s) = at
start_of (terms at parts) = at
start_of (behind at o s a) = at
start_of (front at p) = at
start_of (group at parts) = at
start_of (items at parts) = at
start_of (arguments at n parts) = at
start_of (local at locals n) = at
start_of (body at locals) = at

offset_before : {a : PlainAst} {rest : List PlainAst} {u : Text} → Before 3 sign.DoublePlus (a ∷ rest) u → (w : Text) → offset_of u ≡ offset_of (u ++ w)
offset_before (read.part t u v first is rest) w = rw append_assoc (offset_front first (t ∷ v) ∙ sym (offset_front first (t ∷ v ++ w)))

starts_at : {form : PlainOpen} {u : Text} → Opening form u → (w : Text) → start_of form ≡ offset_of (u ++ w)
starts_at (read.read_terms u parts) w = offset_before parts w
starts_at (read.read_operator t o u a is) w = rw append_assoc (sym (offset_front a (t ∷ w)))
starts_at _ w = refl

-- ---- a form begins

begins : (st : Opens) (form : PlainOpen) (u : Text) → Opening form u → wants st ≤ becomes form → (before : Text) → Read (want st) before → Read (want (form ∷ st)) (before ++ u)
begins st form u opening le before was = (before, u, refl, opening, le, was)

-- an operand is one or two tokens
operand : (st : Opens) (at : ℕ) (c : PlainAst) (u : Text) → Spells 11 c u → at ≡ offset_of u → (before : Text) → Read (want st) before → Read (have at 11 c st) (before ++ u)
operand st at c u spells starts before was = (before, u, refl, spells, starts, wants_most st, was)

module _ (st : Opens) where
  pub reads_if : (t : PlainToken) → wants st ≤ 1 → Is sign.If t → (before : Text) → Read (want st) before → Read (want (condition t.at ∷ st)) (before ++ t ∷ [])
  reads_if t le is = begins st (condition t.at) (t ∷ []) (read.read_if t is) le

  pub reads_case : (t : PlainToken) → wants st ≤ 0 → Is sign.Case t → (before : Text) → Read (want st) before → Read (want (subject t.at ∷ st)) (before ++ t ∷ [])
  reads_case t le is = begins st (subject t.at) (t ∷ []) (read.read_case t is) le

  pub reads_fold : {item total : List ℕ} (t1 n1 t2 n2 t3 : PlainToken) → wants st ≤ 1 → Is sign.Foldl t1 → IsName item n1 → Is sign.Comma t2 → IsName total n2 → Is sign.Over t3
      → (before : Text) → Read (want st) before → Read (want (fold_list t1.at item total ∷ st)) (before ++ t1 ∷ n1 ∷ t2 ∷ n2 ∷ t3 ∷ [])
  reads_fold {item} {total} t1 n1 t2 n2 t3 le is1 n1_is is2 n2_is is3 = begins st (fold_list t1.at item total) (t1 ∷ n1 ∷ t2 ∷ n2 ∷ t3 ∷ []) (read.read_over t1 n1 t2 n2 t3 is1 n1_is is2 n2_is is3) le

  pub reads_not : (t : PlainToken) → Is sign.Not t → (before : Text) → Read (want st) before → Read (want (front t.at prefix.Not ∷ st)) (before ++ t ∷ [])
  reads_not t is = begins st (front t.at prefix.Not) (t ∷ []) (read.read_not t is) (wants_most st)

  pub reads_negate : (t : PlainToken) → Is sign.Tilde t → (before : Text) → Read (want st) before → Read (want (front t.at prefix.Negate ∷ st)) (before ++ t ∷ [])
  reads_negate t is = begins st (front t.at prefix.Negate) (t ∷ []) (read.read_negate t is) (wants_most st)

  pub reads_component : {z : ℤ} (t n : PlainToken) → Is sign.Hash t → IsNumber z n → (before : Text) → Read (want st) before → Read (want (front t.at (prefix.Component z) ∷ st)) (before ++ t ∷ n ∷ [])
  reads_component {z} t n is num = begins st (front t.at (prefix.Component z)) (t ∷ n ∷ []) (read.read_component t n is num) (wants_most st)

  pub reads_number : {z : ℤ} (t : PlainToken) → IsNumber z t → (before : Text) → Read (want st) before → Read (have t.at 11 (ast t.at (number z)) st) (before ++ t ∷ [])
  reads_number {z} t is = operand st t.at (ast t.at (number z)) (t ∷ []) (line.number_line t (omega arith) is) refl

  pub reads_text : {bytes : List ℕ} (t : PlainToken) → IsText bytes t → (before : Text) → Read (want st) before → Read (have t.at 11 (ast t.at (text bytes)) st) (before ++ t ∷ [])
  reads_text {bytes} t is = operand st t.at (ast t.at (text bytes)) (t ∷ []) (line.text_line t (omega arith) is) refl

  pub reads_true : (t : PlainToken) → Is sign.True t → (before : Text) → Read (want st) before → Read (have t.at 11 (ast t.at (truth true)) st) (before ++ t ∷ [])
  reads_true t is = operand st t.at (ast t.at (truth true)) (t ∷ []) (line.true_line t (omega arith) is) refl

  pub reads_false : (t : PlainToken) → Is sign.False t → (before : Text) → Read (want st) before → Read (have t.at 11 (ast t.at (truth false)) st) (before ++ t ∷ [])
  reads_false t is = operand st t.at (ast t.at (truth false)) (t ∷ []) (line.false_line t (omega arith) is) refl

  pub reads_empty : (t : PlainToken) → Is sign.Empty t → (before : Text) → Read (want st) before → Read (have t.at 11 (ast t.at empty) st) (before ++ t ∷ [])
  reads_empty t is = operand st t.at (ast t.at empty) (t ∷ []) (line.empty_line t (omega arith) is) refl

  pub reads_time : (t : PlainToken) → Is sign.Time t → (before : Text) → Read (want st) before → Read (have t.at 11 (ast t.at time) st) (before ++ t ∷ [])
  reads_time t is = operand st t.at (ast t.at time) (t ∷ []) (line.time_line t (omega arith) is) refl

  pub reads_name : {n : List ℕ} (t : PlainToken) → IsName n t → (before : Text) → Read (want st) before → Read (have t.at 11 (ast t.at (name n)) st) (before ++ t ∷ [])
  reads_name {n} t is = operand st t.at (ast t.at (name n)) (t ∷ []) (line.name_line t (omega arith) is) refl

  pub reads_call : {n : List ℕ} (t t1 : PlainToken) → IsName n t → Is sign.OpenParenthesis t1 → (before : Text) → Read (want st) before → Read (want (arguments t.at n [] ∷ st)) (before ++ t ∷ t1 ∷ [])
  reads_call {n} t t1 is opens = begins st (arguments t.at n []) (t ∷ t1 ∷ []) (read.read_name t t1 [] is opens read.no_part) (wants_most st)

  pub reads_unit : (t1 t2 : PlainToken) → Is sign.OpenParenthesis t1 → Is sign.CloseParenthesis t2 → (before : Text) → Read (want st) before → Read (have t1.at 11 (ast t1.at unit) st) (before ++ t1 ∷ t2 ∷ [])
  reads_unit t1 t2 opens closes = operand st t1.at (ast t1.at unit) (t1 ∷ t2 ∷ []) (line.unit_line t1 t2 (omega arith) opens closes) refl

  pub reads_group : (t : PlainToken) → Is sign.OpenParenthesis t → (before : Text) → Read (want st) before → Read (want (group t.at [] ∷ st)) (before ++ t ∷ [])
  reads_group t is = begins st (group t.at []) (t ∷ []) (read.read_parenthesis t [] is read.no_part) (wants_most st)

  pub reads_no_items : (t1 t2 : PlainToken) → Is sign.OpenBracket t1 → Is sign.CloseBracket t2 → (before : Text) → Read (want st) before → Read (have t1.at 11 (ast t1.at (list no_ast)) st) (before ++ t1 ∷ t2 ∷ [])
  reads_no_items t1 t2 opens closes = operand st t1.at (ast t1.at (list no_ast)) (t1 ∷ t2 ∷ []) (line.no_items_line t1 t2 (omega arith) opens closes) refl

  pub reads_items : (t : PlainToken) → Is sign.OpenBracket t → (before : Text) → Read (want st) before → Read (want (items t.at [] ∷ st)) (before ++ t ∷ [])
  reads_items t is = begins st (items t.at []) (t ∷ []) (read.read_bracket t [] is read.no_part) (wants_most st)

  pub reads_let : {n : List ℕ} (t1 t2 m t3 : PlainToken) → Is sign.Let t1 → Is sign.Val t2 → IsName n m → Is sign.Equal t3
      → (before : Text) → Read (want st) before → Read (want (local t1.at [] n ∷ st)) (before ++ t1 ∷ t2 ∷ m ∷ t3 ∷ [])
  reads_let {n} t1 t2 m t3 is val_is n_is equal = begins st (local t1.at [] n) (t1 ∷ t2 ∷ m ∷ t3 ∷ []) (read.read_equal t1 t2 m t3 [] is read.no_local val_is n_is equal) (wants_most st)

-- ---- a form goes on behind the part that it wanted

joined : (p v u used : Text) {q before : Text} → before ≡ q ++ u → q ≡ p ++ v → before ++ used ≡ p ++ (v ++ (u ++ used))
joined p v u used e1 e2 = rw (e1, e2) (three_parts p v u used)

goes_on : (at k : ℕ) (c : PlainAst) (st : Opens) (form new : PlainOpen) (used : Text) → ((v u : Text) → Opening form v → Spells k c u → Opening new (v ++ (u ++ used))) → becomes form ≡ becomes new
    → (before : Text) → Read (have at k c (form ∷ st)) before → Read (want (new ∷ st)) (before ++ used)
goes_on at k c st form new used opens same before was =
    let below = was.6 in
    (below.0, below.1 ++ (was.1 ++ used), joined below.0 below.1 was.1 used was.2 below.2, opens below.1 was.1 below.3 was.3, rw (← same) below.4, below.5)

opens_then : {start k : ℕ} {c : PlainAst} (t : PlainToken) → Is sign.Then t → (v u : Text) → Opening (condition start) v → Spells k c u → Opening (consequence start c) (v ++ (u ++ t ∷ []))
opens_then t2 is2 v u (read.read_if t1 is1) c = read.read_then t1 t2 u is1 (spells_down (omega arith) c) is2

opens_else : {start k : ℕ} {i c : PlainAst} (t : PlainToken) → Is sign.Else t → (v u : Text) → Opening (consequence start i) v → Spells k c u → Opening (alternative start i c) (v ++ (u ++ t ∷ []))
opens_else t3 is3 v u (read.read_then t1 t2 u1 is1 i is2) c = simp append_assoc (simp append_assoc at (read.read_else t1 t2 t3 u1 u is1 i is2 (spells_down (omega arith) c) is3))

opens_arm : {start k : ℕ} {c : PlainAst} {p : PlainPat} (t1 t2 : PlainToken) (w : Text) → Is sign.Of t1 → SpellsPat 0 p w → Is sign.Arrow t2
    → (v u : Text) → Opening (subject start) v → Spells k c u → Opening (arm start c [] p) (v ++ (u ++ (t1 ∷ w ++ t2 ∷ [])))
opens_arm t1 t2 w is1 p is2 v u (read.read_case t is) c = simp append_assoc at (read.read_arrow t t1 t2 u [] w is (spells_down (omega arith) c) is1 read.no_arm p is2)

opens_next_arm : {start k : ℕ} {a c : PlainAst} {arms : List (PlainPat × PlainAst)} {p q : PlainPat} (t1 t2 : PlainToken) (w : Text) → 1 ≤ k → Is sign.Bar t1 → SpellsPat 0 q w → Is sign.Arrow t2
    → (v u : Text) → Opening (arm start a arms p) v → Spells k c u → Opening (arm start a (arms ++ (p, c) ∷ []) q) (v ++ (u ++ (t1 ∷ w ++ t2 ∷ [])))
opens_next_arm s1 s2 x le js1 q js2 v u (read.read_arrow t1 t2 t3 u1 u2 u3 is1 a is2 arms p is3) c =
    let y : Text = u3 ++ t3 ∷ u ++ s1 ∷ [] in
    simp append_assoc (rw (three_parts u1 (t2 ∷ u2 ++ y) x (s2 ∷ []), append_assoc u2 y (x ++ s2 ∷ []), three_parts u3 (t3 ∷ u) (s1 ∷ []) (x ++ s2 ∷ [])) at
    (read.read_arrow t1 t2 s2 u1 (u2 ++ y) x is1 a is2 (arms_more arms u3 u t3 s1 p is3 (spells_down le c) js1) q js2))

opens_from : {start k : ℕ} {item total : List ℕ} {c : PlainAst} (t : PlainToken) → Is sign.From t → (v u : Text) → Opening (fold_list start item total) v → Spells k c u → Opening (fold_start start item total c) (v ++ (u ++ t ∷ []))
opens_from t4 is4 v u (read.read_over t1 n1 t2 n2 t3 is1 item is2 total is3) c = read.read_from t1 n1 t2 n2 t3 t4 u is1 item is2 total is3 (spells_down (omega arith) c) is4

opens_do : {start k : ℕ} {item total : List ℕ} {a c : PlainAst} (t : PlainToken) → Is sign.Do t → (v u : Text) → Opening (fold_start start item total a) v → Spells k c u → Opening (fold_body start item total a c) (v ++ (u ++ t ∷ []))
opens_do t5 is5 v u (read.read_from t1 n1 t2 n2 t3 t4 u1 is1 item is2 total is3 a is4) c =
    simp append_assoc (simp append_assoc at (read.read_do t1 n1 t2 n2 t3 t4 t5 u1 u is1 item is2 total is3 a is4 (spells_down (omega arith) c) is5))

opens_term : {start k : ℕ} {c : PlainAst} {parts : List PlainAst} (t : PlainToken) → 3 ≤ k → Is sign.DoublePlus t
    → (v u : Text) → Opening (terms start parts) v → Spells k c u → Opening (terms start (parts ++ c ∷ [])) (v ++ (u ++ t ∷ []))
opens_term t le is v u (read.read_terms w parts) c = rw (offset_before parts (u ++ t ∷ [])) (read.read_terms (w ++ (u ++ t ∷ [])) (before_more parts u t (spells_down le c) is))

opens_in_group : {start k : ℕ} {c : PlainAst} {parts : List PlainAst} (t : PlainToken) → Is sign.Comma t → (v u : Text) → Opening (group start parts) v → Spells k c u → Opening (group start (parts ++ c ∷ [])) (v ++ (u ++ t ∷ []))
opens_in_group t is v u (read.read_parenthesis t1 w is1 parts) c = read.read_parenthesis t1 (w ++ (u ++ t ∷ [])) is1 (before_more parts u t (spells_down (omega arith) c) is)

opens_item : {start k : ℕ} {c : PlainAst} {parts : List PlainAst} (t : PlainToken) → Is sign.Comma t → (v u : Text) → Opening (items start parts) v → Spells k c u → Opening (items start (parts ++ c ∷ [])) (v ++ (u ++ t ∷ []))
opens_item t is v u (read.read_bracket t1 w is1 parts) c = read.read_bracket t1 (w ++ (u ++ t ∷ [])) is1 (before_more parts u t (spells_down (omega arith) c) is)

opens_argument : {start k : ℕ} {n : List ℕ} {c : PlainAst} {parts : List PlainAst} (t : PlainToken) → Is sign.Comma t → (v u : Text) → Opening (arguments start n parts) v → Spells k c u → Opening (arguments start n (parts ++ c ∷ [])) (v ++ (u ++ t ∷ []))
opens_argument t is v u (read.read_name t1 t2 w is1 is2 parts) c = read.read_name t1 t2 (w ++ (u ++ t ∷ [])) is1 is2 (before_more parts u t (spells_down (omega arith) c) is)

opens_local : {start k : ℕ} {n m : List ℕ} {c : PlainAst} {locals : List (List ℕ × PlainAst)} (t1 t2 t3 : PlainToken) → Is sign.Val t1 → IsName m t2 → Is sign.Equal t3
    → (v u : Text) → Opening (local start locals n) v → Spells k c u → Opening (local start (locals ++ (n, c) ∷ []) m) (v ++ (u ++ t1 ∷ t2 ∷ t3 ∷ []))
opens_local s1 s2 s3 js1 js2 js3 v u (read.read_equal t t1 m t2 w is locals is1 m_is is2) c =
    simp append_assoc (simp append_assoc at (read.read_equal t s1 s2 s3 (w ++ t1 ∷ m ∷ t2 ∷ u) is (locals_more locals t1 m t2 u is1 m_is is2 (spells_down (omega arith) c)) js1 js2 js3))

opens_body : (t1 t2 : PlainToken) (locals : List (List ℕ × PlainAst)) (last : List ℕ × PlainAst) (u : Text) → Is sign.Let t1 → LocalsBefore (locals ++ last ∷ []) u → Is sign.In t2
    → Opening (body t1.at (locals ++ last ∷ [])) (t1 ∷ u ++ t2 ∷ [])
opens_body t1 t2 [] last u is locals is2 = read.read_in t1 t2 u is locals is2
opens_body t1 t2 (first ∷ rest) last u is locals is2 = read.read_in t1 t2 u is locals is2

opens_in : {start k : ℕ} {n : List ℕ} {c : PlainAst} {locals : List (List ℕ × PlainAst)} (t : PlainToken) → Is sign.In t → (v u : Text) → Opening (local start locals n) v → Spells k c u → Opening (body start (locals ++ (n, c) ∷ [])) (v ++ (u ++ t ∷ []))
opens_in {n = n} {c = c} {locals = before} t2 is2 v u (read.read_equal t t1 m t3 w is locals is1 m_is is3) c_is =
    simp append_assoc (simp append_assoc at (opens_body t t2 before (n, c) (w ++ t1 ∷ m ∷ t3 ∷ u) is (locals_more locals t1 m t3 u is1 m_is is3 (spells_down (omega arith) c_is)) is2))

-- ---- a form ends with its last part

ends : (at k : ℕ) (c : PlainAst) (st : Opens) (form : PlainOpen) (m : ℕ) (d : PlainAst) (used : Text) → ((v u : Text) → Opening form v → Spells k c u → Spells m d (v ++ (u ++ used))) → (wants st ≤ becomes form → wants st ≤ m)
    → (before : Text) → Read (have at k c (form ∷ st)) before → Read (have (start_of form) m d st) (before ++ used)
ends at k c st form m d used whole tight before was =
    let below = was.6 in
    (below.0, below.1 ++ (was.1 ++ used), joined below.0 below.1 was.1 used was.2 below.2, whole below.1 was.1 below.3 was.3, starts_at below.3 (was.1 ++ used), tight below.4, below.5)

-- and no token behind it
ends_so : (at k : ℕ) (c : PlainAst) (st : Opens) (form : PlainOpen) (m : ℕ) (d : PlainAst) → ((v u : Text) → Opening form v → Spells k c u → Spells m d (v ++ u)) → (wants st ≤ becomes form → wants st ≤ m)
    → (before : Text) → Read (have at k c (form ∷ st)) before → Read (have (start_of form) m d st) before
ends_so at k c st form m d whole tight before was =
    rw (append-nil before) at (ends at k c st form m d [] (λ v u opening part. rw (append-nil u) (whole v u opening part)) tight before was)

spells_operand : {start k sign : ℕ} {a c : PlainAst} (o : Infix) → right o ≤ k → (v u : Text) → Opening (behind start o sign a) v → Spells k c u → Spells (precedence o) (ast start (infixed o sign a c)) (v ++ u)
spells_operand o le v u (read.read_operator t _ w a is) c = rw (append_assoc w (t ∷ []) u) (line.infix_line {l = precedence o} t w u o (omega arith) a is (spells_down le c))

spells_prefix : {start k : ℕ} {c : PlainAst} {p : Prefix} → 11 ≤ k → (v u : Text) → Opening (front start p) v → Spells k c u → Spells 11 (ast start (prefixed p c)) (v ++ u)
spells_prefix le v u (read.read_not t is) c = line.not_line t u (omega arith) is (spells_down le c)
spells_prefix le v u (read.read_negate t is) c = line.negate_line t u (omega arith) is (spells_down le c)
spells_prefix le v u (read.read_component t n is num) c = line.component_line t n u (omega arith) is num (spells_down le c)

spells_sum : {start k : ℕ} {c : PlainAst} {parts : List PlainAst} → 3 ≤ k → (v u : Text) → Opening (terms start parts) v → Spells k c u → Spells 2 (ast start (sum (after_asts parts (more_asts c no_ast)))) (v ++ u)
spells_sum le v u (read.read_terms w (read.part t u1 u2 first is rest)) c =
    rw (offset_front first (t ∷ u2), append_assoc u1 (t ∷ u2) u) (line.sum_line {l = 2} u1 (t ∷ u2 ++ u) (omega arith) first (terms_whole t is rest u (spells_down le c)))

spells_if : {start k : ℕ} {i a c : PlainAst} (v u : Text) → Opening (alternative start i a) v → Spells k c u → Spells (min k 1) (ast start (if_else i a c)) (v ++ u)
spells_if {k = k} v u (read.read_else t1 t2 t3 u1 u2 is1 i is2 a is3) c = simp append_assoc (simp append_assoc at (line.if_line {l = min k 1} t1 t2 t3 u1 u2 u (omega arith) is1 i is2 a is3 (spells_down (omega arith) c)))

spells_fold : {start k : ℕ} {item total : List ℕ} {a s c : PlainAst} (v u : Text) → Opening (fold_body start item total a s) v → Spells k c u → Spells (min k 1) (ast start (fold item total a s c)) (v ++ u)
spells_fold {k = k} v u (read.read_do t1 n1 t2 n2 t3 t4 t5 u1 u2 is1 item is2 total is3 a is4 s is5) c =
    simp append_assoc (simp append_assoc at (line.fold_line {l = min k 1} t1 n1 t2 n2 t3 t4 t5 u1 u2 u (omega arith) is1 item is2 total is3 a is4 s is5 (spells_down (omega arith) c)))

spells_case : {start k : ℕ} {a c : PlainAst} {arms : List (PlainPat × PlainAst)} {p : PlainPat} (v u : Text) → Opening (arm start a arms p) v → Spells k c u → Spells 0 (ast start (case_of a (after_arms arms (more_arms p c no_arm)))) (v ++ u)
spells_case v u (read.read_arrow t1 t2 t3 u1 u2 u3 is1 a is2 arms p is3) c =
    simp append_assoc (line.case_line t1 t2 u1 (u2 ++ (u3 ++ t3 ∷ u)) is1 a is2 (arms_whole arms u3 u t3 p is3 (spells_down (omega arith) c)))

spells_group : {start k : ℕ} {c : PlainAst} (t : PlainToken) → Is sign.CloseParenthesis t → (v u : Text) → Opening (group start []) v → Spells k c u → Spells 11 c (v ++ (u ++ t ∷ []))
spells_group t closes v u (read.read_parenthesis t1 w is read.no_part) c = line.group_line t1 t u (omega arith) is (spells_down (omega arith) c) closes

spells_tuple : {start k : ℕ} {a c : PlainAst} {parts : List PlainAst} (t : PlainToken) → Is sign.CloseParenthesis t
    → (v u : Text) → Opening (group start (a ∷ parts)) v → Spells k c u → Spells 11 (ast start (tuple (more_asts a (after_asts parts (more_asts c no_ast))))) (v ++ (u ++ t ∷ []))
spells_tuple t closes v u (read.read_parenthesis t1 w is (read.part t2 u1 u2 first comma rest)) c =
    simp append_assoc (simp append_assoc at (line.tuple_line {l = 11} t1 t2 t u1 (u2 ++ u) (omega arith) is first comma (parts_whole rest u (spells_down (omega arith) c)) closes))

spells_items : {start k : ℕ} {c : PlainAst} {parts : List PlainAst} (t : PlainToken) → Is sign.CloseBracket t
    → (v u : Text) → Opening (items start parts) v → Spells k c u → Spells 11 (ast start (list (after_asts parts (more_asts c no_ast)))) (v ++ (u ++ t ∷ []))
spells_items t closes v u (read.read_bracket t1 w is parts) c =
    rw (← append_assoc w u (t ∷ [])) (line.items_line {l = 11} t1 t (w ++ u) (omega arith) is (parts_whole parts u (spells_down (omega arith) c)) closes)

spells_call : {start k : ℕ} {n : List ℕ} {c : PlainAst} {parts : List PlainAst} (t : PlainToken) → Is sign.CloseParenthesis t
    → (v u : Text) → Opening (arguments start n parts) v → Spells k c u → Spells 11 (ast start (call n (after_asts parts (more_asts c no_ast)))) (v ++ (u ++ t ∷ []))
spells_call t closes v u (read.read_name t1 t2 w is1 is2 parts) c =
    rw (← append_assoc w u (t ∷ [])) (line.call_line {l = 11} t1 t2 t (w ++ u) (omega arith) is1 is2 (parts_whole parts u (spells_down (omega arith) c)) closes)

spells_let : {start k : ℕ} {c : PlainAst} {locals : List (List ℕ × PlainAst)} (t : PlainToken) → Is sign.End t
    → (v u : Text) → Opening (body start locals) v → Spells k c u → Spells 11 (ast start (let_in (after_locals locals no_local) c)) (v ++ (u ++ t ∷ []))
spells_let t is v u (read.read_in t1 t2 w is1 (read.one_local s1 m s2 u1 u2 js m_is equal first rest) is2) c =
    simp append_assoc (simp append_assoc at (line.let_line {l = 11} t1 t2 t (s1 ∷ m ∷ s2 ∷ u1 ++ u2) u (omega arith) is1 (locals_whole s1 m s2 u1 js m_is equal first rest) is2 (spells_down (omega arith) c) is))

-- ---- behind a part that was read

module _ (at k : ℕ) (c : PlainAst) (st : Opens) where
  -- an operator takes the part as its left operand
  pub reads_on : (o : Infix) (t : PlainToken) → left o ≤ k → wants st ≤ precedence o → Is (sign_of o) t
      → (before : Text) → Read (have at k c st) before → Read (want (behind at o t.at c ∷ st)) (before ++ t ∷ [])
  reads_on o t l le is before was =
      (was.0, was.1 ++ t ∷ [], rw was.2 (append_assoc was.0 was.1 (t ∷ [])), rw was.4 (read.read_operator t o was.1 (spells_down l was.3) is), le, was.6)

  pub reads_stamp : {z : ℤ} (t n : PlainToken) → 4 ≤ k → wants st ≤ 3 → Is sign.At t → IsNumber z n
      → (before : Text) → Read (have at k c st) before → Read (have at 3 (ast at (stamped c t.at z)) st) (before ++ t ∷ n ∷ [])
  reads_stamp t n l le is num before was =
      (was.0, was.1 ++ t ∷ n ∷ [], rw was.2 (append_assoc was.0 was.1 (t ∷ n ∷ [])), rw was.4 (line.stamp_line {l = 3} t n was.1 (omega arith) (spells_down l was.3) is num), was.4 ∙ sym (offset_front was.3 (t ∷ n ∷ [])), le, was.6)

  pub reads_first_term : (t : PlainToken) → 3 ≤ k → wants st ≤ 2 → Is sign.DoublePlus t
      → (before : Text) → Read (have at k c st) before → Read (want (terms at (c ∷ []) ∷ st)) (before ++ t ∷ [])
  reads_first_term t l le is before was =
      (was.0, was.1 ++ t ∷ [], rw was.2 (append_assoc was.0 was.1 (t ∷ [])), rw (was.4 ∙ sym (offset_front was.3 (t ∷ []))) (read.read_terms (was.1 ++ t ∷ []) (read.part t was.1 [] (spells_down l was.3) is read.no_part)), le, was.6)

  pub reads_further_term : (start : ℕ) (parts : List PlainAst) (t : PlainToken) → 3 ≤ k → Is sign.DoublePlus t
      → (before : Text) → Read (have at k c (terms start parts ∷ st)) before → Read (want (terms start (parts ++ c ∷ []) ∷ st)) (before ++ t ∷ [])
  reads_further_term start parts t l is = goes_on at k c st (terms start parts) (terms start (parts ++ c ∷ [])) (t ∷ []) (opens_term t l is) refl

  -- the innermost open form is complete
  pub reads_end_operand : (start : ℕ) (o : Infix) (sign : ℕ) (a : PlainAst) → right o ≤ k
      → (before : Text) → Read (have at k c (behind start o sign a ∷ st)) before → Read (have start (precedence o) (ast start (infixed o sign a c)) st) before
  reads_end_operand start o sign a r = ends_so at k c st (behind start o sign a) (precedence o) (ast start (infixed o sign a c)) (spells_operand o r) (λ le. le)

  pub reads_end_prefix : (start : ℕ) (p : Prefix) → 11 ≤ k
      → (before : Text) → Read (have at k c (front start p ∷ st)) before → Read (have start 11 (ast start (prefixed p c)) st) before
  reads_end_prefix start p r = ends_so at k c st (front start p) 11 (ast start (prefixed p c)) (spells_prefix r) (λ le. le)

  pub reads_end_sum : (start : ℕ) (parts : List PlainAst) → 3 ≤ k
      → (before : Text) → Read (have at k c (terms start parts ∷ st)) before → Read (have start 2 (ast start (sum (after_asts parts (more_asts c no_ast)))) st) before
  reads_end_sum start parts r = ends_so at k c st (terms start parts) 2 (ast start (sum (after_asts parts (more_asts c no_ast)))) (spells_sum r) (λ le. le)

  pub reads_end_if : (start : ℕ) (i a : PlainAst)
      → (before : Text) → Read (have at k c (alternative start i a ∷ st)) before → Read (have start (min k 1) (ast start (if_else i a c)) st) before
  reads_end_if start i a = ends_so at k c st (alternative start i a) (min k 1) (ast start (if_else i a c)) spells_if (λ le. omega (arith, wants_low st le))

  pub reads_end_fold : (start : ℕ) (item total : List ℕ) (a s : PlainAst)
      → (before : Text) → Read (have at k c (fold_body start item total a s ∷ st)) before → Read (have start (min k 1) (ast start (fold item total a s c)) st) before
  reads_end_fold start item total a s = ends_so at k c st (fold_body start item total a s) (min k 1) (ast start (fold item total a s c)) spells_fold (λ le. omega (arith, wants_low st le))

  pub reads_end_case : (start : ℕ) (a : PlainAst) (arms : List (PlainPat × PlainAst)) (p : PlainPat)
      → (before : Text) → Read (have at k c (arm start a arms p ∷ st)) before → Read (have start 0 (ast start (case_of a (after_arms arms (more_arms p c no_arm)))) st) before
  reads_end_case start a arms p = ends_so at k c st (arm start a arms p) 0 (ast start (case_of a (after_arms arms (more_arms p c no_arm)))) spells_case (λ le. le)

  -- the innermost open form goes on behind the part
  pub reads_then : (start : ℕ) (t : PlainToken) → Is sign.Then t
      → (before : Text) → Read (have at k c (condition start ∷ st)) before → Read (want (consequence start c ∷ st)) (before ++ t ∷ [])
  reads_then start t is = goes_on at k c st (condition start) (consequence start c) (t ∷ []) (opens_then t is) refl

  pub reads_else : (start : ℕ) (i : PlainAst) (t : PlainToken) → Is sign.Else t
      → (before : Text) → Read (have at k c (consequence start i ∷ st)) before → Read (want (alternative start i c ∷ st)) (before ++ t ∷ [])
  reads_else start i t is = goes_on at k c st (consequence start i) (alternative start i c) (t ∷ []) (opens_else t is) refl

  pub reads_of : (start : ℕ) {p : PlainPat} (t1 t2 : PlainToken) (u : Text) → Is sign.Of t1 → SpellsPat 0 p u → Is sign.Arrow t2
      → (before : Text) → Read (have at k c (subject start ∷ st)) before → Read (want (arm start c [] p ∷ st)) (before ++ (t1 ∷ u ++ t2 ∷ []))
  reads_of start {p} t1 t2 u is pattern arrow = goes_on at k c st (subject start) (arm start c [] p) (t1 ∷ u ++ t2 ∷ []) (opens_arm t1 t2 u is pattern arrow) refl

  pub reads_bar : (start : ℕ) (a : PlainAst) (arms : List (PlainPat × PlainAst)) (p : PlainPat) {q : PlainPat} (t1 t2 : PlainToken) (u : Text) → 1 ≤ k → Is sign.Bar t1 → SpellsPat 0 q u → Is sign.Arrow t2
      → (before : Text) → Read (have at k c (arm start a arms p ∷ st)) before → Read (want (arm start a (arms ++ (p, c) ∷ []) q ∷ st)) (before ++ (t1 ∷ u ++ t2 ∷ []))
  reads_bar start a arms p {q} t1 t2 u l is pattern arrow = goes_on at k c st (arm start a arms p) (arm start a (arms ++ (p, c) ∷ []) q) (t1 ∷ u ++ t2 ∷ []) (opens_next_arm t1 t2 u l is pattern arrow) refl

  pub reads_from : (start : ℕ) (item total : List ℕ) (t : PlainToken) → Is sign.From t
      → (before : Text) → Read (have at k c (fold_list start item total ∷ st)) before → Read (want (fold_start start item total c ∷ st)) (before ++ t ∷ [])
  reads_from start item total t is = goes_on at k c st (fold_list start item total) (fold_start start item total c) (t ∷ []) (opens_from t is) refl

  pub reads_do : (start : ℕ) (item total : List ℕ) (a : PlainAst) (t : PlainToken) → Is sign.Do t
      → (before : Text) → Read (have at k c (fold_start start item total a ∷ st)) before → Read (want (fold_body start item total a c ∷ st)) (before ++ t ∷ [])
  reads_do start item total a t is = goes_on at k c st (fold_start start item total a) (fold_body start item total a c) (t ∷ []) (opens_do t is) refl

  pub reads_next_in_group : (start : ℕ) (parts : List PlainAst) (t : PlainToken) → Is sign.Comma t
      → (before : Text) → Read (have at k c (group start parts ∷ st)) before → Read (want (group start (parts ++ c ∷ []) ∷ st)) (before ++ t ∷ [])
  reads_next_in_group start parts t is = goes_on at k c st (group start parts) (group start (parts ++ c ∷ [])) (t ∷ []) (opens_in_group t is) refl

  pub reads_end_group : (start : ℕ) (t : PlainToken) → Is sign.CloseParenthesis t
      → (before : Text) → Read (have at k c (group start [] ∷ st)) before → Read (have start 11 c st) (before ++ t ∷ [])
  reads_end_group start t is = ends at k c st (group start []) 11 c (t ∷ []) (spells_group t is) (λ le. le)

  pub reads_end_tuple : (start : ℕ) (a : PlainAst) (parts : List PlainAst) (t : PlainToken) → Is sign.CloseParenthesis t
      → (before : Text) → Read (have at k c (group start (a ∷ parts) ∷ st)) before → Read (have start 11 (ast start (tuple (more_asts a (after_asts parts (more_asts c no_ast))))) st) (before ++ t ∷ [])
  reads_end_tuple start a parts t is = ends at k c st (group start (a ∷ parts)) 11 (ast start (tuple (more_asts a (after_asts parts (more_asts c no_ast))))) (t ∷ []) (spells_tuple t is) (λ le. le)

  pub reads_next_item : (start : ℕ) (parts : List PlainAst) (t : PlainToken) → Is sign.Comma t
      → (before : Text) → Read (have at k c (items start parts ∷ st)) before → Read (want (items start (parts ++ c ∷ []) ∷ st)) (before ++ t ∷ [])
  reads_next_item start parts t is = goes_on at k c st (items start parts) (items start (parts ++ c ∷ [])) (t ∷ []) (opens_item t is) refl

  pub reads_end_items : (start : ℕ) (parts : List PlainAst) (t : PlainToken) → Is sign.CloseBracket t
      → (before : Text) → Read (have at k c (items start parts ∷ st)) before → Read (have start 11 (ast start (list (after_asts parts (more_asts c no_ast)))) st) (before ++ t ∷ [])
  reads_end_items start parts t is = ends at k c st (items start parts) 11 (ast start (list (after_asts parts (more_asts c no_ast)))) (t ∷ []) (spells_items t is) (λ le. le)

  pub reads_next_argument : (start : ℕ) (n : List ℕ) (parts : List PlainAst) (t : PlainToken) → Is sign.Comma t
      → (before : Text) → Read (have at k c (arguments start n parts ∷ st)) before → Read (want (arguments start n (parts ++ c ∷ []) ∷ st)) (before ++ t ∷ [])
  reads_next_argument start n parts t is = goes_on at k c st (arguments start n parts) (arguments start n (parts ++ c ∷ [])) (t ∷ []) (opens_argument t is) refl

  pub reads_end_call : (start : ℕ) (n : List ℕ) (parts : List PlainAst) (t : PlainToken) → Is sign.CloseParenthesis t
      → (before : Text) → Read (have at k c (arguments start n parts ∷ st)) before → Read (have start 11 (ast start (call n (after_asts parts (more_asts c no_ast)))) st) (before ++ t ∷ [])
  reads_end_call start n parts t is = ends at k c st (arguments start n parts) 11 (ast start (call n (after_asts parts (more_asts c no_ast)))) (t ∷ []) (spells_call t is) (λ le. le)

  pub reads_next_local : (start : ℕ) (n : List ℕ) (locals : List (List ℕ × PlainAst)) {m : List ℕ} (t1 t2 t3 : PlainToken) → Is sign.Val t1 → IsName m t2 → Is sign.Equal t3
      → (before : Text) → Read (have at k c (local start locals n ∷ st)) before → Read (want (local start (locals ++ (n, c) ∷ []) m ∷ st)) (before ++ t1 ∷ t2 ∷ t3 ∷ [])
  reads_next_local start n locals {m} t1 t2 t3 is m_is equal = goes_on at k c st (local start locals n) (local start (locals ++ (n, c) ∷ []) m) (t1 ∷ t2 ∷ t3 ∷ []) (opens_local t1 t2 t3 is m_is equal) refl

  pub reads_in : (start : ℕ) (n : List ℕ) (locals : List (List ℕ × PlainAst)) (t : PlainToken) → Is sign.In t
      → (before : Text) → Read (have at k c (local start locals n ∷ st)) before → Read (want (body start (locals ++ (n, c) ∷ []) ∷ st)) (before ++ t ∷ [])
  reads_in start n locals t is = goes_on at k c st (local start locals n) (body start (locals ++ (n, c) ∷ [])) (t ∷ []) (opens_in t is) refl

  pub reads_end_let : (start : ℕ) (locals : List (List ℕ × PlainAst)) (t : PlainToken) → Is sign.End t
      → (before : Text) → Read (have at k c (body start locals ∷ st)) before → Read (have start 11 (ast start (let_in (after_locals locals no_local) c)) st) (before ++ t ∷ [])
  reads_end_let start locals t is = ends at k c st (body start locals) 11 (ast start (let_in (after_locals locals no_local) c)) (t ∷ []) (spells_let t is) (λ le. le)
