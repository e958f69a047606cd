-- What each of the tokens behind a part does: what was read then, and what may come.
use Rattle.std.proofs.Common.{◌≡◌, ℕ, ℤ, ◌<◌, ◌≤◌, min, List, [], ◌∷◌, ◌++◌, refl, sym, append_assoc, append-nil, ap, length, length-append, ⊎_elim, subst, arith}
use Rattle.cpn_lex.specs.Token.{PlainToken}
use Rattle.cpn_lex.specs.declared.symbols.Symbol.TheVariants as sign
use Rattle.cpn_syntax.specs.declared.refusals.SyntaxError.{SyntaxError}
use Rattle.cpn_trees.specs.declared.operators.Infix.{Infix}
use Rattle.cpn_trees.specs.declared.operators.Prefix.{Prefix}
use Rattle.cpn_syntax.specs.Texts.{Text, Is, IsName, IsNumber}
use Rattle.cpn_syntax.specs.Faults.{fault_at}
use Rattle.cpn_syntax.specs.PatternReadings.{IsReadAsPattern, BreaksOffInPattern}
use Rattle.cpn_syntax.specs.Inscriptions.{sign_of, precedence, left, right}
use Rattle.cpn_trees.specs.Trees.{PlainPat, PlainAst, ast, call, tuple, list, let_in, prefixed, infixed, stamped, sum, if_else, case_of, fold, no_ast, more_asts, asts_from, no_arm, more_arms, no_local}
use Rattle.cpn_syntax.specs.OpenForms.{condition, consequence, alternative, subject, arm, fold_list, fold_start, fold_body, terms, behind, front, group, items, arguments, local, body, Opens, wants, after_asts, after_arms, after_locals}
use Rattle.cpn_syntax.specs.Completions.{Closing, Wants}
use Rattle.cpn_syntax.specs.Progress.{Agrees}
use Rattle.cpn_syntax.specs.ReadForms.{State, want, have, Read, Takes}
use Rattle.cpn_syntax.specs.Steps.{BreaksOff, steps_left, ComesOn, IsAll, with_term}
use Rattle.cpn_syntax.specs.declared.open_forms.Part.{Part}
use Rattle.cpn_syntax.specs.Unread.{Begins}
use Rattle.cpn_syntax.specs.Joints.{NothingJoins}
use Rattle.cpn_syntax.proofs.Wants.{Next, numbered}
use Rattle.cpn_syntax.proofs.Completions.{NextArm, opens_arm}
use Rattle.cpn_syntax.proofs.Has.{untaken, goes_on, stamped_by, adds_further, adds_first, arm_at_bar, the_first, the_second}
use Rattle.cpn_syntax.proofs.Roles.{above_late}
use Rattle.cpn_syntax.proofs.Joints.{untaken_in}
use Rattle.cpn_syntax.proofs.LastParts.{asts_with_last}
use Rattle.cpn_syntax.proofs.FirstSteps.{comes, breaks, breaks_behind, same_begin, next_name, no_name, no_number, no_symbol}
use Rattle.cpn_syntax.proofs.ReadForms as reading
use Rattle.cpn_syntax.proofs.ViableTexts.{viable_stamp, viable_of, viable_bar, viable_next_val, viable_next_name}

-- by some tokens
comes_on : {s1 s2 : State} {to : Text} (used : Text) → ((before : Text) → Read s1 before → Read s2 (before ++ used))
    → ((r : Closing × PlainAst) (w : Text) → Agrees to w → Takes s1 r (used ++ w) → Takes s2 r w) → steps_left s2 to < steps_left s1 (used ++ to) → ComesOn s1 (used ++ to) s2 to
comes_on used reads only nearer = record { comes = comes used reads only; nearer = nearer }

-- by none
ends : {s1 s2 : State} {text : Text} → ((before : Text) → Read s1 before → Read s2 before)
    → ((r : Closing × PlainAst) (w : Text) → Agrees text w → Takes s1 r w → Takes s2 r w) → steps_left s2 text < steps_left s1 text → ComesOn s1 text s2 text
ends reads only nearer = comes_on [] (λ before was. rw (append-nil before) (reads before was)) only nearer

module _ (at k : ℕ) (c : PlainAst) (st : Opens) (rest : Text) where
  -- ---- the next token takes the part

  pub takes_operator : (o : Infix) (t : PlainToken) → left o ≤ k → wants st ≤ precedence o → Is (sign_of o) t → ComesOn (have at k c st) (t ∷ rest) (want (behind at o t.at c ∷ st)) rest
  takes_operator o t l le is = comes_on (t ∷ []) (reading.reads_on at k c st o t l le is) (λ r w agrees takes. goes_on takes o is le) (omega arith)

  pub takes_stamp : {z : ℤ} (t n : PlainToken) → 4 ≤ k → wants st ≤ 3 → Is sign.At t → IsNumber z n → ComesOn (have at k c st) (t ∷ n ∷ rest) (have at 3 (ast at (stamped c t.at z)) st) rest
  takes_stamp t n l le is num =
      comes_on (t ∷ n ∷ []) (reading.reads_stamp at k c st t n l le is num) (λ r w agrees takes. subst (λ kind. numbered (λ z. Takes (have at 3 (ast at (stamped c t.at z)) st) r) kind w) num (stamped_by takes is le)) (omega arith)

  pub breaks_stamp : (t : PlainToken) → 4 ≤ k → wants st ≤ 3 → Is sign.At t → ((z : ℤ) → Begins (IsNumber z) rest → ⊥) → BreaksOff (have at k c st) (t ∷ rest) (fault_at rest)
  breaks_stamp t l le is other = breaks_behind rest (t ∷ []) (viable_stamp at k c st t l le is) (λ r w agrees takes. no_number _ rest w agrees other (stamped_by takes is le))

  pub takes_first_term : (t : PlainToken) → 3 ≤ k → wants st ≤ 2 → Is sign.DoublePlus t → ComesOn (have at k c st) (t ∷ rest) (want (terms at (c ∷ []) ∷ st)) rest
  takes_first_term t l le is = comes_on (t ∷ []) (reading.reads_first_term at k c st t l le is) (λ r w agrees takes. adds_first takes is le) (omega arith)

  pub takes_further_term : (start : ℕ) (parts : List PlainAst) (t : PlainToken) → 3 ≤ k → Is sign.DoublePlus t → ComesOn (have at k c (terms start parts ∷ st)) (t ∷ rest) (want (terms start (parts ++ c ∷ []) ∷ st)) rest
  takes_further_term start parts t l is = comes_on (t ∷ []) (reading.reads_further_term at k c st start parts t l is) (λ r w agrees takes. adds_further takes is) (omega arith)

  -- ---- the innermost form is complete

  pub ends_operand : (start : ℕ) (o : Infix) (sign : ℕ) (a : PlainAst) → NothingJoins k (right o) rest → ComesOn (have at k c (behind start o sign a ∷ st)) rest (have start (precedence o) (ast start (infixed o sign a c)) st) rest
  ends_operand start o sign a free = ends (λ before was. reading.reads_end_operand at k c st start o sign a was.5 before was) (λ r w agrees takes. (untaken takes (untaken_in k (right o) rest w free agrees)).1) (omega arith)

  pub ends_prefix : (start : ℕ) (p : Prefix) → NothingJoins k 11 rest → ComesOn (have at k c (front start p ∷ st)) rest (have start 11 (ast start (prefixed p c)) st) rest
  ends_prefix start p free = ends (λ before was. reading.reads_end_prefix at k c st start p was.5 before was) (λ r w agrees takes. (untaken takes (untaken_in k 11 rest w free agrees)).1) (omega arith)

  pub ends_sum : (start : ℕ) (parts : List PlainAst) → NothingJoins k 3 rest → ComesOn (have at k c (terms start parts ∷ st)) rest (have start 2 (ast start (sum (after_asts parts (more_asts c no_ast)))) st) rest
  ends_sum start parts free = ends (λ before was. reading.reads_end_sum at k c st start parts was.5 before was) (λ r w agrees takes. (untaken takes (untaken_in k 3 rest w free agrees)).1) (omega arith)

  pub ends_if : (start : ℕ) (i a : PlainAst) → NothingJoins k 0 rest → ComesOn (have at k c (alternative start i a ∷ st)) rest (have start (min k 1) (ast start (if_else i a c)) st) rest
  ends_if start i a free = ends (reading.reads_end_if at k c st start i a) (λ r w agrees takes. untaken takes (untaken_in k 0 rest w free agrees)) (omega arith)

  pub ends_fold : (start : ℕ) (item total : List ℕ) (a s : PlainAst) → NothingJoins k 0 rest → ComesOn (have at k c (fold_body start item total a s ∷ st)) rest (have start (min k 1) (ast start (fold item total a s c)) st) rest
  ends_fold start item total a s free = ends (reading.reads_end_fold at k c st start item total a s) (λ r w agrees takes. untaken takes (untaken_in k 0 rest w free agrees)) (omega arith)

  no_bar : (Rest : Text → Type 0) (w : Text) → Agrees rest w → (1 ≤ k → Begins (Is sign.Bar) rest → ⊥) → Next sign.Bar (λ w. (1 ≤ k) × Rest w) w → ⊥
  no_bar Rest [] agrees other next = next
  no_bar Rest (t ∷ w) agrees other next = other next.1.0 (same_begin (Is sign.Bar) rest (t ∷ w) agrees next.0)

  pub ends_case : (start : ℕ) (a : PlainAst) (arms : List (PlainPat × PlainAst)) (p : PlainPat) → NothingJoins k 0 rest → (1 ≤ k → Begins (Is sign.Bar) rest → ⊥)
      → ComesOn (have at k c (arm start a arms p ∷ st)) rest (have start 0 (ast start (case_of a (after_arms arms (more_arms p c no_arm)))) st) rest
  ends_case start a arms p free other =
      ends (reading.reads_end_case at k c st start a arms p) (λ r w agrees takes. ⊎_elim (λ next. absurd (no_bar _ w agrees other next)) (λ has. has) (untaken takes (untaken_in k 0 rest w free agrees))) (omega arith)

  -- ---- the innermost form goes on behind the part

  pub goes_on_then : (start : ℕ) (t : PlainToken) → Is sign.Then t → ComesOn (have at k c (condition start ∷ st)) (t ∷ rest) (want (consequence start c ∷ st)) rest
  goes_on_then start t is = comes_on (t ∷ []) (reading.reads_then at k c st start t is) (λ r w agrees takes. (untaken takes (rw is refl)).1) (omega arith)

  pub breaks_then : (start : ℕ) → NothingJoins k 0 rest → (Begins (Is sign.Then) rest → ⊥) → BreaksOff (have at k c (condition start ∷ st)) rest (fault_at rest)
  breaks_then start free other = breaks _ rest (λ r w agrees takes. no_symbol sign.Then _ rest w agrees other (untaken takes (untaken_in k 0 rest w free agrees)))

  pub goes_on_else : (start : ℕ) (i : PlainAst) (t : PlainToken) → Is sign.Else t → ComesOn (have at k c (consequence start i ∷ st)) (t ∷ rest) (want (alternative start i c ∷ st)) rest
  goes_on_else start i t is = comes_on (t ∷ []) (reading.reads_else at k c st start i t is) (λ r w agrees takes. (untaken takes (rw is refl)).1) (omega arith)

  pub breaks_else : (start : ℕ) (i : PlainAst) → NothingJoins k 0 rest → (Begins (Is sign.Else) rest → ⊥) → BreaksOff (have at k c (consequence start i ∷ st)) rest (fault_at rest)
  breaks_else start i free other = breaks _ rest (λ r w agrees takes. no_symbol sign.Else _ rest w agrees other (untaken takes (untaken_in k 0 rest w free agrees)))

  pub goes_on_from : (start : ℕ) (item total : List ℕ) (t : PlainToken) → Is sign.From t → ComesOn (have at k c (fold_list start item total ∷ st)) (t ∷ rest) (want (fold_start start item total c ∷ st)) rest
  goes_on_from start item total t is = comes_on (t ∷ []) (reading.reads_from at k c st start item total t is) (λ r w agrees takes. (untaken takes (rw is refl)).1) (omega arith)

  pub breaks_from : (start : ℕ) (item total : List ℕ) → NothingJoins k 0 rest → (Begins (Is sign.From) rest → ⊥) → BreaksOff (have at k c (fold_list start item total ∷ st)) rest (fault_at rest)
  breaks_from start item total free other = breaks _ rest (λ r w agrees takes. no_symbol sign.From _ rest w agrees other (untaken takes (untaken_in k 0 rest w free agrees)))

  pub goes_on_do : (start : ℕ) (item total : List ℕ) (a : PlainAst) (t : PlainToken) → Is sign.Do t → ComesOn (have at k c (fold_start start item total a ∷ st)) (t ∷ rest) (want (fold_body start item total a c ∷ st)) rest
  goes_on_do start item total a t is = comes_on (t ∷ []) (reading.reads_do at k c st start item total a t is) (λ r w agrees takes. (untaken takes (rw is refl)).1) (omega arith)

  pub breaks_do : (start : ℕ) (item total : List ℕ) (a : PlainAst) → NothingJoins k 0 rest → (Begins (Is sign.Do) rest → ⊥) → BreaksOff (have at k c (fold_start start item total a ∷ st)) rest (fault_at rest)
  breaks_do start item total a free other = breaks _ rest (λ r w agrees takes. no_symbol sign.Do _ rest w agrees other (untaken takes (untaken_in k 0 rest w free agrees)))

  pub ends_let : (start : ℕ) (locals : List (List ℕ × PlainAst)) (t : PlainToken) → Is sign.End t → ComesOn (have at k c (body start locals ∷ st)) (t ∷ rest) (have start 11 (ast start (let_in (after_locals locals no_local) c)) st) rest
  ends_let start locals t is = comes_on (t ∷ []) (reading.reads_end_let at k c st start locals t is) (λ r w agrees takes. (untaken takes (rw is refl)).1) (omega arith)

  pub breaks_let : (start : ℕ) (locals : List (List ℕ × PlainAst)) → NothingJoins k 0 rest → (Begins (Is sign.End) rest → ⊥) → BreaksOff (have at k c (body start locals ∷ st)) rest (fault_at rest)
  breaks_let start locals free other = breaks _ rest (λ r w agrees takes. no_symbol sign.End _ rest w agrees other (untaken takes (untaken_in k 0 rest w free agrees)))

  -- ---- behind a part in parentheses or brackets

  pub goes_on_group : (start : ℕ) (parts : List PlainAst) (t : PlainToken) → Is sign.Comma t → ComesOn (have at k c (group start parts ∷ st)) (t ∷ rest) (want (group start (parts ++ c ∷ []) ∷ st)) rest
  goes_on_group start parts t is = comes_on (t ∷ []) (reading.reads_next_in_group at k c st start parts t is) (λ r w agrees takes. the_first (untaken takes (rw is refl)) is (λ e. cc)) (omega arith)

  pub ends_group : (start : ℕ) (t : PlainToken) → Is sign.CloseParenthesis t → ComesOn (have at k c (group start [] ∷ st)) (t ∷ rest) (have start 11 c st) rest
  ends_group start t is = comes_on (t ∷ []) (reading.reads_end_group at k c st start t is) (λ r w agrees takes. the_second (untaken takes (rw is refl)) is (λ e. cc)) (omega arith)

  pub ends_tuple : (start : ℕ) (a : PlainAst) (parts : List PlainAst) (t : PlainToken) → Is sign.CloseParenthesis t
      → ComesOn (have at k c (group start (a ∷ parts) ∷ st)) (t ∷ rest) (have start 11 (ast start (tuple (more_asts a (after_asts parts (more_asts c no_ast))))) st) rest
  ends_tuple start a parts t is = comes_on (t ∷ []) (reading.reads_end_tuple at k c st start a parts t is) (λ r w agrees takes. the_second (untaken takes (rw is refl)) is (λ e. cc)) (omega arith)

  -- a tuple where there were parts before this one
  pub ends_parts : (start : ℕ) (parts : List PlainAst) (t : PlainToken) → (parts ≡ [] → ⊥) → Is sign.CloseParenthesis t
      → ComesOn (have at k c (group start parts ∷ st)) (t ∷ rest) (have start 11 (ast start (tuple (asts_from (parts ++ c ∷ [])))) st) rest
  ends_parts start [] t some is = absurd (some refl)
  ends_parts start (a ∷ parts) t some is = rw asts_with_last (ends_tuple start a parts t is)

  pub breaks_group : (start : ℕ) (parts : List PlainAst) → NothingJoins k 0 rest → (Begins (Is sign.Comma) rest → ⊥) → (Begins (Is sign.CloseParenthesis) rest → ⊥) → BreaksOff (have at k c (group start parts ∷ st)) rest (fault_at rest)
  breaks_group start parts free no_comma other =
      breaks _ rest (λ r w agrees takes. ⊎_elim (no_symbol sign.Comma _ rest w agrees no_comma) (no_symbol sign.CloseParenthesis _ rest w agrees other) (untaken takes (untaken_in k 0 rest w free agrees)))

  pub goes_on_items : (start : ℕ) (parts : List PlainAst) (t : PlainToken) → Is sign.Comma t → ComesOn (have at k c (items start parts ∷ st)) (t ∷ rest) (want (items start (parts ++ c ∷ []) ∷ st)) rest
  goes_on_items start parts t is = comes_on (t ∷ []) (reading.reads_next_item at k c st start parts t is) (λ r w agrees takes. the_first (untaken takes (rw is refl)) is (λ e. cc)) (omega arith)

  pub ends_items : (start : ℕ) (parts : List PlainAst) (t : PlainToken) → Is sign.CloseBracket t
      → ComesOn (have at k c (items start parts ∷ st)) (t ∷ rest) (have start 11 (ast start (list (after_asts parts (more_asts c no_ast)))) st) rest
  ends_items start parts t is = comes_on (t ∷ []) (reading.reads_end_items at k c st start parts t is) (λ r w agrees takes. the_second (untaken takes (rw is refl)) is (λ e. cc)) (omega arith)

  pub breaks_items : (start : ℕ) (parts : List PlainAst) → NothingJoins k 0 rest → (Begins (Is sign.Comma) rest → ⊥) → (Begins (Is sign.CloseBracket) rest → ⊥) → BreaksOff (have at k c (items start parts ∷ st)) rest (fault_at rest)
  breaks_items start parts free no_comma other =
      breaks _ rest (λ r w agrees takes. ⊎_elim (no_symbol sign.Comma _ rest w agrees no_comma) (no_symbol sign.CloseBracket _ rest w agrees other) (untaken takes (untaken_in k 0 rest w free agrees)))

  pub goes_on_call : (start : ℕ) (n : List ℕ) (parts : List PlainAst) (t : PlainToken) → Is sign.Comma t → ComesOn (have at k c (arguments start n parts ∷ st)) (t ∷ rest) (want (arguments start n (parts ++ c ∷ []) ∷ st)) rest
  goes_on_call start n parts t is = comes_on (t ∷ []) (reading.reads_next_argument at k c st start n parts t is) (λ r w agrees takes. the_first (untaken takes (rw is refl)) is (λ e. cc)) (omega arith)

  pub ends_call : (start : ℕ) (n : List ℕ) (parts : List PlainAst) (t : PlainToken) → Is sign.CloseParenthesis t
      → ComesOn (have at k c (arguments start n parts ∷ st)) (t ∷ rest) (have start 11 (ast start (call n (after_asts parts (more_asts c no_ast)))) st) rest
  ends_call start n parts t is = comes_on (t ∷ []) (reading.reads_end_call at k c st start n parts t is) (λ r w agrees takes. the_second (untaken takes (rw is refl)) is (λ e. cc)) (omega arith)

  pub breaks_call : (start : ℕ) (n : List ℕ) (parts : List PlainAst) → NothingJoins k 0 rest → (Begins (Is sign.Comma) rest → ⊥) → (Begins (Is sign.CloseParenthesis) rest → ⊥) → BreaksOff (have at k c (arguments start n parts ∷ st)) rest (fault_at rest)
  breaks_call start n parts free no_comma other =
      breaks _ rest (λ r w agrees takes. ⊎_elim (no_symbol sign.Comma _ rest w agrees no_comma) (no_symbol sign.CloseParenthesis _ rest w agrees other) (untaken takes (untaken_in k 0 rest w free agrees)))

  -- ---- behind a value of a `let`

  pub goes_on_local : (start : ℕ) (locals : List (List ℕ × PlainAst)) (n : List ℕ) {m : List ℕ} (t1 t2 t3 : PlainToken) → Is sign.Val t1 → IsName m t2 → Is sign.Equal t3
      → ComesOn (have at k c (local start locals n ∷ st)) (t1 ∷ t2 ∷ t3 ∷ rest) (want (local start (locals ++ (n, c) ∷ []) m ∷ st)) rest
  goes_on_local start locals n t1 t2 t3 is m_is equal = comes_on (t1 ∷ t2 ∷ t3 ∷ []) (reading.reads_next_local at k c st start n locals t1 t2 t3 is m_is equal)
      (λ r w agrees takes. (next_name _ t2 (t3 ∷ w) m_is (the_first (untaken takes (rw is refl)) is (λ e. cc))).1) (omega arith)

  pub goes_on_in : (start : ℕ) (locals : List (List ℕ × PlainAst)) (n : List ℕ) (t : PlainToken) → Is sign.In t → ComesOn (have at k c (local start locals n ∷ st)) (t ∷ rest) (want (body start (locals ++ (n, c) ∷ []) ∷ st)) rest
  goes_on_in start locals n t is = comes_on (t ∷ []) (reading.reads_in at k c st start n locals t is) (λ r w agrees takes. the_second (untaken takes (rw is refl)) is (λ e. cc)) (omega arith)

  pub breaks_local : (start : ℕ) (locals : List (List ℕ × PlainAst)) (n : List ℕ) → NothingJoins k 0 rest → (Begins (Is sign.In) rest → ⊥) → (Begins (Is sign.Val) rest → ⊥) → BreaksOff (have at k c (local start locals n ∷ st)) rest (fault_at rest)
  breaks_local start locals n free no_in other =
      breaks _ rest (λ r w agrees takes. ⊎_elim (no_symbol sign.Val _ rest w agrees other) (no_symbol sign.In _ rest w agrees no_in) (untaken takes (untaken_in k 0 rest w free agrees)))

  pub breaks_local_name : (start : ℕ) (locals : List (List ℕ × PlainAst)) (n : List ℕ) (t : PlainToken) → Is sign.Val t → ((m : List ℕ) → Begins (IsName m) rest → ⊥) → BreaksOff (have at k c (local start locals n ∷ st)) (t ∷ rest) (fault_at rest)
  breaks_local_name start locals n t is other = breaks_behind rest (t ∷ []) (viable_next_val at k c st start locals n t is) (λ r w agrees takes. no_name _ rest w agrees other (the_first (untaken takes (rw is refl)) is (λ e. cc)))

  pub breaks_local_equal : (start : ℕ) (locals : List (List ℕ × PlainAst)) (n : List ℕ) {m : List ℕ} (t1 t2 : PlainToken) → Is sign.Val t1 → IsName m t2 → (Begins (Is sign.Equal) rest → ⊥)
      → BreaksOff (have at k c (local start locals n ∷ st)) (t1 ∷ t2 ∷ rest) (fault_at rest)
  breaks_local_equal start locals n t1 t2 is m_is other = breaks_behind rest (t1 ∷ t2 ∷ []) (viable_next_name at k c st start locals n t1 t2 is m_is)
      (λ r w agrees takes. no_symbol sign.Equal _ rest w agrees other (next_name _ t2 w m_is (the_first (untaken takes (rw is refl)) is (λ e. cc))))

  -- ---- behind what is matched, and behind an arm

  pub breaks_of : (start : ℕ) → NothingJoins k 0 rest → (Begins (Is sign.Of) rest → ⊥) → BreaksOff (have at k c (subject start ∷ st)) rest (fault_at rest)
  breaks_of start free other = breaks _ rest (λ r w agrees takes. no_symbol sign.Of _ rest w agrees other (untaken takes (untaken_in k 0 rest w free agrees)))

-- the next arm has the pattern that was read
arm_of : {close : Closing} {start : ℕ} {a b : PlainAst} {arms : List (PlainPat × PlainAst)} {st : Opens} {from to s w : Text} {p : PlainPat} (pattern : IsReadAsPattern from to p)
    → NextArm close start a arms st b s → s ≡ pattern.used ++ pattern.arrow ∷ w → Wants close (arm start a arms p ∷ st) b w
arm_of {w = w} pattern (opens_arm {p = q} {w = v} t u spells is more) e =
    let same = pattern.only q u t v w (sym e) spells is in
    rw (← same.0, ← same.1) more

-- and has none where the pattern breaks off
no_arm_in : {close : Closing} {start : ℕ} {a b : PlainAst} {arms : List (PlainPat × PlainAst)} {st : Opens} {from s : Text} {e : SyntaxError} (pattern : BreaksOffInPattern from e) (w : Text)
    → Agrees pattern.rest w → NextArm close start a arms st b s → s ≡ pattern.used ++ w → ⊥
no_arm_in pattern w agrees (opens_arm {p = q} {w = v} t u spells is more) e = pattern.none q u t v w agrees (sym e) spells is

module _ (at k : ℕ) (c : PlainAst) (st : Opens) (start : ℕ) (t : PlainToken) {from : Text} where
  pub goes_on_of : {to : Text} {p : PlainPat} → Is sign.Of t → IsReadAsPattern from to p → ComesOn (have at k c (subject start ∷ st)) (t ∷ from) (want (arm start c [] p ∷ st)) to
  goes_on_of {to} is pattern = record {
    comes = record {
      used = t ∷ pattern.used ++ pattern.arrow ∷ [];
      split = rw (pattern.split, append_assoc pattern.used (pattern.arrow ∷ []) to) refl;
      reads = reading.reads_of at k c st start t pattern.arrow pattern.used is pattern.spells pattern.is_arrow;
      only = λ r w agrees takes. arm_of pattern (untaken takes (rw is refl)).1 (append_assoc pattern.used (pattern.arrow ∷ []) w);
    };
    nearer = omega (arith, ap length pattern.split, length-append pattern.used (pattern.arrow ∷ to));
  }

  pub breaks_pattern : {e : SyntaxError} → Is sign.Of t → BreaksOffInPattern from e → BreaksOff (have at k c (subject start ∷ st)) (t ∷ from) e
  breaks_pattern is pattern = record {
    used = t ∷ pattern.used;
    rest = pattern.rest;
    split = ap (λ s. t ∷ s) pattern.split;
    fault_is = pattern.fault_is;
    viable = viable_of at k c st start t pattern.used pattern.viable.0 is pattern.viable.1.1;
    none = λ r w agrees takes. no_arm_in pattern w agrees (untaken takes (rw is refl)).1 refl;
  }

  module _ (a : PlainAst) (arms : List (PlainPat × PlainAst)) (p : PlainPat) where
    pub goes_on_bar : {to : Text} {q : PlainPat} → 1 ≤ k → Is sign.Bar t → IsReadAsPattern from to q
        → ComesOn (have at k c (arm start a arms p ∷ st)) (t ∷ from) (want (arm start a (arms ++ (p, c) ∷ []) q ∷ st)) to
    goes_on_bar {to} le is pattern = record {
      comes = record {
        used = t ∷ pattern.used ++ pattern.arrow ∷ [];
        split = rw (pattern.split, append_assoc pattern.used (pattern.arrow ∷ []) to) refl;
        reads = reading.reads_bar at k c st start a arms p t pattern.arrow pattern.used le is pattern.spells pattern.is_arrow;
        only = λ r w agrees takes. arm_of pattern (arm_at_bar takes is) (append_assoc pattern.used (pattern.arrow ∷ []) w);
      };
      nearer = omega (arith, ap length pattern.split, length-append pattern.used (pattern.arrow ∷ to));
    }

    pub breaks_bar : {e : SyntaxError} → 1 ≤ k → Is sign.Bar t → BreaksOffInPattern from e → BreaksOff (have at k c (arm start a arms p ∷ st)) (t ∷ from) e
    breaks_bar le is pattern = record {
      used = t ∷ pattern.used;
      rest = pattern.rest;
      split = ap (λ s. t ∷ s) pattern.split;
      fault_is = pattern.fault_is;
      viable = viable_bar at k c st start a arms p t pattern.used pattern.viable.0 le is pattern.viable.1.1;
      none = λ r w agrees takes. no_arm_in pattern w agrees (arm_at_bar takes is) refl;
    }

-- ---- where any form, or none, is the innermost

-- `++` adds the part to the sum that is open, or begins one
pub takes_term : (at k : ℕ) (c : PlainAst) (st : Opens) (rest : Text) (t : PlainToken) → 3 ≤ k → wants st ≤ 3 → Is sign.DoublePlus t → ComesOn (have at k c st) (t ∷ rest) (want (with_term at c st)) rest
takes_term at k c (terms start parts ∷ st) rest t l le is = takes_further_term at k c st rest start parts t l is
takes_term at k c (front start p ∷ st) rest t l le is = absurd (omega arith)
takes_term at k c (behind start o s a ∷ st) rest t l le is = absurd (omega (arith, above_late o))
takes_term at k c [] rest t l le is = takes_first_term at k c [] rest t l (omega arith) is
takes_term at k c st rest t l le is = takes_first_term at k c st rest t l (omega arith) is

-- nothing is open, and nothing takes the part
pub all_read : (part : Part) (st : Opens) (text : Text) → st ≡ [] → NothingJoins part.precedence (wants st) text → IsAll part st text
all_read part st text none free = record {
  none_open = none;
  only = λ r w agrees takes. untaken takes (untaken_in part.precedence 0 text w (subst (λ st. NothingJoins part.precedence (wants st) text) none free) agrees);
}
