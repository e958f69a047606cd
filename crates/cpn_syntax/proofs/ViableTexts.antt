-- What was read is always the beginning of a whole inscription: a part that is wanted may be `0`, and the forms that
-- are open are completed by the simplest parts and patterns, the innermost first.
use Rattle.std.proofs.Common.{ℕ, ◌≤◌, pos, List, [], ◌∷◌, ◌++◌, refl, append_assoc, append-nil, arith}
use Rattle.cpn_lex.specs.Token.{PlainToken}
use Rattle.cpn_lex.specs.Token as token
use Rattle.cpn_lex.specs.declared.symbols.Symbol.{Symbol}
use Rattle.cpn_lex.specs.declared.symbols.Symbol.TheVariants as sign
use Rattle.cpn_trees.specs.declared.operators.Prefix.TheVariants as prefix
use Rattle.cpn_syntax.specs.Texts.{Text, Is, IsName}
use Rattle.cpn_syntax.specs.Patterns.{SpellsPat, any_line}
use Rattle.cpn_trees.specs.Trees.{PlainPat, PlainAst, pat, any, ast, number, stamped}
use Rattle.cpn_syntax.specs.OpenForms.{PlainOpen, condition, consequence, alternative, subject, arm, fold_list, fold_start, fold_body, terms, behind, front, group, items, arguments, local, body, Opens, wants}
use Rattle.cpn_syntax.specs.ReadForms.{State, want, have, Read, IsInscription}
use Rattle.cpn_syntax.proofs.Repetitions.{spells_down}
use Rattle.cpn_syntax.proofs.ReadForms.{reads_fold, reads_component, reads_number, reads_let, reads_stamp, reads_end_operand, reads_end_prefix, reads_end_sum, reads_end_if, reads_end_fold, reads_end_case, reads_then, reads_else, reads_of, reads_bar, reads_from, reads_do, reads_end_group, reads_end_tuple, reads_end_items, reads_end_call, reads_next_local, reads_in, reads_end_let}

abbrev pub Viable : Text → Type 0
Viable before = (w : Text) × IsInscription (before ++ w)

-- behind a part where forms are open
abbrev ViablePart : Opens → Type 0
ViablePart st = (at k : ℕ) (c : PlainAst) (before : Text) → Read (have at k c st) before → Viable before

viable_front : (before used : Text) → Viable (before ++ used) → Viable before
viable_front before used whole = (used ++ whole.0, rw (← append_assoc before used whole.0) whole.1)

-- ---- the simplest tokens

abbrev word : Symbol → PlainToken
word s = record { kind = token.symbol s; at = 0 }

abbrev some_name : PlainToken
some_name = record { kind = token.name []; at = 0 }

abbrev nought : PlainToken
nought = record { kind = token.number (pos 0); at = 0 }

abbrev nought_tree : PlainAst
nought_tree = ast 0 (number (pos 0))

-- ---- the innermost form

-- Behind its last part a form ends; behind another it goes on, and its next part is `0`.
module _ (st : Opens) (rest : ViablePart st) where
  with_nought : (form : PlainOpen) → ((before : Text) → Read (have 0 11 nought_tree (form ∷ st)) before → Viable before) → (before used : Text) → Read (want (form ∷ st)) (before ++ used) → Viable before
  with_nought form finish before used was = viable_front before used (viable_front (before ++ used) (nought ∷ []) (finish ((before ++ used) ++ nought ∷ []) (reads_number (form ∷ st) nought refl (before ++ used) was)))

  with_sign : (s : Symbol) (at k : ℕ) (c : PlainAst) (before : Text) → Read (have at k c st) (before ++ word s ∷ []) → Viable before
  with_sign s at k c before was = viable_front before (word s ∷ []) (rest at k c (before ++ word s ∷ []) was)

  behind_alternative : (start : ℕ) (i a : PlainAst) → ViablePart (alternative start i a ∷ st)
  behind_alternative start i a at k c before was = rest _ _ _ before (reads_end_if at k c st start i a before was)

  behind_consequence : (start : ℕ) (i : PlainAst) → ViablePart (consequence start i ∷ st)
  behind_consequence start i at k c before was = with_nought (alternative start i c) (behind_alternative start i c _ _ _) before (word sign.Else ∷ []) (reads_else at k c st start i (word sign.Else) refl before was)

  behind_condition : (start : ℕ) → ViablePart (condition start ∷ st)
  behind_condition start at k c before was = with_nought (consequence start c) (behind_consequence start c _ _ _) before (word sign.Then ∷ []) (reads_then at k c st start (word sign.Then) refl before was)

  behind_arm : (start : ℕ) (a : PlainAst) (arms : List (PlainPat × PlainAst)) (p : PlainPat) → ViablePart (arm start a arms p ∷ st)
  behind_arm start a arms p at k c before was = rest _ _ _ before (reads_end_case at k c st start a arms p before was)

  behind_subject : (start : ℕ) → ViablePart (subject start ∷ st)
  behind_subject start at k c before was =
      with_nought (arm start c [] (pat 0 any)) (behind_arm start c [] (pat 0 any) _ _ _) before (word sign.Of ∷ word sign.Underscore ∷ word sign.Arrow ∷ [])
      (reads_of at k c st start (word sign.Of) (word sign.Arrow) (word sign.Underscore ∷ []) refl (any_line (word sign.Underscore) (omega arith) refl) refl before was)

  behind_fold_body : (start : ℕ) (item total : List ℕ) (a s : PlainAst) → ViablePart (fold_body start item total a s ∷ st)
  behind_fold_body start item total a s at k c before was = rest _ _ _ before (reads_end_fold at k c st start item total a s before was)

  behind_fold_start : (start : ℕ) (item total : List ℕ) (a : PlainAst) → ViablePart (fold_start start item total a ∷ st)
  behind_fold_start start item total a at k c before was =
      with_nought (fold_body start item total a c) (behind_fold_body start item total a c _ _ _) before (word sign.Do ∷ []) (reads_do at k c st start item total a (word sign.Do) refl before was)

  behind_fold_list : (start : ℕ) (item total : List ℕ) → ViablePart (fold_list start item total ∷ st)
  behind_fold_list start item total at k c before was =
      with_nought (fold_start start item total c) (behind_fold_start start item total c _ _ _) before (word sign.From ∷ []) (reads_from at k c st start item total (word sign.From) refl before was)

  behind_group : (start : ℕ) (parts : List PlainAst) → ViablePart (group start parts ∷ st)
  behind_group start [] at k c before was = with_sign sign.CloseParenthesis _ _ _ before (reads_end_group at k c st start (word sign.CloseParenthesis) refl before was)
  behind_group start (a ∷ parts) at k c before was = with_sign sign.CloseParenthesis _ _ _ before (reads_end_tuple at k c st start a parts (word sign.CloseParenthesis) refl before was)

  behind_body : (start : ℕ) (locals : List (List ℕ × PlainAst)) → ViablePart (body start locals ∷ st)
  behind_body start locals at k c before was = with_sign sign.End _ _ _ before (reads_end_let at k c st start locals (word sign.End) refl before was)

  behind_form : (form : PlainOpen) → ViablePart (form ∷ st)
  behind_form (condition start) at k c before was = behind_condition start at k c before was
  behind_form (consequence start i) at k c before was = behind_consequence start i at k c before was
  behind_form (alternative start i a) at k c before was = behind_alternative start i a at k c before was
  behind_form (subject start) at k c before was = behind_subject start at k c before was
  behind_form (arm start a arms p) at k c before was = behind_arm start a arms p at k c before was
  behind_form (fold_list start item total) at k c before was = behind_fold_list start item total at k c before was
  behind_form (fold_start start item total a) at k c before was = behind_fold_start start item total a at k c before was
  behind_form (fold_body start item total a s) at k c before was = behind_fold_body start item total a s at k c before was
  behind_form (terms start parts) at k c before was = rest _ _ _ before (reads_end_sum at k c st start parts was.5 before was)
  behind_form (behind start o sign a) at k c before was = rest _ _ _ before (reads_end_operand at k c st start o sign a was.5 before was)
  behind_form (front start p) at k c before was = rest _ _ _ before (reads_end_prefix at k c st start p was.5 before was)
  behind_form (group start parts) at k c before was = behind_group start parts at k c before was
  behind_form (items start parts) at k c before was = with_sign sign.CloseBracket _ _ _ before (reads_end_items at k c st start parts (word sign.CloseBracket) refl before was)
  behind_form (arguments start n parts) at k c before was = with_sign sign.CloseParenthesis _ _ _ before (reads_end_call at k c st start n parts (word sign.CloseParenthesis) refl before was)
  behind_form (local start locals n) at k c before was =
      with_nought (body start (locals ++ (n, c) ∷ [])) (behind_body start (locals ++ (n, c) ∷ []) _ _ _) before (word sign.In ∷ []) (reads_in at k c st start n locals (word sign.In) refl before was)
  behind_form (body start locals) at k c before was = behind_body start locals at k c before was

-- ---- all of them

behind_part : (st : Opens) → ViablePart st
behind_part [] at k c before was = ([], (c, rw (append-nil before, was.2, was.6) (spells_down (omega arith) was.3)))
behind_part (form ∷ below) at k c before was = behind_form below (behind_part below) form at k c before was

pub viable : (s : State) (before : Text) → Read s before → Viable before
viable (have at k c st) before was = behind_part st at k c before was
viable (want st) before was = viable_front before (nought ∷ []) (behind_part st _ _ _ (before ++ nought ∷ []) (reads_number st nought refl before was))

-- ---- between the tokens that one step reads

within : (before u v : Text) (s : State) → Read s (before ++ (u ++ v)) → Viable (before ++ u)
within before u v s was = viable_front (before ++ u) v (rw (append_assoc before u v) (viable s (before ++ (u ++ v)) was))

module _ (st : Opens) where
  -- foldl _
  pub viable_foldl : (t : PlainToken) → wants st ≤ 1 → Is sign.Foldl t → (before : Text) → Read (want st) before → Viable (before ++ t ∷ [])
  viable_foldl t le is before was =
      within before (t ∷ []) (some_name ∷ word sign.Comma ∷ some_name ∷ word sign.Over ∷ []) (want (fold_list t.at [] [] ∷ st)) (reads_fold st t some_name (word sign.Comma) some_name (word sign.Over) le is refl refl refl refl before was)

  -- foldl N _
  pub viable_fold_item : {item : List ℕ} (t1 n : PlainToken) → wants st ≤ 1 → Is sign.Foldl t1 → IsName item n → (before : Text) → Read (want st) before → Viable (before ++ t1 ∷ n ∷ [])
  viable_fold_item {item} t1 n le is item_is before was =
      within before (t1 ∷ n ∷ []) (word sign.Comma ∷ some_name ∷ word sign.Over ∷ []) (want (fold_list t1.at item [] ∷ st)) (reads_fold st t1 n (word sign.Comma) some_name (word sign.Over) le is item_is refl refl refl before was)

  -- foldl N , _
  pub viable_fold_comma : {item : List ℕ} (t1 n t2 : PlainToken) → wants st ≤ 1 → Is sign.Foldl t1 → IsName item n → Is sign.Comma t2 → (before : Text) → Read (want st) before → Viable (before ++ t1 ∷ n ∷ t2 ∷ [])
  viable_fold_comma {item} t1 n t2 le is item_is comma before was =
      within before (t1 ∷ n ∷ t2 ∷ []) (some_name ∷ word sign.Over ∷ []) (want (fold_list t1.at item [] ∷ st)) (reads_fold st t1 n t2 some_name (word sign.Over) le is item_is comma refl refl before was)

  -- foldl N , N _
  pub viable_fold_total : {item total : List ℕ} (t1 n1 t2 n2 : PlainToken) → wants st ≤ 1 → Is sign.Foldl t1 → IsName item n1 → Is sign.Comma t2 → IsName total n2
      → (before : Text) → Read (want st) before → Viable (before ++ t1 ∷ n1 ∷ t2 ∷ n2 ∷ [])
  viable_fold_total {item} {total} t1 n1 t2 n2 le is item_is comma total_is before was =
      within before (t1 ∷ n1 ∷ t2 ∷ n2 ∷ []) (word sign.Over ∷ []) (want (fold_list t1.at item total ∷ st)) (reads_fold st t1 n1 t2 n2 (word sign.Over) le is item_is comma total_is refl before was)

  -- let _
  pub viable_let : (t : PlainToken) → Is sign.Let t → (before : Text) → Read (want st) before → Viable (before ++ t ∷ [])
  viable_let t is before was =
      within before (t ∷ []) (word sign.Val ∷ some_name ∷ word sign.Equal ∷ []) (want (local t.at [] [] ∷ st)) (reads_let st t (word sign.Val) some_name (word sign.Equal) is refl refl refl before was)

  -- let val _
  pub viable_let_val : (t1 t2 : PlainToken) → Is sign.Let t1 → Is sign.Val t2 → (before : Text) → Read (want st) before → Viable (before ++ t1 ∷ t2 ∷ [])
  viable_let_val t1 t2 is val_is before was =
      within before (t1 ∷ t2 ∷ []) (some_name ∷ word sign.Equal ∷ []) (want (local t1.at [] [] ∷ st)) (reads_let st t1 t2 some_name (word sign.Equal) is val_is refl refl before was)

  -- let val N _
  pub viable_let_name : {n : List ℕ} (t1 t2 m : PlainToken) → Is sign.Let t1 → Is sign.Val t2 → IsName n m → (before : Text) → Read (want st) before → Viable (before ++ t1 ∷ t2 ∷ m ∷ [])
  viable_let_name {n} t1 t2 m is val_is n_is before was =
      within before (t1 ∷ t2 ∷ m ∷ []) (word sign.Equal ∷ []) (want (local t1.at [] n ∷ st)) (reads_let st t1 t2 m (word sign.Equal) is val_is n_is refl before was)

  -- # _
  pub viable_component : (t : PlainToken) → Is sign.Hash t → (before : Text) → Read (want st) before → Viable (before ++ t ∷ [])
  viable_component t is before was = within before (t ∷ []) (nought ∷ []) (want (front t.at (prefix.Component (pos 0)) ∷ st)) (reads_component st t nought is refl before was)

module _ (at k : ℕ) (c : PlainAst) (st : Opens) where
  -- term @ _
  pub viable_stamp : (t : PlainToken) → 4 ≤ k → wants st ≤ 3 → Is sign.At t → (before : Text) → Read (have at k c st) before → Viable (before ++ t ∷ [])
  viable_stamp t l le is before was = within before (t ∷ []) (nought ∷ []) (have at 3 (ast at (stamped c t.at (pos 0))) st) (reads_stamp at k c st t nought l le is refl before was)

  -- case e of, and the beginning of a pattern
  pub viable_of : (start : ℕ) {p : PlainPat} (t : PlainToken) (u v : Text) → Is sign.Of t → SpellsPat 0 p (u ++ v) → (before : Text) → Read (have at k c (subject start ∷ st)) before → Viable (before ++ t ∷ u)
  viable_of start {p} t u v is pattern before was =
      within before (t ∷ u) (v ++ word sign.Arrow ∷ []) (want (arm start c [] p ∷ st)) (rw (← append_assoc u v (word sign.Arrow ∷ [])) (reads_of at k c st start t (word sign.Arrow) (u ++ v) is pattern refl before was))

  -- a bar behind an arm, and the beginning of a pattern
  pub viable_bar : (start : ℕ) (a : PlainAst) (arms : List (PlainPat × PlainAst)) (p : PlainPat) {q : PlainPat} (t : PlainToken) (u v : Text) → 1 ≤ k → Is sign.Bar t → SpellsPat 0 q (u ++ v)
      → (before : Text) → Read (have at k c (arm start a arms p ∷ st)) before → Viable (before ++ t ∷ u)
  viable_bar start a arms p {q} t u v l is pattern before was =
      within before (t ∷ u) (v ++ word sign.Arrow ∷ []) (want (arm start a (arms ++ (p, c) ∷ []) q ∷ st)) (rw (← append_assoc u v (word sign.Arrow ∷ [])) (reads_bar at k c st start a arms p t (word sign.Arrow) (u ++ v) l is pattern refl before was))

  -- val _ behind a value of a `let`
  pub viable_next_val : (start : ℕ) (locals : List (List ℕ × PlainAst)) (n : List ℕ) (t : PlainToken) → Is sign.Val t → (before : Text) → Read (have at k c (local start locals n ∷ st)) before → Viable (before ++ t ∷ [])
  viable_next_val start locals n t is before was =
      within before (t ∷ []) (some_name ∷ word sign.Equal ∷ []) (want (local start (locals ++ (n, c) ∷ []) [] ∷ st)) (reads_next_local at k c st start n locals t some_name (word sign.Equal) is refl refl before was)

  -- val N _ behind a value of a `let`
  pub viable_next_name : (start : ℕ) (locals : List (List ℕ × PlainAst)) (n : List ℕ) {m : List ℕ} (t1 t2 : PlainToken) → Is sign.Val t1 → IsName m t2
      → (before : Text) → Read (have at k c (local start locals n ∷ st)) before → Viable (before ++ t1 ∷ t2 ∷ [])
  viable_next_name start locals n {m} t1 t2 is m_is before was =
      within before (t1 ∷ t2 ∷ []) (word sign.Equal ∷ []) (want (local start (locals ++ (n, c) ∷ []) m ∷ st)) (reads_next_local at k c st start n locals t1 t2 (word sign.Equal) is m_is refl before was)
