-- What each of the tokens that begin a part does: what was read then, and what may come.
use Rattle.std.proofs.Common.{◌≡◌, ℕ, ℤ, ◌≤◌, true, false, List, [], ◌∷◌, ◌++◌, refl, append-nil, subst}
use Rattle.cpn_lex.specs.Token.{PlainToken, PlainKind}
use Rattle.cpn_lex.specs.Token as token
use Rattle.cpn_lex.specs.declared.symbols.Symbol.TheVariants as sign
use Rattle.cpn_trees.specs.declared.operators.Prefix.TheVariants as prefix
use Rattle.cpn_syntax.specs.Texts.{Text, Is, IsName, IsNumber, IsText}
use Rattle.cpn_syntax.specs.Faults.{fault_at}
use Rattle.cpn_trees.specs.Trees.{PlainAst, ast, number, text, truth, empty, time, name, unit, list, no_ast}
use Rattle.cpn_syntax.specs.OpenForms.{condition, subject, fold_list, front, group, items, arguments, local, Opens, wants}
use Rattle.cpn_syntax.specs.Completions.{Closing}
use Rattle.cpn_syntax.specs.Progress.{Agrees}
use Rattle.cpn_syntax.specs.ReadForms.{State, want, have, Read, Takes, IsInscription}
use Rattle.cpn_syntax.specs.Steps.{Comes, BreaksOff}
use Rattle.cpn_syntax.specs.Unread.{Begins}
use Rattle.cpn_lex.specs.declared.symbols.Symbol.{Symbol}
use Rattle.cpn_syntax.proofs.Wants.{StartsWith, Next, named, NextName, numbered, NextNumber, BeginsBySign, begins_with, unit_begins, group_begins, no_items_begin, items_begin, call_begins, name_begins}
use Rattle.cpn_syntax.proofs.ReadForms as reading
use Rattle.cpn_syntax.proofs.ViableTexts.{viable, viable_component, viable_foldl, viable_fold_item, viable_fold_comma, viable_fold_total, viable_let, viable_let_val, viable_let_name}

-- the reading comes from one state to another by some tokens
pub comes : {s1 s2 : State} {to : Text} (used : Text) → ((before : Text) → Read s1 before → Read s2 (before ++ used))
    → ((r : Closing × PlainAst) (w : Text) → Agrees to w → Takes s1 r (used ++ w) → Takes s2 r w) → Comes s1 (used ++ to) s2 to
comes used reads only = record { used = used; split = refl; reads = reads; only = only }

-- with the next token, or the end of the text, nothing goes on
pub breaks : (s : State) (rest : Text) → ((r : Closing × PlainAst) (w : Text) → Agrees rest w → Takes s r w → ⊥) → BreaksOff s rest (fault_at rest)
breaks s rest none = record {
  used = [];
  rest = rest;
  split = refl;
  fault_is = refl;
  viable = λ before read. rw (append-nil before) (viable s before read);
  none = none;
}

-- the same behind tokens that are the beginning of a whole text
pub breaks_behind : {s : State} (rest used : Text) → ((before : Text) → Read s before → (w : Text) × IsInscription (before ++ used ++ w))
    → ((r : Closing × PlainAst) (w : Text) → Agrees rest w → Takes s r (used ++ w) → ⊥) → BreaksOff s (used ++ rest) (fault_at rest)
breaks_behind rest used whole none = record { used = used; rest = rest; split = refl; fault_is = refl; viable = whole; none = none }

-- a text that looks as the rest does begins with a symbol only where the rest does
pub same_start : (symbol : Symbol) (rest w : Text) → Agrees rest w → StartsWith symbol w → Begins (Is symbol) rest
same_start symbol [] w agrees starts = subst (StartsWith symbol) agrees starts
same_start symbol (t ∷ rest) w agrees starts = subst (StartsWith symbol) agrees.1 starts

module _ (st : Opens) (rest : Text) where
  pub comes_if : (t : PlainToken) → wants st ≤ 1 → Is sign.If t → Comes (want st) (t ∷ rest) (want (condition t.at ∷ st)) rest
  comes_if t least is = comes (t ∷ []) (reading.reads_if st t least is) (λ r w agrees takes. (begins_with takes is).1)

  pub comes_case : (t : PlainToken) → wants st ≤ 0 → Is sign.Case t → Comes (want st) (t ∷ rest) (want (subject t.at ∷ st)) rest
  comes_case t least is = comes (t ∷ []) (reading.reads_case st t least is) (λ r w agrees takes. (begins_with takes is).1)

  pub comes_not : (t : PlainToken) → Is sign.Not t → Comes (want st) (t ∷ rest) (want (front t.at prefix.Not ∷ st)) rest
  comes_not t is = comes (t ∷ []) (reading.reads_not st t is) (λ r w agrees takes. begins_with takes is)

  pub comes_negate : (t : PlainToken) → Is sign.Tilde t → Comes (want st) (t ∷ rest) (want (front t.at prefix.Negate ∷ st)) rest
  comes_negate t is = comes (t ∷ []) (reading.reads_negate st t is) (λ r w agrees takes. begins_with takes is)

  pub comes_component : {z : ℤ} (t n : PlainToken) → Is sign.Hash t → IsNumber z n → Comes (want st) (t ∷ n ∷ rest) (want (front t.at (prefix.Component z) ∷ st)) rest
  comes_component t n is num = comes (t ∷ n ∷ []) (reading.reads_component st t n is num) (λ r w agrees takes. subst (λ kind. numbered (λ z. Takes (want (front t.at (prefix.Component z) ∷ st)) r) kind w) num (begins_with takes is))

  pub comes_number : {z : ℤ} (t : PlainToken) → IsNumber z t → Comes (want st) (t ∷ rest) (have t.at 11 (ast t.at (number z)) st) rest
  comes_number t is = comes (t ∷ []) (reading.reads_number st t is) (λ r w agrees takes. begins_with takes is)

  pub comes_text : {bytes : List ℕ} (t : PlainToken) → IsText bytes t → Comes (want st) (t ∷ rest) (have t.at 11 (ast t.at (text bytes)) st) rest
  comes_text t is = comes (t ∷ []) (reading.reads_text st t is) (λ r w agrees takes. begins_with takes is)

  pub comes_true : (t : PlainToken) → Is sign.True t → Comes (want st) (t ∷ rest) (have t.at 11 (ast t.at (truth true)) st) rest
  comes_true t is = comes (t ∷ []) (reading.reads_true st t is) (λ r w agrees takes. begins_with takes is)

  pub comes_false : (t : PlainToken) → Is sign.False t → Comes (want st) (t ∷ rest) (have t.at 11 (ast t.at (truth false)) st) rest
  comes_false t is = comes (t ∷ []) (reading.reads_false st t is) (λ r w agrees takes. begins_with takes is)

  pub comes_empty : (t : PlainToken) → Is sign.Empty t → Comes (want st) (t ∷ rest) (have t.at 11 (ast t.at empty) st) rest
  comes_empty t is = comes (t ∷ []) (reading.reads_empty st t is) (λ r w agrees takes. begins_with takes is)

  pub comes_time : (t : PlainToken) → Is sign.Time t → Comes (want st) (t ∷ rest) (have t.at 11 (ast t.at time) st) rest
  comes_time t is = comes (t ∷ []) (reading.reads_time st t is) (λ r w agrees takes. begins_with takes is)

  -- ---- where the token behind the first one decides

  pub comes_call : {n : List ℕ} (t t1 : PlainToken) → IsName n t → Is sign.OpenParenthesis t1 → Comes (want st) (t ∷ t1 ∷ rest) (want (arguments t.at n [] ∷ st)) rest
  comes_call t t1 is opens = comes (t ∷ t1 ∷ []) (reading.reads_call st t t1 is opens) (λ r w agrees takes. call_begins takes is opens)

  pub comes_unit : (t1 t2 : PlainToken) → Is sign.OpenParenthesis t1 → Is sign.CloseParenthesis t2 → Comes (want st) (t1 ∷ t2 ∷ rest) (have t1.at 11 (ast t1.at unit) st) rest
  comes_unit t1 t2 is closes = comes (t1 ∷ t2 ∷ []) (reading.reads_unit st t1 t2 is closes) (λ r w agrees takes. unit_begins takes is closes)

  pub comes_no_items : (t1 t2 : PlainToken) → Is sign.OpenBracket t1 → Is sign.CloseBracket t2 → Comes (want st) (t1 ∷ t2 ∷ rest) (have t1.at 11 (ast t1.at (list no_ast)) st) rest
  comes_no_items t1 t2 is closes = comes (t1 ∷ t2 ∷ []) (reading.reads_no_items st t1 t2 is closes) (λ r w agrees takes. no_items_begin takes is closes)

  pub comes_name : {n : List ℕ} (t : PlainToken) → IsName n t → (Begins (Is sign.OpenParenthesis) rest → ⊥) → Comes (want st) (t ∷ rest) (have t.at 11 (ast t.at (name n)) st) rest
  comes_name t is other = comes (t ∷ []) (reading.reads_name st t is) (λ r w agrees takes. name_begins takes is (λ starts. other (same_start _ rest w agrees starts)))

  pub comes_group : (t : PlainToken) → Is sign.OpenParenthesis t → (Begins (Is sign.CloseParenthesis) rest → ⊥) → Comes (want st) (t ∷ rest) (want (group t.at [] ∷ st)) rest
  comes_group t is other = comes (t ∷ []) (reading.reads_group st t is) (λ r w agrees takes. group_begins takes is (λ starts. other (same_start _ rest w agrees starts)))

  pub comes_items : (t : PlainToken) → Is sign.OpenBracket t → (Begins (Is sign.CloseBracket) rest → ⊥) → Comes (want st) (t ∷ rest) (want (items t.at [] ∷ st)) rest
  comes_items t is other = comes (t ∷ []) (reading.reads_items st t is) (λ r w agrees takes. items_begin takes is (λ starts. other (same_start _ rest w agrees starts)))

-- ---- the tokens behind `foldl`, `let` and `#`

-- a text that looks as the rest does begins with a token that fits only where the rest does
pub same_begin : (fits : PlainToken → Type 0) (rest w : Text) → Agrees rest w → Begins fits w → Begins fits rest
same_begin fits [] w agrees begin = subst (Begins fits) agrees begin
same_begin fits (t ∷ rest) w agrees begin = subst (Begins fits) agrees.1 begin

-- a name is next, and it is this one
pub next_name : (Rest : List ℕ → Text → Type 0) {n : List ℕ} (t : PlainToken) (w : Text) → IsName n t → NextName Rest (t ∷ w) → Rest n w
next_name Rest t w is next = subst (λ kind. named Rest kind w) is next

no_named : (Rest : List ℕ → Text → Type 0) (kind : PlainKind) (w : Text) → ((n : List ℕ) → kind ≡ token.name n → ⊥) → named Rest kind w → ⊥
no_named Rest (token.name n) w other next = other n refl
no_named Rest (token.number z) w other next = next
no_named Rest (token.text bytes) w other next = next
no_named Rest (token.symbol s) w other next = next

pub no_name : (Rest : List ℕ → Text → Type 0) (rest w : Text) → Agrees rest w → ((n : List ℕ) → Begins (IsName n) rest → ⊥) → NextName Rest w → ⊥
no_name Rest rest [] agrees other next = next
no_name Rest rest (t ∷ w) agrees other next = no_named Rest t.kind w (λ n is. other n (same_begin (IsName n) rest (t ∷ w) agrees is)) next

no_numbered : (Rest : ℤ → Text → Type 0) (kind : PlainKind) (w : Text) → ((z : ℤ) → kind ≡ token.number z → ⊥) → numbered Rest kind w → ⊥
no_numbered Rest (token.number z) w other next = other z refl
no_numbered Rest (token.name n) w other next = next
no_numbered Rest (token.text bytes) w other next = next
no_numbered Rest (token.symbol s) w other next = next

pub no_number : (Rest : ℤ → Text → Type 0) (rest w : Text) → Agrees rest w → ((z : ℤ) → Begins (IsNumber z) rest → ⊥) → NextNumber Rest w → ⊥
no_number Rest rest [] agrees other next = next
no_number Rest rest (t ∷ w) agrees other next = no_numbered Rest t.kind w (λ z is. other z (same_begin (IsNumber z) rest (t ∷ w) agrees is)) next

pub no_symbol : (s : Symbol) (Rest : Text → Type 0) (rest w : Text) → Agrees rest w → (Begins (Is s) rest → ⊥) → Next s Rest w → ⊥
no_symbol s Rest rest [] agrees other next = next
no_symbol s Rest rest (t ∷ w) agrees other next = other (same_begin (Is s) rest (t ∷ w) agrees next.0)

module _ (st : Opens) (rest : Text) where
  pub breaks_component : (t : PlainToken) → Is sign.Hash t → ((z : ℤ) → Begins (IsNumber z) rest → ⊥) → BreaksOff (want st) (t ∷ rest) (fault_at rest)
  breaks_component t is other = breaks_behind rest (t ∷ []) (viable_component st t is) (λ r w agrees takes. no_number _ rest w agrees other (begins_with takes is))

  pub comes_fold : {item total : List ℕ} (t1 n1 t2 n2 t3 : PlainToken) → wants st ≤ 1 → Is sign.Foldl t1 → IsName item n1 → Is sign.Comma t2 → IsName total n2 → Is sign.Over t3
      → Comes (want st) (t1 ∷ n1 ∷ t2 ∷ n2 ∷ t3 ∷ rest) (want (fold_list t1.at item total ∷ st)) rest
  comes_fold t1 n1 t2 n2 t3 least is item comma total over =
      comes (t1 ∷ n1 ∷ t2 ∷ n2 ∷ t3 ∷ []) (reading.reads_fold st t1 n1 t2 n2 t3 least is item comma total over) (λ r w agrees takes.
      let first = next_name _ n1 (t2 ∷ n2 ∷ t3 ∷ w) item (begins_with takes is).1 in
      (next_name _ n2 (t3 ∷ w) total first.1).1)

  pub breaks_fold_item : (t1 : PlainToken) → wants st ≤ 1 → Is sign.Foldl t1 → ((n : List ℕ) → Begins (IsName n) rest → ⊥) → BreaksOff (want st) (t1 ∷ rest) (fault_at rest)
  breaks_fold_item t1 least is other = breaks_behind rest (t1 ∷ []) (viable_foldl st t1 least is) (λ r w agrees takes. no_name _ rest w agrees other (begins_with takes is).1)

  pub breaks_fold_comma : {item : List ℕ} (t1 n1 : PlainToken) → wants st ≤ 1 → Is sign.Foldl t1 → IsName item n1 → (Begins (Is sign.Comma) rest → ⊥) → BreaksOff (want st) (t1 ∷ n1 ∷ rest) (fault_at rest)
  breaks_fold_comma t1 n1 least is item other = breaks_behind rest (t1 ∷ n1 ∷ []) (viable_fold_item st t1 n1 least is item) (λ r w agrees takes.
      no_symbol sign.Comma _ rest w agrees other (next_name _ n1 w item (begins_with takes is).1))

  pub breaks_fold_total : {item : List ℕ} (t1 n1 t2 : PlainToken) → wants st ≤ 1 → Is sign.Foldl t1 → IsName item n1 → Is sign.Comma t2 → ((n : List ℕ) → Begins (IsName n) rest → ⊥)
      → BreaksOff (want st) (t1 ∷ n1 ∷ t2 ∷ rest) (fault_at rest)
  breaks_fold_total t1 n1 t2 least is item comma other = breaks_behind rest (t1 ∷ n1 ∷ t2 ∷ []) (viable_fold_comma st t1 n1 t2 least is item comma) (λ r w agrees takes.
      no_name _ rest w agrees other (next_name _ n1 (t2 ∷ w) item (begins_with takes is).1).1)

  pub breaks_fold_over : {item total : List ℕ} (t1 n1 t2 n2 : PlainToken) → wants st ≤ 1 → Is sign.Foldl t1 → IsName item n1 → Is sign.Comma t2 → IsName total n2 → (Begins (Is sign.Over) rest → ⊥)
      → BreaksOff (want st) (t1 ∷ n1 ∷ t2 ∷ n2 ∷ rest) (fault_at rest)
  breaks_fold_over t1 n1 t2 n2 least is item comma total other = breaks_behind rest (t1 ∷ n1 ∷ t2 ∷ n2 ∷ []) (viable_fold_total st t1 n1 t2 n2 least is item comma total) (λ r w agrees takes.
      no_symbol sign.Over _ rest w agrees other (next_name _ n2 w total (next_name _ n1 (t2 ∷ n2 ∷ w) item (begins_with takes is).1).1))

  pub comes_let : {n : List ℕ} (t1 t2 m t3 : PlainToken) → Is sign.Let t1 → Is sign.Val t2 → IsName n m → Is sign.Equal t3
      → Comes (want st) (t1 ∷ t2 ∷ m ∷ t3 ∷ rest) (want (local t1.at [] n ∷ st)) rest
  comes_let t1 t2 m t3 is val_is m_is equal = comes (t1 ∷ t2 ∷ m ∷ t3 ∷ []) (reading.reads_let st t1 t2 m t3 is val_is m_is equal) (λ r w agrees takes.
      (next_name _ m (t3 ∷ w) m_is (begins_with takes is).1).1)

  pub breaks_let_val : (t1 : PlainToken) → Is sign.Let t1 → (Begins (Is sign.Val) rest → ⊥) → BreaksOff (want st) (t1 ∷ rest) (fault_at rest)
  breaks_let_val t1 is other = breaks_behind rest (t1 ∷ []) (viable_let st t1 is) (λ r w agrees takes. no_symbol sign.Val _ rest w agrees other (begins_with takes is))

  pub breaks_let_name : (t1 t2 : PlainToken) → Is sign.Let t1 → Is sign.Val t2 → ((n : List ℕ) → Begins (IsName n) rest → ⊥) → BreaksOff (want st) (t1 ∷ t2 ∷ rest) (fault_at rest)
  breaks_let_name t1 t2 is val_is other = breaks_behind rest (t1 ∷ t2 ∷ []) (viable_let_val st t1 t2 is val_is) (λ r w agrees takes. no_name _ rest w agrees other (begins_with takes is).1)

  pub breaks_let_equal : {n : List ℕ} (t1 t2 m : PlainToken) → Is sign.Let t1 → Is sign.Val t2 → IsName n m → (Begins (Is sign.Equal) rest → ⊥) → BreaksOff (want st) (t1 ∷ t2 ∷ m ∷ rest) (fault_at rest)
  breaks_let_equal t1 t2 m is val_is m_is other = breaks_behind rest (t1 ∷ t2 ∷ m ∷ []) (viable_let_name st t1 t2 m is val_is m_is) (λ r w agrees takes.
      no_symbol sign.Equal _ rest w agrees other (next_name _ m w m_is (begins_with takes is).1))

  -- the next token begins no part that is wanted
  pub breaks_at : (t : PlainToken) → ((r : Closing × PlainAst) (w : Text) → Takes (want st) r (t ∷ w) → ⊥) → BreaksOff (want st) (t ∷ rest) (fault_at (t ∷ rest))
  breaks_at t none = breaks (want st) (t ∷ rest) (λ r w agrees takes. none r agrees.0 (subst (Takes (want st) r) agrees.1 takes))

-- a symbol that begins no part
pub no_beginning : (close : Closing) (st : Opens) (b : PlainAst) (s : Symbol) (at : ℕ) (w : Text)
    → (s ≡ sign.If → ⊥) → (s ≡ sign.Case → ⊥) → (s ≡ sign.Foldl → ⊥) → (s ≡ sign.Not → ⊥) → (s ≡ sign.Tilde → ⊥) → (s ≡ sign.Hash → ⊥) → (s ≡ sign.True → ⊥)
    → (s ≡ sign.False → ⊥) → (s ≡ sign.Empty → ⊥) → (s ≡ sign.Time → ⊥) → (s ≡ sign.OpenParenthesis → ⊥) → (s ≡ sign.OpenBracket → ⊥) → (s ≡ sign.Let → ⊥)
    → BeginsBySign close st b s at w → ⊥
no_beginning close st b sign.If at w n1 n2 n3 n4 n5 n6 n7 n8 n9 n10 n11 n12 n13 begin = n1 refl
no_beginning close st b sign.Case at w n1 n2 n3 n4 n5 n6 n7 n8 n9 n10 n11 n12 n13 begin = n2 refl
no_beginning close st b sign.Foldl at w n1 n2 n3 n4 n5 n6 n7 n8 n9 n10 n11 n12 n13 begin = n3 refl
no_beginning close st b sign.Not at w n1 n2 n3 n4 n5 n6 n7 n8 n9 n10 n11 n12 n13 begin = n4 refl
no_beginning close st b sign.Tilde at w n1 n2 n3 n4 n5 n6 n7 n8 n9 n10 n11 n12 n13 begin = n5 refl
no_beginning close st b sign.Hash at w n1 n2 n3 n4 n5 n6 n7 n8 n9 n10 n11 n12 n13 begin = n6 refl
no_beginning close st b sign.True at w n1 n2 n3 n4 n5 n6 n7 n8 n9 n10 n11 n12 n13 begin = n7 refl
no_beginning close st b sign.False at w n1 n2 n3 n4 n5 n6 n7 n8 n9 n10 n11 n12 n13 begin = n8 refl
no_beginning close st b sign.Empty at w n1 n2 n3 n4 n5 n6 n7 n8 n9 n10 n11 n12 n13 begin = n9 refl
no_beginning close st b sign.Time at w n1 n2 n3 n4 n5 n6 n7 n8 n9 n10 n11 n12 n13 begin = n10 refl
no_beginning close st b sign.OpenParenthesis at w n1 n2 n3 n4 n5 n6 n7 n8 n9 n10 n11 n12 n13 begin = n11 refl
no_beginning close st b sign.OpenBracket at w n1 n2 n3 n4 n5 n6 n7 n8 n9 n10 n11 n12 n13 begin = n12 refl
no_beginning close st b sign.Let at w n1 n2 n3 n4 n5 n6 n7 n8 n9 n10 n11 n12 n13 begin = n13 refl
no_beginning close st b _ at w n1 n2 n3 n4 n5 n6 n7 n8 n9 n10 n11 n12 n13 begin = begin
