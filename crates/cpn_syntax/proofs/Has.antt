-- How the tokens go on behind a part that was read. Either the next token takes the part as an operand, or the
-- innermost open form has it; which of the two follows from the token, from how tightly the part binds, and from
-- how tightly the innermost form wants it.
use Rattle.std.proofs.Common.{◌≡◌, ℕ, ◌≤◌, ◌⊎◌, min, Bool, true, false, ◌&&◌, nat_le, List, [], ◌∷◌, ◌++◌, refl, sym, ap, ◌∙◌, subst, inl, inr, ⊎_elim, arith, true≢false}
use Rattle.std.proofs.lemmas.Bool.Decides.{nat_tests}
use Rattle.cpn_lex.specs.Token.{PlainToken, PlainKind}
use Rattle.cpn_lex.specs.Token as token
use Rattle.cpn_lex.specs.declared.symbols.Symbol.{Symbol}
use Rattle.cpn_lex.specs.declared.symbols.Symbol.TheVariants as sign
use Rattle.cpn_trees.specs.declared.operators.Infix.{Infix}
use Rattle.cpn_syntax.specs.Texts.{Text, Is}
use Rattle.cpn_trees.specs.Trees.{PlainPat, PlainAst, ast, call, tuple, list, let_in, prefixed, infixed, stamped, sum, if_else, case_of, fold, no_ast, more_asts, no_arm, more_arms, no_local}
use Rattle.cpn_syntax.specs.Inscriptions.{sign_of, precedence, left, right}
use Rattle.cpn_syntax.specs.OpenForms.{condition, consequence, alternative, subject, arm, fold_list, fold_start, fold_body, terms, behind, front, group, items, arguments, local, body, Opens, wants, after_asts, after_arms, after_locals}
use Rattle.cpn_syntax.specs.Completions as done
use Rattle.cpn_syntax.specs.Completions.{Closing, Closes, Wants, Has}
use Rattle.cpn_syntax.proofs.Completions.{NextArm, opens_arm}
use Rattle.cpn_syntax.proofs.Roles.{Role, joins, stamps, adds, leads, role, least, joins_as, loose, above_terms, above_late, one_takes, low_role, low_bar}
use Rattle.cpn_syntax.proofs.Wants.{Next, NextName, NextNumber}

-- ---- the next token takes the part

-- the operators, `@` and `++`
abbrev pub takes_a_part : Role → Bool
takes_a_part (joins o) = true
takes_a_part stamps = true
takes_a_part adds = true
takes_a_part _ = false

-- how tightly the form around may want its part at most
abbrev pub top : Role → ℕ
top (joins o) = precedence o
top stamps = 3
top adds = 3
top _ = 0

-- whether a token takes a part that binds as tightly as k, where a part is wanted that binds as tightly as l
abbrev pub taken : ℕ → ℕ → PlainKind → Bool
taken k l kind = takes_a_part (role kind) && nat_le (least (role kind)) k && nat_le l (top (role kind))

-- a part is a further term of the sum that is open, or the first of one
abbrev pub AddsTo : Closing → ℕ → PlainAst → Opens → PlainAst → Text → Type 0
AddsTo close at c (terms start parts ∷ st) b w = Wants close (terms start (parts ++ c ∷ []) ∷ st) b w
AddsTo close at c st b w = Wants close (terms at (c ∷ []) ∷ st) b w

-- what holds behind a token that takes a part
abbrev pub TakenAs : Closing → ℕ → PlainAst → Opens → PlainAst → ℕ → Role → Text → Type 0
TakenAs close at c st b sign_at (joins o) w = Wants close (behind at o sign_at c ∷ st) b w
TakenAs close at c st b sign_at stamps w = NextNumber (λ z. Has close at 3 (ast at (stamped c sign_at z)) st b) w
TakenAs close at c st b sign_at adds w = AddsTo close at c st b w
TakenAs close at c st b sign_at _ w = ⊥

abbrev Takes : Closing → ℕ → ℕ → PlainAst → Opens → PlainAst → Text → Type 0
Takes close at k c st b [] = ⊥
Takes close at k c st b (t ∷ w) = (least (role t.kind) ≤ k) × (wants st ≤ top (role t.kind)) × TakenAs close at c st b t.at (role t.kind) w

-- ---- the innermost open form has the part

-- what parentheses around parts stand for
abbrev pub grouped : ℕ → List PlainAst → PlainAst → PlainAst
grouped start [] c = c
grouped start (a ∷ parts) c = ast start (tuple (more_asts a (after_asts parts (more_asts c no_ast))))

abbrev pub GoesOn : Closing → ℕ → PlainAst → Opens → PlainAst → Text → Type 0
GoesOn close k c [] b s = (c ≡ b) × Closes close s
GoesOn close k c (behind start o sign_at a ∷ st) b s = (right o ≤ k) × Has close start (precedence o) (ast start (infixed o sign_at a c)) st b s
GoesOn close k c (front start p ∷ st) b s = (11 ≤ k) × Has close start 11 (ast start (prefixed p c)) st b s
GoesOn close k c (terms start parts ∷ st) b s = (3 ≤ k) × Has close start 2 (ast start (sum (after_asts parts (more_asts c no_ast)))) st b s
GoesOn close k c (alternative start i a ∷ st) b s = Has close start (min k 1) (ast start (if_else i a c)) st b s
GoesOn close k c (fold_body start item total a first ∷ st) b s = Has close start (min k 1) (ast start (fold item total a first c)) st b s
GoesOn close k c (arm start a arms p ∷ st) b s =
    Next sign.Bar (λ w. (1 ≤ k) × NextArm close start a (arms ++ (p, c) ∷ []) st b w) s
    ⊎ Has close start 0 (ast start (case_of a (after_arms arms (more_arms p c no_arm)))) st b s
GoesOn close k c (condition start ∷ st) b s = Next sign.Then (Wants close (consequence start c ∷ st) b) s
GoesOn close k c (consequence start i ∷ st) b s = Next sign.Else (Wants close (alternative start i c ∷ st) b) s
GoesOn close k c (subject start ∷ st) b s = Next sign.Of (NextArm close start c [] st b) s
GoesOn close k c (fold_list start item total ∷ st) b s = Next sign.From (Wants close (fold_start start item total c ∷ st) b) s
GoesOn close k c (fold_start start item total a ∷ st) b s = Next sign.Do (Wants close (fold_body start item total a c ∷ st) b) s
GoesOn close k c (group start parts ∷ st) b s =
    Next sign.Comma (Wants close (group start (parts ++ c ∷ []) ∷ st) b) s
    ⊎ Next sign.CloseParenthesis (Has close start 11 (grouped start parts c) st b) s
GoesOn close k c (items start parts ∷ st) b s =
    Next sign.Comma (Wants close (items start (parts ++ c ∷ []) ∷ st) b) s
    ⊎ Next sign.CloseBracket (Has close start 11 (ast start (list (after_asts parts (more_asts c no_ast)))) st b) s
GoesOn close k c (arguments start n parts ∷ st) b s =
    Next sign.Comma (Wants close (arguments start n (parts ++ c ∷ []) ∷ st) b) s
    ⊎ Next sign.CloseParenthesis (Has close start 11 (ast start (call n (after_asts parts (more_asts c no_ast)))) st b) s
GoesOn close k c (local start locals n ∷ st) b s =
    Next sign.Val (NextName (λ m. Next sign.Equal (Wants close (local start (locals ++ (n, c) ∷ []) m ∷ st) b))) s
    ⊎ Next sign.In (Wants close (body start (locals ++ (n, c) ∷ []) ∷ st) b) s
GoesOn close k c (body start locals ∷ st) b s = Next sign.End (Has close start 11 (ast start (let_in (after_locals locals no_local) c)) st b) s

-- ---- one or the other

adds_first_term : {close : Closing} {at : ℕ} {c b : PlainAst} {w : Text} (st : Opens) → wants st ≤ 2 → Wants close (terms at (c ∷ []) ∷ st) b w → AddsTo close at c st b w
adds_first_term (terms start parts ∷ st) le more = let never : ⊥ = omega arith in absurd never
adds_first_term _ le more = more

takes_or_goes_on : {close : Closing} {at k : ℕ} {c b : PlainAst} {st : Opens} {s : Text} → Has close at k c st b s → Takes close at k c st b s ⊎ GoesOn close k c st b s
takes_or_goes_on (done.go_on o t l p is more) = inl (rw (joins_as o is) (l, p, more))
takes_or_goes_on (done.stamp t n l p is num more) = inl (rw is (l, p, rw num more))
takes_or_goes_on {st = st} (done.first_term t l p is more) = inl (rw is (l, omega arith, adds_first_term st p more))
takes_or_goes_on (done.further_term t l is more) = inl (rw is (l, omega arith, more))
takes_or_goes_on (done.end_operand r more) = inr (r, more)
takes_or_goes_on (done.end_prefix r more) = inr (r, more)
takes_or_goes_on (done.end_sum r more) = inr (r, more)
takes_or_goes_on (done.end_if more) = inr more
takes_or_goes_on (done.end_fold more) = inr more
takes_or_goes_on (done.end_case more) = inr (inr more)
takes_or_goes_on (done.bar t1 t2 u l is sp arrow more) = inr (inl (is, (l, opens_arm t2 u sp arrow more)))
takes_or_goes_on (done.of_word t1 t2 u is sp arrow more) = inr (is, opens_arm t2 u sp arrow more)
takes_or_goes_on (done.then_word t is more) = inr (is, more)
takes_or_goes_on (done.else_word t is more) = inr (is, more)
takes_or_goes_on (done.from_word t is more) = inr (is, more)
takes_or_goes_on (done.do_word t is more) = inr (is, more)
takes_or_goes_on (done.next_in_group t is more) = inr (inl (is, more))
takes_or_goes_on (done.end_group t is more) = inr (inr (is, more))
takes_or_goes_on (done.end_tuple t is more) = inr (inr (is, more))
takes_or_goes_on (done.next_item t is more) = inr (inl (is, more))
takes_or_goes_on (done.end_items t is more) = inr (inr (is, more))
takes_or_goes_on (done.next_argument t is more) = inr (inl (is, more))
takes_or_goes_on (done.end_call t is more) = inr (inr (is, more))
takes_or_goes_on (done.next_local t1 t2 t3 is m_is equal more) = inr (inl (is, rw m_is (equal, more)))
takes_or_goes_on (done.in_word t is more) = inr (inr (is, more))
takes_or_goes_on (done.end_let t is more) = inr (is, more)
takes_or_goes_on (done.all_read closes) = inr (refl, closes)

-- ---- which of the two

role_of_closing : {close : Closing} {t : PlainToken} {w : Text} → Closes close (t ∷ w) → role t.kind ≡ leads
role_of_closing (done.at_semicolon t is) = ap role is

-- what takes a part takes no less than a late, ..
least_taken : (r : Role) → takes_a_part r ≡ true → 3 ≤ least r
least_taken (joins o) takes = omega (arith, above_terms o)
least_taken stamps takes = omega arith
least_taken adds takes = omega arith
least_taken _ takes = cc

-- .. is no operand of a prefix operator, ..
top_taken : (r : Role) → takes_a_part r ≡ true → top r ≤ 10
top_taken (joins o) takes = loose o
top_taken _ takes = omega arith

-- .. and leaves the operand of another operator to it, or the other leaves it
one_takes_it : (r : Role) (m : Infix) → takes_a_part r ≡ true → right m ≤ top r → least r ≤ precedence m → ⊥
one_takes_it (joins o) m takes le low = one_takes o m le low
one_takes_it _ m takes le low = omega (arith, above_late m)

-- what takes a part does nothing else
does_nothing_else : {r q : Role} → takes_a_part r ≡ true → r ≡ q → takes_a_part q ≡ false → ⊥
does_nothing_else takes e not_it = true≢false (sym takes ∙ ap takes_a_part e ∙ not_it)

neither : {s r : Symbol} {kind : PlainKind} {A B : Type 0} → takes_a_part (role kind) ≡ true → takes_a_part (role (token.symbol s)) ≡ false → takes_a_part (role (token.symbol r)) ≡ false
    → (kind ≡ token.symbol s) × A ⊎ (kind ≡ token.symbol r) × B → ⊥
neither takes f g = ⊎_elim (λ next. does_nothing_else takes (ap role next.0) f) (λ next. does_nothing_else takes (ap role next.0) g)

never_both : (close : Closing) (k : ℕ) (c : PlainAst) (st : Opens) (b : PlainAst) (t : PlainToken) (w : Text) → takes_a_part (role t.kind) ≡ true → wants st ≤ top (role t.kind) → GoesOn close k c st b (t ∷ w) → ⊥
never_both close k c [] b t w takes le goes = does_nothing_else takes (role_of_closing goes.1) refl
never_both close k c (behind start m sign_at a ∷ st) b t w takes le goes = one_takes_it (role t.kind) m takes le (low_role goes.1 refl)
never_both close k c (front start p ∷ st) b t w takes le goes = omega (arith, top_taken (role t.kind) takes)
never_both close k c (terms start parts ∷ st) b t w takes le goes = omega (arith, least_taken (role t.kind) takes, low_role goes.1 refl)
never_both close k c (alternative start i a ∷ st) b t w takes le goes = omega (arith, least_taken (role t.kind) takes, low_role goes refl)
never_both close k c (fold_body start item total a first ∷ st) b t w takes le goes = omega (arith, least_taken (role t.kind) takes, low_role goes refl)
never_both close k c (arm start a arms p ∷ st) b t w takes le goes =
    ⊎_elim (λ next. does_nothing_else takes (ap role next.0) refl) (λ has. omega (arith, least_taken (role t.kind) takes, low_role has refl)) goes
never_both close k c (condition start ∷ st) b t w takes le goes = does_nothing_else takes (ap role goes.0) refl
never_both close k c (consequence start i ∷ st) b t w takes le goes = does_nothing_else takes (ap role goes.0) refl
never_both close k c (subject start ∷ st) b t w takes le goes = does_nothing_else takes (ap role goes.0) refl
never_both close k c (fold_list start item total ∷ st) b t w takes le goes = does_nothing_else takes (ap role goes.0) refl
never_both close k c (fold_start start item total a ∷ st) b t w takes le goes = does_nothing_else takes (ap role goes.0) refl
never_both close k c (group start parts ∷ st) b t w takes le goes = neither takes refl refl goes
never_both close k c (items start parts ∷ st) b t w takes le goes = neither takes refl refl goes
never_both close k c (arguments start n parts ∷ st) b t w takes le goes = neither takes refl refl goes
never_both close k c (local start locals n ∷ st) b t w takes le goes = neither takes refl refl goes
never_both close k c (body start locals ∷ st) b t w takes le goes = does_nothing_else takes (ap role goes.0) refl

taken_by : {close : Closing} {at k : ℕ} {c b : PlainAst} {st : Opens} {t : PlainToken} {w : Text} → Has close at k c st b (t ∷ w) → (r : Role) → role t.kind ≡ r → takes_a_part r ≡ true → wants st ≤ top r → TakenAs close at c st b t.at r w
taken_by {close} {at} {k} {c} {b} {st} {t} {w} has r e takes le =
    subst (λ r. TakenAs close at c st b t.at r w) e (⊎_elim (λ it_takes. it_takes.2) (λ goes. absurd (never_both close k c st b t w (ap takes_a_part e ∙ takes) (omega (arith, ap top e)) goes)) (takes_or_goes_on has))

-- ---- the token takes the part

-- an operator
pub goes_on : {close : Closing} {at k : ℕ} {c b : PlainAst} {st : Opens} {t : PlainToken} {w : Text} → Has close at k c st b (t ∷ w) → (o : Infix) → Is (sign_of o) t → wants st ≤ precedence o → Wants close (behind at o t.at c ∷ st) b w
goes_on has o is le = taken_by has (joins o) (joins_as o is) refl le

-- `@`
pub stamped_by : {close : Closing} {at k : ℕ} {c b : PlainAst} {st : Opens} {t : PlainToken} {w : Text} → Has close at k c st b (t ∷ w) → Is sign.At t → wants st ≤ 3 → NextNumber (λ z. Has close at 3 (ast at (stamped c t.at z)) st b) w
stamped_by has is le = taken_by has stamps (ap role is) refl le

-- `++`
pub added_to : {close : Closing} {at k : ℕ} {c b : PlainAst} {st : Opens} {t : PlainToken} {w : Text} → Has close at k c st b (t ∷ w) → Is sign.DoublePlus t → wants st ≤ 3 → AddsTo close at c st b w
added_to has is le = taken_by has adds (ap role is) refl le

pub adds_further : {close : Closing} {at k start : ℕ} {c b : PlainAst} {parts : List PlainAst} {st : Opens} {t : PlainToken} {w : Text} → Has close at k c (terms start parts ∷ st) b (t ∷ w) → Is sign.DoublePlus t → Wants close (terms start (parts ++ c ∷ []) ∷ st) b w
adds_further has is = added_to has is (omega arith)

pub adds_first : {close : Closing} {at k : ℕ} {c b : PlainAst} {st : Opens} {t : PlainToken} {w : Text} → Has close at k c st b (t ∷ w) → Is sign.DoublePlus t → wants st ≤ 2 → Wants close (terms at (c ∷ []) ∷ st) b w
adds_first {close} {at} {k} {c} {b} {st} {t} {w} has is le = first st le (added_to has is (omega arith))
  where
    first : (st : Opens) → wants st ≤ 2 → AddsTo close at c st b w → Wants close (terms at (c ∷ []) ∷ st) b w
    first (terms start parts ∷ st) le more = let never : ⊥ = omega arith in absurd never
    first _ le more = more

-- ---- no token takes the part

abbrev pub Untaken : ℕ → ℕ → Text → Type 0
Untaken k l [] = Unit {0}
Untaken k l (t ∷ w) = taken k l t.kind ≡ false

passed : (a k l p : ℕ) → a ≤ k → l ≤ p → (nat_le a k && nat_le l p) ≡ false → ⊥
passed a k l p low le fails = grind (arith, nat_tests)

never_taken : (close : Closing) (at k : ℕ) (c : PlainAst) (st : Opens) (b : PlainAst) (s : Text) → Untaken k (wants st) s → Takes close at k c st b s → ⊥
never_taken close at k c st b [] free takes = takes
never_taken close at k c st b (t ∷ w) free takes = by_role (role t.kind) free takes.0 takes.1 takes.2
  where
    by_role : (r : Role) → (takes_a_part r && nat_le (least r) k && nat_le (wants st) (top r)) ≡ false → least r ≤ k → wants st ≤ top r → TakenAs close at c st b t.at r w → ⊥
    by_role (joins o) free low le more = passed (left o) k (wants st) (precedence o) low le free
    by_role stamps free low le more = passed 4 k (wants st) 3 low le free
    by_role adds free low le more = passed 3 k (wants st) 3 low le free
    by_role _ free low le more = more

-- the innermost open form has it
pub untaken : {close : Closing} {at k : ℕ} {c b : PlainAst} {st : Opens} {s : Text} → Has close at k c st b s → Untaken k (wants st) s → GoesOn close k c st b s
untaken {close} {at} {k} {c} {b} {st} {s} has free = ⊎_elim (λ takes. absurd (never_taken close at k c st b s free takes)) (λ goes. goes) (takes_or_goes_on has)

-- an arm ends at a bar, or else the `case` does
pub arm_at_bar : {close : Closing} {at k start : ℕ} {a c b : PlainAst} {arms : List (PlainPat × PlainAst)} {p : PlainPat} {st : Opens} {t : PlainToken} {w : Text}
    → Has close at k c (arm start a arms p ∷ st) b (t ∷ w) → Is sign.Bar t → NextArm close start a (arms ++ (p, c) ∷ []) st b w
arm_at_bar has is = ⊎_elim (λ next. next.1.1) (λ has. absurd (omega (arith, low_bar has is))) (untaken has (rw is refl))

-- where a form goes on with one of two tokens
one_symbol : {s r : Symbol} → token.symbol s ≡ token.symbol r → s ≡ r
one_symbol e = cc

pub the_first : {s r : Symbol} {kind : PlainKind} {A B : Type 0} → (kind ≡ token.symbol s) × A ⊎ (kind ≡ token.symbol r) × B → kind ≡ token.symbol s → (s ≡ r → ⊥) → A
the_first next is other = ⊎_elim (λ first. first.1) (λ second. absurd (other (one_symbol (sym is ∙ second.0)))) next

pub the_second : {s r : Symbol} {kind : PlainKind} {A B : Type 0} → (kind ≡ token.symbol s) × A ⊎ (kind ≡ token.symbol r) × B → kind ≡ token.symbol r → (s ≡ r → ⊥) → B
the_second next is other = ⊎_elim (λ first. absurd (other (one_symbol (sym first.0 ∙ is)))) (λ second. second.1) next
