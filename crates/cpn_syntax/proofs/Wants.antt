-- What a part begins with, where the forms that are open want one: the next token says which of them it is, and
-- behind `(`, `[` and a name the token after it.
use Rattle.std.proofs.Common.{◌≡◌, ℕ, ℤ, ◌≤◌, ◌⊎◌, true, false, List, [], ◌∷◌, subst, inl, inr, ⊎_elim}
use Rattle.cpn_lex.specs.Token.{PlainToken, PlainKind}
use Rattle.cpn_lex.specs.Token as token
use Rattle.cpn_lex.specs.declared.symbols.Symbol.{Symbol}
use Rattle.cpn_lex.specs.declared.symbols.Symbol.TheVariants as sign
use Rattle.cpn_trees.specs.declared.operators.Prefix.TheVariants as prefix
use Rattle.cpn_syntax.specs.Texts.{Text, Is, IsName}
use Rattle.cpn_trees.specs.Trees.{PlainAst, ast, number, text, truth, empty, time, name, unit, list, no_ast}
use Rattle.cpn_syntax.specs.OpenForms.{condition, subject, fold_list, behind, front, group, items, arguments, local, Opens, wants}
use Rattle.cpn_syntax.specs.Completions as done
use Rattle.cpn_syntax.specs.Completions.{Closing, Wants, Has}
use Rattle.cpn_syntax.proofs.Roles.{no_open_parenthesis}

-- ---- the tokens that a text has next, and what holds of the text behind them

abbrev pub Next : Symbol → (Text → Type 0) → Text → Type 0
Next s Rest [] = ⊥
Next s Rest (t ∷ w) = Is s t × Rest w

abbrev pub named : (List ℕ → Text → Type 0) → PlainKind → Text → Type 0
named Rest (token.name n) w = Rest n w
named Rest _ w = ⊥

abbrev pub NextName : (List ℕ → Text → Type 0) → Text → Type 0
NextName Rest [] = ⊥
NextName Rest (t ∷ w) = named Rest t.kind w

abbrev pub numbered : (ℤ → Text → Type 0) → PlainKind → Text → Type 0
numbered Rest (token.number z) w = Rest z w
numbered Rest _ w = ⊥

abbrev pub NextNumber : (ℤ → Text → Type 0) → Text → Type 0
NextNumber Rest [] = ⊥
NextNumber Rest (t ∷ w) = numbered Rest t.kind w

-- ---- what a part begins with

-- a sign or a reserved word at an offset
abbrev pub BeginsBySign : Closing → Opens → PlainAst → Symbol → ℕ → Text → Type 0
BeginsBySign close st b sign.If at w = (wants st ≤ 1) × Wants close (condition at ∷ st) b w
BeginsBySign close st b sign.Case at w = (wants st ≤ 0) × Wants close (subject at ∷ st) b w
BeginsBySign close st b sign.Foldl at w = (wants st ≤ 1) × NextName (λ item. Next sign.Comma (NextName (λ total. Next sign.Over (Wants close (fold_list at item total ∷ st) b)))) w
BeginsBySign close st b sign.Not at w = Wants close (front at prefix.Not ∷ st) b w
BeginsBySign close st b sign.Tilde at w = Wants close (front at prefix.Negate ∷ st) b w
BeginsBySign close st b sign.Hash at w = NextNumber (λ z. Wants close (front at (prefix.Component z) ∷ st) b) w
BeginsBySign close st b sign.True at w = Has close at 11 (ast at (truth true)) st b w
BeginsBySign close st b sign.False at w = Has close at 11 (ast at (truth false)) st b w
BeginsBySign close st b sign.Empty at w = Has close at 11 (ast at empty) st b w
BeginsBySign close st b sign.Time at w = Has close at 11 (ast at time) st b w
BeginsBySign close st b sign.OpenParenthesis at w = Next sign.CloseParenthesis (Has close at 11 (ast at unit) st b) w ⊎ Wants close (group at [] ∷ st) b w
BeginsBySign close st b sign.OpenBracket at w = Next sign.CloseBracket (Has close at 11 (ast at (list no_ast)) st b) w ⊎ Wants close (items at [] ∷ st) b w
BeginsBySign close st b sign.Let at w = Next sign.Val (NextName (λ n. Next sign.Equal (Wants close (local at [] n ∷ st) b))) w
BeginsBySign close st b _ at w = ⊥

abbrev pub BeginsBy : Closing → Opens → PlainAst → PlainKind → ℕ → Text → Type 0
BeginsBy close st b (token.number z) at w = Has close at 11 (ast at (number z)) st b w
BeginsBy close st b (token.text bytes) at w = Has close at 11 (ast at (text bytes)) st b w
BeginsBy close st b (token.name n) at w = Has close at 11 (ast at (name n)) st b w ⊎ Next sign.OpenParenthesis (Wants close (arguments at n [] ∷ st) b) w
BeginsBy close st b (token.symbol s) at w = BeginsBySign close st b s at w

abbrev pub Begins : Closing → Opens → PlainAst → Text → Type 0
Begins close st b [] = ⊥
Begins close st b (t ∷ w) = BeginsBy close st b t.kind t.at w

pub begins : {close : Closing} {st : Opens} {b : PlainAst} {s : Text} → Wants close st b s → Begins close st b s
begins (done.begin_if t le is more) = rw is (le, more)
begins (done.begin_case t le is more) = rw is (le, more)
begins (done.begin_fold t1 n1 t2 n2 t3 le is item comma total over more) = rw is (le, rw item (comma, rw total (over, more)))
begins (done.begin_not t is more) = rw is more
begins (done.begin_negate t is more) = rw is more
begins (done.begin_component t n is num more) = rw is (rw num more)
begins (done.whole_number t is has) = rw is has
begins (done.whole_text t is has) = rw is has
begins (done.whole_true t is has) = rw is has
begins (done.whole_false t is has) = rw is has
begins (done.whole_empty t is has) = rw is has
begins (done.whole_time t is has) = rw is has
begins (done.whole_name t is has) = rw is (inl has)
begins (done.begin_call t t1 is opens more) = rw is (inr (opens, more))
begins (done.whole_unit t1 t2 is closes has) = rw is (inl (closes, has))
begins (done.begin_group t is more) = rw is (inr more)
begins (done.whole_no_items t1 t2 is closes has) = rw is (inl (closes, has))
begins (done.begin_items t is more) = rw is (inr more)
begins (done.begin_let t1 t2 m t3 is val_is m_is equal more) = rw is (val_is, rw m_is (equal, more))

pub begins_with : {close : Closing} {st : Opens} {b : PlainAst} {t : PlainToken} {w : Text} {kind : PlainKind} → Wants close st b (t ∷ w) → t.kind ≡ kind → BeginsBy close st b kind t.at w
begins_with {close} {st} {b} {t} {w} more is = subst (λ kind. BeginsBy close st b kind t.at w) is (begins more)

pub begins_never : {close : Closing} {st : Opens} {b : PlainAst} → Wants close st b [] → ⊥
begins_never more = begins more

pub no_close_parenthesis : {close : Closing} {st : Opens} {b : PlainAst} {t : PlainToken} {w : Text} → Wants close st b (t ∷ w) → Is sign.CloseParenthesis t → ⊥
no_close_parenthesis more is = begins_with more is

pub no_close_bracket : {close : Closing} {st : Opens} {b : PlainAst} {t : PlainToken} {w : Text} → Wants close st b (t ∷ w) → Is sign.CloseBracket t → ⊥
no_close_bracket more is = begins_with more is

-- ---- where the token after the first decides

abbrev pub StartsWith : Symbol → Text → Type 0
StartsWith s [] = ⊥
StartsWith s (t ∷ w) = Is s t

pub no_next : (s : Symbol) (Rest : Text → Type 0) (w : Text) → (StartsWith s w → ⊥) → Next s Rest w → ⊥
no_next s Rest [] other next = next
no_next s Rest (t ∷ w) other next = other next.0

pub unit_begins : {close : Closing} {st : Opens} {b : PlainAst} {t1 t2 : PlainToken} {w : Text} → Wants close st b (t1 ∷ t2 ∷ w) → Is sign.OpenParenthesis t1 → Is sign.CloseParenthesis t2 → Has close t1.at 11 (ast t1.at unit) st b w
unit_begins more is closes = ⊎_elim (λ next. next.1) (λ more. absurd (no_close_parenthesis more closes)) (begins_with more is)

pub group_begins : {close : Closing} {st : Opens} {b : PlainAst} {t : PlainToken} {w : Text} → Wants close st b (t ∷ w) → Is sign.OpenParenthesis t → (StartsWith sign.CloseParenthesis w → ⊥) → Wants close (group t.at [] ∷ st) b w
group_begins {w = w} more is other = ⊎_elim (λ next. absurd (no_next _ _ w other next)) (λ more. more) (begins_with more is)

pub no_items_begin : {close : Closing} {st : Opens} {b : PlainAst} {t1 t2 : PlainToken} {w : Text} → Wants close st b (t1 ∷ t2 ∷ w) → Is sign.OpenBracket t1 → Is sign.CloseBracket t2 → Has close t1.at 11 (ast t1.at (list no_ast)) st b w
no_items_begin more is closes = ⊎_elim (λ next. next.1) (λ more. absurd (no_close_bracket more closes)) (begins_with more is)

pub items_begin : {close : Closing} {st : Opens} {b : PlainAst} {t : PlainToken} {w : Text} → Wants close st b (t ∷ w) → Is sign.OpenBracket t → (StartsWith sign.CloseBracket w → ⊥) → Wants close (items t.at [] ∷ st) b w
items_begin {w = w} more is other = ⊎_elim (λ next. absurd (no_next _ _ w other next)) (λ more. more) (begins_with more is)

pub call_begins : {close : Closing} {st : Opens} {b : PlainAst} {n : List ℕ} {t1 t2 : PlainToken} {w : Text} → Wants close st b (t1 ∷ t2 ∷ w) → IsName n t1 → Is sign.OpenParenthesis t2 → Wants close (arguments t1.at n [] ∷ st) b w
call_begins more is opens = ⊎_elim (λ has. absurd (no_open_parenthesis has opens)) (λ next. next.1) (begins_with more is)

pub name_begins : {close : Closing} {st : Opens} {b : PlainAst} {n : List ℕ} {t : PlainToken} {w : Text} → Wants close st b (t ∷ w) → IsName n t → (StartsWith sign.OpenParenthesis w → ⊥) → Has close t.at 11 (ast t.at (name n)) st b w
name_begins {w = w} more is other = ⊎_elim (λ has. has) (λ next. absurd (no_next _ _ w other next)) (begins_with more is)
