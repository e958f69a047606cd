-- What may follow a part that was read: a token that goes on a form that is open, or ends one. Each of those that
-- takes the part as an operand asks how tightly it binds.
use Rattle.std.proofs.Common.{◌≡◌, ℕ, ◌<◌, ◌≤◌, ◌≢◌, ◌⊎◌, Bool, true, false, [], ◌∷◌, refl, sym, ap, ◌∙◌, inl, inr, arith, true≢false}
use Rattle.cpn_lex.specs.Token.{PlainToken, PlainKind}
use Rattle.cpn_lex.specs.Token as token
use Rattle.cpn_lex.specs.declared.symbols.Symbol.{Symbol}
use Rattle.cpn_lex.specs.declared.symbols.Symbol.TheVariants as sign
use Rattle.cpn_trees.specs.declared.operators.Infix.{Infix}
use Rattle.cpn_trees.specs.declared.operators.Infix.TheVariants as op
use Rattle.cpn_syntax.specs.Texts.{Text, Is}
use Rattle.cpn_trees.specs.Trees.{PlainAst}
use Rattle.cpn_syntax.specs.Inscriptions.{sign_of, precedence, left, right}
use Rattle.cpn_syntax.specs.OpenForms.{Opens}
use Rattle.cpn_syntax.specs.Completions as done
use Rattle.cpn_syntax.specs.Completions.{Closing, Closes, Has}
use Rattle.cpn_syntax.proofs.Completions.{tight_left}

-- ---- what a token does behind a part

pub data Role : Type 0 where
  -- an infix operator
  joins : Infix → Role
  -- `@`
  stamps : Role
  -- `++`
  adds : Role
  -- `|`
  bars : Role
  -- what goes on or ends another form
  leads : Role
  -- nothing: it follows no part
  nothing : Role

abbrev pub role_of_sign : Symbol → Role
role_of_sign sign.AtPlus = joins op.Later
role_of_sign sign.Backtick = joins op.Times
role_of_sign sign.Orelse = joins op.Orelse
role_of_sign sign.Andalso = joins op.Andalso
role_of_sign sign.Equal = joins op.Equal
role_of_sign sign.NotEqual = joins op.NotEqual
role_of_sign sign.Less = joins op.Less
role_of_sign sign.LessOrEqual = joins op.LessOrEqual
role_of_sign sign.Greater = joins op.Greater
role_of_sign sign.GreaterOrEqual = joins op.GreaterOrEqual
role_of_sign sign.DoubleColon = joins op.Cons
role_of_sign sign.DoubleCaret = joins op.Append
role_of_sign sign.Plus = joins op.Add
role_of_sign sign.Minus = joins op.Subtract
role_of_sign sign.Caret = joins op.Concatenate
role_of_sign sign.Star = joins op.Multiply
role_of_sign sign.Div = joins op.Div
role_of_sign sign.Mod = joins op.Mod
role_of_sign sign.At = stamps
role_of_sign sign.DoublePlus = adds
role_of_sign sign.Bar = bars
role_of_sign sign.Then = leads
role_of_sign sign.Else = leads
role_of_sign sign.Of = leads
role_of_sign sign.From = leads
role_of_sign sign.Do = leads
role_of_sign sign.Comma = leads
role_of_sign sign.CloseParenthesis = leads
role_of_sign sign.CloseBracket = leads
role_of_sign sign.Val = leads
role_of_sign sign.In = leads
role_of_sign sign.End = leads
role_of_sign sign.Semicolon = leads
role_of_sign _ = nothing

abbrev pub role : PlainKind → Role
role (token.symbol s) = role_of_sign s
role _ = nothing

-- the precedence that the part in front of it must have at least
abbrev pub least : Role → ℕ
least (joins o) = left o
least stamps = 4
least adds = 3
least bars = 1
least leads = 0
least nothing = 0

abbrev pub follows_as : Role → Bool
follows_as nothing = false
follows_as _ = true

-- whether a token may follow a part
abbrev pub can_follow : PlainKind → Bool
can_follow kind = follows_as (role kind)

-- ---- the operators

pub role_joins : (o : Infix) → role_of_sign (sign_of o) ≡ joins o
role_joins op.Later = refl
role_joins _ = refl

-- what stands for an operator stands for nothing else
pub joins_as : (o : Infix) {kind : PlainKind} → kind ≡ token.symbol (sign_of o) → role kind ≡ joins o
joins_as o is = ap role is ∙ role_joins o

pub tight_right : (o : Infix) → precedence o ≤ right o
tight_right op.Later = omega arith
tight_right _ = omega arith

-- each binds less tightly than a prefix operator, takes no less than a term on its left and more than one on its right
pub loose : (o : Infix) → precedence o ≤ 10
loose op.Later = omega arith
loose _ = omega arith

pub above_terms : (o : Infix) → 4 ≤ left o
above_terms op.Later = omega arith
above_terms _ = omega arith

pub above_late : (o : Infix) → 5 ≤ right o
above_late op.Later = omega arith
above_late _ = omega arith

-- only the lines of cons lean to the right
leans_left : (o : Infix) → (precedence o < right o) ⊎ (precedence o ≡ 8)
leans_left op.Cons = inr refl
leans_left op.Append = inr refl
leans_left _ = inl (omega arith)

leans_right : (o : Infix) → (precedence o < left o) ⊎ (precedence o ≢ 8)
leans_right op.Cons = inl (omega arith)
leans_right op.Append = inl (omega arith)
leans_right _ = inr (omega arith)

-- of two operators one takes the part between them
pub one_takes : (o m : Infix) → right m ≤ precedence o → left o ≤ precedence m → ⊥
one_takes o m r l = omega (arith, tight_left o, tight_right m, leans_left m, leans_right o)

-- ---- what follows a part

-- the next token may follow a part that binds so tightly
abbrev Follows : ℕ → Text → Type 0
Follows k [] = Unit {0}
Follows k (t ∷ w) = (can_follow t.kind ≡ true) × (least (role t.kind) ≤ k)

follows_up : {k m : ℕ} (s : Text) → k ≤ m → Follows k s → Follows m s
follows_up [] le f = f
follows_up (t ∷ w) le f = (f.0, omega (arith, f.1))

follows_as_role : {k : ℕ} (r : Role) (t : PlainToken) → role t.kind ≡ r → follows_as r ≡ true → least r ≤ k → (can_follow t.kind ≡ true) × (least (role t.kind) ≤ k)
follows_as_role r t e f le = (ap follows_as e ∙ f, omega (arith, ap least e))

follows_closing : {close : Closing} {w : Text} (k : ℕ) → Closes close w → Follows k w
follows_closing k done.at_end = tt
follows_closing k (done.at_semicolon t is) = follows_as_role leads t (ap role is) refl (omega arith)

follows_in : {close : Closing} {at k : ℕ} {c b : PlainAst} {st : Opens} {s : Text} → Has close at k c st b s → Follows k s
follows_in (done.go_on o t l p is more) = follows_as_role (joins o) t (joins_as o is) refl l
follows_in (done.stamp t n l p is num more) = follows_as_role stamps t (ap role is) refl l
follows_in (done.first_term t l p is more) = follows_as_role adds t (ap role is) refl l
follows_in (done.further_term t l is more) = follows_as_role adds t (ap role is) refl l
follows_in {s = s} (done.end_operand {o = o} r more) = follows_up s (omega (arith, tight_right o)) (follows_in more)
follows_in {s = s} (done.end_prefix r more) = follows_up s r (follows_in more)
follows_in {s = s} (done.end_sum r more) = follows_up s (omega arith) (follows_in more)
follows_in {s = s} (done.end_if more) = follows_up s (omega arith) (follows_in more)
follows_in {s = s} (done.end_fold more) = follows_up s (omega arith) (follows_in more)
follows_in {s = s} (done.end_case more) = follows_up s (omega arith) (follows_in more)
follows_in (done.bar t1 t2 u l is sp arrow more) = follows_as_role bars t1 (ap role is) refl l
follows_in (done.of_word t1 t2 u is sp arrow more) = follows_as_role leads t1 (ap role is) refl (omega arith)
follows_in (done.next_local t1 t2 t3 is n e more) = follows_as_role leads t1 (ap role is) refl (omega arith)
follows_in (done.then_word t is more) = follows_as_role leads t (ap role is) refl (omega arith)
follows_in (done.else_word t is more) = follows_as_role leads t (ap role is) refl (omega arith)
follows_in (done.from_word t is more) = follows_as_role leads t (ap role is) refl (omega arith)
follows_in (done.do_word t is more) = follows_as_role leads t (ap role is) refl (omega arith)
follows_in (done.next_in_group t is more) = follows_as_role leads t (ap role is) refl (omega arith)
follows_in (done.end_group t is more) = follows_as_role leads t (ap role is) refl (omega arith)
follows_in (done.end_tuple t is more) = follows_as_role leads t (ap role is) refl (omega arith)
follows_in (done.next_item t is more) = follows_as_role leads t (ap role is) refl (omega arith)
follows_in (done.end_items t is more) = follows_as_role leads t (ap role is) refl (omega arith)
follows_in (done.next_argument t is more) = follows_as_role leads t (ap role is) refl (omega arith)
follows_in (done.end_call t is more) = follows_as_role leads t (ap role is) refl (omega arith)
follows_in (done.in_word t is more) = follows_as_role leads t (ap role is) refl (omega arith)
follows_in (done.end_let t is more) = follows_as_role leads t (ap role is) refl (omega arith)
follows_in {k = k} (done.all_read closes) = follows_closing k closes

-- only such a token
pub follows : {close : Closing} {at k : ℕ} {c b : PlainAst} {st : Opens} {t : PlainToken} {w : Text} → Has close at k c st b (t ∷ w) → can_follow t.kind ≡ true
follows has = (follows_in has).0

-- and only behind a part that binds tightly enough for it
pub low_role : {close : Closing} {at k : ℕ} {c b : PlainAst} {st : Opens} {t : PlainToken} {w : Text} {r : Role} → Has close at k c st b (t ∷ w) → role t.kind ≡ r → least r ≤ k
low_role has e = let l = (follows_in has).1 in omega (arith, ap least e)

pub low : {close : Closing} {at k : ℕ} {c b : PlainAst} {st : Opens} {t : PlainToken} {w : Text} → Has close at k c st b (t ∷ w) → (o : Infix) → Is (sign_of o) t → left o ≤ k
low has o is = low_role has (joins_as o is)

pub low_bar : {close : Closing} {at k : ℕ} {c b : PlainAst} {st : Opens} {t : PlainToken} {w : Text} → Has close at k c st b (t ∷ w) → Is sign.Bar t → 1 ≤ k
low_bar has is = low_role has (ap role is)

-- an open parenthesis follows no part
pub no_open_parenthesis : {close : Closing} {at k : ℕ} {c b : PlainAst} {st : Opens} {t : PlainToken} {w : Text} → Has close at k c st b (t ∷ w) → Is sign.OpenParenthesis t → ⊥
no_open_parenthesis has is = true≢false (sym (follows has) ∙ ap can_follow is)
