-- What is around an inscription of tokens, and what its parts become.
use Rattle.std.specs.Prelude.{◌≡◌, Bool, true, false, List, [], ◌∷◌, ◌++◌, map, Option, Some, Result, Ok, Err, Vec}
use Rattle.std.specs.declared.alloc.Global.{Global}
use Rattle.cpn_definitions.specs.Inscription.{PlainPattern, PlainExpr, ArcInscription, one, times, bound}
use Rattle.cpn_core.specs.declared.inscriptions.Expr.{Expr}
use Rattle.cpn_core.specs.Inscriptions.{expr_view}
use Rattle.cpn_trees.specs.declared.operators.Infix.{Infix}
use Rattle.cpn_trees.specs.declared.operators.Infix.TheVariants as sign
use Rattle.cpn_trees.specs.Trees.{PlainAst, PlainPat}
use Rattle.cpn_typing.specs.Types.{PlainTy, int_type}
use Rattle.cpn_typing.specs.Names.{Scope, Checked, ok, ◌>>=◌}
use Rattle.cpn_typing.specs.Rules as rules
use Rattle.cpn_typing.specs.Expressions.{typed}
use Rattle.cpn_typing.specs.PatternRules.{typed_pattern}
use Rattle.cpn_typing.specs.Multisets.{inside, marked}
use Rattle.cpn_typing.specs.Multisets as multisets
use Rattle.cpn_declared.specs.Answers.{refusal_of}
use Rattle.cpn_typing.specs.Answers.{Refuses}
use Rattle.cpn_declared.specs.DeclsViews.{decls_view}
use Rattle.cpn_forms.specs.ContextViews.{side_view}
use Rattle.cpn_declared.specs.TypeViews.{ty_view}
use Rattle.cpn_declared.specs.declared.refusals.TypeError.{TypeError}
use Rattle.cpn_types.specs.declared.sites.Site.{Site}

abbrev pub site_view : Site → multisets.Site
site_view s = record { declared = decls_view s.decls.now; side = side_view s.side; token_type = ty_view s.ty.now; timed = s.timed }

-- ---- the two operators of multisets

abbrev pub is_times : Infix → Bool
is_times sign.Times = true
is_times o = false

abbrev pub is_later : Infix → Bool
is_later sign.Later = true
is_later o = false

-- ---- parts

-- a value inside the inscription
abbrev pub value_at : multisets.Site → PlainAst → Scope → Option PlainTy → Checked rules.Typed
value_at g a sc w = typed g.declared (inside g.side) a sc w

-- one token of a value; so many of them
abbrev pub one_token : multisets.Site → PlainAst → Scope → Checked ArcInscription
one_token g a sc = value_at g a sc (Some g.token_type) >>= λ token. ok (one token.expr)

abbrev pub many_tokens : multisets.Site → PlainAst → PlainAst → Scope → Checked ArcInscription
many_tokens g k e sc = value_at g k sc (Some int_type) >>= λ count. value_at g e sc (Some g.token_type) >>= λ token. ok (times count.expr token.expr)

-- an arm of a `case` over a subject of a type
abbrev pub arm_at : multisets.Site → PlainPat → PlainAst → Scope → PlainTy → Checked (PlainPattern × ArcInscription)
arm_at g p m sc t = typed_pattern g.declared p sc t >>= λ b. marked g m (sc ++ b.locals) >>= λ result. ok (b.pattern, result)

-- ---- the values of a `let`

-- values around an inscription, the first outermost
abbrev pub all_bound : List PlainExpr → ArcInscription → ArcInscription
all_bound [] m = m
all_bound (e ∷ es) m = bound e (all_bound es m)

-- The answer for the values of a `let` alone: whatever follows them is checked in the inner scope, and they stand around what
-- it becomes; or their first refusal is that of the whole.
abbrev pub LetAnswers : Result (Vec Expr Global) TypeError → Scope → ((Scope → Checked ArcInscription) → Checked ArcInscription) → Type 0
LetAnswers (Ok exprs) inner whole = (body : Scope → Checked ArcInscription) → whole body ≡ (body inner >>= λ m. ok (all_bound (map expr_view exprs.items) m))
LetAnswers (Err e) inner whole = (body : Scope → Checked ArcInscription) → Refuses (refusal_of e) (whole body)
