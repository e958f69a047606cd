-- The values of a `let`, one after another.
use Rattle.std.proofs.Common.{◌≡◌, ℕ, ◌+◌, ◌<◌, ◌≤◌, List, [], ◌∷◌, ◌++◌, map, length, get_or, take, drop, min, None, refl, sym, ap, ◌∙◌, subst, string_bytes, arith, add-one, drop-cons, Result, Ok, Err, Vec, Global}
use Rattle.std.specs.Result.{IsErrAnd}
use Rattle.std.proofs.lemmas.List.{map-append, length-take, take-append-le}
use Rattle.cpn_definitions.specs.Inscription.{PlainExpr, ArcInscription, bound}
use Rattle.cpn_core.specs.declared.inscriptions.Expr.{Expr}
use Rattle.cpn_core.specs.Inscriptions.{expr_view}
use Rattle.cpn_trees.specs.Trees.{PlainAst}
use Rattle.cpn_trees.specs.AstViews.{ast_view, local_view, locals_from}
use Rattle.cpn_trees.specs.declared.trees.LocalValue.{LocalValue}
use Rattle.cpn_trees.proofs.FormViews.{view_local}
use Rattle.cpn_typing.specs.Names.{Name, Scope, local_of, Refusal, Checked, ok, refused, ◌>>=◌}
use Rattle.cpn_typing.specs.Rules.{Typed}
use Rattle.cpn_typing.specs.Multisets.{Site, marked_let}
use Rattle.cpn_declared.specs.Answers.{refusal_of}
use Rattle.cpn_typing.specs.Answers.{Refuses}
use Rattle.cpn_forms.specs.ScopeViews.{scope_view}
use Rattle.cpn_forms.specs.ScopeViews as views
use Rattle.cpn_declared.specs.TypeViews.{ty_view}
use Rattle.cpn_forms.specs.declared.scopes.Local.{Local as Here}
use Rattle.cpn_declared.specs.declared.refusals.TypeError.{TypeError}
use Rattle.cpn_types.specs.Sites.{value_at, all_bound, LetAnswers}

-- around what is checked in the inner scope
abbrev pub around : List PlainExpr → Checked ArcInscription → Checked ArcInscription
around es c = c >>= λ m. ok (all_bound es m)

one_more : (es : List PlainExpr) (e : PlainExpr) (m : ArcInscription) → all_bound (es ++ e ∷ []) m ≡ all_bound es (bound e m)
one_more [] e m = refl
one_more (d ∷ es) e m = ap (bound d) (one_more es e m)

around_more : (es : List PlainExpr) (e : PlainExpr) (c : Checked ArcInscription) → around es (c >>= λ m. ok (bound e m)) ≡ around (es ++ e ∷ []) c
around_more es e (ok m) = ap ok (sym (one_more es e m))
around_more es e (refused r) = refl

value_goes : (g : Site) (n : Name) (a : PlainAst) (ls : List (Name × PlainAst)) (sc : Scope) (v : Typed) (es : List PlainExpr) (body : Scope → Checked ArcInscription) → value_at g a sc None ≡ ok v
    → around es (marked_let g (locals_from ((n, a) ∷ ls)) sc body) ≡ around (es ++ v.expr ∷ []) (marked_let g (locals_from ls) (sc ++ local_of n v.type_of ∷ []) body)
value_goes g n a ls sc v es body is =
    ap (λ c. around es (c >>= λ value. marked_let g (locals_from ls) (sc ++ local_of n value.type_of ∷ []) body >>= λ m. ok (bound value.expr m))) is
    ∙ around_more es v.expr (marked_let g (locals_from ls) (sc ++ local_of n v.type_of ∷ []) body)

value_stops : (g : Site) (n : Name) (a : PlainAst) (ls : List (Name × PlainAst)) (sc : Scope) (r : Refusal) (es : List PlainExpr) (body : Scope → Checked ArcInscription) → value_at g a sc None ≡ refused r
    → around es (marked_let g (locals_from ((n, a) ∷ ls)) sc body) ≡ refused r
value_stops g n a ls sc r es body is = ap (λ c. around es (c >>= λ value. marked_let g (locals_from ls) (sc ++ local_of n value.type_of ∷ []) body >>= λ m. ok (bound value.expr m))) is

-- ---- in the loop

from_index : (vs : List LocalValue) (i : ℕ) (v : LocalValue) → i < length vs → v ≡ get_or vs i v → map local_view (drop i vs) ≡ (string_bytes v.name, ast_view v.value) ∷ map local_view (drop (i + 1) vs)
from_index vs i v lt at =
    let rest : drop i vs ≡ v ∷ drop (i + 1) vs = rw (add-one, drop-cons vs i v lt, ← at) refl in
    ap (map local_view) rest ∙ ap (λ p. p ∷ map local_view (drop (i + 1) vs)) (view_local v)

pub next_value : (g : Site) (vs : List LocalValue) (i : ℕ) (v : LocalValue) (sc now : Scope) (t : Typed) (es more : List PlainExpr) (body : Scope → Checked ArcInscription) (whole : Checked ArcInscription)
    → i < length vs → v ≡ get_or vs i v → value_at g (ast_view v.value) sc None ≡ ok t → now ≡ sc ++ local_of (string_bytes v.name) t.type_of ∷ [] → more ≡ es ++ t.expr ∷ []
    → whole ≡ around es (marked_let g (locals_from (map local_view (drop i vs))) sc body) → whole ≡ around more (marked_let g (locals_from (map local_view (drop (i + 1) vs))) now body)
next_value g vs i v sc now t es more body whole lt at is scope_is more_is before =
    before
    ∙ ap (λ ls. around es (marked_let g (locals_from ls) sc body)) (from_index vs i v lt at)
    ∙ value_goes g (string_bytes v.name) (ast_view v.value) (map local_view (drop (i + 1) vs)) sc t es body is
    ∙ ap (λ s. around (es ++ t.expr ∷ []) (marked_let g (locals_from (map local_view (drop (i + 1) vs))) s body)) (sym scope_is)
    ∙ ap (λ xs. around xs (marked_let g (locals_from (map local_view (drop (i + 1) vs))) now body)) (sym more_is)

pub no_value : (g : Site) (vs : List LocalValue) (i : ℕ) (v : LocalValue) (sc : Scope) (r : Refusal) (es : List PlainExpr) (body : Scope → Checked ArcInscription) (whole : Checked ArcInscription)
    → i < length vs → v ≡ get_or vs i v → value_at g (ast_view v.value) sc None ≡ refused r
    → whole ≡ around es (marked_let g (locals_from (map local_view (drop i vs))) sc body) → whole ≡ refused r
no_value g vs i v sc r es body whole lt at is before =
    before
    ∙ ap (λ ls. around es (marked_let g (locals_from ls) sc body)) (from_index vs i v lt at)
    ∙ value_stops g (string_bytes v.name) (ast_view v.value) (map local_view (drop (i + 1) vs)) sc r es body is

-- ---- answers

pub bound_in : (es rest : List Expr) (e : Expr) (m n : ArcInscription) → es ≡ rest ++ e ∷ [] → n ≡ bound (expr_view e) m → all_bound (map expr_view rest) n ≡ all_bound (map expr_view es) m
bound_in es rest e m n es_are n_is = ap (all_bound (map expr_view rest)) n_is ∙ sym (one_more (map expr_view rest) (expr_view e) m) ∙ ap (λ xs. all_bound xs m) (sym (ap (map expr_view) es_are ∙ map-append expr_view rest (e ∷ [])))

pub let_refused : (r : Result (Vec Expr Global) TypeError) (e : TypeError) (inner : Scope) (whole : (Scope → Checked ArcInscription) → Checked ArcInscription) → IsErrAnd r (λ y. y ≡ e) → ((body : Scope → Checked ArcInscription) → Refuses (refusal_of e) (whole body)) → LetAnswers r inner whole
let_refused (Ok x) e inner whole h refuses = absurd h
let_refused (Err y) e inner whole h refuses = λ body. subst (λ z. Refuses (refusal_of z) (whole body)) (sym h) (refuses body)

-- ---- the scope

pub scope_more : (now mid old : List Here) (l : Here) (n : Name) → now ≡ mid ++ l ∷ [] → mid ≡ old → l.name.now ≡ n → scope_view now ≡ scope_view old ++ local_of n (ty_view l.ty) ∷ []
scope_more now mid old l n now_is mid_is named =
    ap scope_view now_is ∙ map-append views.local_view mid (l ∷ []) ∙ ap (λ xs. scope_view xs ++ scope_view (l ∷ [])) mid_is ∙ ap (λ m. scope_view old ++ local_of m (ty_view l.ty) ∷ []) named

pub outer_kept : (init old mid now : List Here) (l : Here) → now ≡ mid ++ l ∷ [] → mid ≡ old → take (length init) old ≡ init → take (length init) now ≡ init
outer_kept init old mid now l now_is mid_is kept =
    let few : length init ≤ length old = long_enough (length init) (length old) (length (take (length init) old)) (length-take (length init) old) (ap length kept) in
    ap (take (length init)) (now_is ∙ ap (λ xs. xs ++ l ∷ []) mid_is) ∙ rw take-append-le kept
  where
    long_enough : (n m k : ℕ) → k ≡ min n m → k ≡ n → n ≤ m
    long_enough n m k is same = omega arith
