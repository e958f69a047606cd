-- The values of a `let` that are checked already, around what the rules say of the rest.
use Rattle.std.proofs.Common.{◌≡◌, ℕ, suc, ◌+◌, ◌<◌, ◌≤◌, List, [], ◌∷◌, ◌++◌, length, get_or, drop, map, refl, sym, ap, ◌∙◌, add-one, length-append, arith, rules, take, Bor, string_bytes, drop-cons, drop_of_length-le, Option, Some, None}
use Rattle.std.proofs.lemmas.List.{take-append-le}
use Rattle.cpn_trees.specs.AstViews.{locals_from, local_view, ast_view}
use Rattle.cpn_trees.specs.declared.trees.LocalValue.{LocalValue}
use Rattle.cpn_trees.specs.declared.trees.LocalValue as local_value
use Rattle.cpn_trees.proofs.FormViews.{view_local}
use Rattle.cpn_definitions.specs.Inscription.{PlainExpr, bind}
use Rattle.cpn_definitions.proofs.ListItems.{map_more}
use Rattle.cpn_core.specs.Inscriptions.{expr_view}
use Rattle.cpn_core.specs.declared.inscriptions.Expr.{Expr}
use Rattle.cpn_forms.specs.declared.scopes.Local.{Local}
use Rattle.cpn_forms.specs.declared.typed.Typed as program
use Rattle.cpn_forms.specs.ScopeViews.{scope_view}
use Rattle.cpn_forms.specs.TypedViews.{typed_view}
use Rattle.cpn_declared.specs.TypeViews.{ty_view}
use Rattle.cpn_typing.specs.Names.{Declared, Scope, local_of, Checked, Refusal, ok, refused, ◌>>=◌}
use Rattle.cpn_typing.specs.Answers.{Refuses}
use Rattle.cpn_typing.specs.Contexts.{Context}
use Rattle.cpn_typing.specs.Rules.{Typed}
use Rattle.cpn_typing.specs.Expressions.{typed, typed_let}
use Rattle.cpn_typing.specs.Bindings.{bind_all}
use Rattle.cpn_typing.proofs.Bindings.{bind_more}

abbrev pub around_rest : List PlainExpr → Checked Typed → Checked Typed
around_rest es (ok r) = ok (record { expr = bind_all es r.expr; type_of = r.type_of })
around_rest es (refused r) = refused r

value_in_front : (es : List PlainExpr) (r : Typed) (c : Checked Typed) → around_rest (es ++ r.expr ∷ []) c ≡ around_rest es (c >>= λ rest. ok (record { expr = bind r.expr rest.expr; type_of = rest.type_of }))
value_in_front es r (ok x) = rw (bind_more es r.expr x.expr) refl
value_in_front es r (refused x) = refl

pub value_step : (ds : Declared) (context : Context) (now next : Scope) (values : List LocalValue) (i : ℕ) (x : LocalValue) (es es2 : List PlainExpr) (r : Typed) (body : Scope → Checked Typed) (all : Checked Typed)
    → i < length values → x ≡ get_or values i x → typed ds context (local_view x).1 now None ≡ ok r
    → es2 ≡ es ++ r.expr ∷ [] → next ≡ now ++ local_of (local_view x).0 r.type_of ∷ []
    → around_rest es (typed_let ds context (locals_from (map local_view (drop i values))) now body) ≡ all
    → around_rest es2 (typed_let ds context (locals_from (map local_view (drop (i + 1) values))) next body) ≡ all
value_step ds context now next values i x es es2 r body all lt e f y n h =
    let d : drop i values ≡ x ∷ drop (suc i) values = drop-cons values i x lt ∙ ap (λ z. z ∷ drop (suc i) values) (sym e) in
    let k = rw (d, f) at h in
    rw (add-one i, y, n) (value_in_front es r (typed_let ds context (locals_from (map local_view (drop (suc i) values))) (now ++ local_of (local_view x).0 r.type_of ∷ []) body) ∙ k)

-- one more value, which those behind it see
pub values_step : (ds : Declared) (context : Context) (now now2 next : List Local) (values : List LocalValue) (i : ℕ) (x : LocalValue) (es es2 : List Expr) (r : program.Typed) (name : Bor (List ℕ)) (body : Scope → Checked Typed) (all : Checked Typed)
    → i < length values → x ≡ get_or values i x → typed ds context (ast_view x.value) (scope_view now) None ≡ ok (typed_view r)
    → es2 ≡ es ++ r.expr ∷ [] → now2 ≡ now → next ≡ now2 ++ record { name = name; ty = r.ty } ∷ [] → name.now ≡ string_bytes x.name
    → around_rest (map expr_view es) (typed_let ds context (locals_from (map local_view (drop i values))) (scope_view now) body) ≡ all
    → around_rest (map expr_view es2) (typed_let ds context (locals_from (map local_view (drop (i + 1) values))) (scope_view next) body) ≡ all
values_step ds context now now2 next values i x es es2 r name body all lt e f y m n s h =
    value_step ds context (scope_view now) (scope_view next) values i x (map expr_view es) (map expr_view es2) (typed_view r) body all lt e
    (ap (λ p. typed ds context p.1 (scope_view now) None) (view_local x) ∙ f)
    (ap (map expr_view) y ∙ map_more expr_view es r.expr)
    (ap scope_view n ∙ ap (λ l. scope_view (l ++ record { name = name; ty = r.ty } ∷ [])) m ∙ map_more _ now (record { name = name; ty = r.ty })
    ∙ ap (λ p. scope_view now ++ local_of p (ty_view r.ty) ∷ []) (s ∙ ap (λ p. p.0) (sym (view_local x))))
    h

-- a value that is refused
pub values_refused : (q : Option Refusal) (ds : Declared) (context : Context) (now : Scope) (values : List LocalValue) (i : ℕ) (x : LocalValue) (es : List PlainExpr) (body : Scope → Checked Typed) (all : Checked Typed)
    → i < length values → x ≡ get_or values i x → Refuses q (typed ds context (ast_view x.value) now None)
    → around_rest es (typed_let ds context (locals_from (map local_view (drop i values))) now body) ≡ all
    → Refuses q all
values_refused None ds context now values i x es body all lt e f h = tt
values_refused (Some q) ds context now values i x es body all lt e f h =
    let d : drop i values ≡ x ∷ drop (suc i) values = drop-cons values i x lt ∙ ap (λ z. z ∷ drop (suc i) values) (sym e) in
    let g : typed ds context (local_view x).1 now None ≡ refused q = ap (λ p. typed ds context p.1 now None) (view_local x) ∙ f in
    let k = rw (d, g) at h in
    sym k

-- what follows all values
body_left : (ds : Declared) (context : Context) (now : Scope) (values : List LocalValue) (i : ℕ) (es : List PlainExpr) (body : Scope → Checked Typed) (all : Checked Typed) → length values ≤ i
    → around_rest es (typed_let ds context (locals_from (map local_view (drop i values))) now body) ≡ all → around_rest es (body now) ≡ all
body_left ds context now values i es body all le h =
    let d : drop i values ≡ [] = drop_of_length-le values le in
    rw d at h

pub body_refused : (q : Option Refusal) (ds : Declared) (context : Context) (now : Scope) (values : List LocalValue) (i : ℕ) (es : List PlainExpr) (body : Scope → Checked Typed) (all : Checked Typed) → length values ≤ i → Refuses q (body now)
    → around_rest es (typed_let ds context (locals_from (map local_view (drop i values))) now body) ≡ all → Refuses q all
body_refused None ds context now values i es body all le f h = tt
body_refused (Some q) ds context now values i es body all le f h = sym (body_left ds context now values i es body all le h) ∙ ap (around_rest es) f

pub body_typed : (ds : Declared) (context : Context) (now : Scope) (values : List LocalValue) (i : ℕ) (es : List PlainExpr) (r : Typed) (body : Scope → Checked Typed) (all : Checked Typed) → length values ≤ i → body now ≡ ok r
    → around_rest es (typed_let ds context (locals_from (map local_view (drop i values))) now body) ≡ all → all ≡ ok (record { expr = bind_all es r.expr; type_of = r.type_of })
body_typed ds context now values i es r body all le f h = sym (body_left ds context now values i es body all le h) ∙ ap (around_rest es) f

pub take_front : {A : Type 0} (n : ℕ) (xs ys zs ws : List A) (x : A) → n ≤ length xs → ys ≡ xs → zs ≡ ys ++ x ∷ [] → take n xs ≡ ws → take n zs ≡ ws
take_front n xs ys zs ws x le e f h = rw (f, e) (rw take-append-le h)

pub further_front : {A : Type 0} (n : ℕ) (xs ys zs : List A) (x : A) → n ≤ length xs → ys ≡ xs → zs ≡ ys ++ x ∷ [] → n ≤ length zs
further_front n xs ys zs x le e f = rw (f, e) (let k = length-append xs (x ∷ []) in omega arith)
