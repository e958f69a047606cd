-- What is checked already, in front of what the rules say of the rest.
use Rattle.std.proofs.Common.{◌≡◌, ℕ, zero, suc, ◌+◌, ◌-◌, ◌<◌, ◌≤◌, drop_of_length-le, List, [], ◌∷◌, ◌++◌, length, get_or, drop, map, refl, sym, ap, subst, ◌∙◌, arith, add-one, drop-cons, Option, Some, None}
use Rattle.cpn_trees.specs.Trees.{asts_from}
use Rattle.cpn_trees.specs.AstViews.{ast_view}
use Rattle.cpn_trees.specs.declared.trees.Ast.{Ast}
use Rattle.cpn_definitions.specs.Inscription.{PlainExpr, PlainExprs, no_exprs, more_exprs, exprs_from}
use Rattle.cpn_definitions.proofs.ListItems.{map_more}
use Rattle.cpn_core.specs.Inscriptions.{expr_view}
use Rattle.cpn_core.specs.declared.inscriptions.Expr.{Expr}
use Rattle.cpn_typing.specs.Types.{PlainTy, PlainTys, no_types, more_types, types_from}
use Rattle.cpn_typing.specs.Names.{Declared, Scope, Checked, Refusal, ok, refused, ◌>>=◌}
use Rattle.cpn_typing.specs.Answers.{Refuses}
use Rattle.cpn_typing.specs.Contexts.{Context}
use Rattle.cpn_typing.specs.Rules.{Typed, Parts, Items, first_wanted, later_wanted}
use Rattle.cpn_typing.specs.Expressions.{typed, typed_parts, typed_items}
use Rattle.cpn_declared.specs.TypeViews.{ty_view, tys_view}
use Rattle.cpn_forms.specs.TypedViews.{typed_view}
use Rattle.cpn_forms.specs.declared.typed.Typed as program
use Rattle.cpn_declared.specs.declared.types.Ty.{Ty}

-- some in front of others
abbrev pub exprs_before : List PlainExpr → PlainExprs → PlainExprs
exprs_before [] es = es
exprs_before (x ∷ xs) es = more_exprs x (exprs_before xs es)

abbrev pub types_before : List PlainTy → PlainTys → PlainTys
types_before [] ts = ts
types_before (x ∷ xs) ts = more_types x (types_before xs ts)

abbrev pub before_parts : List PlainExpr → List PlainTy → Checked Parts → Checked Parts
before_parts es ts (ok p) = ok (record { exprs = exprs_before es p.exprs; types = types_before ts p.types })
before_parts es ts (refused r) = refused r

abbrev pub before_items : List PlainExpr → Checked Items → Checked Items
before_items es (ok r) = ok (record { items = exprs_before es r.items; item_type = r.item_type })
before_items es (refused r) = refused r

-- the types that are wanted from an index on
pub wanted_there : (ws : List Ty) (i : ℕ) (t : Ty) → i < length ws → t ≡ get_or ws i t → first_wanted (tys_view (drop i ws)) ≡ Some (ty_view t)
wanted_there ws i t lt e =
    let d : drop i ws ≡ t ∷ drop (suc i) ws = drop-cons ws i t lt ∙ ap (λ x. x ∷ drop (suc i) ws) (sym e) in
    rw d refl

pub none_wanted : (ws : List Ty) (i : ℕ) → length ws ≤ i → first_wanted (tys_view (drop i ws)) ≡ None
none_wanted [] zero le = refl
none_wanted [] (suc i) le = refl
none_wanted (w ∷ ws) zero le = absurd (omega arith)
none_wanted (w ∷ ws) (suc i) le = none_wanted ws i (omega arith)

later_there : (ws : List Ty) (i : ℕ) → later_wanted (tys_view (drop i ws)) ≡ tys_view (drop (suc i) ws)
later_there [] zero = refl
later_there [] (suc i) = refl
later_there (w ∷ ws) zero = refl
later_there (w ∷ ws) (suc i) = later_there ws i

-- one more in front
exprs_more : (es : List PlainExpr) (e : PlainExpr) (rest : PlainExprs) → exprs_before (es ++ e ∷ []) rest ≡ exprs_before es (more_exprs e rest)
exprs_more [] e rest = refl
exprs_more (x ∷ es) e rest = ap (more_exprs x) (exprs_more es e rest)

types_more : (ts : List PlainTy) (t : PlainTy) (rest : PlainTys) → types_before (ts ++ t ∷ []) rest ≡ types_before ts (more_types t rest)
types_more [] t rest = refl
types_more (x ∷ ts) t rest = ap (more_types x) (types_more ts t rest)

parts_in_front : (es : List PlainExpr) (ts : List PlainTy) (r : Typed) (c : Checked Parts) → before_parts (es ++ r.expr ∷ []) (ts ++ r.type_of ∷ []) c ≡ before_parts es ts (c >>= λ rest. ok (record { exprs = more_exprs r.expr rest.exprs; types = more_types r.type_of rest.types }))
parts_in_front es ts r (ok p) = rw (exprs_more es r.expr p.exprs, types_more ts r.type_of p.types) refl
parts_in_front es ts r (refused x) = refl

items_in_front : (es : List PlainExpr) (r : Typed) (c : Checked Items) → before_items (es ++ r.expr ∷ []) c ≡ before_items es (c >>= λ rest. ok (record { items = more_exprs r.expr rest.items; item_type = rest.item_type }))
items_in_front es r (ok p) = rw (exprs_more es r.expr p.items) refl
items_in_front es r (refused x) = refl

pub parts_more : (ds : Declared) (context : Context) (sc : Scope) (xs : List Ast) (i : ℕ) (x : Ast) (ws : List Ty) (j : ℕ) (es : List PlainExpr) (ts : List PlainTy) (r : Typed) (all : Checked Parts)
    → i < length xs → x ≡ get_or xs i x → typed ds context (ast_view x) sc (first_wanted (tys_view (drop j ws))) ≡ ok r
    → before_parts es ts (typed_parts ds context (asts_from (map ast_view (drop i xs))) sc (tys_view (drop j ws))) ≡ all
    → before_parts (es ++ r.expr ∷ []) (ts ++ r.type_of ∷ []) (typed_parts ds context (asts_from (map ast_view (drop (suc i) xs))) sc (tys_view (drop (suc j) ws))) ≡ all
parts_more ds context sc xs i x ws j es ts r all lt e f h =
    let d : drop i xs ≡ x ∷ drop (suc i) xs = drop-cons xs i x lt ∙ ap (λ y. y ∷ drop (suc i) xs) (sym e) in
    let k = rw (d, f, later_there ws j) at h in
    parts_in_front es ts r (typed_parts ds context (asts_from (map ast_view (drop (suc i) xs))) sc (tys_view (drop (suc j) ws))) ∙ k

pub items_more : (ds : Declared) (context : Context) (sc : Scope) (xs : List Ast) (i : ℕ) (x : Ast) (w : Option PlainTy) (es : List PlainExpr) (r : Typed) (all : Checked Items)
    → i < length xs → x ≡ get_or xs i x → typed ds context (ast_view x) sc w ≡ ok r
    → before_items es (typed_items ds context (asts_from (map ast_view (drop i xs))) sc w) ≡ all
    → before_items (es ++ r.expr ∷ []) (typed_items ds context (asts_from (map ast_view (drop (i + 1) xs))) sc (Some r.type_of)) ≡ all
items_more ds context sc xs i x w es r all lt e f h =
    let d : drop i xs ≡ x ∷ drop (suc i) xs = drop-cons xs i x lt ∙ ap (λ y. y ∷ drop (suc i) xs) (sym e) in
    let k = rw (d, f) at h in
    rw (add-one i) (items_in_front es r (typed_items ds context (asts_from (map ast_view (drop (suc i) xs))) sc (Some r.type_of)) ∙ k)

pub parts_step : (ds : Declared) (context : Context) (sc now : Scope) (xs : List Ast) (i j i2 j2 : ℕ) (x : Ast) (ws : List Ty) (w : Option PlainTy) (es : List Expr) (ts : List Ty) (r : program.Typed) (es2 : List Expr) (ts2 : List Ty) (all : Checked Parts)
    → now ≡ sc → w ≡ first_wanted (tys_view (drop j ws)) → es2 ≡ es ++ r.expr ∷ [] → ts2 ≡ ts ++ r.ty ∷ [] → i2 ≡ suc i → j2 ≡ suc j
    → i < length xs → x ≡ get_or xs i x → typed ds context (ast_view x) now w ≡ ok (typed_view r)
    → before_parts (map expr_view es) (map ty_view ts) (typed_parts ds context (asts_from (map ast_view (drop i xs))) sc (tys_view (drop j ws))) ≡ all
    → before_parts (map expr_view es2) (map ty_view ts2) (typed_parts ds context (asts_from (map ast_view (drop i2 xs))) sc (tys_view (drop j2 ws))) ≡ all
parts_step ds context sc now xs i j i2 j2 x ws w es ts r es2 ts2 all n v p q ii jj lt e f h =
    let typing : typed ds context (ast_view x) sc (first_wanted (tys_view (drop j ws))) ≡ ok (typed_view r) = subst (λ u. typed ds context (ast_view x) sc u ≡ ok (typed_view r)) v (subst (λ s. typed ds context (ast_view x) s w ≡ ok (typed_view r)) n f) in
    let es_are : map expr_view es2 ≡ map expr_view es ++ expr_view r.expr ∷ [] = ap (map expr_view) p ∙ map_more expr_view es r.expr in
    let ts_are : map ty_view ts2 ≡ map ty_view ts ++ ty_view r.ty ∷ [] = ap (map ty_view) q ∙ map_more ty_view ts r.ty in
    rw (es_are, ts_are, ii, jj) (parts_more ds context sc xs i x ws j (map expr_view es) (map ty_view ts) (typed_view r) all lt e typing h)

pub items_step : (ds : Declared) (context : Context) (sc now : Scope) (xs : List Ast) (i : ℕ) (x : Ast) (v w : Option PlainTy) (es : List Expr) (r : program.Typed) (es2 : List Expr) (all : Checked Items)
    → now ≡ sc → v ≡ w → es2 ≡ es ++ r.expr ∷ []
    → i < length xs → x ≡ get_or xs i x → typed ds context (ast_view x) now v ≡ ok (typed_view r)
    → before_items (map expr_view es) (typed_items ds context (asts_from (map ast_view (drop i xs))) sc w) ≡ all
    → before_items (map expr_view es2) (typed_items ds context (asts_from (map ast_view (drop (i + 1) xs))) sc (Some (ty_view r.ty))) ≡ all
items_step ds context sc now xs i x v w es r es2 all n u p lt e f h =
    let typing : typed ds context (ast_view x) sc w ≡ ok (typed_view r) = subst (λ y. typed ds context (ast_view x) sc y ≡ ok (typed_view r)) u (subst (λ s. typed ds context (ast_view x) s v ≡ ok (typed_view r)) n f) in
    let es_are : map expr_view es2 ≡ map expr_view es ++ expr_view r.expr ∷ [] = ap (map expr_view) p ∙ map_more expr_view es r.expr in
    rw es_are (items_more ds context sc xs i x w (map expr_view es) (typed_view r) all lt e typing h)

-- one that is refused
pub parts_refused : (q : Option Refusal) (ds : Declared) (context : Context) (sc now : Scope) (xs : List Ast) (i j : ℕ) (x : Ast) (ws : List Ty) (w : Option PlainTy) (es : List PlainExpr) (ts : List PlainTy) (all : Checked Parts)
    → now ≡ sc → w ≡ first_wanted (tys_view (drop j ws)) → i < length xs → x ≡ get_or xs i x → Refuses q (typed ds context (ast_view x) now w)
    → before_parts es ts (typed_parts ds context (asts_from (map ast_view (drop i xs))) sc (tys_view (drop j ws))) ≡ all
    → Refuses q all
parts_refused None ds context sc now xs i j x ws w es ts all n v lt e f h = tt
parts_refused (Some q) ds context sc now xs i j x ws w es ts all n v lt e f h =
    let typing : typed ds context (ast_view x) sc (first_wanted (tys_view (drop j ws))) ≡ refused q = subst (λ u. typed ds context (ast_view x) sc u ≡ refused q) v (subst (λ s. typed ds context (ast_view x) s w ≡ refused q) n f) in
    let d : drop i xs ≡ x ∷ drop (suc i) xs = drop-cons xs i x lt ∙ ap (λ y. y ∷ drop (suc i) xs) (sym e) in
    let k = rw (d, typing) at h in
    sym k

pub items_refused : (q : Option Refusal) (ds : Declared) (context : Context) (sc now : Scope) (xs : List Ast) (i : ℕ) (x : Ast) (v w : Option PlainTy) (es : List PlainExpr) (all : Checked Items)
    → now ≡ sc → v ≡ w → i < length xs → x ≡ get_or xs i x → Refuses q (typed ds context (ast_view x) now v)
    → before_items es (typed_items ds context (asts_from (map ast_view (drop i xs))) sc w) ≡ all
    → Refuses q all
items_refused None ds context sc now xs i x v w es all n u lt e f h = tt
items_refused (Some q) ds context sc now xs i x v w es all n u lt e f h =
    let typing : typed ds context (ast_view x) sc w ≡ refused q = subst (λ y. typed ds context (ast_view x) sc y ≡ refused q) u (subst (λ s. typed ds context (ast_view x) s v ≡ refused q) n f) in
    let d : drop i xs ≡ x ∷ drop (suc i) xs = drop-cons xs i x lt ∙ ap (λ y. y ∷ drop (suc i) xs) (sym e) in
    let k = rw (d, typing) at h in
    sym k

-- nothing is left
exprs_all : (es : List PlainExpr) → exprs_before es no_exprs ≡ exprs_from es
exprs_all [] = refl
exprs_all (e ∷ es) = ap (more_exprs e) (exprs_all es)

types_all : (ts : List PlainTy) → types_before ts no_types ≡ types_from ts
types_all [] = refl
types_all (t ∷ ts) = ap (more_types t) (types_all ts)

pub parts_done : (ds : Declared) (context : Context) (sc : Scope) (xs : List Ast) (i : ℕ) (w : PlainTys) (es : List Expr) (ts : List Ty) → length xs ≤ i → before_parts (map expr_view es) (map ty_view ts) (typed_parts ds context (asts_from (map ast_view (drop i xs))) sc w) ≡ ok (record { exprs = exprs_from (map expr_view es); types = types_from (map ty_view ts) })
parts_done ds context sc xs i w es ts le =
    let d : drop i xs ≡ [] = drop_of_length-le xs le in
    rw (d, exprs_all (map expr_view es), types_all (map ty_view ts)) refl

pub items_done : (ds : Declared) (context : Context) (sc : Scope) (xs : List Ast) (i : ℕ) (w : Option PlainTy) (es : List Expr) → length xs ≤ i → before_items (map expr_view es) (typed_items ds context (asts_from (map ast_view (drop i xs))) sc w) ≡ ok (record { items = exprs_from (map expr_view es); item_type = w })
items_done ds context sc xs i w es le =
    let d : drop i xs ≡ [] = drop_of_length-le xs le in
    rw (d, exprs_all (map expr_view es)) refl
