-- Conjuncts that are checked already, in front of what the rules say of the rest of a guard.
use Rattle.std.proofs.Common.{◌≡◌, ℕ, suc, ◌+◌, ◌<◌, ◌≤◌, drop_of_length-le, List, [], ◌∷◌, ◌++◌, length, get_or, drop, map, refl, sym, ap, subst, ◌∙◌, add-one, drop-cons, Option, Some, None}
use Rattle.std.proofs.lemmas.List.{map-append}
use Rattle.cpn_definitions.specs.Inscription.{PlainExpr}
use Rattle.cpn_core.specs.Inscriptions.{expr_view}
use Rattle.cpn_core.specs.declared.inscriptions.Expr.{Expr}
use Rattle.cpn_trees.specs.Trees.{asts_from}
use Rattle.cpn_trees.specs.AstViews.{ast_view}
use Rattle.cpn_trees.specs.declared.trees.Ast.{Ast}
use Rattle.cpn_typing.specs.Types.{PlainTy, bool_type}
use Rattle.cpn_typing.specs.Names.{Declared, Refusal, Checked, ok, refused, ◌>>=◌}
use Rattle.cpn_typing.specs.Contexts.{in_guard}
use Rattle.cpn_typing.specs.Rules.{Typed}
use Rattle.cpn_typing.specs.Expressions.{typed}
use Rattle.cpn_typing.specs.GuardsAndDelays.{checked_guard}
use Rattle.cpn_typing.specs.Answers.{Refuses}

abbrev pub in_front : List PlainExpr → Checked (List PlainExpr) → Checked (List PlainExpr)
in_front es (ok fs) = ok (es ++ fs)
in_front es (refused r) = refused r

pub none_in_front : (c : Checked (List PlainExpr)) → in_front [] c ≡ c
none_in_front (ok fs) = refl
none_in_front (refused r) = refl

one_more : (es : List PlainExpr) (e : PlainExpr) (fs : List PlainExpr) → (es ++ e ∷ []) ++ fs ≡ es ++ e ∷ fs
one_more [] e fs = refl
one_more (x ∷ es) e fs = ap (λ xs. x ∷ xs) (one_more es e fs)

nothing_more : (es : List PlainExpr) → es ++ [] ≡ es
nothing_more [] = refl
nothing_more (e ∷ es) = ap (λ xs. e ∷ xs) (nothing_more es)

front_grows : (es : List PlainExpr) (e : PlainExpr) (c : Checked (List PlainExpr)) → in_front (es ++ e ∷ []) c ≡ in_front es (c >>= λ others. ok (e ∷ others))
front_grows es e (ok fs) = ap ok (one_more es e fs)
front_grows es e (refused r) = refl

pub conjunct_more : (ds : Declared) (xs : List Ast) (i : ℕ) (x : Ast) (w : PlainTy) (es now : List Expr) (e : Expr) (r : Typed) (all : Checked (List PlainExpr))
    → w ≡ bool_type → now ≡ es ++ e ∷ [] → r.expr ≡ expr_view e → i < length xs → x ≡ get_or xs i x → typed ds in_guard (ast_view x) [] (Some w) ≡ ok r
    → in_front (map expr_view es) (checked_guard ds (asts_from (map ast_view (drop i xs)))) ≡ all
    → in_front (map expr_view now) (checked_guard ds (asts_from (map ast_view (drop (i + 1) xs)))) ≡ all
conjunct_more ds xs i x w es now e r all v is same lt at f h =
    let d : drop i xs ≡ x ∷ drop (suc i) xs = drop-cons xs i x lt ∙ ap (λ y. y ∷ drop (suc i) xs) (sym at) in
    let g : typed ds in_guard (ast_view x) [] (Some bool_type) ≡ ok r = subst (λ t. typed ds in_guard (ast_view x) [] (Some t) ≡ ok r) v f in
    let k = rw (d, g) at h in
    let are : map expr_view now ≡ map expr_view es ++ r.expr ∷ [] = ap (map expr_view) is ∙ map-append expr_view es (e ∷ []) ∙ ap (λ y. map expr_view es ++ y ∷ []) (sym same) in
    rw (add-one i, are) (front_grows (map expr_view es) r.expr (checked_guard ds (asts_from (map ast_view (drop (suc i) xs)))) ∙ k)

pub conjuncts_done : (ds : Declared) (xs : List Ast) (i : ℕ) (es : List PlainExpr) → length xs ≤ i → in_front es (checked_guard ds (asts_from (map ast_view (drop i xs)))) ≡ ok es
conjuncts_done ds xs i es le =
    let d : drop i xs ≡ [] = drop_of_length-le xs le in
    rw (d, nothing_more es) refl

pub conjunct_refused : (q : Option Refusal) (ds : Declared) (xs : List Ast) (i : ℕ) (x : Ast) (w : PlainTy) (es : List PlainExpr) (all : Checked (List PlainExpr))
    → w ≡ bool_type → i < length xs → x ≡ get_or xs i x → Refuses q (typed ds in_guard (ast_view x) [] (Some w))
    → in_front es (checked_guard ds (asts_from (map ast_view (drop i xs)))) ≡ all → Refuses q all
conjunct_refused None ds xs i x w es all v lt at f h = tt
conjunct_refused (Some q) ds xs i x w es all v lt at f h =
    let d : drop i xs ≡ x ∷ drop (suc i) xs = drop-cons xs i x lt ∙ ap (λ y. y ∷ drop (suc i) xs) (sym at) in
    let g : typed ds in_guard (ast_view x) [] (Some bool_type) ≡ refused q = subst (λ t. typed ds in_guard (ast_view x) [] (Some t) ≡ refused q) v f in
    let k = rw (d, g) at h in
    sym k
