-- Inscriptions read as patterns, one after another.
use Rattle.std.proofs.Common.{◌≡◌, ℕ, ◌+◌, ◌<◌, ◌≤◌, List, [], ◌∷◌, ◌++◌, map, length, get_or, drop, Option, Some, None, refl, sym, ap, ◌∙◌, subst, add-one, drop-cons}
use Rattle.std.proofs.Math.ListN.{drop_of_length-le}
use Rattle.std.proofs.lemmas.List.{map-append}
use Rattle.std.specs.Option.{option_map, option_and_then}
use Rattle.cpn_definitions.specs.Inscription.{PlainPattern, PlainPatterns, no_patterns, more_patterns, patterns_from, PlainExpr, PlainExprs, no_exprs, more_exprs}
use Rattle.cpn_definitions.specs.Bindable.{pattern_of, patterns_of}
use Rattle.cpn_core.specs.declared.inscriptions.Pat.{Pat}
use Rattle.cpn_core.specs.declared.inscriptions.Expr.{Expr}
use Rattle.cpn_core.specs.Inscriptions.{pattern_view, patterns_view, expr_view, exprs_view}

-- patterns ahead of others, and of others that may be none
abbrev pub ahead_of : List PlainPattern → PlainPatterns → PlainPatterns
ahead_of [] qs = qs
ahead_of (p ∷ ps) qs = more_patterns p (ahead_of ps qs)

abbrev pub with_front : List PlainPattern → Option PlainPatterns → Option PlainPatterns
with_front ps None = None
with_front ps (Some qs) = Some (ahead_of ps qs)

one_more : (ps : List PlainPattern) (p : PlainPattern) (qs : PlainPatterns) → ahead_of (ps ++ p ∷ []) qs ≡ ahead_of ps (more_patterns p qs)
one_more [] p qs = refl
one_more (q ∷ ps) p qs = ap (more_patterns q) (one_more ps p qs)

nothing_behind : (ps : List PlainPattern) → ahead_of ps no_patterns ≡ patterns_from ps
nothing_behind [] = refl
nothing_behind (p ∷ ps) = ap (more_patterns p) (nothing_behind ps)

pub front_ends : (ps : List PlainPattern) → with_front ps (patterns_of no_exprs) ≡ Some (patterns_from ps)
front_ends ps = ap Some (nothing_behind ps)

pub front_goes : (ps : List PlainPattern) (p : PlainPattern) (e : PlainExpr) (es : PlainExprs) → pattern_of e ≡ Some p → with_front (ps ++ p ∷ []) (patterns_of es) ≡ with_front ps (patterns_of (more_exprs e es))
front_goes ps p e es is = split (patterns_of es) ∙ ap (λ o. with_front ps (option_and_then (λ q. option_map (more_patterns q) (patterns_of es)) o)) (sym is)
  where
    split : (o : Option PlainPatterns) → with_front (ps ++ p ∷ []) o ≡ with_front ps (option_map (more_patterns p) o)
    split None = refl
    split (Some qs) = ap Some (one_more ps p qs)

-- ---- in the loop over the inscriptions

pub front_steps : (ps now : List Pat) (p : Pat) (xs es : List Expr) (i : ℕ) (e : Expr) (whole : Option PlainPatterns) → xs ≡ es → i < length xs → e ≡ get_or xs i e → now ≡ ps ++ p ∷ [] → Some (pattern_view p) ≡ pattern_of (expr_view e)
    → with_front (map pattern_view ps) (patterns_of (exprs_view (drop i es))) ≡ whole → with_front (map pattern_view now) (patterns_of (exprs_view (drop (i + 1) es))) ≡ whole
front_steps ps now p xs es i e whole same lt at is fits before =
    let rest : drop i es ≡ e ∷ drop (i + 1) es = subst (λ ys. drop i ys ≡ e ∷ drop (i + 1) ys) same (rw (add-one, drop-cons xs i e lt, ← at) refl) in
    ap (λ ys. with_front (map pattern_view ys) (patterns_of (exprs_view (drop (i + 1) es)))) is
    ∙ rw (map-append pattern_view ps (p ∷ []))
    (front_goes (map pattern_view ps) (pattern_view p) (expr_view e) (exprs_view (drop (i + 1) es)) (sym fits) ∙ ap (λ ys. with_front (map pattern_view ps) (patterns_of (exprs_view ys))) (sym rest) ∙ before)

pub front_done : (ps : List Pat) (xs es : List Expr) (i : ℕ) (whole : Option PlainPatterns) → xs ≡ es → length xs ≤ i → with_front (map pattern_view ps) (patterns_of (exprs_view (drop i es))) ≡ whole → Some (patterns_view ps) ≡ whole
front_done ps xs es i whole same le before =
    let rest : drop i es ≡ [] = subst (λ ys. drop i ys ≡ []) same (drop_of_length-le xs le) in
    sym (front_ends (map pattern_view ps)) ∙ ap (λ ys. with_front (map pattern_view ps) (patterns_of (exprs_view ys))) (sym rest) ∙ before
