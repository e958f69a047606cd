-- What a row of patterns and a row of values make of a partial binding, one after another.
use Rattle.std.proofs.Common.{◌≡◌, ℕ, zero, suc, ◌+◌, ◌<◌, min, List, [], ◌∷◌, Bool, true, false, nat_eq, Option, Some, None, drop, length, get_or, refl, sym, ap, ◌∙◌, arith, add-one, drop-cons, if◌then◌else◌}
use Rattle.std.specs.Option.{option_and_then}
use Rattle.std.proofs.lemmas.Bool.Decides.{nat_tests}
use Rattle.cpn_core.specs.declared.values.Value.{Value}
use Rattle.cpn_core.specs.Views.{value_view, values_view}
use Rattle.cpn_core.specs.declared.inscriptions.Pat.{Pat}
use Rattle.cpn_core.specs.Inscriptions.{pattern_view, patterns_view}
use Rattle.cpn_stages.specs.Partial.{PlainPartial}
use Rattle.cpn_stages.specs.Fitting.{fitted, fitted_each}
use Rattle.cpn_match.specs.Answers.{BecomesIf}

-- those from an index on: the one there, and then those after it
pub row_next
    : (ps : List Pat) (vs : List Value) (i : ℕ) (p : Pat) (v : Value) (b : PlainPartial)
    → i < length ps → i < length vs → p ≡ get_or ps i p → v ≡ get_or vs i v
    → fitted_each (patterns_view (drop i ps)) (values_view (drop i vs)) b ≡ option_and_then (fitted_each (patterns_view (drop (i + 1) ps)) (values_view (drop (i + 1) vs))) (fitted (pattern_view p) (value_view v) b)
row_next ps vs i p v b lp lv ep ev =
    let dp : drop i ps ≡ p ∷ drop (i + 1) ps = rw add-one (drop-cons ps i p lp ∙ ap (λ x. x ∷ drop (suc i) ps) (sym ep)) in
    let dv : drop i vs ≡ v ∷ drop (i + 1) vs = rw add-one (drop-cons vs i v lv ∙ ap (λ x. x ∷ drop (suc i) vs) (sym ev)) in
    rw (dp, dv) refl

-- where either row ends, both have to
pub row_end : (ps : List Pat) (vs : List Value) (i : ℕ) (b : PlainPartial) → i ≡ min (length ps) (length vs)
    → fitted_each (patterns_view (drop i ps)) (values_view (drop i vs)) b ≡ (if nat_eq (length ps) (length vs) then Some b else None)
row_end [] [] i b h = let z : i ≡ 0 = omega arith in rw z refl
row_end [] (v ∷ vs) i b h = let z : i ≡ 0 = omega arith in rw z (grind (arith, nat_tests))
row_end (p ∷ ps) [] i b h = let z : i ≡ 0 = omega arith in rw z (grind (arith, nat_tests))
row_end (p ∷ ps) (v ∷ vs) zero b h = let no : ⊥ = omega arith in absurd no
row_end (p ∷ ps) (v ∷ vs) (suc i) b h = row_end ps vs i b (omega arith) ∙ grind (arith, nat_tests)

-- where the first of them fits, the others come next
pub row_goes
    : (ps : List Pat) (vs : List Value) (i : ℕ) (p : Pat) (v : Value) (b c : PlainPartial) (whole : Option PlainPartial) (is : Bool)
    → i < length ps → i < length vs → p ≡ get_or ps i p → v ≡ get_or vs i v
    → whole ≡ fitted_each (patterns_view (drop i ps)) (values_view (drop i vs)) b → is ≡ true → BecomesIf is c (fitted (pattern_view p) (value_view v) b)
    → whole ≡ fitted_each (patterns_view (drop (i + 1) ps)) (values_view (drop (i + 1) vs)) c
row_goes ps vs i p v b c whole true lp lv ep ev so t fits =
    so ∙ row_next ps vs i p v b lp lv ep ev ∙ ap (option_and_then (fitted_each (patterns_view (drop (i + 1) ps)) (values_view (drop (i + 1) vs)))) fits
row_goes ps vs i p v b c whole false lp lv ep ev so t fits = cc

-- an answer that is a test
pub becomes_if : (is : Bool) (b : PlainPartial) (wanted : Option PlainPartial) → wanted ≡ (if is then Some b else None) → BecomesIf is b wanted
becomes_if true b wanted e = e
becomes_if false b wanted e = e
