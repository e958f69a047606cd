-- Rows of values, compared item by item.
use Rattle.std.proofs.Common.{◌≡◌, ℕ, zero, suc, ◌+◌, ◌<◌, min, List, [], ◌∷◌, length, get_or, drop, refl, sym, ap, ◌∙◌, arith, add-one, drop-cons, nat_cmp, false, not, ◌==◌, Ordering, Less, Equal, Greater}
use Rattle.std.specs.Ordering.{ordering_then, ordering_index}
use Rattle.std.proofs.lemmas.Bool.Decides.{nat_tests}
use Rattle.cpn_definitions.specs.Order.{value_cmp, values_cmp}
use Rattle.cpn_core.specs.declared.values.Value.{Value}
use Rattle.cpn_core.specs.Views.{value_view, values_view}

-- the rows from an index on compare by the items there, and then by the rows after it
pub compared_more
    : (vs ws : List Value) (i : ℕ) (v w : Value)
    → i < length vs
    → i < length ws
    → v ≡ get_or vs i v
    → w ≡ get_or ws i w
    → values_cmp (values_view (drop i vs)) (values_view (drop i ws)) ≡ ordering_then (value_cmp (value_view v) (value_view w)) (values_cmp (values_view (drop (i + 1) vs)) (values_view (drop (i + 1) ws)))
compared_more vs ws i v w lv lw ev ew =
    let dv : drop i vs ≡ v ∷ drop (i + 1) vs = rw add-one (drop-cons vs i v lv ∙ ap (λ x. x ∷ drop (suc i) vs) (sym ev)) in
    let dw : drop i ws ≡ w ∷ drop (i + 1) ws = rw add-one (drop-cons ws i w lw ∙ ap (λ x. x ∷ drop (suc i) ws) (sym ew)) in
    rw (dv, dw) refl

-- where the shorter row ends, the rows compare as their lengths
pub compared_all : (vs ws : List Value) (i : ℕ) → i ≡ min (length vs) (length ws) → values_cmp (values_view (drop i vs)) (values_view (drop i ws)) ≡ nat_cmp (length vs) (length ws)
compared_all [] [] i e = let z : i ≡ 0 = omega arith in rw z refl
compared_all [] (w ∷ ws) i e = let z : i ≡ 0 = omega arith in rw z (grind (arith, nat_tests))
compared_all (v ∷ vs) [] i e = let z : i ≡ 0 = omega arith in rw z (grind (arith, nat_tests))
compared_all (v ∷ vs) (w ∷ ws) zero e = let no : ⊥ = omega arith in absurd no
compared_all (v ∷ vs) (w ∷ ws) (suc i) e = compared_all vs ws i (omega arith) ∙ grind (arith, nat_tests)

-- where the items there are equal, the rows compare by those after them
pub compared_next
    : (vs ws : List Value) (i : ℕ) (v w : Value)
    → i < length vs
    → i < length ws
    → v ≡ get_or vs i v
    → w ≡ get_or ws i w
    → value_cmp (value_view v) (value_view w) ≡ Equal
    → values_cmp (values_view (drop i vs)) (values_view (drop i ws)) ≡ values_cmp (values_view (drop (i + 1) vs)) (values_view (drop (i + 1) ws))
compared_next vs ws i v w lv lw ev ew equal = compared_more vs ws i v w lv lw ev ew ∙ ap (λ o. ordering_then o (values_cmp (values_view (drop (i + 1) vs)) (values_view (drop (i + 1) ws)))) equal

-- an order that is not tested to be another one than equality
pub not_unequal : (o : Ordering) → false ≡ not (ordering_index o == 1) → o ≡ Equal
not_unequal Less h = cc
not_unequal Equal h = refl
not_unequal Greater h = cc
