-- Bindings that are the same as far as the shorter one goes compare by their lengths.
use Rattle.std.proofs.Common.{◌≡◌, ℕ, zero, suc, min, List, [], ◌∷◌, drop, length, refl, ◌∙◌, arith, nat_cmp}
use Rattle.std.proofs.lemmas.Bool.Decides.{nat_tests}
use Rattle.cpn_definitions.specs.Enabled.{binding_cmp}
use Rattle.cpn_core.specs.declared.bindings.Pair.{Pair}
use Rattle.cpn_core.specs.Pairs.{pairs_view}

pub order_ends : (left right : List Pair) (i : ℕ) → i ≡ min (length left) (length right) → binding_cmp (pairs_view (drop i left)) (pairs_view (drop i right)) ≡ nat_cmp (length left) (length right)
order_ends [] [] i e = let z : i ≡ 0 = omega arith in rw z refl
order_ends [] (q ∷ right) i e = let z : i ≡ 0 = omega arith in rw z (grind (arith, nat_tests))
order_ends (p ∷ left) [] i e = let z : i ≡ 0 = omega arith in rw z (grind (arith, nat_tests))
order_ends (p ∷ left) (q ∷ right) zero e = let no' : ⊥ = omega arith in absurd no'
order_ends (p ∷ left) (q ∷ right) (suc i) e = order_ends left right i (omega arith) ∙ grind (arith, nat_tests)
