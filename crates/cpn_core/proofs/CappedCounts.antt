-- Counts up to a greatest one: of a product, it makes no difference whether its factors are counted so too.
use Rattle.std.proofs.Common.{◌≡◌, ℕ, zero, suc, ◌+◌, ◌*◌, ◌<◌, ◌≤◌, min, Bool, true, false, nat_le, List, ◌∷◌, length, get_or, drop, refl, sym, ap, ◌∙◌, arith, add-one, drop-cons}
use Rattle.std.proofs.lemmas.Bool.Decides.{nat_tests}
use Rattle.std.proofs.Math.Nat.{mul-suc, mul_comm, mul_assoc}
use Rattle.cpn_core.specs.declared.colours.Shape.{Shape}
use Rattle.cpn_core.specs.Colours.{shape_view, shapes_view}
use Rattle.cpn_core.specs.ShapeValues.{count_of, count_of_rows}

-- the first factor up to m
first_capped : (a b m : ℕ) → min (min a m * b) m ≡ min (a * b) m
first_capped a zero m = omega arith
first_capped a (suc b) m =
    cases (min a m) refl (nat_le a m) refl
  where
    cases : (c : ℕ) → c ≡ min a m → (few : Bool) → nat_le a m ≡ few → min (c * suc b) m ≡ min (a * suc b) m
    cases c is true few = let same : c ≡ a = grind (arith, nat_tests) in rw same refl
    cases c is false many =
        let above : m < a = grind (arith, nat_tests) in
        let same : c ≡ m = omega arith in
        let capped = mul-suc c b in
        let whole = mul-suc a b in
        omega arith

-- a product goes on with one factor more
pub product_goes_on
    : (ss : List Shape) (i : ℕ) (s : Shape) (p c most : ℕ)
    → 257 ≤ most
    → i < length ss
    → s ≡ get_or ss i s
    → c ≡ min (count_of (shape_view s)) 257
    → min (min (min (p * c) most) 257 * count_of_rows (shapes_view (drop (i + 1) ss))) 257 ≡ min (p * count_of_rows (shapes_view (drop i ss))) 257
product_goes_on ss i s p c most enough lt es ec =
    let ds : drop i ss ≡ s ∷ drop (i + 1) ss = rw add-one (drop-cons ss i s lt ∙ ap (λ x. x ∷ drop (suc i) ss) (sym es)) in
    rw ds (capped p c (count_of (shape_view s)) (count_of_rows (shapes_view (drop (i + 1) ss))) ec)
  where
    capped : (p c a b : ℕ) → c ≡ min a 257 → min (min (min (p * c) most) 257 * b) 257 ≡ min (p * (a * b)) 257
    capped p c a b ec =
        let short : min (min (p * c) most) 257 ≡ min (p * c) 257 = omega arith in
        ap (λ n. min (n * b) 257) short
        ∙ first_capped (p * c) b 257
        ∙ ap (λ n. min n 257) (ap (λ n. n * b) (mul_comm p c) ∙ mul_assoc c p b ∙ ap (λ n. n * (p * b)) ec)
        ∙ first_capped a (p * b) 257
        ∙ ap (λ n. min n 257) (sym (mul_assoc a p b) ∙ ap (λ n. n * b) (mul_comm a p) ∙ mul_assoc p a b)
