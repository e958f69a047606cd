-- Enabled has one list for a net, a marking and a clock; and two rising lists of the same items are the same.
use Rattle.std.proofs.Common.{◌≡◌, ℕ, ◌⊎◌, List, [], ◌∷◌, map, refl, sym, ap, ◌∙◌, subst, inl, inr, Ordering, Less, Greater}
use Rattle.std.specs.List.{AllByRecursion}
use Rattle.std.specs.Ordering.{ordering_reverse}
use Rattle.std.specs.Cmp.{IsTotalOrder}
use Rattle.std.proofs.lemmas.Cmp.{lists_total, on_total, nat_cmp_total, then_total}
use Rattle.std.proofs.Math.Path.{ap₂}
use Rattle.cpn_definitions.specs.Value.{PlainValue}
use Rattle.cpn_definitions.specs.ValueOrder.{value_cmp_total}
use Rattle.cpn_definitions.specs.Lists.{Rises}
use Rattle.cpn_definitions.specs.Marking.{Marking}
use Rattle.cpn_definitions.specs.Net.{PlainNet}
use Rattle.cpn_definitions.specs.Enabled.{PlainEntry, entry_cmp, Enabled}
use Rattle.cpn_definitions.proofs.RisingLists.{IsIn, in_from_contains, contains_from_in}

-- in a total order no two come before each other
pub asymmetric : {X : Type 0} (c : X → X → Ordering) → IsTotalOrder c → (x y : X) → c x y ≡ Less → c y x ≡ Less → ⊥
asymmetric c total x y first second =
    clash (c x y) (c y x) (total.antisymm x y) first second
  where
    clash : (o p : Ordering) → o ≡ ordering_reverse p → o ≡ Less → p ≡ Less → ⊥
    clash o p is o_is p_is = let e : Less ≡ Greater = sym o_is ∙ is ∙ ap ordering_reverse p_is in cc

-- what comes after the first of a rising list comes after it
pub after_first : {X : Type 0} (c : X → X → Ordering) (x y : X) (ys : List X) → AllByRecursion (λ z. c x z ≡ Less) ys → IsIn y ys → c x y ≡ Less
after_first c x y [] all in' = absurd in'
after_first {X = X} c x y (z ∷ zs) all (inl is) = let P : X → Type 0 = λ w. c x w ≡ Less in subst P is all.0
after_first c x y (z ∷ zs) all (inr in') = after_first c x y zs all.1 in'

same_first : {X : Type 0} (c : X → X → Ordering) → IsTotalOrder c → (x y : X) (xs ys : List X) → AllByRecursion (λ z. c x z ≡ Less) xs → AllByRecursion (λ z. c y z ≡ Less) ys → ((y ≡ x) ⊎ IsIn x ys) → ((x ≡ y) ⊎ IsIn y xs) → x ≡ y
same_first c total x y xs ys rx ry (inl is) other = sym is
same_first c total x y xs ys rx ry (inr in') (inl is) = is
same_first c total x y xs ys rx ry (inr in') (inr other) = absurd (asymmetric c total x y (after_first c x y xs rx other) (after_first c y x ys ry in'))

not_itself : {X : Type 0} (c : X → X → Ordering) → IsTotalOrder c → (x : X) (xs : List X) → AllByRecursion (λ z. c x z ≡ Less) xs → IsIn x xs → ⊥
not_itself c total x xs rx in' = let less = after_first c x x xs rx in' in asymmetric c total x x less less

in_rest : {X : Type 0} (c : X → X → Ordering) → IsTotalOrder c → (x y z : X) (xs ys : List X) → x ≡ y → AllByRecursion (λ w. c x w ≡ Less) xs → IsIn z xs → ((y ≡ z) ⊎ IsIn z ys) → IsIn z ys
in_rest {X = X} c total x y z xs ys same rx in' (inl is) = let P : X → Type 0 = λ w. IsIn w xs in absurd (not_itself c total x xs rx (subst P (sym is ∙ sym same) in'))
in_rest c total x y z xs ys same rx in' (inr rest) = rest

-- two rising lists of the same elements are the same
pub rising_is_unique : {X : Type 0} (c : X → X → Ordering) → IsTotalOrder c → (xs ys : List X) → Rises c xs → Rises c ys → ((x : X) → IsIn x xs → IsIn x ys) → ((x : X) → IsIn x ys → IsIn x xs) → xs ≡ ys
rising_is_unique c total [] [] rx ry to from = refl
rising_is_unique c total [] (y ∷ ys) rx ry to from = absurd (from y (inl refl))
rising_is_unique c total (x ∷ xs) [] rx ry to from = absurd (to x (inl refl))
rising_is_unique c total (x ∷ xs) (y ∷ ys) rx ry to from =
    let same : x ≡ y = same_first c total x y xs ys rx.0 ry.0 (to x (inl refl)) (from y (inl refl)) in
    ap₂ (λ z zs. z ∷ zs) same (rising_is_unique c total xs ys rx.1 ry.1 (λ z in'. in_rest c total x y z xs ys same rx.0 in' (to z (inr in'))) (λ z in'. in_rest c total y x z ys xs (sym same) ry.0 in' (from z (inr in'))))

pub entry_cmp_total : IsTotalOrder entry_cmp
entry_cmp_total = then_total (on_total (λ (x : PlainEntry). x.element.transition) nat_cmp_total) (on_total (λ (x : PlainEntry). map (λ (pair : ℕ × PlainValue). pair.1) x.element.binding) (lists_total value_cmp_total))

-- Enabled determines its list
pub enabled_is_unique : (n : PlainNet) (m : Marking) (clock : ℕ) (xs ys : List PlainEntry) → Enabled n m clock xs → Enabled n m clock ys → xs ≡ ys
enabled_is_unique n m clock xs ys ex ey =
    rising_is_unique entry_cmp entry_cmp_total xs ys ex.rising ey.rising (λ x in'. in_from_contains ys x ((ey.exact x).1 ((ex.exact x).0 (contains_from_in xs x in')))) (λ x in'. in_from_contains xs x ((ex.exact x).1 ((ey.exact x).0 (contains_from_in ys x in'))))
