-- A rising list whose items all stand in another rising list is not longer than it.
use Rattle.std.proofs.Common.{◌≡◌, ◌≤◌, ◌⊎◌, List, [], ◌∷◌, length, refl, inl, inr, arith, Ordering, Less}
use Rattle.std.specs.List.{AllByRecursion}
use Rattle.std.specs.Cmp.{IsTotalOrder}
use Rattle.cpn_definitions.specs.Lists.{Rises}
use Rattle.cpn_definitions.proofs.RisingLists.{IsIn, of_one_in}
use Rattle.cpn_definitions.proofs.OneEnabledList.{asymmetric}

-- what comes after x, where x is y or stands after y, is not y
not_first : {X : Type 0} (c : X → X → Ordering) → IsTotalOrder c → (x y : X) (ys : List X) → AllByRecursion (λ z. c y z ≡ Less) ys → ((y ≡ x) ⊎ IsIn x ys) → (z : X) → c x z ≡ Less → y ≡ z → ⊥
not_first c total x y ys rises (inl is) z less same = let itself : c x x ≡ Less = cc in asymmetric c total x x itself itself
not_first c total x y ys rises (inr later) z less same = let back : c x y ≡ Less = cc in asymmetric c total x y back (of_one_in (λ w. c y w ≡ Less) ys x rises later)

stands_after : {X : Type 0} (y z : X) (ys : List X) → (y ≡ z → ⊥) → ((y ≡ z) ⊎ IsIn z ys) → IsIn z ys
stands_after y z ys differs (inl is) = absurd (differs is)
stands_after y z ys differs (inr later) = later

pub not_more : {X : Type 0} (c : X → X → Ordering) → IsTotalOrder c → (xs ys : List X) → Rises c xs → Rises c ys → ((x : X) → IsIn x xs → IsIn x ys) → length xs ≤ length ys
not_more c total [] ys rx ry within = omega arith
not_more c total (x ∷ xs) [] rx ry within = absurd (within x (inl refl))
not_more c total (x ∷ xs) (y ∷ ys) rx ry within =
    let rest = not_more c total xs ys rx.1 ry.1
    (λ z h. stands_after y z ys (not_first c total x y ys ry.0 (within x (inl refl)) z (of_one_in (λ w. c x w ≡ Less) xs z rx.0 h)) (within z (inr h)))
    in
    omega arith
