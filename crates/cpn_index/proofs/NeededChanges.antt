-- An element is touched exactly where it needs a token of a value that is told, on its place.
use Rattle.std.proofs.Common.{◌≡◌, ◌==◌, Bool, true, false, ◌&&◌, ◌||◌, List, [], ◌∷◌, refl, ap₂, ◌∙◌}
use Rattle.std.specs.List.{list_any}
use Rattle.std.proofs.lemmas.Cmp.{eq_by_cmp_equiv, nat_eq_equiv}
use Rattle.cpn_definitions.specs.Order.{same_value}
use Rattle.cpn_definitions.specs.ValueOrder.{value_cmp_total}
use Rattle.cpn_definitions.specs.Occurrence.{Needed}
use Rattle.cpn_tmset.specs.Changed.{PlainChange, is_change}
use Rattle.cpn_index.specs.Touched.{touches}
use Rattle.cpn_index.specs.Watchers.{is_needed}

any_none : {A : Type 0} (xs : List A) → false ≡ list_any (λ _. false) xs
any_none [] = refl
any_none (x ∷ xs) = any_none xs

any_either : {A : Type 0} (p q : A → Bool) (xs : List A) → (list_any p xs || list_any q xs) ≡ list_any (λ x. p x || q x) xs
any_either p q [] = refl
any_either p q (x ∷ xs) = split (p x) (q x) (list_any p xs) (any_either p q xs)
  where
    split : (a b c : Bool) → (c || list_any q xs) ≡ list_any (λ y. p y || q y) xs → ((a || c) || (b || list_any q xs)) ≡ ((a || b) || list_any (λ y. p y || q y) xs)
    split true b c rest = refl
    split false true true rest = refl
    split false true false rest = refl
    split false false c rest = rest

-- the order in which two lists are gone through
any_of_both : {A B : Type 0} (r s : A → B → Bool) → ((x : A) (y : B) → r x y ≡ s x y) → (xs : List A) (ys : List B) → list_any (λ x. list_any (λ y. r x y) ys) xs ≡ list_any (λ y. list_any (λ x. s x y) xs) ys
any_of_both r s same [] ys = any_none ys
any_of_both {A = A} {B = B} r s same (x ∷ xs) ys = ap₂ (λ b c. b || c) (each ys) (any_of_both r s same xs ys) ∙ any_either (λ y. s x y) (λ y. list_any (λ z. s z y) xs) ys
  where
    each : (zs : List B) → list_any (λ y. r x y) zs ≡ list_any (λ y. s x y) zs
    each [] = refl
    each (z ∷ zs) = ap₂ (λ b c. b || c) (same x z) (each zs)

pub touched_is_needed : (told : List PlainChange) (needs : List Needed) → touches told needs ≡ list_any (λ change. is_needed change.place change.value needs) told
touched_is_needed told needs =
    any_of_both (λ (need : Needed) (change : PlainChange). is_change need.place need.value change) (λ need change. (change.place == need.place) && same_value change.value need.value)
    (λ need change. ap₂ (λ b c. b && c) (nat_eq_equiv.symm need.place change.place) ((eq_by_cmp_equiv value_cmp_total).symm need.value change.value)) needs told
