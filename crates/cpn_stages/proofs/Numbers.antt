-- Whether a number is among others, and those that are not.
use Rattle.std.proofs.Common.{◌≡◌, ◌⊎◌, ℕ, ◌==◌, Bool, true, false, not, List, refl, sym, ap, subst, inl, inr, eqb-true}
use Rattle.std.proofs.lemmas.Bool.{not-true}
use Rattle.cpn_definitions.proofs.RisingLists.{IsIn, in_filter, in_filter_from, some_passes, one_that_passes}
use Rattle.cpn_definitions.proofs.NumberTests.{equals_itself}
use Rattle.cpn_stages.specs.Stages.{is_among, those_without}

pub among_from_in : (xs : List ℕ) (x : ℕ) → IsIn x xs → is_among xs x ≡ true
among_from_in xs x h = some_passes (λ y. x == y) xs x h (equals_itself x)

pub in_from_among : (xs : List ℕ) (x : ℕ) → is_among xs x ≡ true → IsIn x xs
in_from_among xs x h = let one = one_that_passes (λ y. x == y) xs h in subst (λ y. IsIn y xs) (sym (eqb-true x one.0 one.2)) one.1

pub in_without : (others xs : List ℕ) (x : ℕ) → IsIn x xs → is_among others x ≡ false → IsIn x (those_without others xs)
in_without others xs x h not_in = in_filter (λ y. not (is_among others y)) xs x h (ap not not_in)

pub from_without : (others xs : List ℕ) (x : ℕ) → IsIn x (those_without others xs) → IsIn x xs × (is_among others x ≡ false)
from_without others xs x h = let parts = in_filter_from (λ y. not (is_among others y)) xs x h in (parts.0, not-true (is_among others x) parts.1)

-- each is one of those that are not without the others, or one of the others
pub left_or_other : (others xs : List ℕ) (x : ℕ) → IsIn x xs → IsIn x (those_without others xs) ⊎ IsIn x others
left_or_other others xs x h = split (is_among others x) refl
  where
    split : (b : Bool) → is_among others x ≡ b → IsIn x (those_without others xs) ⊎ IsIn x others
    split true is = inr (in_from_among others x is)
    split false is = inl (in_without others xs x h is)
