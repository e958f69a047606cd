-- The first element of a transition, among those around a root: transitions rise from side to side.
use Rattle.std.proofs.Common.{◌≡◌, ℕ, ◌<◌, ◌≤◌, ◌==◌, Bool, true, false, cond, ◌||◌, List, [], ◌∷◌, ◌++◌, Option, Some, None, find, refl, sym, ap, ap₂, ◌∙◌, subst, arith, Ordering, Less, Equal, nat_cmp, ⊎_elim, inl, inr, ◌⊎◌}
use Rattle.std.specs.List.{list_any, AllByRecursion}
use Rattle.std.specs.Ordering.{ordering_then}
use Rattle.std.proofs.lemmas.Bool.Decides.{nat_tests}
use Rattle.cpn_definitions.specs.Lists.{Rises}
use Rattle.cpn_definitions.specs.Enabled.{binding_cmp}
use Rattle.cpn_definitions.proofs.NumberTests.{less_number}
use Rattle.cpn_due.specs.Due.{PlainEnabled, enabled_cmp, first_of}
use Rattle.cpn_due.proofs.RisingSides.{each_right, rises_right, none_found, found_past, found_before}

-- its transition
abbrev number_of : PlainEnabled → ℕ
number_of x = x.entry.element.transition

abbrev is_of_transition : ℕ → PlainEnabled → Bool
is_of_transition t x = number_of x == t

less_parts : (o p : Ordering) → ordering_then o p ≡ Less → (o ≡ Less) ⊎ (o ≡ Equal)
less_parts Less p is = inl refl
less_parts Equal p is = inr refl
less_parts o p is = cc

same_number : (i j : ℕ) → nat_cmp i j ≡ Equal → i ≡ j
same_number i j is = grind (arith, is, nat_tests)

transitions_rise : (x y : PlainEnabled) → enabled_cmp x y ≡ Less → number_of x ≤ number_of y
transitions_rise x y less =
    ⊎_elim (λ before. let lt = less_number (number_of x) (number_of y) before in omega (arith, lt)) (λ same. let is = same_number (number_of x) (number_of y) same in omega (arith, is))
    (less_parts (nat_cmp (number_of x) (number_of y)) (binding_cmp x.entry.element.binding y.entry.element.binding) less)

other_number : (i t : ℕ) → (i ≡ t → ⊥) → (i == t) ≡ false
other_number i t other = split (i == t) refl
  where
    split : (b : Bool) → (i == t) ≡ b → b ≡ false
    split true is = let same : i ≡ t = grind (arith, is) in absurd (other same)
    split false is = refl

either_false : (a b : Bool) → a ≡ false → b ≡ false → (a || b) ≡ false
either_false a b first second = rw (first, second) refl

-- none of a transition above that of the root is before it
none_below : (t : ℕ) (k : PlainEnabled) (l r : List PlainEnabled) → Rises enabled_cmp (l ++ k ∷ r) → number_of k < t → list_any (is_of_transition t) l ≡ false
none_below t k [] r rise lt = refl
none_below t k (x ∷ l) r rise lt =
    let up_to = transitions_rise x k (each_right (λ y. enabled_cmp x y ≡ Less) l (k ∷ r) rise.0).0 in
    either_false _ _ (other_number (number_of x) t (λ same. absurd (omega (arith, up_to, lt, same)))) (none_below t k l r rise.1 lt)

-- and none of one below it is behind it
none_above : (t : ℕ) (k : PlainEnabled) (r : List PlainEnabled) → AllByRecursion (λ y. enabled_cmp k y ≡ Less) r → t < number_of k → list_any (is_of_transition t) r ≡ false
none_above t k [] all lt = refl
none_above t k (x ∷ r) all lt =
    let from = transitions_rise k x all.0 in
    either_false _ _ (other_number (number_of x) t (λ same. absurd (omega (arith, from, lt, same)))) (none_above t k r all.1 lt)

-- where the root's transition is below, the first one is on the right
pub first_right : (t : ℕ) (k : PlainEnabled) (l r : List PlainEnabled) → Rises enabled_cmp (l ++ k ∷ r) → number_of k < t → first_of t (l ++ k ∷ r) ≡ first_of t r
first_right t k l r rise lt =
    found_past (is_of_transition t) l (k ∷ r) (none_below t k l r rise lt)
    ∙ found_past (is_of_transition t) (k ∷ []) r (either_false _ _ (other_number (number_of k) t (λ same. absurd (omega (arith, lt, same)))) refl)

-- else it is the first one on the left, or else the root if that is of it
pub first_left : (t : ℕ) (k : PlainEnabled) (l r : List PlainEnabled) (x : PlainEnabled) → first_of t l ≡ Some x → first_of t (l ++ k ∷ r) ≡ Some x
first_left t k [] r x found = cc
first_left t k (y ∷ l) r x found = split (is_of_transition t y) found (λ is. first_left t k l r x is)
  where
    split : (b : Bool) → cond b (Some y) (first_of t l) ≡ Some x → (first_of t l ≡ Some x → first_of t (l ++ k ∷ r) ≡ Some x) → cond b (Some y) (first_of t (l ++ k ∷ r)) ≡ Some x
    split true is later = is
    split false is later = later is

pub first_root : (t : ℕ) (k : PlainEnabled) (l r : List PlainEnabled) → Rises enabled_cmp (l ++ k ∷ r) → t ≤ number_of k → first_of t l ≡ None → first_of t (l ++ k ∷ r) ≡ first_of t (k ∷ [])
first_root t k (y ∷ l) r rise le none = split (is_of_transition t y) none (λ is. first_root t k l r rise.1 le is)
  where
    split : (b : Bool) → cond b (Some y) (first_of t l) ≡ None → (first_of t l ≡ None → first_of t (l ++ k ∷ r) ≡ first_of t (k ∷ [])) → cond b (Some y) (first_of t (l ++ k ∷ r)) ≡ first_of t (k ∷ [])
    split true is later = cc
    split false is later = later is
first_root t k [] r rise le none = split (is_of_transition t k) refl
  where
    split : (b : Bool) → is_of_transition t k ≡ b → cond b (Some k) (first_of t r) ≡ cond b (Some k) None
    split true is = refl
    split false is = none_found (is_of_transition t) r (none_above t k r rise.0 (below is))
      where
        below : is_of_transition t k ≡ false → t < number_of k
        below other = grind (arith, other, le, nat_tests)
