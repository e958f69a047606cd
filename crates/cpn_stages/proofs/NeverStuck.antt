-- The stages of a sound transition never end before each of its variables has a value: where one is left, the guard gives one of
-- those that are left a value, or one of them has a small colour set.
use Rattle.std.proofs.Common.{◌≡◌, ℕ, Bool, true, false, not, ◌&&◌, List, [], ◌∷◌, None, refl, inl, inr}
use Rattle.std.specs.List.{list_all}
use Rattle.cpn_definitions.specs.Inscription.{PlainExpr}
use Rattle.cpn_definitions.specs.Net.{PlainTransition, PlainNet, variable_at}
use Rattle.cpn_definitions.specs.Bindable.{variables_of, IsInTerm, IsEquated, IsSmall, IsBindable, by_term, by_size, by_guard, AreBindable, no_more, and_more}
use Rattle.cpn_definitions.proofs.RisingLists.{IsIn}
use Rattle.cpn_stages.specs.Stages.{is_among, equations_in, first_solving}
use Rattle.cpn_stages.proofs.Numbers.{among_from_in, in_from_among}
use Rattle.cpn_stages.proofs.Guards.{not_bound}

-- one of the variables that are left has a small colour set
abbrev pub OneIsSmall : PlainNet → List ℕ → Type 0
OneIsSmall n left = (x : ℕ) × IsIn x left × IsSmall (variable_at n x).colour

last_of : (b c : Bool) → b ≡ true → (b && not c) ≡ false → c ≡ true
last_of true true is h = refl
last_of true false is h = cc
last_of false c is h = cc

-- where not both are true, one is false
either : (b c : Bool) (A : Type 0) → (b && c) ≡ false → (b ≡ false → A) → (c ≡ false → A) → A
either true c A h first second = second h
either false c A h first second = first refl

-- where each variable of a transition is in a term, or left, or has a value
module _ (n : PlainNet) (t : PlainTransition) (left : List ℕ) (solvable : (x : ℕ) (e : PlainExpr) → IsEquated t x e → (y : ℕ) → IsIn y (variables_of e) → IsIn y t.vars) (no_term : (x : ℕ) → IsInTerm t x → IsIn x left → ⊥) (none : first_solving t left (equations_in t) ≡ None) where
  abbrev test : ℕ → Bool
  test x = is_among t.vars x && not (is_among left x)

  left_after_all : (x : ℕ) → IsIn x t.vars → test x ≡ false → IsIn x left
  left_after_all x listed h = in_from_among left x (last_of (is_among t.vars x) (is_among left x) (among_from_in t.vars x listed) h)

  mutual
    pub small_from : (x : ℕ) → IsBindable n t x → IsIn x left → OneIsSmall n left
    small_from x (by_term y is) h = absurd (no_term x is h)
    small_from x (by_size y small) h = (x, h, small)
    small_from x (by_guard y e is each) h = small_among (variables_of e) each (λ z g. solvable x e is z g) (not_bound t left y e is (among_from_in left x h) none)

    small_among : (xs : List ℕ) → AreBindable n t xs → ((z : ℕ) → IsIn z xs → IsIn z t.vars) → list_all test xs ≡ false → OneIsSmall n left
    small_among [] no_more listed h = cc
    small_among (x ∷ xs) (and_more y ys is each) listed h =
        either (test x) (list_all test xs) (OneIsSmall n left) h (λ here. small_from x is (left_after_all x (listed x (inl refl)) here)) (λ rest. small_among xs each (λ z g. listed z (inr g)) rest)
