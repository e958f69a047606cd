-- Numbers that are added to a list, each once.
use Rattle.std.proofs.Common.{◌≡◌, ℕ, ◌<◌, ◌≤◌, Bool, true, false, ◌||◌, cond, nat_eq, List, [], ◌∷◌, ◌++◌, length, get_or, refl, sym, ap, subst, ◌∙◌, ⊎_elim, arith}
use Rattle.std.proofs.lemmas.Bool.{eqb-true, eq-eqb}
use Rattle.std.proofs.lemmas.List.{length-append, get_or_append_left, get_or_default}
use Rattle.std.proofs.lemmas.Bool.Decides.{eqb_tells}
use Rattle.std.proofs.lemmas.List.Folds.{list_any-append, list_any_at, Any-from_list_any}
use Rattle.std.proofs.Math.Bool.{or-true}
use Rattle.cpn_module.specs.Submodules.{is_among, with_number, with_numbers, each_once}

or_false : (b : Bool) → (b || false) ≡ b
or_false true = refl
or_false false = refl

or_or : (a b c : Bool) → ((a || b) || c) ≡ (a || (b || c))
or_or true b c = refl
or_or false b c = refl

-- one more number
pub among-with_number : (q : ℕ) (xs : List ℕ) (y : ℕ) → is_among q (with_number xs y) ≡ (is_among q xs || nat_eq q y)
among-with_number q xs y = by (is_among y xs) refl
  where
    old : is_among y xs ≡ true → is_among q xs ≡ (is_among q xs || nat_eq q y)
    old there = ⊎_elim
        (λ (e : (nat_eq q y ≡ true) × (q ≡ y)). let has : is_among q xs ≡ true = subst (λ (z : ℕ). is_among z xs ≡ true) (sym e.1) there in has ∙ sym (ap (λ (b : Bool). is_among q xs || b) e.0 ∙ or-true (is_among q xs)))
        (λ (e : (nat_eq q y ≡ false) × ((q ≡ y) → ⊥)). sym (ap (λ (b : Bool). is_among q xs || b) e.0 ∙ or_false (is_among q xs)))
        (eqb_tells q y)

    by : (b : Bool) → is_among y xs ≡ b → is_among q (cond b xs (xs ++ y ∷ [])) ≡ (is_among q xs || nat_eq q y)
    by true there = old there
    by false new = list_any-append (nat_eq q) xs (y ∷ []) ∙ ap (λ (b : Bool). is_among q xs || b) (or_false (nat_eq q y))

-- more numbers
pub among-with_numbers : (q : ℕ) (xs ys : List ℕ) → is_among q (with_numbers xs ys) ≡ (is_among q xs || is_among q ys)
among-with_numbers q xs [] = sym (or_false (is_among q xs))
among-with_numbers q xs (y ∷ ys) = among-with_numbers q (with_number xs y) ys ∙ (rw (among-with_number q xs y) (or_or (is_among q xs) (nat_eq q y) (is_among q ys)))

pub among-each_once : (q : ℕ) (ys : List ℕ) → is_among q (each_once ys) ≡ is_among q ys
among-each_once q ys = among-with_numbers q [] ys

-- the numbers so far stay where they are
pub record Grows (xs ys : List ℕ) : Type 0 where
  pub longer : length xs ≤ length ys
  pub same : (j : ℕ) → j < length xs → get_or ys j 0 ≡ get_or xs j 0

stays : (xs : List ℕ) → Grows xs xs
stays xs = record { longer = omega arith; same = λ j lt. refl }

after : (xs ys zs : List ℕ) → Grows xs ys → Grows ys zs → Grows xs zs
after xs ys zs f g = record { longer = omega (arith, f.longer, g.longer); same = λ j lt. g.same j (omega (arith, f.longer)) ∙ f.same j lt }

Grows-with_number : (xs : List ℕ) (y : ℕ) → Grows xs (with_number xs y)
Grows-with_number xs y = by (is_among y xs)
  where
    by : (b : Bool) → Grows xs (cond b xs (xs ++ y ∷ []))
    by true = stays xs
    by false = record { longer = omega (arith, length-append xs (y ∷ [])); same = λ j lt. get_or_append_left xs (y ∷ []) 0 j lt }

pub Grows-with_numbers : (xs ys : List ℕ) → Grows xs (with_numbers xs ys)
Grows-with_numbers xs [] = stays xs
Grows-with_numbers xs (y ∷ ys) = after xs _ _ (Grows-with_number xs y) (Grows-with_numbers (with_number xs y) ys)

-- the number at an index is there
pub among_at : (xs : List ℕ) (j : ℕ) → j < length xs → is_among (get_or xs j 0) xs ≡ true
among_at xs j lt = list_any_at (nat_eq (get_or xs j 0)) xs j 0 lt (eq-eqb (get_or xs j 0) (get_or xs j 0) refl)

-- a number that is there has a place
pub place_of : (q : ℕ) (xs : List ℕ) → is_among q xs ≡ true → (j : ℕ) × (j < length xs) × (get_or xs j 0 ≡ q)
place_of q xs h =
    let a = Any-from_list_any (nat_eq q) xs h in
    (a.0, a.2, get_or_default xs a.0 0 a.1 a.2 ∙ a.3 ∙ sym (eqb-true q a.1 a.4))
