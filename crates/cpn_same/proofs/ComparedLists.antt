-- Two lists that are compared item by item.
use Rattle.std.proofs.Common.{◌≡◌, ℕ, zero, suc, ◌+◌, ◌<◌, min, Bool, true, false, ◌&&◌, nat_eq, List, [], ◌∷◌, length, get_or, drop, sym, ap, ◌∙◌, arith, add-one, drop-cons}
use Rattle.std.proofs.lemmas.Bool.Decides.{nat_tests}

-- a test of two lists that compares them item by item
pub record ComparesItems {A : Type 0} (each : A → A → Bool) (all : List A → List A → Bool) : Type 0 where
  pub none : all [] [] ≡ true
  pub second_longer : (y : A) (ys : List A) → all [] (y ∷ ys) ≡ false
  pub first_longer : (x : A) (xs : List A) → all (x ∷ xs) [] ≡ false
  pub both : (x y : A) (xs ys : List A) → all (x ∷ xs) (y ∷ ys) ≡ (each x y && all xs ys)

module _ {A : Type 0} (each : A → A → Bool) (all : List A → List A → Bool) (compares : ComparesItems each all) where
  -- from an index on, the items there are compared and then those behind them
  pub compared_more : (xs ys : List A) (i : ℕ) (x y : A) → i < length xs → i < length ys → x ≡ get_or xs i x → y ≡ get_or ys i y → all (drop i xs) (drop i ys) ≡ (each x y && all (drop (i + 1) xs) (drop (i + 1) ys))
  compared_more xs ys i x y lx ly ex ey =
      let dx : drop i xs ≡ x ∷ drop (i + 1) xs = rw add-one (drop-cons xs i x lx ∙ ap (λ z. z ∷ drop (suc i) xs) (sym ex)) in
      let dy : drop i ys ≡ y ∷ drop (i + 1) ys = rw add-one (drop-cons ys i y ly ∙ ap (λ z. z ∷ drop (suc i) ys) (sym ey)) in
      rw (dx, dy) (compares.both x y (drop (i + 1) xs) (drop (i + 1) ys))

  -- where the shorter list ends, the lists are the same if they are equally long
  pub compared_end : (xs ys : List A) (i : ℕ) → i ≡ min (length xs) (length ys) → all (drop i xs) (drop i ys) ≡ nat_eq (length xs) (length ys)
  compared_end [] [] i e = let z : i ≡ 0 = omega arith in rw z compares.none
  compared_end [] (y ∷ ys) i e = let z : i ≡ 0 = omega arith in rw z (compares.second_longer y ys ∙ grind (arith, nat_tests))
  compared_end (x ∷ xs) [] i e = let z : i ≡ 0 = omega arith in rw z (compares.first_longer x xs ∙ grind (arith, nat_tests))
  compared_end (x ∷ xs) (y ∷ ys) zero e = let no : ⊥ = omega arith in absurd no
  compared_end (x ∷ xs) (y ∷ ys) (suc i) e = compared_end xs ys i (omega arith) ∙ grind (arith, nat_tests)

-- where the items there are the same, it is left to those after them
pub after_same : {whole first rest : Bool} → whole ≡ (first && rest) → first ≡ true → whole ≡ rest
after_same {rest = rest} is same = is ∙ ap (λ b. b && rest) same
