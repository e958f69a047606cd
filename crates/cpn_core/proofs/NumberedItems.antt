-- What a function makes of numbers that follow one another: how many there are, what they are, and when they rise.
use Rattle.std.proofs.Common.{◌≡◌, ℕ, zero, suc, ◌+◌, ◌<◌, ◌≤◌, ◌-◌, [], ◌∷◌, length, ◌++◌, ℤ, pos, ◌+ℤ◌, add-one, refl, ap, subst, inl, inr, arith, Ordering, Less}
use Rattle.cpn_definitions.specs.Value.{int, constant}
use Rattle.cpn_definitions.specs.Lists.{Rises}
use Rattle.cpn_core.specs.ShapeValues.{numbered, integers, constants}
use Rattle.cpn_definitions.proofs.RisingLists.{IsIn, each_in}

pub length_numbered : {X : Type 0} (f : ℕ → X) (k n : ℕ) → length (numbered f k n) ≡ n
length_numbered f k zero = refl
length_numbered f k (suc n) = ap suc (length_numbered f (suc k) n)

pub in_numbered : {X : Type 0} (f : ℕ → X) (k n i : ℕ) → k ≤ i → i < k + n → IsIn (f i) (numbered f k n)
in_numbered f k zero i from to = let no : ⊥ = omega arith in absurd no
in_numbered {X = X} f k (suc n) i from to = split (i - k) (omega arith) (λ later. in_numbered f (suc k) n i later (omega arith))
  where
    split : (d : ℕ) → i ≡ k + d → (suc k ≤ i → IsIn (f i) (numbered f (suc k) n)) → IsIn (f i) (numbered f k (suc n))
    split zero e rest = let same : k ≡ i = omega arith in inl (ap f same)
    split (suc d) e rest = inr (rest (omega arith))

-- what is in the list is made of one of the numbers
pub in_numbered_from : {X : Type 0} (f : ℕ → X) (k n : ℕ) (x : X) → IsIn x (numbered f k n) → (i : ℕ) × (k ≤ i) × (i < k + n) × (f i ≡ x)
in_numbered_from f k zero x h = absurd h
in_numbered_from f k (suc n) x (inl e) = (k, omega arith, omega arith, e)
in_numbered_from f k (suc n) x (inr h) = let later = in_numbered_from f (suc k) n x h in (later.0, omega arith, omega arith, later.3)

-- a function that rises with its number makes a rising list
pub rises_numbered : {X : Type 0} (c : X → X → Ordering) (f : ℕ → X) (k n : ℕ) → ((i j : ℕ) → i < j → c (f i) (f j) ≡ Less) → Rises c (numbered f k n)
rises_numbered c f k zero rises = tt
rises_numbered {X = X} c f k (suc n) rises =
    let P : X → Type 0 = λ y. c (f k) y ≡ Less in
    (each_in P (numbered f (suc k) n) (λ x h. let later = in_numbered_from f (suc k) n x h in subst P later.3 (rises k later.0 (omega arith))), rises_numbered c f (suc k) n rises)

-- one more at the end
one_more : {X : Type 0} (f : ℕ → X) (k n m : ℕ) → m ≡ k + n → numbered f k (suc n) ≡ numbered f k n ++ f m ∷ []
one_more f k zero m e = let same : k ≡ m = omega arith in ap (λ j. f j ∷ []) same
one_more f k (suc n) m e = ap (λ xs. f k ∷ xs) (one_more f (suc k) n m (omega arith))

pub integers_more : (low : ℤ) (n : ℕ) → integers low (n + 1) ≡ integers low n ++ int (low +ℤ pos n) ∷ []
integers_more low n = rw add-one (one_more (λ k. int (low +ℤ pos k)) 0 n n (omega arith))

pub constants_more : (n : ℕ) → constants (n + 1) ≡ constants n ++ constant n ∷ []
constants_more n = rw add-one (one_more constant 0 n n (omega arith))
