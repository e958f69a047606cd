-- Readings: what something, or a part of it, is read as: a value, or the first refusal. Source: own choice.
use Rattle.std.specs.Prelude.{◌≡◌, ℕ, suc, Bool, if◌then◌else◌, List, [], ◌∷◌, Option, Some, None}

-- A reading: a value, or a refusal of some kind.
pub data Reading (R A : Type 0) : Type 0 where
  read : A → Reading R A
  refused : R → Reading R A

-- the second reading of the value of the first, or the first's refusal
infixl 10 ◌>>=◌
abbrev pub ◌>>=◌ : {R A B : Type 0} → Reading R A → (A → Reading R B) → Reading R B
(read x) >>= f = f x
(refused refusal) >>= f = refused refusal

-- goes on where the test passes, and is refused where it fails
abbrev pub check : {R : Type 0} → Bool → R → Reading R Bool
check test refusal = if test then read test else refused refusal

-- what each item of a list is read as, in order, or the first refusal
unfoldable pub each : {R A B : Type 0} → (A → Reading R B) → List A → Reading R (List B)
each f [] = read []
each f (x ∷ xs) = do
  y ← f x
  ys ← each f xs
  read (y ∷ ys)

-- the same of items that are numbered from a number on
unfoldable pub each_from : {R A B : Type 0} → (ℕ → A → Reading R B) → ℕ → List A → Reading R (List B)
each_from f i [] = read []
each_from f i (x ∷ xs) = do
  y ← f i x
  ys ← each_from f (suc i) xs
  read (y ∷ ys)

-- the same reading, its refusal seen as one of another kind
abbrev pub refused_as : {R S A : Type 0} → (R → S) → Reading R A → Reading S A
refused_as kind (read x) = read x
refused_as kind (refused refusal) = refused (kind refusal)

-- what a refusal says of what was to be read: that it is refused so; none says nothing
abbrev pub Refuses : {R A : Type 0} → Option R → Reading R A → Type 0
Refuses None reading = Unit {0}
Refuses (Some refusal) reading = reading ≡ refused refusal
