-- Lists of numbers, one for each number from 0 on. Source: own choice.
use Rattle.std.specs.Prelude.{◌≡◌, ◌⊎◌, ◌↔◌, ℕ, ◌==◌, Bool, false, if◌then◌else◌, List, [], ◌∷◌, ◌++◌, length, set, slice_index_or, Contains}

-- the numbers of a list, none past the last one
abbrev pub numbers_at : List (List ℕ) → ℕ → List ℕ
numbers_at lists k = slice_index_or lists k []

-- whether a number is the last of some
abbrev pub ends_with : ℕ → List ℕ → Bool
ends_with n [] = false
ends_with n (x ∷ []) = x == n
ends_with n (x ∷ y ∷ ys) = ends_with n (y ∷ ys)

-- some numbers, and one behind them, unless it is the last of them
abbrev pub with_last : ℕ → List ℕ → List ℕ
with_last n xs = if ends_with n xs then xs else xs ++ n ∷ []

-- the lists with a number more in one of them
abbrev pub with_number : ℕ → ℕ → List (List ℕ) → List (List ℕ)
with_number k n lists = set lists k (with_last n (numbers_at lists k))

-- Turned: a list of the new ones has a number just where the old list of that number has that list's.
abbrev pub AreTurned : List (List ℕ) → List (List ℕ) → Type 0
AreTurned lists turned = (list number : ℕ) → Contains (numbers_at turned number) list ↔ Contains (numbers_at lists list) number

-- With each: just the lists of these numbers have one number more.
pub record AreWithEach (ks : List ℕ) (n : ℕ) (old new : List (List ℕ)) : Type 0 where
  pub as_many : length new ≡ length old
  pub exact : (k m : ℕ) → Contains (numbers_at new k) m ↔ (Contains (numbers_at old k) m ⊎ (Contains ks k × (m ≡ n)))
