-- Facts that hold of each item of a list, and of each number of an item.
use Rattle.std.proofs.Common.{◌≡◌, ℕ, Bool, true, ◌<◌, List, [], ◌∷◌, length, refl, arith, slice_index_or, zero, suc, drop, get_or}
use Rattle.std.specs.List.{list_all, AllByRecursion}
use Rattle.std.proofs.lemmas.Bool.{and_from}

-- what holds of each item holds at each position in range
pub all_below : {X : Type 0} (P : X → Type 0) (past : X) (xs : List X) (i : ℕ) → i < length xs → AllByRecursion P xs → P (slice_index_or xs i past)
all_below P past [] i lt all = absurd (omega arith)
all_below P past (x ∷ xs) zero lt all = all.0
all_below P past (x ∷ xs) (suc i) lt all = all_below P past xs i (omega arith) all.1

-- what holds at each position in range holds of each item
pub all_numbered : {X : Type 0} (P : X → Type 0) (past : X) (xs : List X) → ((i : ℕ) → i < length xs → P (slice_index_or xs i past)) → AllByRecursion P xs
all_numbered P past [] h = tt
all_numbered P past (x ∷ xs) h = (h 0 (omega arith), all_numbered P past xs (λ i lt. h (suc i) (omega arith)))

pub passes_all : {X : Type 0} (P : X → Type 0) (p : X → Bool) → ((x : X) → P x → p x ≡ true) → (xs : List X) → AllByRecursion P xs → list_all p xs ≡ true
passes_all P p f [] all = refl
passes_all P p f (x ∷ xs) all = and_from (p x) (list_all p xs) (f x all.0) (passes_all P p f xs all.1)

-- ---- what is left of a list

-- the first item that is left, and what is left behind it
pub record IsNext {X : Type 0} (xs : List X) (i : ℕ) (x : X) (rest : List X) : Type 0 where
  pub there : i < length xs
  pub item : x ≡ get_or xs i x
  pub left : rest ≡ drop (suc i) xs

pub next_left : {X : Type 0} (xs : List X) (i : ℕ) (x : X) (rest : List X) → x ∷ rest ≡ drop i xs → IsNext xs i x rest
next_left [] zero x rest h = cc
next_left [] (suc i) x rest h = cc
next_left (y ∷ xs) zero x rest h = record { there = omega arith; item = cc; left = cc }
next_left (y ∷ xs) (suc i) x rest h =
    let n = next_left xs i x rest h in
    record { there = (let lt = n.there in omega (arith, lt)); item = n.item; left = n.left }
