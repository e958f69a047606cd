-- Walks over lists: each item is checked, in order, up to the first that is refused. Source: own choice.
use Rattle.std.specs.Prelude.{ℕ, suc, List, [], ◌∷◌, Result, Ok, Err}
use Rattle.std.specs.Borrow.{Bor}

-- A walk over items that are numbered from a number on, where each call may answer so: it passes where all items pass; else it is
-- answered as the first item that is refused.
pub data IsWalk {V E : Type 0} (Answers : ℕ → Bor V → Result (Unit {0}) E → Type 0) : ℕ → List V → Result (Unit {0}) E → Type 0 where
  none_left : (i : ℕ) → IsWalk Answers i [] (Ok tt)
  passed : (i : ℕ) (item : Bor V) (vs : List V) (result : Result (Unit {0}) E)
      → Answers i item (Ok tt) → IsWalk Answers (suc i) vs result → IsWalk Answers i (item.now ∷ vs) result
  refused : (i : ℕ) (item : Bor V) (vs : List V) (e : E) → Answers i item (Err e) → IsWalk Answers i (item.now ∷ vs) (Err e)
