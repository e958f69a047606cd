-- What holds of all items of a list holds of the one at a position.
use Rattle.std.proofs.Common.{◌≡◌, ℕ, zero, suc, ◌<◌, List, [], ◌∷◌, length, get_or, map, subst, sym, arith}
use Rattle.std.specs.List.{AllByRecursion}

pub all_at : {V A : Type 0} (P : A → Type 0) (view : V → A) (vs : List V) (i : ℕ) (d : V) → i < length vs → AllByRecursion P (map view vs) → P (view (get_or vs i d))
all_at P view [] i d lt all = absurd (omega (arith, lt))
all_at P view (v ∷ vs) zero d lt all = all.0
all_at P view (v ∷ vs) (suc i) d lt all = all_at P view vs i d (let e : i < length vs = omega (arith, lt) in e) all.1

-- the same of an item that is known to be the one at a position
pub all_item : {V A : Type 0} (P : A → Type 0) (view : V → A) (vs : List V) (i : ℕ) (v : V) → i < length vs → v ≡ get_or vs i v → AllByRecursion P (map view vs) → P (view v)
all_item P view vs i v lt at all = subst (λ w. P (view w)) (sym at) (all_at P view vs i v lt all)
