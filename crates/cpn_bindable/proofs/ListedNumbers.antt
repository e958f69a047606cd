-- What is listed.
use Rattle.std.proofs.Common.{◌≡◌, ℕ, ◌==◌, ◌||◌, List, [], ◌∷◌, refl, ap}
use Rattle.std.specs.List.{list_any}
use Rattle.cpn_bindable.specs.Known.{is_listed}
use Rattle.cpn_definitions.proofs.NumberTests.{equals_either_way}

pub flipped : (xs : List ℕ) (x : ℕ) → list_any (λ y. y == x) xs ≡ is_listed xs x
flipped [] x = refl
flipped (y ∷ ys) x = rw (equals_either_way x y) (ap (λ b. (x == y) || b) (flipped ys x))
