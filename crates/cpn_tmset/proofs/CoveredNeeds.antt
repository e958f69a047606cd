-- So many tokens of a value are covered from the stamp at their last rank on.
use Rattle.std.proofs.Common.{◌≡◌, ℕ, zero, suc, ◌-◌, ◌<◌, ◌≤◌, Bool, false, ◌&&◌, nat_le, List, [], ◌∷◌, replicate, Option, Some, None, refl, ap, ◌∙◌, arith}
use Rattle.std.specs.List.{slice_get}
use Rattle.std.proofs.Math.Bool.{and-true, and-false}
use Rattle.std.proofs.lemmas.Bool.Decides.{nat_tests}
use Rattle.cpn_definitions.specs.Value.{PlainValue}
use Rattle.cpn_definitions.specs.Marking.{Tokens, stamps, covers, AreSorted}
use Rattle.cpn_definitions.proofs.Stamps.{AreRising, IsAtMostEach, stamps_rise}

-- whether there is a stamp, and it is not above the threshold
abbrev pub meets : ℕ → Option ℕ → Bool
meets t None = false
meets t (Some s) = nat_le s t

-- a stamp at a later rank is not earlier
met_before : (t s k : ℕ) (ss : List ℕ) → IsAtMostEach s ss → (nat_le s t && meets t (slice_get ss k)) ≡ meets t (slice_get ss k)
met_before t s k [] all = and-false (nat_le s t)
met_before t s zero (r ∷ rs) all = by_time all.0
  where
    by_time : s ≤ r → (nat_le s t && nat_le r t) ≡ nat_le r t
    by_time le = grind (arith, nat_tests)
met_before t s (suc k) (r ∷ rs) all = met_before t s k rs all.1

covers_repeated : (t k : ℕ) (ss : List ℕ) → AreRising ss → covers ss (replicate (suc k) t) ≡ meets t (slice_get ss k)
covers_repeated t k [] rising = refl
covers_repeated t zero (s ∷ ss) rising = none ss
  where
    none : (rs : List ℕ) → (nat_le s t && covers rs []) ≡ nat_le s t
    none [] = and-true (nat_le s t)
    none (r ∷ rs) = and-true (nat_le s t)
covers_repeated t (suc k) (s ∷ ss) rising = ap (λ b. nat_le s t && b) (covers_repeated t k ss rising.1) ∙ met_before t s k ss rising.0

-- so many tokens are covered where the stamp at the last rank is there and not above the time
pub covered_by_rank : (v : PlainValue) (ks : Tokens) (number time : ℕ) → AreSorted ks → 0 < number → covers (stamps v ks) (replicate number time) ≡ meets time (slice_get (stamps v ks) (number - 1))
covered_by_rank v ks number time sorted some =
    let next : number ≡ suc (number - 1) = omega arith in
    ap (λ (n : ℕ). covers (stamps v ks) (replicate n time)) next ∙ covers_repeated time (number - 1) (stamps v ks) (stamps_rise v ks sorted)
