-- Quotients and rests that are rounded towards minus infinity, by those that Euclid's division gives.
use Rattle.std.proofs.Common.{◌≡◌, ℕ, zero, suc, ℤ, pos, negsuc, neg_ℤ, ◌<ℤ◌, ◌-ℤ◌, ap, sym, ◌∙◌, arith}
use Rattle.std.specs.Int.{int_div_euclid, int_rem_euclid}
use Rattle.std.proofs.lemmas.Int.{ints}
use Rattle.cpn_definitions.specs.Operations.{within, divided, floor_div, floor_mod}
use Rattle.cpn_definitions.proofs.Division.{euclid_rest}

pub quotient_by_positive : (x y q : ℤ) → pos 0 <ℤ y → q ≡ int_div_euclid x y → divided floor_div x y ≡ within q
quotient_by_positive x (pos zero) q h e = absurd (omega (arith, ints))
quotient_by_positive x (pos (suc n)) q h e = ap within (sym e)
quotient_by_positive x (negsuc n) q h e = absurd (omega (arith, ints))

pub quotient_by_negative : (x y q : ℤ) → y <ℤ pos 0 → q ≡ int_div_euclid (neg_ℤ x) (neg_ℤ y) → divided floor_div x y ≡ within q
quotient_by_negative x (pos n) q h e = absurd (omega (arith, ints))
quotient_by_negative x (negsuc n) q h e = ap within (sym e)

turned_rest : (x : ℤ) (n : ℕ) → floor_mod x (negsuc n) ≡ neg_ℤ (int_rem_euclid (neg_ℤ x) (pos (suc n)))
turned_rest (pos zero) n = omega (arith, ints)
turned_rest (pos (suc a)) n = omega (arith, ints)
turned_rest (negsuc a) n = omega (arith, ints)

turned : (r : ℤ) → neg_ℤ r ≡ pos 0 -ℤ r
turned r = omega (arith, ints)

pub rest_by_positive : (x y r : ℤ) → pos 0 <ℤ y → r ≡ int_rem_euclid x y → divided floor_mod x y ≡ within r
rest_by_positive x (pos zero) r h e = absurd (omega (arith, ints))
rest_by_positive x (pos (suc n)) r h e = ap within (euclid_rest x n ∙ sym e)
rest_by_positive x (negsuc n) r h e = absurd (omega (arith, ints))

pub rest_by_negative : (x y r : ℤ) → y <ℤ pos 0 → r ≡ int_rem_euclid (neg_ℤ x) (neg_ℤ y) → divided floor_mod x y ≡ within (pos 0 -ℤ r)
rest_by_negative x (pos n) r h e = absurd (omega (arith, ints))
rest_by_negative x (negsuc n) r h e = ap within (turned_rest x n ∙ ap neg_ℤ (sym e) ∙ turned r)
