-- `div` rounds towards minus infinity, and `mod` is what it leaves, with the divisor's sign.
use Rattle.std.proofs.Common.{◌≡◌, ℕ, zero, suc, ℤ, pos, negsuc, ◌+ℤ◌, ◌*ℤ◌, ◌≤ℤ◌, ◌<ℤ◌, refl, arith}
use Rattle.std.specs.Int.{int_div_euclid, int_rem_euclid}
use Rattle.std.proofs.lemmas.Int.{ints}
use Rattle.cpn_definitions.specs.Operations.{floor_div, floor_mod}

-- a dividend is the divisor times the quotient, and the rest
pub divided_and_rest : (x y : ℤ) → x ≡ (y *ℤ floor_div x y) +ℤ floor_mod x y
divided_and_rest x y = omega (arith, ints)

-- a rest by a positive divisor is not negative, and below it
pub rest_by_positive : (x : ℤ) (n : ℕ) → (pos 0 ≤ℤ floor_mod x (pos (suc n))) × (floor_mod x (pos (suc n)) <ℤ pos (suc n))
rest_by_positive (pos a) n = omega (arith, ints)
rest_by_positive (negsuc a) n = omega (arith, ints)

-- a rest by a negative divisor is not positive, and above it
pub rest_by_negative : (x : ℤ) (n : ℕ) → (negsuc n <ℤ floor_mod x (negsuc n)) × (floor_mod x (negsuc n) ≤ℤ pos 0)
rest_by_negative (pos zero) n = omega (arith, ints)
rest_by_negative (pos (suc a)) n = omega (arith, ints)
rest_by_negative (negsuc a) n = omega (arith, ints)

-- by a positive divisor both are Euclid's
pub euclid_quotient : (x : ℤ) (n : ℕ) → floor_div x (pos n) ≡ int_div_euclid x (pos n)
euclid_quotient x n = refl

pub euclid_rest : (x : ℤ) (n : ℕ) → floor_mod x (pos (suc n)) ≡ int_rem_euclid x (pos (suc n))
euclid_rest (pos a) n = omega (arith, ints)
euclid_rest (negsuc a) n = omega (arith, ints)
