-- Tests of two numbers, and what holds of the numbers.
use Rattle.std.proofs.Common.{◌≡◌, ℕ, ◌<◌, ◌≤◌, ◌==◌, true, false, refl, sym, eq-eqb, arith, Less, Equal, nat_cmp, is_lt}
use Rattle.std.proofs.lemmas.Cmp.{ranked}
use Rattle.std.proofs.lemmas.Bool.Decides.{nat_tests}

-- ---- whether they are equal

pub equals_itself : (n : ℕ) → (n == n) ≡ true
equals_itself n = eq-eqb n n refl

pub equals_either_way : (x y : ℕ) → (y == x) ≡ (x == y)
equals_either_way x y = grind (arith, nat_tests)

-- ---- how they compare

pub compared_less : (i j : ℕ) → i < j → nat_cmp i j ≡ Less
compared_less i j lt = grind (arith, nat_tests)

pub less_number : (a b : ℕ) → nat_cmp a b ≡ Less → a < b
less_number a b h = ranked a b Less (sym h)

pub same_number : (a b : ℕ) → nat_cmp a b ≡ Equal → a ≡ b
same_number a b h = ranked a b Equal (sym h)

pub earlier : (s r : ℕ) → is_lt (nat_cmp s r) ≡ true → s < r
earlier s r h = grind (arith, nat_tests)

pub not_earlier : (s r : ℕ) → is_lt (nat_cmp s r) ≡ false → r ≤ s
not_earlier s r h = grind (arith, nat_tests)

pub is_behind : (s r : ℕ) → r ≤ s → is_lt (nat_cmp s r) ≡ false
is_behind s r le = grind (arith, nat_tests)

pub is_ahead : (s r : ℕ) → s < r → is_lt (nat_cmp s r) ≡ true
is_ahead s r lt = grind (arith, nat_tests)
