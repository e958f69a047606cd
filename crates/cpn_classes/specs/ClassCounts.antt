-- Law: there are no more classes than items.
use Rattle.std.proofs.Common.{◌≡◌, ℕ, zero, suc, ◌<◌, ◌≤◌, length, refl, arith}
use Rattle.cpn_classes.specs.Numbering.{Numbering, first_of, IsInOrder}

module _ (n : Numbering) (is : IsInOrder n) where
  -- a class is no greater than its first member
  no_greater : (c : ℕ) → c < length n.firsts → c ≤ first_of n c
  no_greater zero c_in = omega arith
  no_greater (suc c) c_in =
      let below : c < length n.firsts = omega arith in
      let less : c < suc c = omega arith in
      omega (arith, no_greater c below, is.rise c (suc c) less c_in)

  pub no_more_classes : length n.firsts ≤ length n.numbers
  no_more_classes = by (length n.firsts) refl
    where
      by : (k : ℕ) → length n.firsts ≡ k → k ≤ length n.numbers
      by zero e = omega arith
      by (suc k) e = let last : k < length n.firsts = omega arith in omega (arith, no_greater k last, is.is_item k last)
