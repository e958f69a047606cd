-- What is due at a clock is the definitions' Ready where no entry is before that clock.
use Rattle.std.proofs.Common.{◌≡◌, ℕ, ◌≤◌, ◌==◌, Bool, true, false, cond, nat_le, List, [], ◌∷◌, refl, ap, arith, sym}
use Rattle.std.specs.List.{AllByRecursion}
use Rattle.cpn_definitions.specs.Enabled.{PlainEntry, ready}
use Rattle.cpn_due.specs.Due.{PlainEnabled, entries_in, due_at}

same_test : (time clock : ℕ) → clock ≤ time → nat_le time clock ≡ (time == clock)
same_test time clock h = split (nat_le time clock) refl
  where
    split : (b : Bool) → nat_le time clock ≡ b → b ≡ (time == clock)
    split true is = let same : (time == clock) ≡ true = grind (arith, is, h) in sym same
    split false is = let other : (time == clock) ≡ false = grind (arith, is, h) in sym other

pub due_is_ready : (clock : ℕ) (elements : List PlainEnabled) → AllByRecursion (λ (x : PlainEntry). clock ≤ x.earliest) (entries_in elements) → entries_in (due_at clock elements) ≡ ready clock (entries_in elements)
due_is_ready clock [] all = refl
due_is_ready clock (x ∷ xs) all = split (nat_le x.entry.earliest clock) (x.entry.earliest == clock) (same_test x.entry.earliest clock all.0) (due_is_ready clock xs all.1)
  where
    split : (b d : Bool) → b ≡ d → entries_in (due_at clock xs) ≡ ready clock (entries_in xs) → entries_in (cond b (x ∷ due_at clock xs) (due_at clock xs)) ≡ cond d (x.entry ∷ ready clock (entries_in xs)) (ready clock (entries_in xs))
    split true true e rest = ap (λ zs. x.entry ∷ zs) rest
    split true false e rest = cc
    split false true e rest = cc
    split false false e rest = rest
