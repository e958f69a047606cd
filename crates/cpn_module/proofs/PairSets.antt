-- Ordered sets of pairs of numbers, and what they have with one more.
use Rattle.std.proofs.Common.{◌≡◌, ℕ, Bool, true, false, cond, ◌&&◌, ◌||◌, List, [], ◌∷◌, nat_eq, nat_cmp, is_eq, refl, sym, ap₂, ◌∙◌, arith}
use Rattle.std.specs.BTreeMap.{is_at}
use Rattle.std.specs.BTreeSet.{BTreeSet, Updates}
use Rattle.std.specs.List.{list_any}
use Rattle.std.specs.Ordering.{ordering_then}
use Rattle.std.specs.declared.cmp.Ordering.{Ordering}
use Rattle.std.specs.declared.cmp.Ordering.TheVariants.{Less, Equal, Greater}
use Rattle.std.proofs.lemmas.Bool.Decides.{nat_tests}
use Rattle.std.proofs.lemmas.Cmp.{nat_eq_equiv}
use Rattle.cpn_module.specs.Pairs.{has_pair}

-- two numbers are compared as equal where they are the same
pub equal_numbers : (a b : ℕ) → is_eq (nat_cmp a b) ≡ nat_eq a b
equal_numbers a b = grind (arith, nat_tests)

abbrev pub pair_cmp : ℕ × ℕ → ℕ × ℕ → Ordering
pair_cmp x y = ordering_then (nat_cmp x.0 y.0) (nat_cmp x.1 y.1)

both_equal : (x y : Ordering) → is_eq (ordering_then x y) ≡ (is_eq x && is_eq y)
both_equal Less y = refl
both_equal Equal y = refl
both_equal Greater y = refl

equal_pairs : (a b : ℕ) (pair : ℕ × ℕ) → is_eq (pair_cmp (a, b) pair) ≡ (nat_eq a pair.0 && nat_eq b pair.1)
equal_pairs a b pair = both_equal (nat_cmp a pair.0) (nat_cmp b pair.1) ∙ ap₂ (λ p q. p && q) (equal_numbers a pair.0) (equal_numbers b pair.1)

-- what an ordered set answers
pub pair_told : (a b : ℕ) (pairs : List (ℕ × ℕ)) → list_any (is_at (pair_cmp (a, b))) pairs ≡ has_pair a b pairs
pair_told a b [] = refl
pair_told a b (pair ∷ pairs) = ap₂ (λ p q. p || q) (equal_pairs a b pair) (pair_told a b pairs)

new_or_old : (p q : Bool) → cond q true p ≡ (p || q)
new_or_old true true = refl
new_or_old true false = refl
new_or_old false true = refl
new_or_old false false = refl

-- the pairs with one more, unless it is there already
pub pair_added : (old new : BTreeSet (ℕ × ℕ)) (first second : ℕ) → Updates pair_cmp old new (first, second) true → (a b : ℕ) → has_pair a b new.keys ≡ (has_pair a b old.keys || (nat_eq a first && nat_eq b second))
pair_added old new first second updates a b =
    sym (pair_told a b new.keys)
    ∙ updates.0 (a, b)
    ∙ ap₂ (λ here there. cond here true there) (equal_pairs first second (a, b) ∙ ap₂ (λ p q. p && q) (nat_eq_equiv.symm first a) (nat_eq_equiv.symm second b)) (pair_told a b old.keys)
    ∙ new_or_old (has_pair a b old.keys) (nat_eq a first && nat_eq b second)
