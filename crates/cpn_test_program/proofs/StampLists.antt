-- Lists of stamps that are the same rank by rank.
use Rattle.std.proofs.Common.{◌≡◌, ℕ, zero, suc, ◌<◌, ◌==◌, Bool, true, false, not, List, [], ◌∷◌, Option, Some, None, refl, ap, slice_get, arith, eqb-true}
use Rattle.std.proofs.Math.Path.{ap₂}
use Rattle.std.specs.Option.{is_some, option_eq}

-- lists that are the same at each rank up to one at which the first has ended
pub same_by_ranks : (ss ts : List ℕ) (r : ℕ) → ((k : ℕ) → k < r → slice_get ss k ≡ slice_get ts k) → slice_get ss r ≡ None → slice_get ts r ≡ None → ts ≡ ss
same_by_ranks [] [] r each end other = refl
same_by_ranks [] (t ∷ ts) zero each end other = cc
same_by_ranks [] (t ∷ ts) (suc r) each end other = let first = each 0 (omega arith) in cc
same_by_ranks (s ∷ ss) ts zero each end other = cc
same_by_ranks (s ∷ ss) [] (suc r) each end other = let first = each 0 (omega arith) in cc
same_by_ranks (s ∷ ss) (t ∷ ts) (suc r) each end other =
    let first : t ≡ s = (let is = each 0 (omega arith) in cc) in
    ap₂ (λ (a : ℕ) (xs : List ℕ). a ∷ xs) first (same_by_ranks ss ts r (λ k lt. each (suc k) (omega arith)) end other)

-- ---- two stamps at a rank, each of which may be missing

pub alike_at_rank : (o p : Option ℕ) → not (option_eq ◌==◌ o p) ≡ false → o ≡ p
alike_at_rank None None h = refl
alike_at_rank None (Some t) h = cc
alike_at_rank (Some s) None h = cc
alike_at_rank (Some s) (Some t) h = ap Some (eqb-true s t (was (s == t) h))
  where
    was : (b : Bool) → not b ≡ false → b ≡ true
    was true h = refl
    was false h = cc

pub is_none_there : (o : Option ℕ) → is_some o ≡ false → o ≡ None
is_none_there None h = refl
is_none_there (Some s) h = cc
