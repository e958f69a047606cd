-- Sorted numbers, each of which is kept once, rise.
use Rattle.std.proofs.Common.{ℕ, eqb, List, [], ◌∷◌, Ordering}
use Rattle.std.specs.Ordering.{nat_cmp}
use Rattle.std.specs.Cmp.{unsigned_ties}
use Rattle.std.specs.List.{dedup}
use Rattle.std.specs.List.Sorted.{IsSorted, IsStrictlySortedBy}
use Rattle.std.proofs.lemmas.Cmp.{nat_cmp_total}
use Rattle.std.proofs.lemmas.List.Kept.{IsStrictlySortedBy-dedup}
use Rattle.cpn_definitions.specs.Lists.{Rises}

strictly_rises : {X : Type 0} (c : X → X → Ordering) (xs : List X) → IsStrictlySortedBy c xs → Rises c xs
unfolding IsStrictlySortedBy
strictly_rises c [] h = tt
strictly_rises c (x ∷ xs) h = (h.0, strictly_rises c xs h.1)

pub kept_once_rise : (xs : List ℕ) → IsSorted nat_cmp xs → Rises nat_cmp (dedup eqb xs)
kept_once_rise xs h = strictly_rises nat_cmp (dedup eqb xs) (IsStrictlySortedBy-dedup nat_cmp_total unsigned_ties xs h)
