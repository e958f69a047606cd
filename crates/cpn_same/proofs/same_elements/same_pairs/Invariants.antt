-- The bindings are the same where the pairs that are left are.
use Rattle.std.proofs.Common.{◌≡◌, drop}
use lib.Pointwise.{pointwise}
use Rattle.cpn_core.specs.Pairs.{pairs_view}
use Rattle.cpn_same.specs.SameElements.{same_pair}
use Rattle.cpn_same.proofs.same_elements.same_pairs.Given as goal

abbrev pub invariant-loop-i : goal.invariant-loop-i
invariant-loop-i l = pointwise same_pair (pairs_view l.pairs) (pairs_view l.others) ≡ pointwise same_pair (pairs_view (drop l.i l.pairs)) (pairs_view (drop l.i l.others))
