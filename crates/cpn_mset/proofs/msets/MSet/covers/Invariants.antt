-- The values that are left are covered where all are.
use Rattle.std.proofs.Common.{◌≡◌}
use Rattle.cpn_mset.specs.Views.{counts_view}
use Rattle.cpn_mset.proofs.CoveredMSets.{covers_each}
use Rattle.cpn_mset.proofs.msets.MSet.covers.Given as goal

abbrev pub invariant-loop-value : goal.invariant-loop-value
invariant-loop-value l = covers_each l.self (counts_view l.value-iterator) ≡ covers_each l.self l.other
