-- The values that are left are covered where all are.
use Rattle.std.proofs.Common.{◌≡◌}
use Rattle.cpn_mset.specs.Views.{counts_view}
use Rattle.cpn_tmset.specs.Covering.{covers_need}
use Rattle.cpn_tmset.proofs.tmsets.TMSet.covers_at.Given as goal

abbrev pub invariant-loop-value : goal.invariant-loop-value
invariant-loop-value l = covers_need l.self (counts_view l.value-iterator) l.time ≡ covers_need l.self l.need l.time
