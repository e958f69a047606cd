-- The demands so far, and those of the values that are left.
use Rattle.std.proofs.Common.{◌≡◌, ◌++◌}
use Rattle.cpn_mset.specs.Views.{counts_view}
use Rattle.cpn_tmset.specs.Picks.{demands_at}
use Rattle.cpn_tmset.specs.PicksViews.{demands_of}
use Rattle.cpn_tmset.proofs.picks.demanded.Given as goal

abbrev pub invariant-loop-value : goal.invariant-loop-value
invariant-loop-value l = demands_of l.picks.items ++ demands_at l.time (counts_view l.value-iterator) ≡ demands_at l.time l.need
