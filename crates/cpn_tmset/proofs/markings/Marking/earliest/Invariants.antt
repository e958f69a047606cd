-- The needs so far are covered from the least time so far on.
use Rattle.std.proofs.Common.{take}
use Rattle.cpn_core.specs.NeedsViews.{needed_views}
use Rattle.cpn_tmset.proofs.EarliestTimes.{AreCoveredFrom}
use Rattle.cpn_tmset.proofs.markings.Marking.earliest.Given as goal

abbrev pub invariant-loop-index : goal.invariant-loop-index
invariant-loop-index l = AreCoveredFrom l.self (take l.index (needed_views l.tokens)) l.least
