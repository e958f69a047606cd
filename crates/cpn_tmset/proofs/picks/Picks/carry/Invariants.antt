-- The picks so far, and what becomes of those that are left.
use Rattle.std.proofs.Common.{◌≡◌, ◌++◌, take, drop}
use Rattle.cpn_core.specs.Views.{value_view}
use Rattle.cpn_tmset.specs.Carried.{picks_after}
use Rattle.cpn_tmset.specs.PicksViews.{picks_view}
use Rattle.cpn_tmset.proofs.picks.Picks.carry.Given as goal

abbrev pub invariant-loop-pick : goal.invariant-loop-pick
invariant-loop-pick l =
    picks_view (take l.pick-index l.pick-items) ++ picks_after (value_view l.value) l.carried (picks_view (drop l.pick-index l.pick-items)) ≡ picks_after (value_view l.value) l.stamp (picks_view l.initial.pick-items)
