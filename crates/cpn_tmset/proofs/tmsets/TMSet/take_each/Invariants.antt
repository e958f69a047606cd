-- The stamps so far, and the demands that are left.
use Rattle.std.proofs.Common.{◌≡◌, ◌++◌, take, drop}
use Rattle.cpn_tmset.specs.Picks.{left_after, picked}
use Rattle.cpn_tmset.specs.PicksViews.{picks_view, demands_of}
use Rattle.cpn_tmset.proofs.tmsets.TMSet.take_each.Given as goal

abbrev pub invariant-loop-pick : goal.invariant-loop-pick
invariant-loop-pick l = record {
  left : left_after (demands_of (drop l.pick-index l.pick-items)) l.self ≡ left_after (demands_of l.initial.pick-items) l.initial.self;
  picked : picks_view (take l.pick-index l.pick-items) ++ picked (demands_of (drop l.pick-index l.pick-items)) l.self ≡ picked (demands_of l.initial.pick-items) l.initial.self;
}
