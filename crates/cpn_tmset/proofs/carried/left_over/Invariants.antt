-- The stamp that is carried, and the picks that are left.
use Rattle.std.proofs.Common.{◌≡◌, drop}
use Rattle.cpn_core.specs.Views.{value_view}
use Rattle.cpn_tmset.specs.Carried.{past_picks}
use Rattle.cpn_tmset.specs.PicksViews.{picks_view}
use Rattle.cpn_tmset.proofs.carried.left_over.Given as goal

abbrev pub invariant-loop-pick : goal.invariant-loop-pick
invariant-loop-pick l = past_picks (value_view l.value) l.carried (picks_view (drop l.pick-index l.picks)) ≡ past_picks (value_view l.value) l.stamp (picks_view l.picks)
