-- What is told so far, and what the others differ in, are what both lists differ in.
use Rattle.std.proofs.Common.{◌≡◌, ◌≤◌, ◌+◌, ◌-◌, List, ◌++◌, drop, length}
use Rattle.cpn_core.specs.OutputsViews.{made_views}
use Rattle.cpn_tmset.specs.Changed.{PlainChange}
use Rattle.cpn_tmset.specs.ChangedViews.{changes_view}
use Rattle.cpn_log.specs.Gathered.{differing, each_once}
use Rattle.cpn_log.proofs.exchanged.changes_between.Given as goal

abbrev pub invariant-loop-gone : goal.invariant-loop-gone
invariant-loop-gone l = record {
  taken_left : l.gone ≤ length l.taken;
  outputs_left : l.come ≤ length l.outputs;
  told : List PlainChange;
  is_told : changes_view l.changes ≡ each_once told;
  others : differing (made_views l.taken) (made_views l.outputs) ≡ told ++ differing (made_views (drop l.gone l.taken)) (made_views (drop l.come l.outputs));
}

abbrev pub decreases-loop-gone : goal.decreases-loop-gone
decreases-loop-gone l = (length l.taken - l.gone) + (length l.outputs - l.come)
