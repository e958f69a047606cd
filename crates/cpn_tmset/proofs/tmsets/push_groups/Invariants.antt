-- The groups so far, and those of the stamps that are left.
use Rattle.std.proofs.Common.{◌≡◌, ◌++◌, map}
use Rattle.cpn_definitions.specs.Marking.{token_at}
use Rattle.cpn_core.specs.Views.{value_view}
use Rattle.cpn_tmset.specs.Listed.{groups}
use Rattle.cpn_tmset.specs.ListedViews.{groups_view}
use Rattle.cpn_tmset.specs.StampCounts.{repeated, IsCounted}
use Rattle.cpn_tmset.proofs.tmsets.push_groups.Given as goal

abbrev pub invariant-loop-stamp : goal.invariant-loop-stamp
invariant-loop-stamp l = record {
  counted : IsCounted l.stamp-iterator;
  pushed : groups_view l.found.items ++ groups (map (token_at (value_view l.value)) (repeated l.stamp-iterator)) ≡ groups_view l.initial.found.items ++ groups (map (token_at (value_view l.value)) l.stamps);
}
