-- The groups so far, and those of the entries that are left.
use Rattle.std.proofs.Common.{◌≡◌, ◌++◌}
use Rattle.cpn_tmset.specs.Listed.{groups}
use Rattle.cpn_tmset.specs.ListedViews.{groups_view}
use Rattle.cpn_tmset.specs.TMSets.{AreKept}
use Rattle.cpn_tmset.specs.Views.{entries_view, tokens_view}
use Rattle.cpn_tmset.proofs.tmsets.TMSet.groups.Given as goal

abbrev pub invariant-loop-value : goal.invariant-loop-value
invariant-loop-value l = record {
  kept : AreKept (entries_view l.value-iterator);
  found : groups_view l.found.items ++ groups (tokens_view l.value-iterator) ≡ groups l.self;
}
