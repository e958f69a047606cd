-- The fusion sets so far are joined, and their places marked.
use Rattle.std.proofs.Common.{◌≡◌, ◌++◌, length, take}
use Rattle.cpn_module.specs.Views.{hierarchy_view}
use Rattle.cpn_fuse.specs.Views.{instances_view}
use Rattle.cpn_fuse.specs.FewerPairs.{all_picked, set_pairs, AreMarked}
use Rattle.cpn_fuse.proofs.fusions.join_sets.Given as goal

abbrev pub invariant-loop-set : goal.invariant-loop-set
invariant-loop-set l =
    let h = hierarchy_view l.hierarchy in
    let is = instances_view l.unfolded.instances.items in
    record {
      each : length l.marks.items ≡ l.unfolded.places;
      marked : AreMarked l.marks.items (all_picked h is l.picked (take l.set h.fusions));
      joined : l.pairs.items ≡ l.initial.pairs.items ++ set_pairs h is l.picked (take l.set h.fusions);
    }
