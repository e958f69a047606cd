-- The marked places of the instances so far are joined.
use Rattle.std.proofs.Common.{◌≡◌, ◌++◌}
use Rattle.cpn_module.specs.Views.{hierarchy_view}
use Rattle.cpn_fuse.specs.Views.{instances_view}
use Rattle.cpn_fuse.specs.FewerPairs.{copies}
use Rattle.cpn_fuse.proofs.copies.join_copies.Given as goal

abbrev pub invariant-loop-instance : goal.invariant-loop-instance
invariant-loop-instance l = l.pairs.items ≡ l.initial.pairs.items ++ copies (hierarchy_view l.hierarchy) (instances_view l.unfolded.instances.items) l.picked l.marks l.instance
