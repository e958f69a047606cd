-- The pairs of the instances so far, and those of the others.
use Rattle.std.proofs.Common.{◌≡◌, ◌++◌, drop}
use Rattle.cpn_module.specs.Views.{hierarchy_view}
use Rattle.cpn_fuse.specs.Views.{instances_view}
use Rattle.cpn_fuse.specs.Compound.{port_pairs, port_pairs_from}
use Rattle.cpn_fuse.proofs.sockets.port_pairs.Given as goal

abbrev pub invariant-loop-instance : goal.invariant-loop-instance
invariant-loop-instance l =
    let h = hierarchy_view l.hierarchy in
    let is = instances_view l.unfolded.instances.items in
    l.pairs.items ++ port_pairs_from h is l.instance (drop l.instance is) ≡ port_pairs h is
