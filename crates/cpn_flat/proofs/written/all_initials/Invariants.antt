-- The initial markings of the instances so far.
use Rattle.std.proofs.Common.{◌≡◌, map, take}
use Rattle.cpn_fuse.specs.Views.{instance_view}
use Rattle.cpn_accepted.specs.Views.{module_net_view}
use Rattle.cpn_flat.specs.FlatNet.{each_instance}
use Rattle.cpn_flat.specs.InitialMarking.{initials_at}
use Rattle.cpn_flat.specs.WrittenViews.{optional_view}
use Rattle.cpn_flat.proofs.written.all_initials.Given as goal

abbrev pub invariant-loop-instance : goal.invariant-loop-instance
invariant-loop-instance l = optional_view l.initials.items ≡ each_instance (initials_at (map module_net_view l.modules)) 0 (map instance_view (take l.instance-index l.instances))
