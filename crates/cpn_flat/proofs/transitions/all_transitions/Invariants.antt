-- The transitions of the instances so far.
use Rattle.std.proofs.Common.{◌≡◌, map, take, string_bytes}
use Rattle.cpn_core.specs.Nets.{transition_view}
use Rattle.cpn_fuse.specs.Views.{instance_view, instances_view}
use Rattle.cpn_module.specs.Views.{hierarchy_view}
use Rattle.cpn_accepted.specs.Views.{module_net_view}
use Rattle.cpn_flat.specs.FlatNet.{each_instance, transitions_at}
use Rattle.cpn_flat.proofs.transitions.all_transitions.Given as goal

abbrev pub invariant-loop-number : goal.invariant-loop-number
invariant-loop-number l = map transition_view l.transitions.items ≡ each_instance (transitions_at (hierarchy_view l.hierarchy) (map module_net_view l.modules) (instances_view l.instances) (map string_bytes l.names) l.classes) 0 (map instance_view (take l.number l.instances))
