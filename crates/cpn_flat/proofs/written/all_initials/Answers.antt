-- The initial markings of an instance more, and of all.
use Rattle.std.proofs.Common.{◌<◌, map, length, sym, ap, ◌∙◌, arith}
use Rattle.cpn_fuse.specs.Views.{instance_view}
use Rattle.cpn_accepted.specs.Views.{module_net_view}
use Rattle.cpn_flat.specs.InitialMarking.{initials_at}
use Rattle.cpn_flat.specs.WrittenViews.{optional_view}
use Rattle.cpn_flat.proofs.AllItems.{all_at}
use Rattle.cpn_flat.proofs.InstanceLists.{instance_more, instances_all, none_yet}
use Rattle.cpn_flat.proofs.written.all_initials.Goals as goal

pub push_instance-requires : goal.push_instance-requires
push_instance-requires c = record { in_range = all_at (λ x. x.of_module < length c.args.modules.now) instance_view c.args.instances.now c.loop-instance.instance-index _ c.loop-instance-test.true c.requires.in_modules }

pub loop-instance-preserved : goal.loop-instance-preserved
loop-instance-preserved c = instance_more (initials_at (map module_net_view c.args.modules.now)) instance_view c.args.instances.now c.loop-instance.instance-index _ _ _ c.loop-instance-test.true c.loop-instance.invariant c.in_ok-push_instance.ensures.pushed

pub loop-instance-init : goal.loop-instance-init
loop-instance-init c = ap optional_view c.new-initials.ensures.items ∙ sym (none_yet (initials_at (map module_net_view c.args.modules.now)))

pub returns : goal.returns
returns c = record { initials = instances_all (initials_at (map module_net_view c.args.modules.now)) instance_view c.args.instances.now c.loop-instance.instance-index _ (omega arith) c.loop-instance.invariant }
