-- The transitions of an instance more.
use Rattle.std.proofs.Common.{◌<◌, map, length, string_bytes, sym, ap, ◌∙◌, arith}
use Rattle.cpn_core.specs.Nets.{transition_view}
use Rattle.cpn_fuse.specs.Views.{instance_view, instances_view}
use Rattle.cpn_module.specs.Views.{hierarchy_view}
use Rattle.cpn_accepted.specs.Views.{module_net_view}
use Rattle.cpn_flat.specs.FlatNet.{transitions_at}
use Rattle.cpn_flat.proofs.AllItems.{all_at}
use Rattle.cpn_flat.proofs.InstanceLists.{instance_more, instances_all, none_yet}
use Rattle.cpn_flat.proofs.InstanceItems.{items_at, transitions_of}
use Rattle.cpn_flat.proofs.transitions.all_transitions.Goals as goal

pub push_instance-requires-clause-in_range : goal.push_instance-requires-clause-in_range
push_instance-requires-clause-in_range c = all_at (λ x. x.of_module < length c.args.modules.now) instance_view c.args.instances.now c.loop-number.number _ c.loop-number-test.true c.requires.in_modules

pub push_instance-requires-clause-items : goal.push_instance-requires-clause-items
push_instance-requires-clause-items c = items_at instance_view c.args.instances.now c.loop-number.number _ c.loop-number-test.true (hierarchy_view c.args.hierarchy.now) (map module_net_view c.args.modules.now) c.args.firsts.now c.requires.firsts (length c.args.classes.now.numbers) c.requires.items

pub loop-number-preserved : goal.loop-number-preserved
loop-number-preserved c = instance_more (transitions_at (hierarchy_view c.args.hierarchy.now) (map module_net_view c.args.modules.now) (instances_view c.args.instances.now) (map string_bytes c.args.names.now) c.args.classes.now) instance_view c.args.instances.now c.loop-number.number _ _ _ c.loop-number-test.true c.loop-number.invariant
    (transitions_of instance_view c.args.instances.now c.loop-number.number _ c.loop-number-test.true (hierarchy_view c.args.hierarchy.now) (map module_net_view c.args.modules.now) c.args.firsts.now c.requires.firsts (map string_bytes c.args.names.now) c.args.classes.now _ _ _ c.name_of.ensures.exact c.in_ok-push_instance.ensures.pushed)

pub loop-number-init : goal.loop-number-init
loop-number-init c = ap (λ made. map transition_view made) c.new-transitions.ensures.items ∙ sym (none_yet (transitions_at (hierarchy_view c.args.hierarchy.now) (map module_net_view c.args.modules.now) (instances_view c.args.instances.now) (map string_bytes c.args.names.now) c.args.classes.now))

pub returns : goal.returns
returns c = record { transitions = instances_all (transitions_at (hierarchy_view c.args.hierarchy.now) (map module_net_view c.args.modules.now) (instances_view c.args.instances.now) (map string_bytes c.args.names.now) c.args.classes.now) instance_view c.args.instances.now c.loop-number.number _ (omega arith) c.loop-number.invariant }
