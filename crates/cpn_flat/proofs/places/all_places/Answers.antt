-- The places of an instance more.
use Rattle.std.proofs.Common.{◌<◌, map, length, string_bytes, sym, ap, ◌∙◌, arith}
use Rattle.cpn_core.specs.Nets.{place_view}
use Rattle.cpn_fuse.specs.Views.{instance_view}
use Rattle.cpn_accepted.specs.Views.{module_net_view}
use Rattle.cpn_flat.specs.FlatNet.{places_at}
use Rattle.cpn_flat.proofs.AllItems.{all_at}
use Rattle.cpn_flat.proofs.InstanceLists.{instance_more, instances_all, none_yet}
use Rattle.cpn_flat.proofs.places.all_places.Goals as goal

pub push_instance-requires-clause-in_range : goal.push_instance-requires-clause-in_range
push_instance-requires-clause-in_range c = all_at (λ x. x.of_module < length c.args.modules.now) instance_view c.args.instances.now c.loop-number.number _ c.loop-number-test.true c.requires.in_modules

pub loop-number-preserved : goal.loop-number-preserved
loop-number-preserved c = instance_more (places_at (map module_net_view c.args.modules.now) (map string_bytes c.args.names.now)) instance_view c.args.instances.now c.loop-number.number _ _ _ c.loop-number-test.true c.loop-number.invariant c.in_ok-push_instance.ensures.pushed

pub loop-number-init : goal.loop-number-init
loop-number-init c = ap (λ places. map place_view places) c.new-places.ensures.items ∙ sym (none_yet (places_at (map module_net_view c.args.modules.now) (map string_bytes c.args.names.now)))

pub returns : goal.returns
returns c = record { places = instances_all (places_at (map module_net_view c.args.modules.now) (map string_bytes c.args.names.now)) instance_view c.args.instances.now c.loop-number.number _ (omega arith) c.loop-number.invariant }
