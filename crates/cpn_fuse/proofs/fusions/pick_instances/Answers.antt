-- The next instance is picked of its module.
use Rattle.std.proofs.Common.{◌≡◌, ◌<◌, length, ap, ◌∙◌, arith}
use Rattle.std.proofs.lemmas.List.{length-map, length-set}
use Rattle.cpn_fuse.specs.Instances.{PlainInstance}
use Rattle.cpn_fuse.specs.Views.{instance_view, instances_view}
use Rattle.cpn_fuse.proofs.LoopSteps.{picked_more, all_picked_from}
use Rattle.cpn_fuse.proofs.SeenHierarchies.{no_value, instance_seen, its_module_in}
use Rattle.cpn_fuse.proofs.fusions.pick_instances.Goals as goal

pub index_mut-requires : goal.index_mut-requires
index_mut-requires c =
    let lt : c.loop-number.number < length c.args.unfolded.now.instances.items = rw (← c.deref-instance-items.ensures.value) c.loop-number-test.true in
    rw c.deref-instance-items.ensures.value (omega (arith, c.loop-number.picked.ok, c.loop-number.invariant.each, its_module_in c.args.unfolded.now.instances.items c.loop-number.number no_value lt c.args.hierarchy.now c.requires.in_modules))

pub loop-number-preserved : goal.loop-number-preserved
loop-number-preserved c =
    let xs = c.args.unfolded.now.instances.items in
    let k = c.loop-number.number in
    let picked = c.loop-number.picked.items in
    let lt : k < length xs = rw (← c.deref-instance-items.ensures.value) c.loop-number-test.true in
    let m_in = its_module_in xs k no_value lt c.args.hierarchy.now c.requires.in_modules in
    let of_module = ap (λ (x : PlainInstance). x.of_module) (instance_seen xs k no_value lt) in
    rw c.deref-instance-items.ensures.value (record {
      each = length-set picked _ _ ∙ c.loop-number.invariant.each;
      picked = picked_more (instances_view xs) picked k _ of_module (rw c.loop-number.invariant.each m_in) c.loop-number.invariant.picked;
    })

pub returns-clause-picked : goal.returns-clause-picked
returns-clause-picked c =
    let xs = c.args.unfolded.now.instances.items in
    let read : length c.deref-instance-items.result.now ≡ length xs = ap length c.deref-instance-items.ensures.value in
    all_picked_from (instances_view xs) c.loop-number.picked.items c.loop-number.number (rw (length-map xs instance_view) (omega (arith, read))) c.loop-number.invariant.picked
