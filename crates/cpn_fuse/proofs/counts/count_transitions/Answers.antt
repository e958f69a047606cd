-- The transitions of one instance more.
use Rattle.std.proofs.Common.{◌≡◌, ◌<◌, ◌≤◌, length, refl, ap, ◌∙◌, arith}
use Rattle.std.proofs.lemmas.List.{length-map}
use Rattle.cpn_module.specs.Hierarchy.{PlainStructure, structure_at}
use Rattle.cpn_module.specs.Views.{hierarchy_view}
use Rattle.cpn_fuse.specs.Instances.{PlainInstance, instance_at}
use Rattle.cpn_fuse.specs.Unfolded.{many_transitions}
use Rattle.cpn_fuse.specs.Views.{instance_view, instances_view}
use Rattle.cpn_fuse.proofs.SeenHierarchies.{no_value, its_module_in, its_structure}
use Rattle.cpn_fuse.proofs.PlaceCounts.{counted_more, too_many, sum_to_all}
use Rattle.cpn_fuse.proofs.counts.count_transitions.Goals as goal

pub loop-instance-init : goal.loop-instance-init
loop-instance-init c = record { counted = refl; few = omega arith }

pub index-requires : goal.index-requires
index-requires c = omega (arith, c.args.hierarchy.now.modules.ok, its_module_in c.args.instances.now c.loop-instance.instance-index no_value c.loop-instance-test.true c.args.hierarchy.now c.requires.in_modules)

pub overflow_sub-count : goal.overflow_sub-count
overflow_sub-count c = c.loop-instance.invariant.few

pub returns-then-transitions-count-clause-refused : goal.returns-then-transitions-count-clause-refused
returns-then-transitions-count-clause-refused c =
    let h = hierarchy_view c.args.hierarchy.now in
    let is = instances_view c.args.instances.now in
    let i = c.loop-instance.instance-index in
    let f = λ (x : PlainInstance). (structure_at h x.of_module).transitions in
    let i_in : i < length is = rw (length-map c.args.instances.now instance_view) c.loop-instance-test.true in
    let here : f (instance_at is i) ≡ c.index.result.now.transitions = ap (λ (s : PlainStructure). s.transitions) (its_structure c.args.instances.now i no_value c.loop-instance-test.true c.args.hierarchy.now c.index.result.now c.requires.in_modules c.index.ensures) in
    many_transitions is c.requires.instances (rw (length-map c.args.instances.now instance_view) c.requires.few) c.requires.few_places (too_many f is i c.loop-instance.count c.index.result.now.transitions 16384 i_in c.loop-instance.invariant.counted here c.loop-instance.invariant.few c.if-transitions-count.true)

pub loop-instance-preserved : goal.loop-instance-preserved
loop-instance-preserved c =
    let h = hierarchy_view c.args.hierarchy.now in
    let is = instances_view c.args.instances.now in
    let i = c.loop-instance.instance-index in
    let f = λ (x : PlainInstance). (structure_at h x.of_module).transitions in
    let i_in : i < length is = rw (length-map c.args.instances.now instance_view) c.loop-instance-test.true in
    let here : f (instance_at is i) ≡ c.index.result.now.transitions = ap (λ (s : PlainStructure). s.transitions) (its_structure c.args.instances.now i no_value c.loop-instance-test.true c.args.hierarchy.now c.index.result.now c.requires.in_modules c.index.ensures) in
    record {
      counted = counted_more f is i c.loop-instance.count c.index.result.now.transitions i_in c.loop-instance.invariant.counted here;
      few = omega (arith, c.loop-instance.invariant.few, c.if-transitions-count.false);
    }

pub overflow_cast-result : goal.overflow_cast-result
overflow_cast-result c = omega (arith, c.loop-instance.invariant.few)

pub returns-clause-count : goal.returns-clause-count
returns-clause-count c =
    let h = hierarchy_view c.args.hierarchy.now in
    let is = instances_view c.args.instances.now in
    let all : length is ≤ c.loop-instance.instance-index = rw (length-map c.args.instances.now instance_view) (omega arith) in
    c.loop-instance.invariant.counted ∙ sum_to_all (λ (x : PlainInstance). (structure_at h x.of_module).transitions) is c.loop-instance.instance-index all

pub returns-clause-few : goal.returns-clause-few
returns-clause-few c = c.loop-instance.invariant.few
