-- The number of the first place of one instance more.
use Rattle.std.proofs.Common.{◌≡◌, ℕ, ◌+◌, ◌<◌, ◌≤◌, [], ◌∷◌, ◌++◌, length, refl, sym, ap, ◌∙◌, arith, below_more}
use Rattle.std.specs.Prelude.{slice_index}
use Rattle.std.proofs.lemmas.List.{length-map, length_push, get_or_append_left, get_or_push}
use Rattle.cpn_module.specs.Hierarchy.{places_in, structure_at}
use Rattle.cpn_module.specs.Views.{hierarchy_view}
use Rattle.cpn_fuse.specs.Instances.{PlainInstance, instance_at}
use Rattle.cpn_fuse.specs.PlaceInstances.{place_count, first_place}
use Rattle.cpn_fuse.specs.Views.{instance_view, instances_view}
use Rattle.cpn_fuse.proofs.SeenHierarchies.{no_value, its_module_in, its_structure}
use Rattle.cpn_fuse.proofs.PlaceCounts.{sum_to_le, counted_more}
use Rattle.cpn_fuse.proofs.counts.first_places.Goals as goal

pub loop-instance-init : goal.loop-instance-init
loop-instance-init c = record {
  each = ap length c.in_ok-firsts.ensures.items;
  firsts = λ i lt. absurd (omega arith);
  next = refl;
}

pub overflow_cast-first : goal.overflow_cast-first
overflow_cast-first c =
    let h = hierarchy_view c.args.hierarchy.now in
    let is = instances_view c.args.instances.now in
    let le : first_place h is c.loop-instance.instance-index ≤ place_count h is = sum_to_le (λ (x : PlainInstance). places_in (structure_at h x.of_module)) is c.loop-instance.instance-index in
    omega (arith, le, c.requires.few, c.loop-instance.invariant.next)

pub index-requires : goal.index-requires
index-requires c = omega (arith, c.args.hierarchy.now.modules.ok, its_module_in c.args.instances.now c.loop-instance.instance-index no_value c.loop-instance-test.true c.args.hierarchy.now c.requires.in_modules)

pub overflow_add-first : goal.overflow_add-first
overflow_add-first c =
    let h = hierarchy_view c.args.hierarchy.now in
    let is = instances_view c.args.instances.now in
    let i = c.loop-instance.instance-index in
    let f = λ (x : PlainInstance). places_in (structure_at h x.of_module) in
    let i_in : i < length is = rw (length-map c.args.instances.now instance_view) c.loop-instance-test.true in
    let here : f (instance_at is i) ≡ length c.index.result.now.ports.items = ap places_in (its_structure c.args.instances.now i no_value c.loop-instance-test.true c.args.hierarchy.now c.index.result.now c.requires.in_modules c.index.ensures) in
    let read : c.len-first.result ≡ length c.index.result.now.ports.items = omega (arith, c.len-first.ensures, c.index.result.now.ports.ok) in
    let more : c.loop-instance.first + c.len-first.result ≡ first_place h is (i + 1) = counted_more f is i c.loop-instance.first c.len-first.result i_in c.loop-instance.invariant.next (here ∙ sym read) in
    let le : first_place h is (i + 1) ≤ place_count h is = sum_to_le f is (i + 1) in
    omega (arith, more, le, c.requires.few)

pub loop-instance-preserved : goal.loop-instance-preserved
loop-instance-preserved c =
    let h = hierarchy_view c.args.hierarchy.now in
    let is = instances_view c.args.instances.now in
    let i = c.loop-instance.instance-index in
    let f = λ (x : PlainInstance). places_in (structure_at h x.of_module) in
    let i_in : i < length is = rw (length-map c.args.instances.now instance_view) c.loop-instance-test.true in
    let here : f (instance_at is i) ≡ length c.index.result.now.ports.items = ap places_in (its_structure c.args.instances.now i no_value c.loop-instance-test.true c.args.hierarchy.now c.index.result.now c.requires.in_modules c.index.ensures) in
    let read : c.len-first.result ≡ length c.index.result.now.ports.items = omega (arith, c.len-first.ensures, c.index.result.now.ports.ok) in
    let firsts = c.loop-instance.firsts.items in
    let first = c.loop-instance.first in
    let each = c.loop-instance.invariant.each in
    rw c.in_ok-push.ensures.items (record {
      each = length_push firsts first ∙ ap (λ (n : ℕ). n + 1) each;
      firsts = below_more (λ (k : ℕ). slice_index (firsts ++ first ∷ []) k ≡ first_place h is k) i
          (λ k lt. get_or_append_left firsts (first ∷ []) 0 k (rw each lt) ∙ c.loop-instance.invariant.firsts k lt)
          (get_or_push firsts first 0 i each ∙ c.loop-instance.invariant.next);
      next = counted_more f is i first c.len-first.result i_in c.loop-instance.invariant.next (here ∙ sym read);
    })

pub returns-clause-firsts : goal.returns-clause-firsts
returns-clause-firsts c =
    let h = hierarchy_view c.args.hierarchy.now in
    let is = instances_view c.args.instances.now in
    let all : c.loop-instance.instance-index ≡ length is = rw (length-map c.args.instances.now instance_view) (omega arith) in
    record {
      each = c.loop-instance.invariant.each ∙ all;
      first = λ i lt. c.loop-instance.invariant.firsts i (rw all lt);
    }
