-- The places of both instances are as many, and none is past all places.
use Rattle.std.proofs.Common.{◌≡◌, ℕ, ◌<◌, length, Some, None, refl, sym, ap, ◌∙◌, arith, rules}
use Rattle.std.specs.Prelude.{slice_index_or}
use Rattle.cpn_module.specs.Hierarchy.{places_in, structure_at}
use Rattle.cpn_module.specs.Views.{hierarchy_view}
use Rattle.cpn_fuse.specs.Instances.{PlainInstance, instance_at}
use Rattle.cpn_fuse.specs.FewerPairs.{marked_pairs, copies_of}
use Rattle.cpn_fuse.specs.Views.{instances_view}
use Rattle.cpn_fuse.proofs.SeenHierarchies.{modules_in, module_seen}
use Rattle.cpn_fuse.proofs.SeenPlaces.{instance_read, module_in, first_in, first_read, whole_instance, few_places}
use Rattle.cpn_fuse.proofs.copies.join_copies_of.Goals as goal

pub bounds : goal.bounds
bounds c =
    let hierarchy = c.args.hierarchy.now in
    let u = c.args.unfolded.now in
    let h = hierarchy_view hierarchy in
    let is = instances_view u.instances.items in
    let x = c.index.result.now in
    let module_of = ap (λ (y : PlainInstance). y.of_module) (instance_read hierarchy u c.requires.unfolded c.args.instance x c.requires.instance c.index.ensures) in
    let in_modules = module_in hierarchy u c.requires.unfolded c.requires.numbers c.args.instance x c.requires.instance c.index.ensures in
    rw c.requires.each in_modules

pub offset_bounds-picked-of_module : goal.offset_bounds-picked-of_module
offset_bounds-picked-of_module c =
    let hierarchy = c.args.hierarchy.now in
    let u = c.args.unfolded.now in
    let h = hierarchy_view hierarchy in
    let is = instances_view u.instances.items in
    let x = c.index.result.now in
    let module_of = ap (λ (y : PlainInstance). y.of_module) (instance_read hierarchy u c.requires.unfolded c.args.instance x c.requires.instance c.index.ensures) in
    let in_modules = module_in hierarchy u c.requires.unfolded c.requires.numbers c.args.instance x c.requires.instance c.index.ensures in
    let lt : x.of_module < length c.args.picked.now = rw c.requires.each in_modules in
    search rules

pub index-requires-3 : goal.index-requires-3
index-requires-3 c =
    let hierarchy = c.args.hierarchy.now in
    let u = c.args.unfolded.now in
    let h = hierarchy_view hierarchy in
    let is = instances_view u.instances.items in
    let x = c.index.result.now in
    let module_of = ap (λ (y : PlainInstance). y.of_module) (instance_read hierarchy u c.requires.unfolded c.args.instance x c.requires.instance c.index.ensures) in
    let in_modules = module_in hierarchy u c.requires.unfolded c.requires.numbers c.args.instance x c.requires.instance c.index.ensures in
    let one = c.requires.picked.instance x.of_module c.in-Some.one c.in-Some.is in
    omega (arith, u.first_places.ok, first_in hierarchy u c.requires.unfolded c.in-Some.one one.0)

pub overflow_cast-places : goal.overflow_cast-places
overflow_cast-places c =
    let hierarchy = c.args.hierarchy.now in
    let u = c.args.unfolded.now in
    let h = hierarchy_view hierarchy in
    let is = instances_view u.instances.items in
    let x = c.index.result.now in
    let module_of = ap (λ (y : PlainInstance). y.of_module) (instance_read hierarchy u c.requires.unfolded c.args.instance x c.requires.instance c.index.ensures) in
    let in_modules = module_in hierarchy u c.requires.unfolded c.requires.numbers c.args.instance x c.requires.instance c.index.ensures in
    let seen = module_seen hierarchy x.of_module c.index-2.result.now (modules_in hierarchy x.of_module in_modules) c.index-2.ensures in
    let read : places_in (structure_at h x.of_module) ≡ length c.index-2.result.now.ports.items = ap places_in seen in
    let count : places_in (structure_at h (instance_at is c.args.instance).of_module) ≡ c.len-places.result = ap (λ (m : ℕ). places_in (structure_at h m)) module_of ∙ omega (arith, read, c.len-places.ensures, c.index-2.result.now.ports.ok) in
    let whole = whole_instance hierarchy u c.requires.unfolded c.args.instance c.requires.instance in
    let few = few_places hierarchy u c.requires.unfolded in
    omega (arith, whole, count, few)

pub join_marked-requires : goal.join_marked-requires
join_marked-requires c =
    let hierarchy = c.args.hierarchy.now in
    let u = c.args.unfolded.now in
    let h = hierarchy_view hierarchy in
    let is = instances_view u.instances.items in
    let x = c.index.result.now in
    let module_of = ap (λ (y : PlainInstance). y.of_module) (instance_read hierarchy u c.requires.unfolded c.args.instance x c.requires.instance c.index.ensures) in
    let in_modules = module_in hierarchy u c.requires.unfolded c.requires.numbers c.args.instance x c.requires.instance c.index.ensures in
    let one = c.requires.picked.instance x.of_module c.in-Some.one c.in-Some.is in
    let seen = module_seen hierarchy x.of_module c.index-2.result.now (modules_in hierarchy x.of_module in_modules) c.index-2.ensures in
    let read : places_in (structure_at h x.of_module) ≡ length c.index-2.result.now.ports.items = ap places_in seen in
    let count : places_in (structure_at h (instance_at is c.args.instance).of_module) ≡ c.len-places.result = ap (λ (m : ℕ). places_in (structure_at h m)) module_of ∙ omega (arith, read, c.len-places.ensures, c.index-2.result.now.ports.ok) in
    let whole = whole_instance hierarchy u c.requires.unfolded c.args.instance c.requires.instance in
    let few = few_places hierarchy u c.requires.unfolded in
    let first = first_read hierarchy u c.requires.unfolded c.in-Some.one c.index-3.result.now one.0 c.index-3.ensures in
    let other = first_read hierarchy u c.requires.unfolded c.args.instance c.index-4.result.now c.requires.instance c.index-4.ensures in
    let of_one : places_in (structure_at h (instance_at is c.in-Some.one).of_module) ≡ c.len-places.result = ap (λ (m : ℕ). places_in (structure_at h m)) (one.1 ∙ sym module_of) ∙ count in
    let whole_one = whole_instance hierarchy u c.requires.unfolded c.in-Some.one one.0 in
    record {
      marks = omega (arith, whole_one, of_one, first, c.requires.marks);
      one = omega (arith, whole_one, of_one, first, few);
      other = omega (arith, whole, count, other, few);
    }

pub returns : goal.returns
returns c =
    let hierarchy = c.args.hierarchy.now in
    let u = c.args.unfolded.now in
    let h = hierarchy_view hierarchy in
    let is = instances_view u.instances.items in
    let x = c.index.result.now in
    let module_of = ap (λ (y : PlainInstance). y.of_module) (instance_read hierarchy u c.requires.unfolded c.args.instance x c.requires.instance c.index.ensures) in
    let in_modules = module_in hierarchy u c.requires.unfolded c.requires.numbers c.args.instance x c.requires.instance c.index.ensures in
    let one = c.requires.picked.instance x.of_module c.in-Some.one c.in-Some.is in
    let seen = module_seen hierarchy x.of_module c.index-2.result.now (modules_in hierarchy x.of_module in_modules) c.index-2.ensures in
    let read : places_in (structure_at h x.of_module) ≡ length c.index-2.result.now.ports.items = ap places_in seen in
    let count : places_in (structure_at h (instance_at is c.args.instance).of_module) ≡ c.len-places.result = ap (λ (m : ℕ). places_in (structure_at h m)) module_of ∙ omega (arith, read, c.len-places.ensures, c.index-2.result.now.ports.ok) in
    let whole = whole_instance hierarchy u c.requires.unfolded c.args.instance c.requires.instance in
    let few = few_places hierarchy u c.requires.unfolded in
    let first = first_read hierarchy u c.requires.unfolded c.in-Some.one c.index-3.result.now one.0 c.index-3.ensures in
    let other = first_read hierarchy u c.requires.unfolded c.args.instance c.index-4.result.now c.requires.instance c.index-4.ensures in
    let picked : slice_index_or c.args.picked.now (instance_at is c.args.instance).of_module None ≡ Some c.in-Some.one = ap (λ (m : ℕ). slice_index_or c.args.picked.now m None) module_of ∙ c.in-Some.is in
    let all : marked_pairs c.args.marks.now c.index-3.result.now c.index-4.result.now c.len-places.result ≡ copies_of h is c.args.marks.now c.args.instance (slice_index_or c.args.picked.now (instance_at is c.args.instance).of_module None) = rw (picked, first, other, count) refl in
    rw (← all) c.join_marked.ensures
