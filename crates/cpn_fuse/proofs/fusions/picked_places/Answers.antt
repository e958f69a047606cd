-- The place of the next member in the picked instance of its module, where there is one.
use Rattle.std.proofs.Common.{◌≡◌, ℕ, ◌+◌, ◌<◌, List, [], ◌∷◌, ◌++◌, length, take, get_or, map, Option, Some, None, refl, sym, ap, subst, ◌∙◌, arith, rules}
use Rattle.std.specs.Prelude.{slice_index_or}
use Rattle.std.specs.List.{filter_map}
use Rattle.std.specs.Option.{option_map}
use Rattle.std.proofs.lemmas.List.{append-nil, map_more, length-map}
use Rattle.std.proofs.lemmas.List.Elements.{filter_map-append}
use Rattle.cpn_module.specs.Hierarchy.{PlainHierarchy, places_in, structure_at}
use Rattle.cpn_module.specs.Ranges.{IsMember, HasItsNumbers}
use Rattle.cpn_module.specs.Views.{fused_view, fusion_set_view, hierarchy_view}
use Rattle.cpn_module.specs.declared.hierarchy.FusedPlace.{FusedPlace}
use Rattle.cpn_module.specs.declared.hierarchy.FusionSet.{FusionSet}
use Rattle.cpn_module.specs.declared.hierarchy.Hierarchy.{Hierarchy}
use Rattle.cpn_fuse.specs.Instances.{PlainInstance, instance_at}
use Rattle.cpn_fuse.specs.PlaceInstances.{place_number}
use Rattle.cpn_fuse.specs.FewerPairs.{picked_place, picked_places}
use Rattle.cpn_fuse.specs.Views.{instances_view}
use Rattle.cpn_fuse.specs.Answers.{AreUnfolded}
use Rattle.cpn_fuse.specs.declared.unfolding.Unfolded.{Unfolded}
use Rattle.cpn_fuse.proofs.PlaceLaws.{IsPlace}
use Rattle.cpn_fuse.proofs.SeenPlaces.{member_read, first_in, first_read, place_fits}
use Rattle.cpn_fuse.proofs.fusions.picked_places.Goals as goal
use Rattle.cpn_fuse.proofs.fusions.picked_places.Goals.{in-Some+in_ok-push, in_default}

-- what is read past the end of the members
abbrev no_member : FusedPlace
no_member = record { of_module = 0; place = 0 }

-- one member more
places_more : (h : PlainHierarchy) (is : List PlainInstance) (picked : List (Option ℕ)) (members : List FusedPlace) (i : ℕ) (o : Option ℕ) → i < length members → picked_place h is picked (fused_view (get_or members i no_member)) ≡ o → picked_places h is picked (map fused_view (take (i + 1) members)) ≡ picked_places h is picked (map fused_view (take i members)) ++ filter_map (λ x. x) (o ∷ [])
places_more h is picked members i o lt e =
    let member = fused_view (get_or members i no_member) in
    ap (picked_places h is picked) (map_more fused_view members i no_member lt) ∙ filter_map-append (picked_place h is picked) (map fused_view (take i members)) (member ∷ [])
    ∙ ap (λ (v : Option ℕ). picked_places h is picked (map fused_view (take i members)) ++ filter_map (λ x. x) (v ∷ [])) e

-- a member that is read
its_member : (hierarchy : Hierarchy) (u : Unfolded) → AreUnfolded (hierarchy_view hierarchy) u → HasItsNumbers (hierarchy_view hierarchy) → (number : ℕ) (set : FusionSet) → number < length (hierarchy_view hierarchy).fusions → set ≡ slice_index_or hierarchy.fusions.items number set → (members : List FusedPlace) → members ≡ set.members.items → (k : ℕ) → k < length members → IsMember (hierarchy_view hierarchy) (fused_view (get_or members k no_member))
its_member hierarchy u are numbers number set lt e members read k k_in =
    let set_in : number < length hierarchy.fusions.items = rw (← length-map hierarchy.fusions.items fusion_set_view) lt in
    rw read (member_read hierarchy u are numbers number set set_in e k no_member (rw (← read) k_in))

-- an instance of its module has its place
place_of : (h : PlainHierarchy) (is : List PlainInstance) (i : ℕ) (member : FusedPlace) → IsMember h (fused_view member) → i < length is → (instance_at is i).of_module ≡ member.of_module → IsPlace h is i member.place
place_of h is i member is_member lt e = (lt, subst (λ (m : ℕ). member.place < places_in (structure_at h m)) (sym e) is_member.place)

-- none is picked
none_there : (o : Option ℕ) → ((x : ℕ) → o ≡ Some x → ⊥) → o ≡ None
none_there None not_some = refl
none_there (Some x) not_some = absurd (not_some x refl)

pub bounds : goal.bounds
bounds c =
    let h = hierarchy_view c.args.hierarchy.now in
    let is = instances_view c.args.unfolded.now.instances.items in
    let members = c.as_slice-members.result.now in
    let k = c.loop-member.member-index in
    let member = get_or members k no_member in
    let is_member = its_member c.args.hierarchy.now c.args.unfolded.now c.requires.unfolded c.requires.numbers c.args.set c.index.result.now c.requires.set c.index.ensures members c.as_slice-members.ensures.value k c.loop-member-test.true in
    rw c.requires.each is_member.of_module

pub offset_bounds-picked-member : goal.offset_bounds-picked-member
offset_bounds-picked-member c =
    let h = hierarchy_view c.args.hierarchy.now in
    let is = instances_view c.args.unfolded.now.instances.items in
    let members = c.as_slice-members.result.now in
    let k = c.loop-member.member-index in
    let member = get_or members k no_member in
    let is_member = its_member c.args.hierarchy.now c.args.unfolded.now c.requires.unfolded c.requires.numbers c.args.set c.index.result.now c.requires.set c.index.ensures members c.as_slice-members.ensures.value k c.loop-member-test.true in
    let lt : member.of_module < length c.args.picked.now = rw c.requires.each is_member.of_module in
    search rules

pub index-requires-in-Some : goal.index-requires-in-Some
index-requires-in-Some c =
    let h = hierarchy_view c.args.hierarchy.now in
    let is = instances_view c.args.unfolded.now.instances.items in
    let members = c.as_slice-members.result.now in
    let k = c.loop-member.member-index in
    let member = get_or members k no_member in
    let is_member = its_member c.args.hierarchy.now c.args.unfolded.now c.requires.unfolded c.requires.numbers c.args.set c.index.result.now c.requires.set c.index.ensures members c.as_slice-members.ensures.value k c.loop-member-test.true in
    let instance = c.requires.picked.instance member.of_module c.in-Some.instance c.in-Some.is in
    omega (arith, c.args.unfolded.now.first_places.ok, first_in c.args.hierarchy.now c.args.unfolded.now c.requires.unfolded c.in-Some.instance instance.0)

pub overflow_cast-member : goal.overflow_cast-member
overflow_cast-member c =
    let h = hierarchy_view c.args.hierarchy.now in
    let is = instances_view c.args.unfolded.now.instances.items in
    let members = c.as_slice-members.result.now in
    let k = c.loop-member.member-index in
    let member = get_or members k no_member in
    let is_member = its_member c.args.hierarchy.now c.args.unfolded.now c.requires.unfolded c.requires.numbers c.args.set c.index.result.now c.requires.set c.index.ensures members c.as_slice-members.ensures.value k c.loop-member-test.true in
    let instance = c.requires.picked.instance member.of_module c.in-Some.instance c.in-Some.is in
    let place = place_of h is c.in-Some.instance member is_member instance.0 instance.1 in
    let fits = place_fits c.args.hierarchy.now c.args.unfolded.now c.requires.unfolded c.in-Some.instance member.place place in
    let read = first_read c.args.hierarchy.now c.args.unfolded.now c.requires.unfolded c.in-Some.instance c.index-in-Some.result.now instance.0 c.index-in-Some.ensures in
    omega (arith, fits)

pub overflow_add-index : goal.overflow_add-index
overflow_add-index c =
    let h = hierarchy_view c.args.hierarchy.now in
    let is = instances_view c.args.unfolded.now.instances.items in
    let members = c.as_slice-members.result.now in
    let k = c.loop-member.member-index in
    let member = get_or members k no_member in
    let is_member = its_member c.args.hierarchy.now c.args.unfolded.now c.requires.unfolded c.requires.numbers c.args.set c.index.result.now c.requires.set c.index.ensures members c.as_slice-members.ensures.value k c.loop-member-test.true in
    let instance = c.requires.picked.instance member.of_module c.in-Some.instance c.in-Some.is in
    let place = place_of h is c.in-Some.instance member is_member instance.0 instance.1 in
    let fits = place_fits c.args.hierarchy.now c.args.unfolded.now c.requires.unfolded c.in-Some.instance member.place place in
    let read = first_read c.args.hierarchy.now c.args.unfolded.now c.requires.unfolded c.in-Some.instance c.index-in-Some.result.now instance.0 c.index-in-Some.ensures in
    omega (arith, fits, read)

pub loop-member-preserved : goal.loop-member-preserved
loop-member-preserved c =
    let h = hierarchy_view c.args.hierarchy.now in
    let is = instances_view c.args.unfolded.now.instances.items in
    let members = c.as_slice-members.result.now in
    let k = c.loop-member.member-index in
    let member = get_or members k no_member in
    let is_member = its_member c.args.hierarchy.now c.args.unfolded.now c.requires.unfolded c.requires.numbers c.args.set c.index.result.now c.requires.set c.index.ensures members c.as_slice-members.ensures.value k c.loop-member-test.true in
    let number = λ (i : ℕ). place_number h is i member.place in
    let more = λ (o : Option ℕ). places_more h is c.args.picked.now members k (option_map number o) c.loop-member-test.true in
    let before = picked_places h is c.args.picked.now (map fused_view (take k members)) in
    elim c.match-picked-member.branch [
      | in-Some+in_ok-push w ↦
          let instance = c.requires.picked.instance member.of_module w.in-Some.instance w.in-Some.is in
          let read = first_read c.args.hierarchy.now c.args.unfolded.now c.requires.unfolded w.in-Some.instance w.index-in-Some.result.now instance.0 w.index-in-Some.ensures in
          let pushed : c.match-picked-member.places.items ≡ before ++ number w.in-Some.instance ∷ [] = rw (w.places-is, w.in_ok-push.ensures.items, read, c.loop-member.invariant) refl in
          pushed ∙ sym (more (Some w.in-Some.instance) (ap (option_map number) w.in-Some.is))
      | in_default w ↦
          let none = none_there (slice_index_or c.args.picked.now member.of_module None) w.in_default.not-Some in
          let same : c.match-picked-member.places.items ≡ before = rw w.places-is c.loop-member.invariant in
          same ∙ sym (append-nil before) ∙ sym (more None (ap (option_map number) none))
    ]
