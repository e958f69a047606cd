-- What the program reads of what a hierarchy unfolds to: instances, where they stand, the numbers of their places.
use Rattle.std.proofs.Common.{◌≡◌, ℕ, ◌+◌, ◌^◌, ◌<◌, ◌≤◌, List, [], length, get_or, map, Some, sym, ap, subst, ◌∙◌, arith}
use Rattle.std.specs.Prelude.{All, slice_index_or, IfSome}
use Rattle.std.proofs.lemmas.List.{get_or-map, length-map, get_or_read}
use Rattle.std.proofs.lemmas.List.Elements.{All-get_or}
use Rattle.std.proofs.lemmas.Simd.{map-map}
use Rattle.cpn_module.specs.Hierarchy.{PlainAssignment, PlainSubstitution, PlainHierarchy, places_in, structure_at, substitution_at}
use Rattle.cpn_module.specs.Ranges.{IsAssignment, IsMember, HasItsNumbers}
use Rattle.cpn_module.specs.Views.{assigned_view, substitution_view, fused_view, fusion_set_view, hierarchy_view}
use Rattle.cpn_module.specs.declared.hierarchy.Assigned.{Assigned}
use Rattle.cpn_module.specs.declared.hierarchy.Substitution.{Substitution}
use Rattle.cpn_module.specs.declared.hierarchy.FusedPlace.{FusedPlace}
use Rattle.cpn_module.specs.declared.hierarchy.FusionSet.{FusionSet}
use Rattle.cpn_module.specs.declared.hierarchy.Hierarchy.{Hierarchy}
use Rattle.cpn_fuse.specs.Instances.{PlainInstance, instance_at, no_instance}
use Rattle.cpn_fuse.specs.PlaceInstances.{place_count, first_place}
use Rattle.cpn_fuse.specs.Compound.{port_pairs_where}
use Rattle.cpn_fuse.specs.Views.{part_view, part_of_view, instance_view, instances_view}
use Rattle.cpn_fuse.specs.Answers.{AreUnfolded}
use Rattle.cpn_fuse.specs.declared.instances.PartOf.{PartOf}
use Rattle.cpn_fuse.specs.declared.instances.Instance.{Instance}
use Rattle.cpn_fuse.specs.declared.unfolding.Unfolded.{Unfolded}
use Rattle.cpn_fuse.proofs.InstanceLaws.{IsPart, instance_placed, substitution_in}
use Rattle.cpn_fuse.proofs.PlaceCounts.{sum_to_more, sum_to_le}
use Rattle.cpn_fuse.proofs.PlaceLaws.{IsPlace, number_below}
use Rattle.cpn_fuse.proofs.SeenHierarchies.{set_seen}

module _ (hierarchy : Hierarchy) (u : Unfolded) (are : AreUnfolded (hierarchy_view hierarchy) u) where
  abbrev pub h : PlainHierarchy
  h = hierarchy_view hierarchy

  abbrev pub is : List PlainInstance
  is = instances_view u.instances.items

  as_many : length is ≡ length u.instances.items
  as_many = length-map u.instances.items instance_view

  -- an instance that is read
  pub instance_read : (i : ℕ) (x : Instance) → i < length is → x ≡ slice_index_or u.instances.items i x → instance_at is i ≡ instance_view x
  instance_read i x lt e = get_or-map instance_view u.instances.items i x no_instance (rw (← as_many) lt) ∙ ap instance_view (sym e)

  -- each instance has a first place
  pub first_in : (i : ℕ) → i < length is → i < length u.first_places.items
  first_in i lt = rw are.first_places.each lt

  pub first_read : (i : ℕ) (n : ℕ) → i < length is → n ≡ slice_index_or u.first_places.items i n → n ≡ first_place h is i
  first_read i n lt e = get_or_read u.first_places.items i n (first_in i lt) e 0 ∙ are.first_places.first i lt

  -- the places of an instance are not past all
  pub whole_instance : (i : ℕ) → i < length is → first_place h is i + places_in (structure_at h (instance_at is i).of_module) ≤ u.places
  whole_instance i lt =
      let f = λ (x : PlainInstance). places_in (structure_at h x.of_module) in
      let more : first_place h is (i + 1) ≡ first_place h is i + f (instance_at is i) = sum_to_more f is i lt in
      let le : first_place h is (i + 1) ≤ place_count h is = sum_to_le f is (i + 1) in
      omega (arith, more, le, are.places)

  pub few_places : u.places ≤ 16384
  few_places = omega (arith, are.places, are.unfolded.few_places)

  -- the number of a place is a small one
  pub place_fits : (i p : ℕ) → IsPlace h is i p → first_place h is i + p < 2 ^ 32
  place_fits i p place = let below = number_below h is i p place in omega (arith, below, are.unfolded.few_places)

  module _ (numbers : HasItsNumbers h) where
    -- an instance's module
    pub module_in : (i : ℕ) (x : Instance) → i < length is → x ≡ slice_index_or u.instances.items i x → x.of_module < length h.modules
    module_in i x lt e = subst (λ (y : PlainInstance). y.of_module < length h.modules) (instance_read i x lt e) (instance_placed h numbers is are.unfolded.instances i lt).of_module

    -- where an instance stands
    pub part_read : (i : ℕ) (x : Instance) (part : PartOf) → i < length is → x ≡ slice_index_or u.instances.items i x → x.part_of ≡ Some part → (instance_at is i).part_of ≡ Some (part_view part)
    part_read i x part lt e is_part = ap (λ (y : PlainInstance). y.part_of) (instance_read i x lt e) ∙ ap part_of_view is_part

    pub its_part : (i : ℕ) (x : Instance) (part : PartOf) → i < length is → x ≡ slice_index_or u.instances.items i x → x.part_of ≡ Some part → IsPart h is i (instance_at is i).of_module (part_view part)
    its_part i x part lt e is_part = subst (λ o. IfSome o (IsPart h is i (instance_at is i).of_module)) (part_read i x part lt e is_part) (instance_placed h numbers is are.unfolded.instances i lt).part

    -- it stands behind the instance that it is a part of
    pub outer_in : (i : ℕ) (part : PartOf) → i < length is → IsPart h is i (instance_at is i).of_module (part_view part) → part.instance < length is
    outer_in i part lt placed = let before = placed.before in omega arith

    module _ (i : ℕ) (lt : i < length is) (part : PartOf) (placed : IsPart h is i (instance_at is i).of_module (part_view part)) (sub : Substitution) (is_sub : substitution_at h (instance_at is part.instance).of_module part.substitution ≡ substitution_view sub) where
      abbrev outer : ℕ
      outer = (instance_at is part.instance).of_module

      -- the socket and the port of an assignment that is read
      pub assigned_places : (k : ℕ) (d : Assigned) → k < length sub.assignments.items → IsPlace h is part.instance (get_or sub.assignments.items k d).socket × IsPlace h is i (get_or sub.assignments.items k d).port
      assigned_places k d k_in =
          let known = substitution_in h numbers outer part.substitution (instance_placed h numbers is are.unfolded.instances part.instance (outer_in i part lt placed)).of_module placed.substitution in
          let all = subst (λ (s : PlainSubstitution). All (IsAssignment (structure_at h outer) (structure_at h s.submodule)) s.assignments) is_sub known.assignments in
          let seen : get_or (map assigned_view sub.assignments.items) k (assigned_view d) ≡ assigned_view (get_or sub.assignments.items k d) = get_or-map assigned_view sub.assignments.items k d (assigned_view d) k_in in
          let assigned = subst (IsAssignment (structure_at h outer) (structure_at h sub.submodule)) seen (all k (assigned_view d) (rw (length-map sub.assignments.items assigned_view) k_in)) in
          let submodule : (instance_at is i).of_module ≡ sub.submodule = placed.submodule ∙ ap (λ (s : PlainSubstitution). s.submodule) is_sub in
          ((outer_in i part lt placed, assigned.socket), (lt, subst (λ (m : ℕ). (get_or sub.assignments.items k d).port < places_in (structure_at h m)) (sym submodule) assigned.port))

      -- the pairs of sockets and ports
      pub ports_read : (instance_at is i).part_of ≡ Some (part_view part) → (sockets ports : ℕ) → sockets ≡ first_place h is part.instance → ports ≡ first_place h is i → map (λ a. (sockets + a.socket, ports + a.port)) sub.assignments.items ≡ port_pairs_where h is i (instance_at is i).part_of
      ports_read is_part sockets ports is_sockets is_ports =
          rw (is_part, is_sub, is_sockets, is_ports) (sym (map-map (λ (a : PlainAssignment). (first_place h is part.instance + a.socket, first_place h is i + a.port)) assigned_view sub.assignments.items))

    module _ (number : ℕ) (set : FusionSet) (lt : number < length hierarchy.fusions.items) (e : set ≡ slice_index_or hierarchy.fusions.items number set) (k : ℕ) (d : FusedPlace) (k_in : k < length set.members.items) where
      -- a member that is read
      pub member_read : IsMember h (fused_view (get_or set.members.items k d))
      member_read =
          let set_in : number < length h.fusions = rw (length-map hierarchy.fusions.items fusion_set_view) lt in
          let all = subst (All (IsMember h)) (set_seen hierarchy number set lt e) (All-get_or (All (IsMember h)) h.fusions number [] set_in numbers.fusions) in
          let seen : get_or (map fused_view set.members.items) k (fused_view d) ≡ fused_view (get_or set.members.items k d) = get_or-map fused_view set.members.items k d (fused_view d) k_in in
          subst (IsMember h) seen (all k (fused_view d) (rw (length-map set.members.items fused_view) k_in))
