-- Place instances by their numbers: the place of a number of an instance is that place of its module, under its joined name. There
-- are as many places, initial markings and transitions as the hierarchy says.
use Rattle.std.proofs.Common.{◌≡◌, ℕ, ◌+◌, ◌<◌, List, length, ap, ◌∙◌, arith}
use Rattle.std.specs.Prelude.{None, slice_index_or}
use Rattle.std.proofs.lemmas.List.{length-map, get_or-map}
use Rattle.std.proofs.lemmas.List.Elements.{All-from_recursion, recursion_from_All, All-get_or}
use Rattle.cpn_definitions.specs.Net.{nothing}
use Rattle.cpn_classes.specs.Numbering.{Numbering}
use Rattle.cpn_module.specs.Hierarchy.{places_in, structure_at}
use Rattle.cpn_accepted.specs.Nets.{PlainAccepted, no_module_net, module_net_at, IsWellNet, IsWellAccepted}
use Rattle.cpn_fuse.specs.Instances.{PlainInstance, no_instance, instance_at}
use Rattle.cpn_fuse.specs.PlaceInstances.{place_count, transition_count, place_number}
use Rattle.cpn_fuse.specs.Unfolded.{AreInModules}
use Rattle.cpn_flat.specs.Names.{name_at}
use Rattle.cpn_flat.specs.FlatNet.{joined_place, places_at, all_places, transitions_at, all_transitions}
use Rattle.cpn_flat.specs.InitialMarking.{initials_at, all_initials}
use Rattle.cpn_flat.proofs.InstanceLookups.{number_below, HaveAsMany, length-each, at_number}

module _ (accepted : PlainAccepted) (well : IsWellAccepted accepted) where
  -- the module of a number is well
  pub net_well : (m : ℕ) → m < length accepted.hierarchy.modules → IsWellNet accepted.declared (module_net_at accepted m)
  net_well m lt =
      let e = well.each in
      All-get_or (IsWellNet accepted.declared) accepted.modules m no_module_net (omega (arith, lt, e)) (All-from_recursion (IsWellNet accepted.declared) accepted.modules well.nets)

  pub places_of_module : (m : ℕ) → m < length accepted.hierarchy.modules → length (module_net_at accepted m).places ≡ places_in (structure_at accepted.hierarchy m)
  places_of_module m lt = let e = well.each in well.places m (omega (arith, lt, e))

  module _ (is : List PlainInstance) (within : AreInModules accepted.hierarchy is) where
    -- the module of an instance is one of the modules
    pub module_in : (i : ℕ) → i < length is → (instance_at is i).of_module < length accepted.hierarchy.modules
    module_in i lt = within i no_instance lt

    module _ (names : List (List ℕ)) where
      as_many_places : HaveAsMany (places_at accepted.modules names) (λ x. places_in (structure_at accepted.hierarchy x.of_module)) is
      as_many_places = recursion_from_All (λ x. (i : ℕ) → length (places_at accepted.modules names i x) ≡ places_in (structure_at accepted.hierarchy x.of_module)) is
          (λ k d lt i. length-map _ (joined_place (name_at names i)) ∙ places_of_module _ (within k d lt))

      -- there are as many place instances as the hierarchy says
      pub length-all_places : length (all_places accepted.modules is names) ≡ place_count accepted.hierarchy is
      length-all_places = length-each (places_at accepted.modules names) (λ x. places_in (structure_at accepted.hierarchy x.of_module)) 0 is as_many_places

      -- the place of a number of an instance
      pub place_of : (i p : ℕ) → i < length is → p < places_in (structure_at accepted.hierarchy (instance_at is i).of_module)
          → slice_index_or (all_places accepted.modules is names) (place_number accepted.hierarchy is i p) nothing ≡ joined_place (name_at names i) (slice_index_or (module_net_at accepted (instance_at is i).of_module).places p nothing)
      place_of i p lt in_x =
          let many = places_of_module (instance_at is i).of_module (module_in i lt) in
          at_number (places_at accepted.modules names) (λ x. places_in (structure_at accepted.hierarchy x.of_module)) 0 is i p nothing as_many_places lt in_x
          ∙ get_or-map (joined_place (name_at names (0 + i))) (module_net_at accepted (instance_at is i).of_module).places p nothing nothing (omega (arith, in_x, many))
          ∙ ap (λ k. joined_place (name_at names k) (slice_index_or (module_net_at accepted (instance_at is i).of_module).places p nothing)) (let e : 0 + i ≡ i = omega arith in e)

    -- its number is one of all
    pub place_in_all : (i p : ℕ) → i < length is → p < places_in (structure_at accepted.hierarchy (instance_at is i).of_module) → place_number accepted.hierarchy is i p < place_count accepted.hierarchy is
    place_in_all = number_below (λ x. places_in (structure_at accepted.hierarchy x.of_module)) is

    as_many_initials : HaveAsMany (initials_at accepted.modules) (λ x. places_in (structure_at accepted.hierarchy x.of_module)) is
    as_many_initials = recursion_from_All (λ x. (i : ℕ) → length (initials_at accepted.modules i x) ≡ places_in (structure_at accepted.hierarchy x.of_module)) is
        (λ k d lt i. (net_well _ (within k d lt)).as_many ∙ places_of_module _ (within k d lt))

    -- there are as many initial markings, each of which may be written
    pub length-all_initials : length (all_initials accepted.modules is) ≡ place_count accepted.hierarchy is
    length-all_initials = length-each (initials_at accepted.modules) (λ x. places_in (structure_at accepted.hierarchy x.of_module)) 0 is as_many_initials

    -- that of the place of a number of an instance
    pub initial_of : (i p : ℕ) → i < length is → p < places_in (structure_at accepted.hierarchy (instance_at is i).of_module)
        → slice_index_or (all_initials accepted.modules is) (place_number accepted.hierarchy is i p) None ≡ slice_index_or (module_net_at accepted (instance_at is i).of_module).initials p None
    initial_of i p = at_number (initials_at accepted.modules) (λ x. places_in (structure_at accepted.hierarchy x.of_module)) 0 is i p None as_many_initials

    -- there are as many transition instances
    pub length-all_transitions : (names : List (List ℕ)) (classes : Numbering) → length (all_transitions accepted.hierarchy accepted.modules is names classes) ≡ transition_count accepted.hierarchy is
    length-all_transitions names classes = length-each (transitions_at accepted.hierarchy accepted.modules is names classes) (λ x. (structure_at accepted.hierarchy x.of_module).transitions) 0 is
        (recursion_from_All (λ x. (i : ℕ) → length (transitions_at accepted.hierarchy accepted.modules is names classes i x) ≡ (structure_at accepted.hierarchy x.of_module).transitions) is
        (λ k d lt i. length-map _ _ ∙ (let e = well.each in let in_modules = within k d lt in well.transitions _ (omega (arith, in_modules, e)))))
