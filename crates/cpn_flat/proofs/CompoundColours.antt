-- What holds of the colour set of each place of each module holds of those of the compound places, which have the colour sets of their
-- first members.
use Rattle.std.proofs.Common.{◌≡◌, ℕ, ◌+◌, ◌<◌, List, length, sym, subst, arith}
use Rattle.std.specs.Prelude.{slice_index_or}
use Rattle.std.specs.List.{AllByRecursion}
use Rattle.std.proofs.lemmas.List.{length-map, get_or-map}
use Rattle.std.proofs.lemmas.List.Elements.{All-from_recursion, All-get_or}
use Rattle.cpn_definitions.specs.Net.{Coloured, nothing}
use Rattle.cpn_definitions.proofs.RisingLists.{each_mapped, each_implied}
use Rattle.cpn_classes.specs.Numbering.{Numbering, first_of}
use Rattle.cpn_accepted.specs.Nets.{PlainAccepted, module_net_at, IsWellAccepted}
use Rattle.cpn_fuse.specs.Instances.{PlainInstance, instance_at}
use Rattle.cpn_fuse.specs.Compound.{AreCompound}
use Rattle.cpn_fuse.specs.Unfolded.{AreInModules}
use Rattle.cpn_flat.specs.Names.{name_at}
use Rattle.cpn_flat.specs.FlatNet.{joined_place, places_at, all_places, compound_places}
use Rattle.cpn_flat.proofs.InstanceLookups.{of_each}
use Rattle.cpn_flat.proofs.PlaceLookups.{module_in, length-all_places}

module _ (accepted : PlainAccepted) (well : IsWellAccepted accepted) (is : List PlainInstance) (names : List (List ℕ)) (classes : Numbering) (compound : AreCompound accepted.hierarchy is classes) (within : AreInModules accepted.hierarchy is) where
  -- of a place, whatever its name; and of each place of each module
  module _ (P : Coloured → Type 0) (joined : (whole : List ℕ) (c : Coloured) → P c → P (joined_place whole c)) (own : (m : ℕ) → m < length accepted.hierarchy.modules → AllByRecursion P (module_net_at accepted m).places) where
    of_instance : (i : ℕ) → i < length is → AllByRecursion P (places_at accepted.modules names i (instance_at is i))
    of_instance i lt =
        each_mapped P (joined_place (name_at names i)) (module_net_at accepted (instance_at is i).of_module).places
        (each_implied P (λ c. P (joined_place (name_at names i) c)) (module_net_at accepted (instance_at is i).of_module).places (joined (name_at names i)) (own (instance_at is i).of_module (module_in accepted well is within i lt)))

    of_places : AllByRecursion P (all_places accepted.modules is names)
    of_places = of_each (places_at accepted.modules names) P 0 is
        (λ i lt. subst (λ k. AllByRecursion P (places_at accepted.modules names k (instance_at is i))) (let e : i ≡ 0 + i = omega arith in e) (of_instance i lt))

    -- It holds of each compound place.
    pub of_compound : (k : ℕ) (d : Coloured) → k < length (compound_places accepted.modules is names classes) → P (slice_index_or (compound_places accepted.modules is names classes) k d)
    of_compound k d lt =
        subst P (sym (get_or-map (λ (first : ℕ). slice_index_or (all_places accepted.modules is names) first nothing) classes.firsts k 0 d is_class))
        (All-get_or P (all_places accepted.modules is names) (first_of classes k) nothing
        (let item = compound.in_order.is_item k is_class in let every = compound.each in let many = length-all_places accepted well is within names in omega (arith, item, every, many))
        (All-from_recursion P (all_places accepted.modules is names) of_places))
      where
        is_class : k < length classes.firsts
        is_class = let e = length-map classes.firsts (λ (first : ℕ). slice_index_or (all_places accepted.modules is names) first nothing) in omega (arith, lt, e)
