-- How compound places are found: by fewer pairs, which join the same. The picked instance of each member's place is joined to that
-- of its fusion set's first member, and each other instance of the place to the picked one. Source: own choice.
use Rattle.std.specs.Prelude.{◌≡◌, ◌↔◌, ℕ, zero, suc, ◌+◌, ◌<◌, Bool, true, false, if◌then◌else◌, List, [], ◌∷◌, ◌++◌, map, length, slice_index_or, Contains, Option, Some, None, IsSome}
use Rattle.std.specs.List.{filter_map, flat_map}
use Rattle.std.specs.Option.{option_map}
use Rattle.cpn_module.specs.Hierarchy.{PlainMember, PlainHierarchy, places_in, structure_at}
use Rattle.cpn_fuse.specs.Instances.{PlainInstance, instance_at}
use Rattle.cpn_fuse.specs.PlaceInstances.{first_place, place_number}

-- One instance is picked of each module that has any.
pub record ArePicked (is : List PlainInstance) (picked : List (Option ℕ)) : Type 0 where
  -- what is picked of a module is an instance of it
  pub instance : (m i : ℕ) → slice_index_or picked m None ≡ Some i → (i < length is) × ((instance_at is i).of_module ≡ m)
  -- where there is an instance, one is picked
  pub each : (i : ℕ) → i < length is → IsSome (slice_index_or picked (instance_at is i).of_module None)

-- the place of a member of a fusion set in the picked instance, where there is one
abbrev pub picked_place : PlainHierarchy → List PlainInstance → List (Option ℕ) → PlainMember → Option ℕ
picked_place h is picked member = option_map (λ i. place_number h is i member.place) (slice_index_or picked member.of_module None)

-- those of all members of a fusion set, and of all fusion sets
abbrev pub picked_places : PlainHierarchy → List PlainInstance → List (Option ℕ) → List PlainMember → List ℕ
picked_places h is picked members = filter_map (picked_place h is picked) members

abbrev pub all_picked : PlainHierarchy → List PlainInstance → List (Option ℕ) → List (List PlainMember) → List ℕ
all_picked h is picked fusions = flat_map (picked_places h is picked) fusions

-- the first of some numbers with each of them
abbrev pub with_first : List ℕ → List (ℕ × ℕ)
with_first [] = []
with_first (x ∷ xs) = map (λ y. (x, y)) (x ∷ xs)

-- the picked places of each fusion set, joined
abbrev pub set_pairs : PlainHierarchy → List PlainInstance → List (Option ℕ) → List (List PlainMember) → List (ℕ × ℕ)
set_pairs h is picked fusions = flat_map (λ members. with_first (picked_places h is picked members)) fusions

-- just these numbers are marked
abbrev pub AreMarked : List Bool → List ℕ → Type 0
AreMarked marks numbers = (q : ℕ) → (slice_index_or marks q false ≡ true) ↔ Contains numbers q

-- the marked ones of so many places from one on, each with the one that stands as far from another
abbrev pub marked_pairs : List Bool → ℕ → ℕ → ℕ → List (ℕ × ℕ)
marked_pairs marks one other zero = []
marked_pairs marks one other (suc n) = marked_pairs marks one other n ++ (if slice_index_or marks (one + n) false then (one + n, other + n) ∷ [] else [])

-- the marked places of the picked instance of a module with those of another instance of it
abbrev pub copies_of : PlainHierarchy → List PlainInstance → List Bool → ℕ → Option ℕ → List (ℕ × ℕ)
copies_of h is marks i None = []
copies_of h is marks i (Some one) = marked_pairs marks (first_place h is one) (first_place h is i) (places_in (structure_at h (instance_at is i).of_module))

-- the same of the first so many instances
abbrev pub copies : PlainHierarchy → List PlainInstance → List (Option ℕ) → List Bool → ℕ → List (ℕ × ℕ)
copies h is picked marks zero = []
copies h is picked marks (suc i) = copies h is picked marks i ++ copies_of h is marks i (slice_index_or picked (instance_at is i).of_module None)
