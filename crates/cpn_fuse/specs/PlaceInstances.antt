-- Instances of places and of transitions. Each instance of a module has all of the module's places and transitions; they are
-- numbered instance by instance, and within one as the module lists them. Source: Jensen and Kristensen, chapter 6; the order is
-- an own choice.
use Rattle.std.specs.Prelude.{ℕ, ◌+◌, List, map, take, sum}
use Rattle.cpn_module.specs.Hierarchy.{PlainHierarchy, places_in, structure_at}
use Rattle.cpn_fuse.specs.Instances.{PlainInstance}

-- how many places each instance has, and how many transitions
abbrev pub place_counts : PlainHierarchy → List PlainInstance → List ℕ
place_counts h is = map (λ x. places_in (structure_at h x.of_module)) is

abbrev pub transition_counts : PlainHierarchy → List PlainInstance → List ℕ
transition_counts h is = map (λ x. (structure_at h x.of_module).transitions) is

-- how many there are of all
abbrev pub place_count : PlainHierarchy → List PlainInstance → ℕ
place_count h is = sum (place_counts h is)

abbrev pub transition_count : PlainHierarchy → List PlainInstance → ℕ
transition_count h is = sum (transition_counts h is)

-- the number of the first place of an instance, and of a place of it
abbrev pub first_place : PlainHierarchy → List PlainInstance → ℕ → ℕ
first_place h is i = sum (take i (place_counts h is))

abbrev pub place_number : PlainHierarchy → List PlainInstance → ℕ → ℕ → ℕ
place_number h is i p = first_place h is i + p
