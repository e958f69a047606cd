-- What the calls answer. Source: own choice.
use Rattle.std.specs.Prelude.{◌≡◌, ℕ, ◌<◌, List, length, slice_index, Option, Some, None}
use Rattle.cpn_module.specs.Hierarchy.{PlainHierarchy}
use Rattle.cpn_fuse.specs.Instances.{PlainInstance}
use Rattle.cpn_fuse.specs.PlaceInstances.{place_count, transition_count, first_place}
use Rattle.cpn_fuse.specs.Unfolded.{UnfoldingRefusal, instances, places, transitions, IsUnfolded}
use Rattle.cpn_fuse.specs.Views.{instances_view}
use Rattle.cpn_fuse.specs.declared.refusals.UnfoldError.{UnfoldError}
use Rattle.cpn_fuse.specs.declared.refusals.UnfoldError.TheVariants as errors
use Rattle.cpn_fuse.specs.declared.unfolding.Unfolded.{Unfolded}

-- the refusal that an error is; want of memory is none
abbrev pub refusal_of : UnfoldError → Option UnfoldingRefusal
refusal_of errors.Memory = None
refusal_of errors.Instances = Some instances
refusal_of errors.Places = Some places
refusal_of errors.Transitions = Some transitions

-- the numbers of the first places of the instances
pub record AreFirstPlaces (h : PlainHierarchy) (is : List PlainInstance) (firsts : List ℕ) : Type 0 where
  pub each : length firsts ≡ length is
  pub first : (i : ℕ) → i < length is → slice_index firsts i ≡ first_place h is i

-- What a hierarchy unfolds to, as the program has it: the instances, the numbers of their first places, and how many places and
-- transitions there are.
pub record AreUnfolded (h : PlainHierarchy) (u : Unfolded) : Type 0 where
  pub unfolded : IsUnfolded h (instances_view u.instances.items)
  pub first_places : AreFirstPlaces h (instances_view u.instances.items) u.first_places.items
  pub places : u.places ≡ place_count h (instances_view u.instances.items)
  pub transitions : u.transitions ≡ transition_count h (instances_view u.instances.items)
