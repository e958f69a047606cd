-- What a hierarchy unfolds to: its instances, of which there may not be too many, nor of places or transitions; or which of this
-- is passed first. Source: own choice.
use Rattle.std.specs.Prelude.{ℕ, ◌<◌, ◌≤◌, List, length, All}
use Rattle.cpn_module.specs.Hierarchy.{PlainHierarchy}
use Rattle.cpn_fuse.specs.Instances.{PlainInstance, AreInstances, AreMoreThan}
use Rattle.cpn_fuse.specs.PlaceInstances.{place_count, transition_count}

-- the most instances, place instances and transition instances
abbrev pub most_instances : ℕ
most_instances = 4096

abbrev pub most_places : ℕ
most_places = 16384

abbrev pub most_transitions : ℕ
most_transitions = 16384

-- what there are too many of
pub data UnfoldingRefusal : Type 0 where
  instances : UnfoldingRefusal
  places : UnfoldingRefusal
  transitions : UnfoldingRefusal

-- Why a hierarchy is refused: it has too many instances; or not, but these have too many places; or not, but too many transitions.
pub data IsRefusedFor (h : PlainHierarchy) : UnfoldingRefusal → Type 0 where
  many_instances : AreMoreThan h most_instances → IsRefusedFor h instances
  many_places : (is : List PlainInstance) → AreInstances h is → length is ≤ most_instances → most_places < place_count h is → IsRefusedFor h places
  many_transitions : (is : List PlainInstance) → AreInstances h is → length is ≤ most_instances → place_count h is ≤ most_places → most_transitions < transition_count h is → IsRefusedFor h transitions

-- Unfolded: the instances, not too many of anything.
pub record IsUnfolded (h : PlainHierarchy) (is : List PlainInstance) : Type 0 where
  pub instances : AreInstances h is
  pub few_instances : length is ≤ most_instances
  pub few_places : place_count h is ≤ most_places
  pub few_transitions : transition_count h is ≤ most_transitions

-- instances of modules that there are
abbrev pub AreInModules : PlainHierarchy → List PlainInstance → Type 0
AreInModules h is = All (λ x. x.of_module < length h.modules) is
