-- Transitions of instances whose places are all there.
use Rattle.std.specs.Prelude.{ℕ, ◌+◌, ◌<◌, List, length}
use Rattle.std.specs.List.{AllByRecursion}
use Rattle.cpn_definitions.specs.Net.{PlainArc, PlainTransition}
use Rattle.cpn_fuse.specs.Instances.{PlainInstance, instance_at}
use Rattle.cpn_fuse.specs.PlaceInstances.{first_place}
use Rattle.cpn_module.specs.Hierarchy.{PlainHierarchy}
use Rattle.cpn_accepted.specs.Nets.{PlainModuleNet}
use Rattle.cpn_flat.specs.FlatNet.{module_net_among}

-- each arc is at one of so many places, of an instance whose places are numbered from `first` on
abbrev pub AreAtItems : ℕ → ℕ → List PlainArc → Type 0
AreAtItems count first arcs = AllByRecursion (λ arc. first + arc.place < count) arcs

pub record HasItems (count first : ℕ) (t : PlainTransition) : Type 0 where
  pub inputs : AreAtItems count first t.inputs
  pub outputs : AreAtItems count first t.outputs

-- the same of each transition of each instance
abbrev pub HaveItems : PlainHierarchy → List PlainModuleNet → List PlainInstance → ℕ → Type 0
HaveItems h modules is count = (i : ℕ) → i < length is → AllByRecursion (HasItems count (first_place h is i)) (module_net_among modules (instance_at is i).of_module).transitions
