-- Instances that stand in instances before them.
use Rattle.std.specs.Prelude.{◌≡◌, ℕ, ◌<◌, List, length, Option, Some, None}
use Rattle.std.specs.List.{AllByRecursion}
use Rattle.cpn_module.specs.Hierarchy.{PlainHierarchy, structure_at, substitution_at}
use Rattle.cpn_fuse.specs.Instances.{PlainPart, PlainInstance, instance_at}

abbrev pub IsBehind : ℕ → Option PlainPart → Type 0
IsBehind i None = Unit {0}
IsBehind i (Some part) = part.instance < i

-- Each instance that stands in another stands behind it.
abbrev pub StandBehind : List PlainInstance → Type 0
StandBehind is = (i : ℕ) → i < length is → IsBehind i (instance_at is i).part_of

-- An instance of number i and of module m stands where its part says: in an instance before it, for a substitution transition of
-- that instance's module, whose submodule is m.
pub record StandsFor (h : PlainHierarchy) (is : List PlainInstance) (i m : ℕ) (part : PlainPart) : Type 0 where
  pub behind : part.instance < i
  pub substitution : part.substitution < length (structure_at h (instance_at is part.instance).of_module).substitutions
  pub submodule : m ≡ (substitution_at h (instance_at is part.instance).of_module part.substitution).submodule

abbrev pub IsPlaced : PlainHierarchy → List PlainInstance → ℕ → ℕ → Option PlainPart → Type 0
IsPlaced h is i m None = Unit {0}
IsPlaced h is i m (Some part) = StandsFor h is i m part

-- instances of modules, of which there are so many
abbrev pub AreOfModules : ℕ → List PlainInstance → Type 0
AreOfModules count is = AllByRecursion (λ x. x.of_module < count) is

-- Each instance that stands in another stands there as an instance of the submodule of one of its substitution transitions.
pub record ArePlaced (h : PlainHierarchy) (is : List PlainInstance) : Type 0 where
  pub placed : (i : ℕ) → i < length is → IsPlaced h is i (instance_at is i).of_module (instance_at is i).part_of
