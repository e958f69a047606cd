-- How the instances are found: which of them have come, and which wait. Source: own choice.
use Rattle.std.specs.Prelude.{◌<◌, List, [], ◌∷◌, ◌++◌, length, drop, All}
use Rattle.cpn_module.specs.Hierarchy.{PlainHierarchy, structure_at}
use Rattle.cpn_fuse.specs.Instances.{PlainInstance, parts_from, ComeFirst, top_of}
use Rattle.cpn_fuse.specs.declared.preorder.Waiting.{Waiting}

-- the parts of an instance that wait: those for its module's substitution transitions from one on
abbrev pub parts_from_on : PlainHierarchy → Waiting → List PlainInstance
parts_from_on h w = parts_from w.part.instance w.part.substitution (drop w.part.substitution (structure_at h w.of_module).substitutions)

-- all that wait, where those that were put down last come first
abbrev pub waiting_instances : PlainHierarchy → List Waiting → List PlainInstance
waiting_instances h [] = []
waiting_instances h (w ∷ ws) = waiting_instances h ws ++ parts_from_on h w

-- parts of which there is one at least
pub record IsWaiting (h : PlainHierarchy) (w : Waiting) : Type 0 where
  pub of_module : w.of_module < length h.modules
  pub substitution : w.part.substitution < length (structure_at h w.of_module).substitutions

abbrev pub AreWaiting : PlainHierarchy → List Waiting → Type 0
AreWaiting h ws = All (IsWaiting h) ws

-- these instances have come, and those wait behind them
abbrev pub HaveCome : PlainHierarchy → List PlainInstance → List PlainInstance → Type 0
HaveCome h is later = ComeFirst h 0 (top_of h ∷ []) is later
