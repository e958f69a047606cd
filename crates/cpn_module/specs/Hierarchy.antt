-- A hierarchy: how the modules of a document are put together, with everything by its number. Modules are numbered as the
-- document lists them; places, transitions, arcs and substitution transitions as their module does.
-- Source: Jensen and Kristensen, chapter 6.
use Rattle.std.specs.Prelude.{ℕ, ◌<◌, List, [], length, slice_index_or, Option, None}
use Rattle.cpn_document.specs.declared.document.Way.{Way}
use Rattle.cpn_document.specs.declared.document.PortType.{PortType}
use Rattle.cpn_module.specs.declared.hierarchy.Node.{Node}

-- An arc: the place and the node that it joins, a transition or a substitution transition, and whither it leads.
pub record PlainEnds : Type 0 where
  pub place : ℕ
  pub node : Node
  pub way : Way

-- An assignment: a port of the submodule and its socket, a place of the module.
pub record PlainAssignment : Type 0 where
  pub port : ℕ
  pub socket : ℕ

-- A substitution transition: its submodule and its assignments.
pub record PlainSubstitution : Type 0 where
  pub submodule : ℕ
  pub assignments : List PlainAssignment

-- A module: what port each of its places is, where it is one; how many transitions it has, its arcs, its substitution
-- transitions.
pub record PlainStructure : Type 0 where
  pub ports : List (Option PortType)
  pub transitions : ℕ
  pub arcs : List PlainEnds
  pub substitutions : List PlainSubstitution

-- A member of a fusion set: a place of a module.
pub record PlainMember : Type 0 where
  pub of_module : ℕ
  pub place : ℕ

-- A hierarchy: its top module, its modules, its fusion sets.
pub record PlainHierarchy : Type 0 where
  pub top : ℕ
  pub modules : List PlainStructure
  pub fusions : List (List PlainMember)

-- ---- what stands at a number

abbrev pub no_structure : PlainStructure
no_structure = record { ports = []; transitions = 0; arcs = []; substitutions = [] }

abbrev pub no_substitution : PlainSubstitution
no_substitution = record { submodule = 0; assignments = [] }

-- how many places a module has
abbrev pub places_in : PlainStructure → ℕ
places_in s = length s.ports

-- what port the place of a number is
abbrev pub port_at : PlainStructure → ℕ → Option PortType
port_at s p = slice_index_or s.ports p None

-- the module of a number, and its substitution transition of a number
abbrev pub structure_at : PlainHierarchy → ℕ → PlainStructure
structure_at h m = slice_index_or h.modules m no_structure

abbrev pub substitution_at : PlainHierarchy → ℕ → ℕ → PlainSubstitution
substitution_at h m i = slice_index_or (structure_at h m).substitutions i no_substitution

-- ---- modules as parts of modules

-- A module is part of another one that has a substitution transition for it, and then of each that this one is part of.
pub data IsPartOf (h : PlainHierarchy) : ℕ → ℕ → Type 0 where
  submodule : (m i : ℕ) → m < length h.modules → i < length (structure_at h m).substitutions → IsPartOf h (substitution_at h m i).submodule m
  through : (l m n : ℕ) → IsPartOf h l m → IsPartOf h m n → IsPartOf h l n

-- no module is part of itself
abbrev pub IsAcyclic : PlainHierarchy → Type 0
IsAcyclic h = (m : ℕ) → IsPartOf h m m → ⊥

-- The first module that is part of itself.
pub record IsFirstInItself (h : PlainHierarchy) (m : ℕ) : Type 0 where
  pub part : IsPartOf h m m
  pub first : (n : ℕ) → n < m → IsPartOf h n n → ⊥
