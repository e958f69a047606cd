-- A hierarchy in which each number is that of something. Source: own choice.
use Rattle.std.specs.Prelude.{◌<◌, length, All}
use Rattle.cpn_module.specs.declared.hierarchy.Node.{Node}
use Rattle.cpn_module.specs.declared.hierarchy.Node.TheVariants as nodes
use Rattle.cpn_module.specs.Hierarchy.{PlainEnds, PlainAssignment, PlainSubstitution, PlainStructure, PlainMember, PlainHierarchy, places_in, structure_at}

abbrev pub IsNode : PlainStructure → Node → Type 0
IsNode s (nodes.Transition t) = t < s.transitions
IsNode s (nodes.Substitution i) = i < length s.substitutions

-- the place and the node of an arc
pub record AreEnds (s : PlainStructure) (arc : PlainEnds) : Type 0 where
  pub place : arc.place < places_in s
  pub node : IsNode s arc.node

-- the port and the socket of an assignment
pub record IsAssignment (s submodule : PlainStructure) (a : PlainAssignment) : Type 0 where
  pub port : a.port < places_in submodule
  pub socket : a.socket < places_in s

-- the submodule of a substitution transition, and its assignments
pub record IsSubstitution (h : PlainHierarchy) (s : PlainStructure) (sub : PlainSubstitution) : Type 0 where
  pub submodule : sub.submodule < length h.modules
  pub assignments : All (IsAssignment s (structure_at h sub.submodule)) sub.assignments

pub record IsStructure (h : PlainHierarchy) (s : PlainStructure) : Type 0 where
  pub arcs : All (AreEnds s) s.arcs
  pub substitutions : All (IsSubstitution h s) s.substitutions

pub record IsMember (h : PlainHierarchy) (member : PlainMember) : Type 0 where
  pub of_module : member.of_module < length h.modules
  pub place : member.place < places_in (structure_at h member.of_module)

-- Each number of a hierarchy is that of something.
pub record HasItsNumbers (h : PlainHierarchy) : Type 0 where
  pub top : h.top < length h.modules
  pub modules : All (IsStructure h) h.modules
  pub fusions : All (All (IsMember h)) h.fusions
