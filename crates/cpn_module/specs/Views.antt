-- A hierarchy that the program has, as plain data.
use Rattle.std.specs.Prelude.{List, map}
use Rattle.cpn_module.specs.Hierarchy.{PlainEnds, PlainAssignment, PlainSubstitution, PlainStructure, PlainMember, PlainHierarchy}
use Rattle.cpn_module.specs.declared.hierarchy.Ends.{Ends}
use Rattle.cpn_module.specs.declared.hierarchy.Assigned.{Assigned}
use Rattle.cpn_module.specs.declared.hierarchy.Substitution.{Substitution}
use Rattle.cpn_module.specs.declared.hierarchy.Structure.{Structure}
use Rattle.cpn_module.specs.declared.hierarchy.FusedPlace.{FusedPlace}
use Rattle.cpn_module.specs.declared.hierarchy.FusionSet.{FusionSet}
use Rattle.cpn_module.specs.declared.hierarchy.Hierarchy.{Hierarchy}

abbrev pub ends_view : Ends → PlainEnds
ends_view ends = record { place = ends.place; node = ends.node; way = ends.way }

abbrev pub assigned_view : Assigned → PlainAssignment
assigned_view a = record { port = a.port; socket = a.socket }

abbrev pub substitution_view : Substitution → PlainSubstitution
substitution_view sub = record { submodule = sub.submodule; assignments = map assigned_view sub.assignments.items }

abbrev pub structure_view : Structure → PlainStructure
structure_view s = record { ports = s.ports.items; transitions = s.transitions; arcs = map ends_view s.arcs.items; substitutions = map substitution_view s.substitutions.items }

abbrev pub fused_view : FusedPlace → PlainMember
fused_view member = record { of_module = member.of_module; place = member.place }

abbrev pub fusion_set_view : FusionSet → List PlainMember
fusion_set_view fusion = map fused_view fusion.members.items

abbrev pub hierarchy_view : Hierarchy → PlainHierarchy
hierarchy_view h = record { top = h.top; modules = map structure_view h.modules.items; fusions = map fusion_set_view h.fusions.items }
