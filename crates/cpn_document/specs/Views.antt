-- A document that the program has read, as plain data.
use Rattle.std.specs.Prelude.{map, option_map, string_bytes}
use Rattle.cpn_document.specs.Document.{RawPlace, RawTransition, RawArc, RawAssignment, RawSub, RawModule, RawMember, RawFusion, RawDocument}
use Rattle.cpn_document.specs.Monitors.{RawMonitorKind, RawMonitor, count, size, value, stop_count, stop_size}
use Rattle.cpn_document.specs.Phases.{RawEdit, RawPhase, guard, initial}
use Rattle.cpn_document.specs.declared.document.Place.{Place}
use Rattle.cpn_document.specs.declared.document.Transition.{Transition}
use Rattle.cpn_document.specs.declared.document.Arc.{Arc}
use Rattle.cpn_document.specs.declared.document.Assignment.{Assignment}
use Rattle.cpn_document.specs.declared.document.Sub.{Sub}
use Rattle.cpn_document.specs.declared.document.Module.{Module}
use Rattle.cpn_document.specs.declared.document.Member.{Member}
use Rattle.cpn_document.specs.declared.document.Fusion.{Fusion}
use Rattle.cpn_document.specs.declared.document.MonitorKind.{MonitorKind}
use Rattle.cpn_document.specs.declared.document.MonitorKind.TheVariants as kinds
use Rattle.cpn_document.specs.declared.document.Monitor.{Monitor}
use Rattle.cpn_document.specs.declared.document.Edit.{Edit}
use Rattle.cpn_document.specs.declared.document.Edit.TheVariants as edits
use Rattle.cpn_document.specs.declared.document.Phase.{Phase}
use Rattle.cpn_document.specs.declared.document.Document.{Document}

abbrev pub place_view : Place → RawPlace
place_view place = record { name = string_bytes place.name; colour = string_bytes place.colour; initial = option_map string_bytes place.initial; port = place.port }

abbrev pub transition_view : Transition → RawTransition
transition_view transition = record { name = string_bytes transition.name; guard = option_map string_bytes transition.guard; delay = option_map string_bytes transition.delay }

abbrev pub arc_view : Arc → RawArc
arc_view arc = record { place = string_bytes arc.place; transition = string_bytes arc.transition; way = arc.way; expr = option_map string_bytes arc.expr }

abbrev pub assignment_view : Assignment → RawAssignment
assignment_view assignment = record { port = string_bytes assignment.port; socket = string_bytes assignment.socket }

abbrev pub sub_view : Sub → RawSub
sub_view sub = record { name = string_bytes sub.name; submodule = string_bytes sub.submodule; assign = map assignment_view sub.assign.items }

abbrev pub module_view : Module → RawModule
module_view m = record { name = string_bytes m.name; places = map place_view m.places.items; transitions = map transition_view m.transitions.items; arcs = map arc_view m.arcs.items; subs = map sub_view m.subs.items }

abbrev pub member_view : Member → RawMember
member_view member = record { of_module = string_bytes member.«module»; place = string_bytes member.place }

abbrev pub fusion_view : Fusion → RawFusion
fusion_view fusion = record { name = string_bytes fusion.name; members = map member_view fusion.members.items }

abbrev pub kind_view : MonitorKind → RawMonitorKind
kind_view (kinds.Count transition) = count (string_bytes transition)
kind_view (kinds.Size place) = size (string_bytes place)
kind_view (kinds.Value transition expr) = value (string_bytes transition) (string_bytes expr)
kind_view (kinds.StopCount transition n) = stop_count (string_bytes transition) n
kind_view (kinds.StopSize place op n) = stop_size (string_bytes place) op n

abbrev pub monitor_view : Monitor → RawMonitor
monitor_view monitor = record { name = string_bytes monitor.name; kind = kind_view monitor.kind }

abbrev pub edit_view : Edit → RawEdit
edit_view (edits.Guard transition text) = guard (string_bytes transition) (string_bytes text)
edit_view (edits.Initial place text) = initial (string_bytes place) (string_bytes text)

abbrev pub phase_view : Phase → RawPhase
phase_view phase = record { start = phase.start; edits = map edit_view phase.edits.items }

abbrev pub document_view : Document → RawDocument
document_view document = record { version = document.version; declarations = map string_bytes document.declarations.items; top = string_bytes document.top; modules = map module_view document.modules.items; fusions = map fusion_view document.fusions.items; monitors = map monitor_view document.monitors.items; phases = map phase_view document.phases.items }
