-- The texts of JSON pointers into a document. Source: own choice.
use Rattle.std.specs.Prelude.{ℕ, List, [], ◌++◌, codes}
use Rattle.std.specs.Fmt.{decimal}
use Rattle.cpn_document.specs.declared.pointers.Pointer.{Pointer}
use Rattle.cpn_document.specs.declared.pointers.Pointer.TheVariants as at
use Rattle.cpn_document.specs.declared.pointers.ModulePart.{ModulePart}
use Rattle.cpn_document.specs.declared.pointers.ModulePart.TheVariants as of_module
use Rattle.cpn_document.specs.declared.pointers.PlacePart.{PlacePart}
use Rattle.cpn_document.specs.declared.pointers.PlacePart.TheVariants as of_place
use Rattle.cpn_document.specs.declared.pointers.TransitionPart.{TransitionPart}
use Rattle.cpn_document.specs.declared.pointers.TransitionPart.TheVariants as of_transition
use Rattle.cpn_document.specs.declared.pointers.ArcPart.{ArcPart}
use Rattle.cpn_document.specs.declared.pointers.ArcPart.TheVariants as of_arc
use Rattle.cpn_document.specs.declared.pointers.SubPart.{SubPart}
use Rattle.cpn_document.specs.declared.pointers.SubPart.TheVariants as of_sub
use Rattle.cpn_document.specs.declared.pointers.AssignmentPart.{AssignmentPart}
use Rattle.cpn_document.specs.declared.pointers.AssignmentPart.TheVariants as of_assignment
use Rattle.cpn_document.specs.declared.pointers.FusionPart.{FusionPart}
use Rattle.cpn_document.specs.declared.pointers.FusionPart.TheVariants as of_fusion
use Rattle.cpn_document.specs.declared.pointers.MemberPart.{MemberPart}
use Rattle.cpn_document.specs.declared.pointers.MemberPart.TheVariants as of_member
use Rattle.cpn_document.specs.declared.pointers.MonitorPart.{MonitorPart}
use Rattle.cpn_document.specs.declared.pointers.MonitorPart.TheVariants as of_monitor
use Rattle.cpn_document.specs.declared.pointers.PhasePart.{PhasePart}
use Rattle.cpn_document.specs.declared.pointers.PhasePart.TheVariants as of_phase
use Rattle.cpn_document.specs.declared.pointers.EditPart.{EditPart}
use Rattle.cpn_document.specs.declared.pointers.EditPart.TheVariants as of_edit

-- the pointers of the parts of a place, a transition, an arc, an assignment, a member, a monitor and an edit behind that of the whole
abbrev pub place_text : PlacePart → List ℕ
place_text of_place.Whole = []
place_text of_place.Name = codes "/name"
place_text of_place.Colour = codes "/colour"
place_text of_place.Initial = codes "/initial"
place_text of_place.Port = codes "/port"

abbrev pub transition_text : TransitionPart → List ℕ
transition_text of_transition.Whole = []
transition_text of_transition.Name = codes "/name"
transition_text of_transition.Guard = codes "/guard"
transition_text of_transition.Delay = codes "/delay"

abbrev pub arc_text : ArcPart → List ℕ
arc_text of_arc.Whole = []
arc_text of_arc.Place = codes "/place"
arc_text of_arc.Transition = codes "/transition"
arc_text of_arc.To = codes "/to"
arc_text of_arc.Expr = codes "/expr"

abbrev pub assignment_text : AssignmentPart → List ℕ
assignment_text of_assignment.Whole = []
assignment_text of_assignment.Port = codes "/port"
assignment_text of_assignment.Socket = codes "/socket"

abbrev pub member_text : MemberPart → List ℕ
member_text of_member.Whole = []
member_text of_member.Module = codes "/module"
member_text of_member.Place = codes "/place"

abbrev pub monitor_text : MonitorPart → List ℕ
monitor_text of_monitor.Whole = []
monitor_text of_monitor.Name = codes "/name"
monitor_text of_monitor.Kind = codes "/kind"
monitor_text of_monitor.Transition = codes "/transition"
monitor_text of_monitor.Place = codes "/place"
monitor_text of_monitor.Expr = codes "/expr"
monitor_text of_monitor.Op = codes "/op"
monitor_text of_monitor.N = codes "/n"

abbrev pub edit_text : EditPart → List ℕ
edit_text of_edit.Whole = []
edit_text of_edit.Kind = codes "/kind"
edit_text of_edit.Transition = codes "/transition"
edit_text of_edit.Place = codes "/place"
edit_text of_edit.Text = codes "/text"

-- an item of a list, by its number, and a part of it
abbrev pub item_text : List ℕ → ℕ → List ℕ → List ℕ
item_text list i part = list ++ (decimal i ++ part)

abbrev pub sub_text : SubPart → List ℕ
sub_text of_sub.Whole = []
sub_text of_sub.Name = codes "/name"
sub_text of_sub.Module = codes "/module"
sub_text of_sub.Assign = codes "/assign"
sub_text (of_sub.Assignment i part) = item_text (codes "/assign/") i (assignment_text part)

abbrev pub module_text : ModulePart → List ℕ
module_text of_module.Whole = []
module_text of_module.Name = codes "/name"
module_text of_module.Places = codes "/places"
module_text (of_module.Place i part) = item_text (codes "/places/") i (place_text part)
module_text of_module.Transitions = codes "/transitions"
module_text (of_module.Transition i part) = item_text (codes "/transitions/") i (transition_text part)
module_text of_module.Arcs = codes "/arcs"
module_text (of_module.Arc i part) = item_text (codes "/arcs/") i (arc_text part)
module_text of_module.Subs = codes "/subs"
module_text (of_module.Sub i part) = item_text (codes "/subs/") i (sub_text part)

abbrev pub fusion_text : FusionPart → List ℕ
fusion_text of_fusion.Whole = []
fusion_text of_fusion.Name = codes "/name"
fusion_text of_fusion.Members = codes "/members"
fusion_text (of_fusion.Member i part) = item_text (codes "/members/") i (member_text part)

abbrev pub phase_text : PhasePart → List ℕ
phase_text of_phase.Whole = []
phase_text of_phase.Start = codes "/start"
phase_text of_phase.Edits = codes "/edits"
phase_text (of_phase.Edit i part) = item_text (codes "/edits/") i (edit_text part)

-- The text of a pointer into a document; that of the whole document is empty.
abbrev pub pointer_text : Pointer → List ℕ
pointer_text at.Root = []
pointer_text at.Version = codes "/version"
pointer_text at.Declarations = codes "/declarations"
pointer_text (at.Declaration i) = item_text (codes "/declarations/") i []
pointer_text at.Top = codes "/top"
pointer_text at.Modules = codes "/modules"
pointer_text (at.Module i part) = item_text (codes "/modules/") i (module_text part)
pointer_text at.Fusions = codes "/fusions"
pointer_text (at.Fusion i part) = item_text (codes "/fusions/") i (fusion_text part)
pointer_text at.Monitors = codes "/monitors"
pointer_text (at.Monitor i part) = item_text (codes "/monitors/") i (monitor_text part)
pointer_text at.Phases = codes "/phases"
pointer_text (at.Phase i part) = item_text (codes "/phases/") i (phase_text part)
