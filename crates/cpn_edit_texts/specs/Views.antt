-- The plain edits that those of the program stand for.
use Rattle.std.specs.Prelude.{List, map}
use Rattle.cpn_core.specs.Nets.{transition_view}
use Rattle.cpn_edit_texts.specs.Edits.{PlainEdit, edits_guard, edits_initial, EditedPhase}
use Rattle.cpn_edit_texts.specs.declared.edits.Edit.{Edit}
use Rattle.cpn_edit_texts.specs.declared.edits.Edit.TheVariants as edits
use Rattle.cpn_edit_texts.specs.declared.edits.Phase.{Phase}

abbrev pub edit_view : Edit → PlainEdit
edit_view (edits.Guard transition edited) = edits_guard transition (transition_view edited)
edit_view (edits.Initial place tokens) = edits_initial place tokens

abbrev pub edits_view : List Edit → List PlainEdit
edits_view edits = map edit_view edits

abbrev pub phase_view : Phase → EditedPhase
phase_view phase = record { start = phase.start; edits = edits_view phase.edits.items }

abbrev pub phases_view : List Phase → List EditedPhase
phases_view phases = map phase_view phases
