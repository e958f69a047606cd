-- A net whose guards may be set, since edits of it are checked. Source: own choice.
use Rattle.std.specs.Prelude.{List}
use Rattle.cpn_definitions.specs.Marking.{Marking}
use Rattle.cpn_definitions.specs.Net.{PlainNet}
use Rattle.cpn_document.specs.Phases.{RawEdit}
use Rattle.cpn_document.specs.declared.pointers.Pointer.TheVariants.{Root}
use Rattle.cpn_edit_texts.specs.Checked.{edit_so}
use Rattle.cpn_edit_texts.specs.Edits.{PlainEdit}
use Rattle.cpn_edit_texts.specs.Reading.{read}
use Rattle.cpn_edit_texts.specs.Ready.{IsReady}
use Rattle.cpn_monitor.specs.Monitors.{PlainMonitor}
use Rattle.cpn_typing.specs.Names.{Declared}

-- Editable: with some initial marking the net is ready for a run and for edits.
pub record IsEditable (ds : Declared) (n : PlainNet) (monitors : List PlainMonitor) : Type 0 where
  pub initial : Marking
  pub ready : IsReady ds n initial monitors

-- Accepted: it is what an edit that is written is in the net.
pub record IsAccepted (ds : Declared) (n : PlainNet) (monitors : List PlainMonitor) (edit : PlainEdit) : Type 0 where
  pub written : RawEdit
  pub reads : edit_so ds n monitors Root Root written (read edit)
