-- What an accepted edit leaves: a net that may be edited further, of which nothing but a guard has changed.
use Rattle.std.proofs.Common.{List, length}
use Rattle.cpn_definitions.specs.Net.{PlainNet}
use Rattle.cpn_document.specs.declared.pointers.Pointer.TheVariants.{Root}
use Rattle.cpn_edit_texts.specs.Edits.{PlainEdit, net_after, initial_after, AreAlikeButGuards}
use Rattle.cpn_edit_texts.specs.Ready.{IsThere}
use Rattle.cpn_edit_texts.proofs.EditedNets.{edit_ready}
use Rattle.cpn_edit_texts.proofs.KeptNets.{edit_keeps, edit_there}
use Rattle.cpn_monitor.specs.Monitors.{PlainMonitor}
use Rattle.cpn_typing.specs.Names.{Declared}
use Rattle.cpn_test_program.specs.Editable.{IsEditable, IsAccepted}

module _ (ds : Declared) (n : PlainNet) (monitors : List PlainMonitor) (edit : PlainEdit) where
  pub accepted_there : IsAccepted ds n monitors edit → IsThere (length n.transitions) (length n.places) edit
  accepted_there is = edit_there ds n monitors Root Root is.written edit is.reads

  pub accepted_alike : IsAccepted ds n monitors edit → AreAlikeButGuards (net_after n edit) n
  accepted_alike is = edit_keeps ds n monitors Root Root is.written edit is.reads

  pub accepted_editable : IsEditable ds n monitors → IsAccepted ds n monitors edit → IsEditable ds (net_after n edit) monitors
  accepted_editable may is = record { initial = initial_after may.initial edit; ready = edit_ready ds n may.initial monitors may.ready Root Root is.written edit is.reads }
