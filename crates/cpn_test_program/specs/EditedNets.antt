-- A net that may be edited, a marking of it, and an index that keeps what is enabled there. Source: own choice.
use Rattle.std.specs.Prelude.{◌≡◌}
use Rattle.cpn_core.specs.Nets.{net_view}
use Rattle.cpn_declared.specs.DeclsViews.{decls_view}
use Rattle.cpn_definitions.specs.Sound.{IsSound, IsMarking}
use Rattle.cpn_index.specs.Index.{clock_in, IsIndexOf}
use Rattle.cpn_monitor.specs.Views.{monitors_view}
use Rattle.cpn_test_program.specs.Editable.{IsEditable}
use Rattle.cpn_test_program.specs.declared.edited_nets.EditedNet.{EditedNet}

-- Edited: a sound net, one of its markings, and the index of both at the clock; and edits of the net are checked.
pub record IsEditedNet (held : EditedNet) : Type 0 where
  pub sound : IsSound (net_view held.net)
  pub marking : IsMarking (net_view held.net).places held.marking
  pub enabled : IsIndexOf (net_view held.net) held.marking held.index
  pub at : clock_in held.index ≡ held.clock
  pub editable : IsEditable (decls_view held.decls) (net_view held.net) (monitors_view held.monitors)
