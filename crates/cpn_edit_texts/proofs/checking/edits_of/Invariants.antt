-- The edits so far are those that are written so far, each in the first net.
use Rattle.std.proofs.Common.{map, take}
use Rattle.cpn_core.specs.Nets.{net_view}
use Rattle.cpn_declared.specs.DeclsViews.{decls_view}
use Rattle.cpn_document.specs.Views.{edit_view as written_view}
use Rattle.cpn_monitor.specs.Views.{monitors_view}
use Rattle.cpn_readings.proofs.RelatedLists.{AreRead}
use Rattle.cpn_edit_texts.specs.Views.{edits_view}
use Rattle.cpn_edit_texts.proofs.AlikeEdits.{edit_of}
use Rattle.cpn_edit_texts.proofs.checking.edits_of.Given as goal

abbrev pub invariant-loop-number : goal.invariant-loop-number
invariant-loop-number l = AreRead (edit_of (decls_view l.decls) (monitors_view l.monitors) (net_view l.named) l.phase) 0 (map written_view (take l.number l.written)) (edits_view l.edits.items)
