-- The monitors so far are those of the document so far.
use Rattle.std.proofs.Common.{map, take}
use Rattle.cpn_core.specs.Nets.{net_view}
use Rattle.cpn_declared.specs.DeclsViews.{decls_view}
use Rattle.cpn_document.specs.Views.{monitor_view}
use Rattle.cpn_monitor.specs.Views.{monitor_view as measured_view}
use Rattle.cpn_readings.proofs.RelatedLists.{AreRead}
use Rattle.cpn_monitor_texts.specs.Checked.{monitor_so}
use Rattle.cpn_monitor_texts.proofs.checking.each_monitor.Given as goal

abbrev pub invariant-loop-number : goal.invariant-loop-number
invariant-loop-number l = AreRead (monitor_so (decls_view l.decls) (net_view l.net)) 0 (map monitor_view (take l.number l.written)) (map measured_view l.monitors.items)
