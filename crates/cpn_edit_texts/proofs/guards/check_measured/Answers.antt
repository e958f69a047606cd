-- The variables of each monitor are declared, as those of all are.
use Rattle.std.proofs.Common.{List, map, sym, subst}
use Rattle.std.specs.List.{AllByRecursion}
use Rattle.cpn_declared.specs.DeclsViews.{decls_view}
use Rattle.cpn_monitor.specs.Monitors.{PlainMonitor}
use Rattle.cpn_monitor.specs.Views.{monitor_view}
use Rattle.cpn_monitor.specs.declared.monitors.Monitor.{Monitor}
use Rattle.cpn_edit_texts.specs.Measured.{IsDeclared}
use Rattle.cpn_edit_texts.proofs.NetTransitions.{item_seen}
use Rattle.cpn_edit_texts.proofs.guards.check_measured.Goals as goal

pub check_measure-requires : goal.check_measure-requires
check_measure-requires c = record {
  declared = (
      let P : PlainMonitor → Type 0 = λ (m : PlainMonitor). IsDeclared (decls_view c.args.decls.now) m.measure in
      let items = c.deref-monitor-items in
      item_seen P monitor_view items.result.now c.loop-monitor.monitor-index c.monitor-item.result c.loop-monitor-test.true c.monitor-item.is
      (subst (λ (ms : List Monitor). AllByRecursion P (map monitor_view ms)) (sym items.ensures.value) c.requires.declared));
}
