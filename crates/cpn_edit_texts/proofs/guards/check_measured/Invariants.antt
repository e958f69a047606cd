-- What the monitors so far measure has no other variables, so what is left decides.
use Rattle.std.proofs.Common.{◌≡◌, map, drop}
use Rattle.cpn_declared.specs.DeclsViews.{decls_view}
use Rattle.cpn_monitor.specs.Views.{monitor_view, monitors_view}
use Rattle.cpn_edit_texts.specs.Measured.{measured_over}
use Rattle.cpn_edit_texts.proofs.guards.check_measured.Given as goal

abbrev pub invariant-loop-monitor : goal.invariant-loop-monitor
invariant-loop-monitor l = measured_over (decls_view l.decls) l.transition l.vars (monitors_view l.monitors) ≡ measured_over (decls_view l.decls) l.transition l.vars (map monitor_view (drop l.monitor-index l.monitors.monitors.items))
