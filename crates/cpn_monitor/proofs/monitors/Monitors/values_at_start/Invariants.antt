-- The values of the monitors so far.
use Rattle.std.proofs.Common.{◌≡◌, map, take}
use Rattle.cpn_definitions.specs.Inscription.{Functions}
use Rattle.cpn_monitor.specs.MonitorValues.{values_of}
use Rattle.cpn_monitor.specs.MeasuredRuns.{begun}
use Rattle.cpn_monitor.specs.Views.{monitor_view, value_view}
use Rattle.cpn_monitor.proofs.monitors.Monitors.values_at_start.Given as goal

abbrev pub invariant-loop-monitor : goal.invariant-loop-monitor
invariant-loop-monitor l = (funs : Functions) → map value_view l.values.items ≡ values_of funs (map monitor_view (take l.monitor-index l.self.monitors.items)) (begun l.marking l.clock)
