-- The lines so far are written; with the rest they are those of all the monitors.
use Rattle.std.proofs.Common.{◌≡◌, ◌++◌, map, drop}
use Rattle.std.specs.List.{flat_map}
use Rattle.std.specs.String.{string_bytes}
use Rattle.cpn_monitor.specs.Views.{value_view}
use Rattle.cpn_report.specs.Lines.{ended}
use Rattle.cpn_report.specs.MonitorText.{monitor_text}
use Rattle.cpn_report.proofs.monitors.push_monitor_lines.Given as goal

abbrev pub invariant-loop-value : goal.invariant-loop-value
invariant-loop-value l =
    string_bytes l.out ++ flat_map (λ value. ended (monitor_text value)) (map value_view (drop l.value-index l.value-items))
    ≡ string_bytes l.initial.out ++ flat_map (λ value. ended (monitor_text value)) (map value_view l.value-items)
