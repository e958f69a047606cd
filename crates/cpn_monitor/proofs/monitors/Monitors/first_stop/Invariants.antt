-- The least of the numbers so far whose monitor stops the run.
use Rattle.std.proofs.Common.{take}
use Rattle.cpn_definitions.specs.Marking.{Marking}
use Rattle.cpn_monitor.specs.Noted.{stops_number, IsLeastOf}
use Rattle.cpn_monitor.specs.Views.{monitors_view, values_view, marked_view}
use Rattle.cpn_monitor.proofs.monitors.Monitors.first_stop.Given as goal

abbrev pub invariant-loop-number : goal.invariant-loop-number
invariant-loop-number l = (after : Marking) → IsLeastOf (stops_number (marked_view l.occurrence after) (monitors_view l.self) (values_view l.values)) (take l.number-index l.numbers) l.first
