-- The plain monitors and values that those of the program stand for.
use Rattle.std.specs.Prelude.{List, map, string_bytes}
use Rattle.cpn_core.specs.Inscriptions.{expr_view}
use Rattle.cpn_core.specs.Elements.{element_view}
use Rattle.cpn_core.specs.declared.occurrences.Occurrence.{Occurrence}
use Rattle.cpn_definitions.specs.Marking.{Marking}
use Rattle.cpn_monitor.specs.Monitors.{PlainMonitor, PlainMeasure, counts, sizes, values, stops_by_count, stops_by_size, PlainBound, at_least, at_most}
use Rattle.cpn_monitor.specs.MonitorValues.{PlainMeasured, counted, sized, valued, counted_to_stop, sized_to_stop, PlainMonitorValue}
use Rattle.cpn_monitor.specs.MeasuredRuns.{MarkedOccurrence}
use Rattle.cpn_monitor.specs.Noted.{PlainNoted}
use Rattle.cpn_monitor.specs.Looks.{PlainLook, at_transition, at_place}
use Rattle.cpn_monitor.specs.Watched.{PlainWatched}
use Rattle.cpn_monitor.specs.Kept.{PlainMeasuring}
use Rattle.cpn_monitor.specs.declared.measuring.Measuring.{Measuring}
use Rattle.cpn_monitor.specs.declared.watched.Watched.{Watched}
use Rattle.cpn_monitor.specs.declared.noting.Noted.{Noted}
use Rattle.cpn_monitor.specs.declared.monitors.Bound.{Bound}
use Rattle.cpn_monitor.specs.declared.monitors.Bound.TheVariants as bounds
use Rattle.cpn_monitor.specs.declared.monitors.Look.{Look}
use Rattle.cpn_monitor.specs.declared.monitors.Look.TheVariants as looks
use Rattle.cpn_monitor.specs.declared.monitors.Measure.{Measure}
use Rattle.cpn_monitor.specs.declared.monitors.Measure.TheVariants as measures
use Rattle.cpn_monitor.specs.declared.monitors.Monitor.{Monitor}
use Rattle.cpn_monitor.specs.declared.monitors.Monitors.{Monitors}
use Rattle.cpn_monitor.specs.declared.values.Measured.{Measured}
use Rattle.cpn_monitor.specs.declared.values.Measured.TheVariants as numbers
use Rattle.cpn_monitor.specs.declared.values.MonitorValue.{MonitorValue}
use Rattle.cpn_monitor.specs.declared.values.Values14.{Values14}

abbrev pub bound_view : Bound → PlainBound
bound_view bounds.AtLeast = at_least
bound_view bounds.AtMost = at_most

abbrev pub measure_view : Measure → PlainMeasure
measure_view (measures.Count t) = counts t
measure_view (measures.Size p) = sizes p
measure_view (measures.Value t e) = values t (expr_view e)
measure_view (measures.StopCount t n) = stops_by_count t n
measure_view (measures.StopSize p bound n) = stops_by_size p (bound_view bound) n

abbrev pub monitor_view : Monitor → PlainMonitor
monitor_view monitor = record { name = string_bytes monitor.name; measure = measure_view monitor.measure }

abbrev pub monitors_view : Monitors → List PlainMonitor
monitors_view monitors = map monitor_view monitors.monitors.items

-- what was measured
abbrev pub measured_view : Measured → PlainMeasured
measured_view (numbers.Count n) = counted n
measured_view (numbers.Size those) = sized those.least those.greatest those.last those.sum those.until
measured_view (numbers.Value those) = valued those.count those.sum those.least those.greatest those.faulted
measured_view (numbers.StopCount n) = counted_to_stop n
measured_view (numbers.StopSize last) = sized_to_stop last

abbrev pub value_view : MonitorValue → PlainMonitorValue
value_view value = record { name = string_bytes value.name; measured = measured_view value.measured }

abbrev pub values_view : Values14 → List PlainMonitorValue
values_view all = map value_view all.values.items

abbrev pub look_view : Look → PlainLook
look_view (looks.AtTransition t) = at_transition t
look_view (looks.AtPlace p) = at_place p

abbrev pub watched_view : Watched → PlainWatched
watched_view w = record { of_transition = w.of_transition; of_place = w.of_place }

abbrev pub measuring_view : Measuring → PlainMeasuring
measuring_view m = record { values = values_view m.values; watched = watched_view m.watched; beside = m.beside; is_quiet = m.is_quiet }

abbrev pub noted_view : Noted → PlainNoted
noted_view noted = record { number = noted.number; measured = measured_view noted.measured }

-- an occurrence with the marking after it
abbrev pub marked_view : Occurrence → Marking → MarkedOccurrence
marked_view o after = record { occurrence = record { element = element_view o.element.value; time = o.time }; after = after }
