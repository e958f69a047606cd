-- Which monitor stops a run after an occurrence. Source: own choice.
use Rattle.std.specs.Prelude.{ℕ, suc, ◌==◌, Bool, false, ◌&&◌, nat_le, List, take, Option, Some, None, slice_get}
use Rattle.std.specs.List.{position}
use Rattle.cpn_monitor.specs.Monitors.{PlainMonitor, PlainMeasure, counts, sizes, values, stops_by_count, stops_by_size, PlainBound, at_least, at_most}
use Rattle.cpn_monitor.specs.MeasuredRuns.{MarkedOccurrence, is_of, size_on}
use Rattle.cpn_monitor.specs.MonitorValues.{count_of}

-- whether a size is one at which a monitor stops
abbrev pub is_within : PlainBound → ℕ → ℕ → Bool
is_within at_least n size = nat_le n size
is_within at_most n size = nat_le size n

-- Whether a measure stops the run after an occurrence, which is the last of some: it is the n-th of the transition; or it leaves so
-- many tokens on the place.
abbrev pub stops_after : MarkedOccurrence → List MarkedOccurrence → PlainMeasure → Bool
stops_after marked occurrences (counts t) = false
stops_after marked occurrences (sizes p) = false
stops_after marked occurrences (values t e) = false
stops_after marked occurrences (stops_by_count t n) = is_of t marked && (count_of t occurrences == n)
stops_after marked occurrences (stops_by_size p bound n) = is_within bound n (size_on p marked.after)

-- the first of the monitors that stops after the last of the occurrences
abbrev pub first_stop : List PlainMonitor → List MarkedOccurrence → Option MarkedOccurrence → Option ℕ
first_stop monitors occurrences None = None
first_stop monitors occurrences (Some marked) = position (λ monitor. stops_after marked occurrences monitor.measure) monitors

-- Stops: the first monitor, by its number, that stops the run after occurrence i, if one does.
abbrev pub stop_after : List PlainMonitor → List MarkedOccurrence → ℕ → Option ℕ
stop_after monitors occurrences i = first_stop monitors (take (suc i) occurrences) (slice_get occurrences i)
