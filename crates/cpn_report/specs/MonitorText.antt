-- What monitors measured, as text. Source: own choice.
use Rattle.std.specs.Prelude.{ℕ, ℤ, List, [], ◌++◌, codes, Option, Some, None, slice_index_or}
use Rattle.std.specs.Fmt.{decimal}
use Rattle.cpn_monitor.specs.MonitorValues.{PlainMeasured, counted, sized, valued, counted_to_stop, sized_to_stop, PlainMonitorValue}
use Rattle.cpn_report.specs.ValueText.{int_text}

-- the value of the monitor of a number, from 0
abbrev pub value_at : List PlainMonitorValue → ℕ → PlainMonitorValue
value_at values k = slice_index_or values k (record { name = []; measured = counted 0 })

-- an integer that may be missing
abbrev pub bound_text : Option ℤ → List ℕ
bound_text None = codes "none"
bound_text (Some z) = int_text z

-- sizes: the least, the greatest and the last one, and their sum over time
abbrev pub sizes_text : ℕ → ℕ → ℕ → ℕ → List ℕ
sizes_text least greatest last sum = codes "size " ++ decimal least ++ codes " " ++ decimal greatest ++ codes " " ++ decimal last ++ codes " " ++ decimal sum

-- integers: how many there are, their sum, the least and the greatest of them, and how many faults came in their place
abbrev pub integers_text : ℕ → ℤ → Option ℤ → Option ℤ → ℕ → List ℕ
integers_text count sum least greatest faulted =
    codes "value " ++ decimal count ++ codes " " ++ int_text sum ++ codes " " ++ bound_text least ++ codes " " ++ bound_text greatest ++ codes " " ++ decimal faulted

-- the kind of a monitor, and the numbers that it measured; the time up to which a sum counts is that of the last clock
abbrev pub measured_text : PlainMeasured → List ℕ
measured_text (counted n) = codes "count " ++ decimal n
measured_text (sized least greatest last sum until) = sizes_text least greatest last sum
measured_text (valued count sum least greatest faulted) = integers_text count sum least greatest faulted
measured_text (counted_to_stop n) = codes "stop_count " ++ decimal n
measured_text (sized_to_stop last) = codes "stop_size " ++ decimal last

-- the line of a monitor: its kind, its numbers, its name
unfoldable pub monitor_text : PlainMonitorValue → List ℕ
monitor_text value = codes "monitor " ++ measured_text value.measured ++ codes " " ++ value.name
