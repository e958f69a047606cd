-- What the monitors of a document are in its net, or the first refusal. The monitors are checked one after another: of each first the
-- name of its transition or its place, and then its text. Source: own choice.
use Rattle.std.specs.Prelude.{ℕ, List}
use Rattle.cpn_definitions.specs.Inscription.{PlainExpr}
use Rattle.cpn_definitions.specs.Net.{PlainNet, transition_at}
use Rattle.cpn_document.specs.Monitors.{RawMonitorKind, RawMonitor, count, size, value, stop_count, stop_size}
use Rattle.cpn_document.specs.declared.document.Bound.{Bound}
use Rattle.cpn_document.specs.declared.document.Bound.TheVariants as written
use Rattle.cpn_module_trees.specs.Parsing.{IsInscription}
use Rattle.cpn_monitor.specs.Monitors.{PlainMonitor, PlainMeasure, counts, sizes, values, stops_by_count, stops_by_size, PlainBound, at_least, at_most}
use Rattle.cpn_readings.specs.Relations.{just, such_that, ◌>>=◌, each_so}
use Rattle.cpn_typing.specs.Names.{Declared}
use Rattle.cpn_monitor_texts.specs.Named.{transition_named, place_named, known}
use Rattle.cpn_monitor_texts.specs.Reading.{Reading, read}
use Rattle.cpn_monitor_texts.specs.Texts.{inscription_of}

-- a bound on numbers of tokens, as it is written
abbrev pub bound_of : Bound → PlainBound
bound_of written.AtLeast = at_least
bound_of written.AtMost = at_most

-- the inscription that the text of the monitor of a number is, over these variables
unfoldable pub inscription_so : Declared → ℕ → List ℕ → List ℕ → Reading PlainExpr → Type 0
inscription_so ds i vars text = do
  parsing ← such_that (IsInscription text)
  just (inscription_of ds i vars parsing)

-- What the monitor of a number measures, by what is written: transitions and places by their numbers, and an inscription over the
-- variables of its transition.
unfoldable pub measure_so : Declared → PlainNet → ℕ → RawMonitorKind → Reading PlainMeasure → Type 0
measure_so ds n i (count transition) = do
  t ← just (known i (transition_named n transition))
  just (read (counts t))
measure_so ds n i (size place) = do
  p ← just (known i (place_named n place))
  just (read (sizes p))
measure_so ds n i (value transition text) = do
  t ← just (known i (transition_named n transition))
  e ← inscription_so ds i (transition_at n t).vars text
  just (read (values t e))
measure_so ds n i (stop_count transition number) = do
  t ← just (known i (transition_named n transition))
  just (read (stops_by_count t number))
measure_so ds n i (stop_size place bound number) = do
  p ← just (known i (place_named n place))
  just (read (stops_by_size p (bound_of bound) number))

-- the monitor, under the name that is written
unfoldable pub monitor_so : Declared → PlainNet → ℕ → RawMonitor → Reading PlainMonitor → Type 0
monitor_so ds n i monitor = do
  measure ← measure_so ds n i monitor.kind
  just (read (record { name = monitor.name; measure = measure }))

-- The monitors of a document in its net, in their order, or the first refusal. There is at most one such reading.
abbrev pub monitors_so : Declared → PlainNet → List RawMonitor → Reading (List PlainMonitor) → Type 0
monitors_so ds n monitors = each_so (monitor_so ds n) 0 monitors
