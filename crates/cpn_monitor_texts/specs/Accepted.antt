-- Monitors that are accepted in a net, apart from how they are written. Source: own choice.
use Rattle.std.specs.Prelude.{◌≡◌, ◌<◌, List, length}
use Rattle.std.specs.List.{AllByRecursion}
use Rattle.cpn_definitions.specs.Net.{PlainNet, transition_at}
use Rattle.cpn_monitor.specs.Monitors.{PlainMonitor, PlainMeasure, counts, sizes, values, stops_by_count, stops_by_size}
use Rattle.cpn_trees.specs.Trees.{PlainAst}
use Rattle.cpn_typing.specs.Names.{Declared, ok}
use Rattle.cpn_monitor_texts.specs.Variables.{value_over}

-- What is measured is in the net: its transition or its place is, and its inscription is one that is accepted over the variables of its
-- transition.
abbrev pub IsAcceptedMeasure : Declared → PlainNet → PlainMeasure → Type 0
IsAcceptedMeasure ds n (counts t) = t < length n.transitions
IsAcceptedMeasure ds n (sizes p) = p < length n.places
IsAcceptedMeasure ds n (values t e) = (t < length n.transitions) × ((tree : PlainAst) × (value_over ds (transition_at n t).vars tree ≡ ok e))
IsAcceptedMeasure ds n (stops_by_count t number) = t < length n.transitions
IsAcceptedMeasure ds n (stops_by_size p bound number) = p < length n.places

-- each of the monitors measures so
abbrev pub AreAcceptedMonitors : Declared → PlainNet → List PlainMonitor → Type 0
AreAcceptedMonitors ds n monitors = AllByRecursion (λ (m : PlainMonitor). IsAcceptedMeasure ds n m.measure) monitors
