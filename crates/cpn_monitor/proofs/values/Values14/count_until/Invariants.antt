-- The first values count until the clock, and the others are as they were.
use Rattle.std.proofs.Common.{◌≡◌, ◌++◌, take, drop}
use Rattle.cpn_monitor.specs.Kept.{values_until}
use Rattle.cpn_monitor.specs.Views.{values_view}
use Rattle.cpn_monitor.proofs.values.Values14.count_until.Given as goal

abbrev pub invariant-loop-number : goal.invariant-loop-number
invariant-loop-number l = values_view l.self ≡ values_until l.clock (take l.number (values_view l.initial.self)) ++ drop l.number (values_view l.initial.self)
