-- What the monitors so far have measured stands.
use Rattle.std.proofs.Common.{◌≡◌, map, take}
use Rattle.cpn_monitor.specs.Noted.{with_noted}
use Rattle.cpn_monitor.specs.Views.{noted_view, values_view}
use Rattle.cpn_monitor.proofs.values.Values14.replace.Given as goal

abbrev pub invariant-loop-one : goal.invariant-loop-one
invariant-loop-one l = values_view l.self ≡ with_noted (map noted_view (take l.one-index l.noted)) (values_view l.initial.self)
