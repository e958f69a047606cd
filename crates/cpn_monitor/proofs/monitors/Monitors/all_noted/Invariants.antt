-- What the monitors of the numbers so far have noted.
use Rattle.std.proofs.Common.{◌≡◌, map, take}
use Rattle.std.specs.List.{AllByRecursion}
use Rattle.cpn_core.specs.Inscriptions.{funs_view}
use Rattle.cpn_monitor.specs.Noted.{IsNoted}
use Rattle.cpn_monitor.specs.Views.{monitors_view, values_view, noted_view, marked_view}
use Rattle.cpn_monitor.specs.declared.noting.Noted.{Noted}
use Rattle.cpn_monitor.proofs.monitors.Monitors.all_noted.Given as goal

abbrev pub invariant-loop-number : goal.invariant-loop-number
invariant-loop-number l = record {
  noted : AllByRecursion (IsNoted (funs_view l.self.funs.value) (marked_view l.occurrence l.after) (monitors_view l.self) (values_view l.values)) (map noted_view l.noted.items);
  numbers : map (λ (one : Noted). one.number) l.noted.items ≡ take l.number-index l.numbers;
}
