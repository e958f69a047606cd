-- Monitors that measure values at the occurrences of a transition whose variables are others now. Source: own choice.
use Rattle.std.specs.Prelude.{ℕ, ◌==◌, ◌<◌, if◌then◌else◌, List, [], ◌∷◌, length}
use Rattle.std.specs.List.{AllByRecursion}
use Rattle.cpn_definitions.specs.Bindable.{variables_of}
use Rattle.cpn_definitions.specs.Inscription.{PlainExpr}
use Rattle.cpn_monitor.specs.Monitors.{PlainMonitor, PlainMeasure, counts, sizes, values, stops_by_count, stops_by_size}
use Rattle.cpn_monitor_texts.specs.Variables.{over}
use Rattle.cpn_typing.specs.Names.{Declared, Checked, ok, ◌>>=◌}

-- an inscription has no other variables than these: the first other one is refused
abbrev pub still_over : Declared → List ℕ → PlainExpr → Checked (Unit {0})
still_over ds vars e = over ds vars e >>= (λ same. ok tt)

-- nor has what is measured, where it is measured at the occurrences of the transition
abbrev pub measure_over : Declared → ℕ → List ℕ → PlainMeasure → Checked (Unit {0})
measure_over ds t vars (counts u) = ok tt
measure_over ds t vars (sizes p) = ok tt
measure_over ds t vars (values u e) = (if u == t then still_over ds vars e else ok tt)
measure_over ds t vars (stops_by_count u number) = ok tt
measure_over ds t vars (stops_by_size p bound number) = ok tt

-- Nor has what each of the monitors measures, in their order.
unfoldable pub measured_over : Declared → ℕ → List ℕ → List PlainMonitor → Checked (Unit {0})
measured_over ds t vars [] = ok tt
measured_over ds t vars (m ∷ ms) = measure_over ds t vars m.measure >>= (λ first. measured_over ds t vars ms)

-- the variables of what is measured are declared
abbrev pub IsDeclared : Declared → PlainMeasure → Type 0
IsDeclared ds (counts u) = Unit {0}
IsDeclared ds (sizes p) = Unit {0}
IsDeclared ds (values u e) = AllByRecursion (λ x. x < length ds.variables) (variables_of e)
IsDeclared ds (stops_by_count u number) = Unit {0}
IsDeclared ds (stops_by_size p bound number) = Unit {0}
