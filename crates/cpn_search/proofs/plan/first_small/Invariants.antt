-- The colour sets so far are not small.
use Rattle.std.proofs.Common.{take}
use Rattle.std.specs.List.{AllByRecursion}
use Rattle.cpn_definitions.specs.Net.{variable_at}
use Rattle.cpn_definitions.specs.Bindable.{IsSmall}
use Rattle.cpn_core.specs.Nets.{net_view}
use Rattle.cpn_search.proofs.plan.first_small.Given as goal

abbrev pub invariant-loop-variable : goal.invariant-loop-variable
invariant-loop-variable l = AllByRecursion (λ y. IsSmall (variable_at (net_view l.net) y).colour → ⊥) (take l.variable-index l.left)
