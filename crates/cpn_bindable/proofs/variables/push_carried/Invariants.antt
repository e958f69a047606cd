-- What was found so far and what is left to find are what is to be found.
use Rattle.std.proofs.Common.{◌≡◌, ◌++◌, drop}
use Rattle.cpn_core.specs.Nets.{arcs_view}
use Rattle.cpn_bindable.specs.Known.{carried_variables}
use Rattle.cpn_bindable.proofs.variables.push_carried.Given as goal

abbrev pub invariant-loop-arc : goal.invariant-loop-arc
invariant-loop-arc l = l.found.items ++ carried_variables (arcs_view (drop l.arc-index l.arcs)) ≡ l.initial.found.items ++ carried_variables (arcs_view l.arcs)
