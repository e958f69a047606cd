-- The copies so far are of those so far.
use Rattle.std.proofs.Common.{◌≡◌, map, take}
use Rattle.cpn_core.specs.Nets.{variable_view}
use Rattle.cpn_declared.proofs.parts.variables_of.Given as goal

abbrev pub invariant-loop-variable : goal.invariant-loop-variable
invariant-loop-variable l = map variable_view l.copies.items ≡ map variable_view (take l.variable-index l.variables)
