-- Those so far, and those of the variables that are looked at later, are those of all.
use Rattle.std.proofs.Common.{◌≡◌, ◌++◌, drop}
use Rattle.cpn_stages.specs.Stages.{those_without}
use Rattle.cpn_search.proofs.plan.without.Given as goal

abbrev pub invariant-loop-variable : goal.invariant-loop-variable
invariant-loop-variable l = l.left.items ++ those_without l.others (drop l.variable-index l.variables) ≡ those_without l.others l.variables
