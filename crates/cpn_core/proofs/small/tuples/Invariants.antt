-- The values so far are the tuples of the rows so far.
use Rattle.std.proofs.Common.{◌≡◌, map}
use Rattle.cpn_definitions.specs.Value.{tuple}
use Rattle.cpn_core.specs.Views.{value_view, rows_view}
use Rattle.cpn_core.proofs.small.tuples.Given as goal

abbrev pub invariant-loop-row : goal.invariant-loop-row
invariant-loop-row l = map value_view l.values.items ≡ map tuple (rows_view l.yielded)
