-- The head stands ahead of each of the rows so far.
use Rattle.std.proofs.Common.{◌≡◌, ◌++◌, map, take}
use Rattle.cpn_definitions.specs.Value.{more}
use Rattle.cpn_core.specs.Views.{value_view, rows_view}
use Rattle.cpn_core.proofs.small.push_headed.Given as goal

abbrev pub invariant-loop-row : goal.invariant-loop-row
invariant-loop-row l = rows_view l.longer.items ≡ rows_view l.fn.longer.items ++ map (more (value_view l.head)) (rows_view (take l.row-index l.row-items))
