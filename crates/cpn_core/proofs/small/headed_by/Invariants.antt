-- The rows so far have the heads so far.
use Rattle.std.proofs.Common.{◌≡◌, map, take}
use Rattle.cpn_core.specs.Views.{value_view, rows_view}
use Rattle.cpn_core.specs.ShapeValues.{headed}
use Rattle.cpn_core.proofs.small.headed_by.Given as goal

abbrev pub invariant-loop-head : goal.invariant-loop-head
invariant-loop-head l = rows_view l.longer.items ≡ headed (map value_view (take l.head-index l.head-items)) (rows_view l.rows.items)
