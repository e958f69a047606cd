-- The rows so far are those of the last shapes; the values so far are those of the first constructors.
use Rattle.std.proofs.Common.{◌≡◌, ◌++◌, ◌-◌, map, drop, length}
use Rattle.cpn_core.specs.Views.{value_view, rows_view}
use Rattle.cpn_core.specs.Colours.{shapes_view, constructors_view}
use Rattle.cpn_core.specs.ShapeValues.{rows_in, constructed_in}
use Rattle.cpn_core.proofs.small.+list.Given as goal

abbrev pub invariant-rows_in-loop-done : goal.invariant-rows_in-loop-done
invariant-rows_in-loop-done l = rows_view l.rows.items ≡ rows_in (shapes_view (drop (length l.shapes.items - l.done) l.shapes.items))

abbrev pub invariant-constructed-loop-place : goal.invariant-constructed-loop-place
invariant-constructed-loop-place l =
    map value_view l.values.items ++ constructed_in (constructors_view (drop l.place l.constructors.items)) l.place ≡ constructed_in (constructors_view l.constructors.items) 0
