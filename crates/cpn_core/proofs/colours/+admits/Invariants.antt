-- The values have the shapes, or each of them the shape, exactly where those that are left do.
use Rattle.std.proofs.Common.{◌≡◌, drop}
use Rattle.cpn_definitions.specs.Colour.{have_shapes, all_have_shape}
use Rattle.cpn_core.specs.Views.{values_view}
use Rattle.cpn_core.specs.Colours.{shape_view, shapes_view}
use Rattle.cpn_core.proofs.colours.+admits.Given as goal

abbrev pub invariant-have_shapes-loop-i : goal.invariant-have_shapes-loop-i
invariant-have_shapes-loop-i l =
    have_shapes (values_view l.values.items) (shapes_view l.shapes.items) ≡ have_shapes (values_view (drop l.i l.values.items)) (shapes_view (drop l.i l.shapes.items))

abbrev pub invariant-all_have_shape-loop-value : goal.invariant-all_have_shape-loop-value
invariant-all_have_shape-loop-value l =
    all_have_shape (values_view l.value-items) (shape_view l.shape) ≡ all_have_shape (values_view (drop l.value-index l.value-items)) (shape_view l.shape)
