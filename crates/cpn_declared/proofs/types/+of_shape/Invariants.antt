-- The types so far are those of the shapes so far.
use Rattle.std.proofs.Common.{◌≡◌, map, take}
use Rattle.cpn_core.specs.Colours.{shape_view}
use Rattle.cpn_typing.specs.Types.{type_of_shape}
use Rattle.cpn_declared.specs.TypeViews.{ty_view}
use Rattle.cpn_declared.proofs.types.+of_shape.Given as goal

abbrev pub invariant-shapes_types-loop-shape : goal.invariant-shapes_types-loop-shape
invariant-shapes_types-loop-shape l = map ty_view l.types.items ≡ map (λ s. type_of_shape (shape_view s)) (take l.shape-index l.shapes)
