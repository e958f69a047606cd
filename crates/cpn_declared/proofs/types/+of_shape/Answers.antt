-- The types so far, and at the end those of all shapes.
use Rattle.std.proofs.Common.{◌≡◌, ◌∙◌, map, take, sym, ap, arith}
use Rattle.std.proofs.lemmas.List.{take_all}
use Rattle.cpn_core.specs.Colours.{shape_view}
use Rattle.cpn_typing.specs.Types.{type_of_shape, types_from}
use Rattle.cpn_declared.specs.TypeViews.{ty_view}
use Rattle.cpn_declared.proofs.TypeLevels.{types_of_each}
use Rattle.cpn_declared.proofs.types.+of_shape.Goals as goal

pub shapes_types-returns : goal.shapes_types-returns
shapes_types-returns t c =
    let all : take c.loop-shape.shape-index c.args.shapes.now ≡ c.args.shapes.now = take_all c.loop-shape.shape-index c.args.shapes.now (omega arith) in
    record { exact = ap types_from (c.loop-shape.invariant ∙ ap (map (λ s. type_of_shape (shape_view s))) all) ∙ sym (types_of_each c.args.shapes.now) }

pub shapes_types-loop-shape-init : goal.shapes_types-loop-shape-init
shapes_types-loop-shape-init t c = ap (map ty_view) c.in_ok-types.ensures.items
