-- The plain colour set that a colour set of the program stands for.
use Rattle.std.specs.Prelude.{List, [], ◌∷◌, map, Option, Some, None, option_map}
use Rattle.cpn_definitions.specs.Colour.{PlainShape, PlainShapes, Constructors, PlainColour, unit_shape, boolean_shape, int_shape, text_shape, constant_shape, tuple_shape, union_shape, list_shape, no_shapes, more_shapes, no_constructors, without, taking}
use Rattle.cpn_core.specs.declared.colours.Shape.{Shape, fold-Shape}
use Rattle.cpn_core.specs.declared.colours.Shape.TheOpen.{Shape-F}
use Rattle.cpn_core.specs.declared.colours.Colour.{Colour}

-- the shapes of a tuple's items, from a list
abbrev pub shapes_of : List PlainShape → PlainShapes
shapes_of [] = no_shapes
shapes_of (s ∷ ss) = more_shapes s (shapes_of ss)

-- the constructors of a union, from a list of their arguments' shapes
abbrev pub constructors_of : List (Option PlainShape) → Constructors
constructors_of [] = no_constructors
constructors_of (None ∷ cs) = without (constructors_of cs)
constructors_of (Some s ∷ cs) = taking s (constructors_of cs)

-- one level, with each shape inside already seen as its plain shape
abbrev pub shape_step : Shape-F PlainShape → PlainShape
shape_step Shape-F.Unit = unit_shape
shape_step Shape-F.Bool = boolean_shape
shape_step (Shape-F.Int low high) = int_shape low high
shape_step Shape-F.Text = text_shape
shape_step (Shape-F.Enum number count) = constant_shape number count
shape_step (Shape-F.Tuple ss) = tuple_shape (shapes_of ss.value.items)
shape_step (Shape-F.Union number cs) = union_shape number (constructors_of cs.value.items)
shape_step (Shape-F.List s) = list_shape s.value

abbrev pub shape_view : Shape → PlainShape
shape_view = fold-Shape PlainShape shape_step

abbrev pub shapes_view : List Shape → PlainShapes
shapes_view ss = shapes_of (map shape_view ss)

abbrev pub constructors_view : List (Option Shape) → Constructors
constructors_view cs = constructors_of (map (option_map shape_view) cs)

abbrev pub colour_view : Colour → PlainColour
colour_view colour = record { shape = shape_view colour.shape; timed = colour.timed }
