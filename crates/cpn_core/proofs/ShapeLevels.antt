-- One level of the shape of a colour set.
use Rattle.std.proofs.Common.{◌≡◌, ℕ, Option, Global, Vec, rules}
use Rattle.std.specs.declared.sync.Arc.{Arc}
use Rattle.cpn_definitions.specs.Colour.{list_shape, tuple_shape, union_shape}
use Rattle.cpn_core.specs.Colours.{shape_view, shapes_view, constructors_view}
use Rattle.cpn_core.specs.declared.colours.Shape.{Shape}
use Rattle.cpn_core.specs.declared.colours.Shape as shapes
use Rattle.cpn_core.specs.declared.colours.Shape.TheViews as shape_views

pub shape_list : (b : Arc Shape Global) → shape_view (shape_views.List b) ≡ list_shape (shape_view b.value)
shape_list b = search (rules, shapes.the_lemmas)

pub shape_tuple : (ss : Arc (Vec Shape Global) Global) → shape_view (shape_views.Tuple ss) ≡ tuple_shape (shapes_view ss.value.items)
shape_tuple ss = search (rules, shapes.the_lemmas)

pub shape_union : (number : ℕ) (cs : Arc (Vec (Option Shape) Global) Global) → shape_view (shape_views.Union number cs) ≡ union_shape number (constructors_view cs.value.items)
shape_union number cs = search (rules, shapes.the_lemmas)
