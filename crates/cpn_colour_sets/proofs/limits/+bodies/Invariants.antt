-- The sum so far and the bodies of what is left are all bodies, up to the greatest number.
use Rattle.std.proofs.Common.{◌≡◌, ◌+◌, ◌-◌, ◌^◌, ◌<◌, min, drop}
use Rattle.cpn_core.specs.Colours.{shapes_view, constructors_view}
use Rattle.cpn_typing.specs.ColourSets.{bodies_of_all, bodies_of_arguments}
use Rattle.cpn_colour_sets.proofs.limits.+bodies.Given as goal

abbrev pub invariant-bodies_in_all-loop-shape : goal.invariant-bodies_in_all-loop-shape
invariant-bodies_in_all-loop-shape l = record {
  all : min (l.sum + bodies_of_all (shapes_view (drop l.shape-index l.shapes))) (2 ^ 64 - 1) ≡ min (bodies_of_all (shapes_view l.shapes)) (2 ^ 64 - 1);
  small : l.sum < 2 ^ 64;
}

abbrev pub invariant-bodies_in_arguments-loop-constructor : goal.invariant-bodies_in_arguments-loop-constructor
invariant-bodies_in_arguments-loop-constructor l = record {
  all : min (l.sum + bodies_of_arguments (constructors_view (drop l.constructor-index l.constructors))) (2 ^ 64 - 1) ≡ min (bodies_of_arguments (constructors_view l.constructors)) (2 ^ 64 - 1);
  small : l.sum < 2 ^ 64;
}
