-- The most so far and the depth of what is left are the depth of all, up to the greatest number.
use Rattle.std.proofs.Common.{◌≡◌, ◌-◌, ◌^◌, ◌<◌, min, max, drop}
use Rattle.cpn_core.specs.Colours.{shapes_view, constructors_view}
use Rattle.cpn_typing.specs.ColourSets.{deepest_of, deepest_argument}
use Rattle.cpn_colour_sets.proofs.limits.+depth.Given as goal

abbrev pub invariant-deepest-loop-shape : goal.invariant-deepest-loop-shape
invariant-deepest-loop-shape l = record {
  all : min (max l.most (deepest_of (shapes_view (drop l.shape-index l.shapes)))) (2 ^ 64 - 1) ≡ min (deepest_of (shapes_view l.shapes)) (2 ^ 64 - 1);
  small : l.most < 2 ^ 64;
}

abbrev pub invariant-deepest_argument-loop-constructor : goal.invariant-deepest_argument-loop-constructor
invariant-deepest_argument-loop-constructor l = record {
  all : min (max l.most (deepest_argument (constructors_view (drop l.constructor-index l.constructors)))) (2 ^ 64 - 1) ≡ min (deepest_argument (constructors_view l.constructors)) (2 ^ 64 - 1);
  small : l.most < 2 ^ 64;
}
