-- The trees so far are those of the texts so far.
use Rattle.std.proofs.Common.{map, take}
use Rattle.cpn_readings.specs.ItemByItem.{EachIs}
use Rattle.cpn_document.specs.Views.{place_view}
use Rattle.cpn_module_trees.specs.Trees.{ArePlaceTrees}
use Rattle.cpn_module_trees.specs.TreesViews.{place_trees_view}
use Rattle.cpn_module_trees.proofs.trees.places_trees.Given as goal

abbrev pub invariant-loop-place : goal.invariant-loop-place
invariant-loop-place l = EachIs ArePlaceTrees (map place_view (take l.place-index l.places)) (map place_trees_view l.trees.items)
