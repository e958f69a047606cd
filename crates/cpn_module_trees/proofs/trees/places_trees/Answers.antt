-- The tree of the next text comes behind those so far.
use Rattle.cpn_document.specs.Views.{place_view}
use Rattle.cpn_module_trees.specs.Trees.{ArePlaceTrees}
use Rattle.cpn_module_trees.specs.TreesViews.{place_trees_view}
use Rattle.cpn_module_trees.proofs.NextTrees.{each_is_seen}
use Rattle.cpn_module_trees.proofs.trees.places_trees.Goals as goal

pub loop-place-preserved : goal.loop-place-preserved
loop-place-preserved c =
    rw c.in_ok-push.ensures.items (each_is_seen ArePlaceTrees place_view place_trees_view c.args.places.now c.loop-place.place-index c.place-item.result c.loop-place-test.true c.place-item.is c.loop-place.trees.items c.in_ok-place_trees.field-0 c.loop-place.invariant c.in_ok-place_trees.ensures.parsed)
