-- The trees so far are those of the texts so far.
use Rattle.std.proofs.Common.{map, take}
use Rattle.cpn_readings.specs.ItemByItem.{EachIs}
use Rattle.cpn_document.specs.Views.{module_view}
use Rattle.cpn_module_trees.specs.Trees.{AreModuleTrees}
use Rattle.cpn_module_trees.specs.TreesViews.{module_trees_view}
use Rattle.cpn_module_trees.proofs.trees.modules_trees.Given as goal

abbrev pub invariant-loop-written : goal.invariant-loop-written
invariant-loop-written l = EachIs AreModuleTrees (map module_view (take l.written-index l.modules)) (map module_trees_view l.trees.items)
