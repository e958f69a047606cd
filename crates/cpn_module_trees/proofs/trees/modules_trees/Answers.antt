-- The tree of the next text comes behind those so far.
use Rattle.cpn_document.specs.Views.{module_view}
use Rattle.cpn_module_trees.specs.Trees.{AreModuleTrees}
use Rattle.cpn_module_trees.specs.TreesViews.{module_trees_view}
use Rattle.cpn_module_trees.proofs.NextTrees.{each_is_seen}
use Rattle.cpn_module_trees.proofs.trees.modules_trees.Goals as goal

pub loop-written-preserved : goal.loop-written-preserved
loop-written-preserved c =
    rw c.in_ok-push.ensures.items (each_is_seen AreModuleTrees module_view module_trees_view c.args.modules.now c.loop-written.written-index c.written-item.result c.loop-written-test.true c.written-item.is c.loop-written.trees.items c.in_ok-module_trees.field-0 c.loop-written.invariant c.in_ok-module_trees.ensures.parsed)
