-- The tree of the next text comes behind those so far.
use Rattle.cpn_document.specs.Views.{arc_view}
use Rattle.cpn_module_trees.specs.Trees.{IsArcTree}
use Rattle.cpn_module_trees.specs.TreesViews.{tree_view}
use Rattle.cpn_module_trees.proofs.NextTrees.{each_is_seen}
use Rattle.cpn_module_trees.proofs.trees.arcs_trees.Goals as goal

pub loop-arc-preserved : goal.loop-arc-preserved
loop-arc-preserved c =
    rw c.in_ok-push.ensures.items (each_is_seen IsArcTree arc_view tree_view c.args.arcs.now c.loop-arc.arc-index c.arc-item.result c.loop-arc-test.true c.arc-item.is c.loop-arc.trees.items c.in_ok-arc_tree.field-0 c.loop-arc.invariant c.in_ok-arc_tree.ensures.parsed)
