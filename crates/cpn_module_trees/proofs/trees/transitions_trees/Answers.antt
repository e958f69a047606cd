-- The tree of the next text comes behind those so far.
use Rattle.cpn_document.specs.Views.{transition_view}
use Rattle.cpn_module_trees.specs.Trees.{AreTransitionTrees}
use Rattle.cpn_module_trees.specs.TreesViews.{transition_trees_view}
use Rattle.cpn_module_trees.proofs.NextTrees.{each_is_seen}
use Rattle.cpn_module_trees.proofs.trees.transitions_trees.Goals as goal

pub loop-transition-preserved : goal.loop-transition-preserved
loop-transition-preserved c =
    rw c.in_ok-push.ensures.items (each_is_seen AreTransitionTrees transition_view transition_trees_view c.args.transitions.now c.loop-transition.transition-index c.transition-item.result c.loop-transition-test.true c.transition-item.is c.loop-transition.trees.items c.in_ok-transition_trees.field-0 c.loop-transition.invariant c.in_ok-transition_trees.ensures.parsed)
