-- The trees so far are those of the texts so far.
use Rattle.std.proofs.Common.{map, take}
use Rattle.cpn_readings.specs.ItemByItem.{EachIs}
use Rattle.cpn_document.specs.Views.{transition_view}
use Rattle.cpn_module_trees.specs.Trees.{AreTransitionTrees}
use Rattle.cpn_module_trees.specs.TreesViews.{transition_trees_view}
use Rattle.cpn_module_trees.proofs.trees.transitions_trees.Given as goal

abbrev pub invariant-loop-transition : goal.invariant-loop-transition
invariant-loop-transition l = EachIs AreTransitionTrees (map transition_view (take l.transition-index l.transitions)) (map transition_trees_view l.trees.items)
