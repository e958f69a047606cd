-- The trees so far are those of the texts so far.
use Rattle.std.proofs.Common.{map, take}
use Rattle.cpn_readings.specs.ItemByItem.{EachIs}
use Rattle.cpn_document.specs.Views.{arc_view}
use Rattle.cpn_module_trees.specs.Trees.{IsArcTree}
use Rattle.cpn_module_trees.specs.TreesViews.{tree_view}
use Rattle.cpn_module_trees.proofs.trees.arcs_trees.Given as goal

abbrev pub invariant-loop-arc : goal.invariant-loop-arc
invariant-loop-arc l = EachIs IsArcTree (map arc_view (take l.arc-index l.arcs)) (map tree_view l.trees.items)
