-- The item that is reached is in the item's tree.
use Rattle.cpn_classes.proofs.NewParents.{IsReached}
use Rattle.cpn_classes.proofs.trees.Trees.root.Given as goal

abbrev pub invariant-loop-at : goal.invariant-loop-at
invariant-loop-at l = IsReached l.initial.self-inside.parents.items l.self-inside.parents.items l.item l.at

abbrev pub decreases-loop-at : goal.decreases-loop-at
decreases-loop-at l = l.at
