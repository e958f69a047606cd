-- The items so far are numbered.
use Rattle.cpn_classes.proofs.NumberedTrees.{AreNumbered}
use Rattle.cpn_classes.proofs.classes.Classes.of_trees.Given as goal

abbrev pub invariant-loop-item : goal.invariant-loop-item
invariant-loop-item l = AreNumbered l.parents l.item (record { numbers = l.numbers.items; firsts = l.firsts.items })
