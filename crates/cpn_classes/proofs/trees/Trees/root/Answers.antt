-- Each item that is reached has its parent's parent reached next.
use Rattle.cpn_classes.proofs.NewParents.{item_reached, read_reached}
use Rattle.cpn_classes.proofs.trees.Trees.root.Goals as goal

pub loop-at-init : goal.loop-at-init
loop-at-init c = item_reached c.self.inside.parents.items c.args.item c.self.invariant

pub loop-at-preserved : goal.loop-at-preserved
loop-at-preserved c =
    read_reached c.self.inside.parents.items c.loop-at.self-inside.parents.items c.args.item c.loop-at.at c.loop-at.invariant (rw c.self.view_is c.requires.item)
    c.index.result.now c.index-parent.result.now c.index-next.result.now c.index.ensures c.loop-at-test.true c.index-parent.ensures c.index-next.ensures
