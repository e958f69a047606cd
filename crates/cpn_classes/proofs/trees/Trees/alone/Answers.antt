-- The parents are the numbers below the count, in order.
use Rattle.std.proofs.Common.{◌≡◌, Ok, refl, arith}
use Rattle.std.specs.declared.alloc.AllocError.{AllocError}
use Rattle.std.specs.List.{range_with_len}
use Rattle.std.proofs.lemmas.Iterator.{items_from_collect, YieldsList-from_range}
use Rattle.cpn_classes.proofs.Links.{alone_trees}
use Rattle.cpn_classes.proofs.trees.Trees.alone.Goals as goal

pub invariant_of-result : goal.invariant_of-result
invariant_of-result c =
    let parents : c.in_ok-parents.parents.items ≡ range_with_len 0 c.args.count = items_from_collect {E = AllocError} (Ok c.in_ok-parents.parents) c.in_ok-parents.ensures.ran (YieldsList-from_range 0 c.args.count c.args.count refl (omega arith)) in
    rw parents (alone_trees c.args.count)

pub returns : goal.returns
returns c = record { alone = items_from_collect {E = AllocError} (Ok c.in_ok-parents.parents) c.in_ok-parents.ensures.ran (YieldsList-from_range 0 c.args.count c.args.count refl (omega arith)) }
