-- A root begins a class, and each other item has its parent's.
use Rattle.std.proofs.Common.{◌≡◌, ◌<◌, length, get_or, arith}
use Rattle.std.proofs.lemmas.List.{get_or_read}
use Rattle.cpn_classes.specs.Numbering.{Numbering}
use Rattle.cpn_classes.specs.ClassCounts.{no_more_classes}
use Rattle.cpn_classes.proofs.NumberedTrees.{root_numbered, member_numbered, all_numbered}
use Rattle.cpn_classes.proofs.classes.Classes.of_trees.Goals as goal
use Rattle.cpn_classes.proofs.classes.Classes.of_trees.Goals.{then-parent-item+in_ok-push+in_ok-push-2, else-parent-item+in_ok-push-3}

pub overflow_cast-len : goal.overflow_cast-len
overflow_cast-len c =
    let n : Numbering = record { numbers = c.loop-item.numbers.items; firsts = c.loop-item.firsts.items } in
    omega (arith, no_more_classes n c.loop-item.invariant.in_order, c.loop-item.invariant.each, c.len.ensures)

pub loop-item-preserved : goal.loop-item-preserved
loop-item-preserved c =
    let n : Numbering = record { numbers = c.loop-item.numbers.items; firsts = c.loop-item.firsts.items } in
    let item_in : c.loop-item.item < length c.args.parents.now = omega arith in
    elim c.if-parent-item.branch [
      | then-parent-item+in_ok-push+in_ok-push-2 w ↦
          let class : w.len.result ≡ length c.loop-item.firsts.items = omega arith in
          rw (w.numbers-is, w.firsts-is, w.in_ok-push.ensures.items, w.in_ok-push-2.ensures.items, class)
          (root_numbered c.args.parents.now c.requires.trees c.loop-item.item item_in n c.loop-item.invariant w.if-parent-item.true)
      | else-parent-item+in_ok-push-3 w ↦
          let parent_in : get_or c.args.parents.now c.loop-item.item 0 < length c.loop-item.numbers.items = omega (arith, c.requires.trees c.loop-item.item item_in, w.if-parent-item.false, c.loop-item.invariant.each) in
          let number : w.index-number.result.now ≡ get_or c.loop-item.numbers.items (get_or c.args.parents.now c.loop-item.item 0) 0 = get_or_read c.loop-item.numbers.items (get_or c.args.parents.now c.loop-item.item 0) w.index-number.result.now parent_in w.index-number.ensures 0 in
          rw (w.numbers-is, w.firsts-is, w.in_ok-push-3.ensures.items, number)
          (member_numbered c.args.parents.now c.requires.trees c.loop-item.item item_in n c.loop-item.invariant w.if-parent-item.false)
    ]

pub returns : goal.returns
returns c =
    let n : Numbering = record { numbers = c.loop-item.numbers.items; firsts = c.loop-item.firsts.items } in
    let all : c.loop-item.item ≡ c.args.count = omega arith in
    record { numbering = all_numbered c.args.parents.now c.args.count n c.requires.each (rw all at c.loop-item.invariant) }
