-- Where no time is reached, none is marked; otherwise both sides and the root are.
use Rattle.std.proofs.Common.{◌≡◌, ◌∷◌, ◌++◌, map, false, sym, ap, subst, ◌∙◌, arith}
use Rattle.cpn_definitions.specs.Lists.{Rises}
use Rattle.cpn_due.specs.Marked.{plain_marked, marked_cmp, marked_at, is_reached, least_time, are_not_due}
use Rattle.cpn_due.specs.Trees.{IsBalancedAt, IsBalanced}
use Rattle.cpn_due.proofs.MarkedItems.{none_reached, rises_marked}
use Rattle.cpn_due.proofs.marking.+mark_due.Goals as goal
use Rattle.cpn_due.proofs.marking.+mark_due.Goals.{in-Leaf, in-Fork+in-None, in-Fork+in-Some}

pub returns-then-not-comes-clause-items : goal.returns-then-not-comes-clause-items
returns-then-not-comes-clause-items t c =
    let none : is_reached (least_time (are_not_due c.args.tree.now.items)) c.args.clock ≡ false = cc (ap (λ s. s.later) c.summary.ensures.summary) in
    sym (none_reached c.args.clock c.args.tree.now.items none)

pub invariant_of-tree : goal.invariant_of-tree
invariant_of-tree t c =
    elim c.match-tree.branch [
      | in-Leaf w ↦ rw w.tree-inside-is c.tree.invariant
      | in-Fork+in-None w ↦ rw w.tree-inside-is (subst IsBalancedAt (sym w.in-None.is) tt)
      | in-Fork+in-Some w ↦
          let k = plain_marked w.in-Some.fork.root in
          let l = w.in-Some.fork.left.items in
          let r = w.in-Some.fork.right.items in
          let good = subst IsBalancedAt (sym w.deref_mut.ensures.value ∙ w.in-Some.is) (subst IsBalanced w.in-Fork.is c.tree.invariant) in
          let rise = rises_marked c.args.clock k l r good.rises in
          let first = subst (λ xs. Rises marked_cmp (xs ++ marked_at c.args.clock k ∷ map (marked_at c.args.clock) r)) (sym w.mark_due.ensures.items) rise in
          let second = subst (λ m. Rises marked_cmp (w.mark_due.new.tree.items ++ m ∷ map (marked_at c.args.clock) r)) (sym w.mark.ensures.marked) first in
          let third = subst (λ xs. Rises marked_cmp (w.mark_due.new.tree.items ++ plain_marked w.mark.new.self ∷ xs)) (sym w.mark_due-in-Some.ensures.items) second in
          let left = w.mark_due.ensures.height in
          let right = w.mark_due-in-Some.ensures.height in
          let level = good.level in
          rw w.tree-inside-is (record { rises = third; level = grind (arith, left, right, level); summed = w.summarize-fork.ensures.summary; low = w.summarize-fork.ensures.low })
    ]
