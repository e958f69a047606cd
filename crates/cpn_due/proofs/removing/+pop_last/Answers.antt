-- What stands before the last item stays in its order.
use Rattle.std.proofs.Common.{[], ◌∷◌, ◌++◌, sym, subst, ◌∙◌}
use Rattle.cpn_definitions.specs.Lists.{Rises}
use Rattle.cpn_due.specs.Marked.{plain_marked, marked_cmp}
use Rattle.cpn_due.specs.Trees.{IsBalancedAt, IsBalanced}
use Rattle.cpn_due.proofs.RisingSides.{rises_inner_left}
use Rattle.cpn_due.proofs.removing.+pop_last.Goals as goal

pub settle-requires-clause-rises : goal.settle-requires-clause-rises
settle-requires-clause-rises t c =
    let k = plain_marked c.in-Some.fork.root in
    let l = c.in-Some.fork.left.items in
    let good = subst IsBalancedAt (sym c.deref_mut.ensures.value ∙ c.in-Some.is) (subst IsBalanced c.in-Fork.is c.tree.invariant) in
    let rise = subst (λ xs. Rises marked_cmp (l ++ k ∷ xs)) c.pop_last-last.ensures.items good.rises in
    rises_inner_left marked_cmp l k c.pop_last-last.new.tree.items (plain_marked c.pop_last-last.result.item) [] rise
