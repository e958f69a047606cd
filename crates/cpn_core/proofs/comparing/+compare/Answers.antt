-- Items that are equal leave the order to those after them.
use Rattle.std.proofs.Common.{◌≡◌, length, nat_cmp, ap₂, ◌∙◌, refl, sym, arith}
use Rattle.cpn_core.proofs.Items.{compared_next, compared_all, not_unequal}
use Rattle.cpn_core.proofs.comparing.+compare.Goals as goal

pub compare_each-loop-i-init : goal.compare_each-loop-i-init
compare_each-loop-i-init t c = refl

pub compare_each-loop-i-preserved : goal.compare_each-loop-i-preserved
compare_each-loop-i-preserved t c =
    c.loop-i.invariant
    ∙ compared_next c.args.left.now.items c.args.right.now.items c.loop-i.i c.index.result.now c.index-in-loop-i.result.now (omega arith) (omega arith) c.index.ensures c.index-in-loop-i.ensures
    (sym c.compare-found.ensures.order ∙ not_unequal c.compare-found.result c.if-ne.ensures)

pub compare_each-returns : goal.compare_each-returns
compare_each-returns t c =
    let left : c.len-3.result ≡ length c.args.left.now.items = omega arith in
    let right : c.len-4.result ≡ length c.args.right.now.items = omega arith in
    record { order = c.cmp.ensures ∙ ap₂ nat_cmp left right ∙ sym (c.loop-i.invariant ∙ compared_all c.args.left.now.items c.args.right.now.items c.loop-i.i (omega arith)) }
