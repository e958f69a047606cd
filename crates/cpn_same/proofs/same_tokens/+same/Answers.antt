-- Items that are the same leave it to those after them.
use Rattle.std.proofs.Common.{◌≡◌, length, nat_eq, ap₂, ◌∙◌, refl, sym, arith}
use Rattle.cpn_same.proofs.ComparedLists.{after_same}
use Rattle.cpn_same.proofs.Rows.{sums_more, sums_end, arc_arms_more, arc_arms_end}
use Rattle.cpn_same.proofs.same_tokens.+same.Goals as goal

pub same_each-loop-i-init : goal.same_each-loop-i-init
same_each-loop-i-init t c = refl

pub same_each-loop-i-preserved : goal.same_each-loop-i-preserved
same_each-loop-i-preserved t c =
    c.loop-i.invariant
    ∙ after_same (sums_more c.args.parts.now.items c.args.others.now.items c.loop-i.i c.index.result.now c.index-in-loop-i.result.now (omega arith) (omega arith) c.index.ensures c.index-in-loop-i.ensures) (sym c.if-not-same_tokens.ensures.exact)

pub same_each-returns : goal.same_each-returns
same_each-returns t c =
    let first : c.len-3.result ≡ length c.args.parts.now.items = omega arith in
    let second : c.len-4.result ≡ length c.args.others.now.items = omega arith in
    record { exact = ap₂ nat_eq first second ∙ sym (c.loop-i.invariant ∙ sums_end c.args.parts.now.items c.args.others.now.items c.loop-i.i (omega arith)) }

pub same_arms-loop-i-init : goal.same_arms-loop-i-init
same_arms-loop-i-init t c = refl

pub same_arms-loop-i-preserved : goal.same_arms-loop-i-preserved
same_arms-loop-i-preserved t c =
    c.loop-i.invariant
    ∙ after_same (arc_arms_more c.args.arms.now.items c.args.others.now.items c.loop-i.i c.index.result.now c.index-in-loop-i.result.now (omega arith) (omega arith) c.index.ensures c.index-in-loop-i.ensures) (sym c.if-not-same_arm.ensures.exact)

pub same_arms-returns : goal.same_arms-returns
same_arms-returns t c =
    let first : c.len-3.result ≡ length c.args.arms.now.items = omega arith in
    let second : c.len-4.result ≡ length c.args.others.now.items = omega arith in
    record { exact = ap₂ nat_eq first second ∙ sym (c.loop-i.invariant ∙ arc_arms_end c.args.arms.now.items c.args.others.now.items c.loop-i.i (omega arith)) }
