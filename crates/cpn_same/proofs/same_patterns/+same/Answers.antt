-- Items that are the same leave it to those after them.
use Rattle.std.proofs.Common.{◌≡◌, length, nat_eq, ap₂, ◌∙◌, refl, sym, arith}
use Rattle.cpn_same.proofs.ComparedLists.{after_same}
use Rattle.cpn_same.proofs.Rows.{patterns_more, patterns_end}
use Rattle.cpn_same.proofs.same_patterns.+same.Goals as goal

pub same_patterns-loop-i-init : goal.same_patterns-loop-i-init
same_patterns-loop-i-init t c = refl

pub same_patterns-loop-i-preserved : goal.same_patterns-loop-i-preserved
same_patterns-loop-i-preserved t c =
    c.loop-i.invariant
    ∙ after_same (patterns_more c.args.patterns.now.items c.args.others.now.items c.loop-i.i c.index.result.now c.index-in-loop-i.result.now (omega arith) (omega arith) c.index.ensures c.index-in-loop-i.ensures) (sym c.if-not-same_pattern.ensures.exact)

pub same_patterns-returns : goal.same_patterns-returns
same_patterns-returns t c =
    let first : c.len-3.result ≡ length c.args.patterns.now.items = omega arith in
    let second : c.len-4.result ≡ length c.args.others.now.items = omega arith in
    record { exact = ap₂ nat_eq first second ∙ sym (c.loop-i.invariant ∙ patterns_end c.args.patterns.now.items c.args.others.now.items c.loop-i.i (omega arith)) }
