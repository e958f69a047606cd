-- Items that are the same leave it to those after them.
use Rattle.std.proofs.Common.{◌≡◌, length, nat_eq, ap₂, ◌∙◌, refl, sym, arith}
use Rattle.cpn_same.proofs.ComparedLists.{after_same}
use Rattle.cpn_same.proofs.Rows.{functions_more, functions_end}
use Rattle.cpn_same.proofs.same_functions.same_each.Goals as goal

pub loop-i-init : goal.loop-i-init
loop-i-init c = refl

pub loop-i-preserved : goal.loop-i-preserved
loop-i-preserved c =
    c.loop-i.invariant
    ∙ after_same (functions_more c.args.functions.now.items c.args.others.now.items c.loop-i.i c.index.result.now c.index-in-loop-i.result.now (omega arith) (omega arith) c.index.ensures c.index-in-loop-i.ensures) (sym c.if-not-same_function.ensures.exact)

pub returns : goal.returns
returns c =
    let first : c.len-3.result ≡ length c.args.functions.now.items = omega arith in
    let second : c.len-4.result ≡ length c.args.others.now.items = omega arith in
    record { exact = ap₂ nat_eq first second ∙ sym (c.loop-i.invariant ∙ functions_end c.args.functions.now.items c.args.others.now.items c.loop-i.i (omega arith)) }
