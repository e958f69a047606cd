-- Items that are the same leave it to those after them.
use Rattle.std.proofs.Common.{◌≡◌, length, nat_eq, ap₂, ◌∙◌, refl, sym, arith}
use Rattle.cpn_same.proofs.ComparedLists.{after_same}
use Rattle.cpn_same.proofs.Rows.{shapes_more, shapes_end, constructors_more, constructors_end}
use Rattle.cpn_same.proofs.same_colours.+same.Goals as goal

pub same_shapes-loop-i-init : goal.same_shapes-loop-i-init
same_shapes-loop-i-init t c = refl

pub same_shapes-loop-i-preserved : goal.same_shapes-loop-i-preserved
same_shapes-loop-i-preserved t c =
    c.loop-i.invariant
    ∙ after_same (shapes_more c.args.shapes.now.items c.args.others.now.items c.loop-i.i c.index.result.now c.index-in-loop-i.result.now (omega arith) (omega arith) c.index.ensures c.index-in-loop-i.ensures) (sym c.if-not-same_shape.ensures.exact)

pub same_shapes-returns : goal.same_shapes-returns
same_shapes-returns t c =
    let first : c.len-3.result ≡ length c.args.shapes.now.items = omega arith in
    let second : c.len-4.result ≡ length c.args.others.now.items = omega arith in
    record { exact = ap₂ nat_eq first second ∙ sym (c.loop-i.invariant ∙ shapes_end c.args.shapes.now.items c.args.others.now.items c.loop-i.i (omega arith)) }

pub same_constructors-loop-i-init : goal.same_constructors-loop-i-init
same_constructors-loop-i-init t c = refl

pub same_constructors-loop-i-preserved : goal.same_constructors-loop-i-preserved
same_constructors-loop-i-preserved t c =
    c.loop-i.invariant
    ∙ after_same (constructors_more c.args.constructors.now.items c.args.others.now.items c.loop-i.i c.index.result.now c.index-in-loop-i.result.now (omega arith) (omega arith) c.index.ensures c.index-in-loop-i.ensures) (sym c.if-not-same_argument.ensures.exact)

pub same_constructors-returns : goal.same_constructors-returns
same_constructors-returns t c =
    let first : c.len-3.result ≡ length c.args.constructors.now.items = omega arith in
    let second : c.len-4.result ≡ length c.args.others.now.items = omega arith in
    record { exact = ap₂ nat_eq first second ∙ sym (c.loop-i.invariant ∙ constructors_end c.args.constructors.now.items c.args.others.now.items c.loop-i.i (omega arith)) }
