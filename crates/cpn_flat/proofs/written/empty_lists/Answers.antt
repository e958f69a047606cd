-- So many lists were added.
use Rattle.std.proofs.Common.{[], length, slice_index_or, ap, arith}
use Rattle.cpn_flat.specs.WrittenViews.{lists_view}
use Rattle.cpn_flat.proofs.written.empty_lists.Goals as goal

pub loop-class-init : goal.loop-class-init
loop-class-init c = record { number = ap length c.new-lists.ensures.items; empty = λ k. ap (λ lists. slice_index_or (lists_view lists) k []) c.new-lists.ensures.items }

pub returns : goal.returns
returns c =
    let number = c.loop-class.invariant.number in
    record { each = omega (arith, number); empty = c.loop-class.invariant.empty }
