-- The product with one factor more.
use Rattle.std.proofs.Common.{◌+◌, ◌*◌, ◌-◌, ◌^◌, min, drop, ap, ◌∙◌, arith}
use Rattle.cpn_core.specs.Colours.{shapes_view}
use Rattle.cpn_core.specs.ShapeValues.{count_of_rows}
use Rattle.cpn_core.proofs.CappedCounts.{product_goes_on}
use Rattle.cpn_core.proofs.small.+count.Goals as goal

pub count_rows-loop-shape-preserved : goal.count_rows-loop-shape-preserved
count_rows-loop-shape-preserved t c = record {
  few = omega arith;
  total =
      ap (λ n. min (n * count_of_rows (shapes_view (drop (c.loop-shape.shape-index + 1) c.deref-shape-items.result.now))) 257) (c.min-product.ensures ∙ ap (λ n. min n 257) c.saturating_mul.ensures)
      ∙ product_goes_on c.deref-shape-items.result.now c.loop-shape.shape-index c.shape-item.result c.loop-shape.product c.count.result (2 ^ 32 - 1) (omega arith) (omega arith) c.shape-item.is c.count.ensures
      ∙ c.loop-shape.invariant.total;
}
