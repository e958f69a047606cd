-- What is counted so far, with the count of what is left, is the whole count, up to 257.
use Rattle.std.proofs.Common.{◌≡◌, ◌+◌, ◌*◌, ◌≤◌, min, drop}
use Rattle.cpn_core.specs.Colours.{shapes_view, constructors_view}
use Rattle.cpn_core.specs.ShapeValues.{count_of_rows, count_of_constructed}
use Rattle.cpn_core.proofs.small.+count.Given as goal

abbrev pub invariant-count_rows-loop-shape : goal.invariant-count_rows-loop-shape
invariant-count_rows-loop-shape l = record {
  few : l.product ≤ 257;
  total : min (l.product * count_of_rows (shapes_view (drop l.shape-index l.shape-items))) 257 ≡ min (count_of_rows (shapes_view l.shape-items)) 257;
}

abbrev pub invariant-count_constructed-loop-constructor : goal.invariant-count_constructed-loop-constructor
invariant-count_constructed-loop-constructor l = record {
  few : l.sum ≤ 257;
  total : min (l.sum + count_of_constructed (constructors_view (drop l.constructor-index l.constructor-items))) 257 ≡ min (count_of_constructed (constructors_view l.constructor-items)) 257;
}
