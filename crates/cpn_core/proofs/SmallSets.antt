-- A colour set is small exactly where its shape counts at most 256 values, and then they are those of the list.
use Rattle.std.proofs.Common.{◌<◌, ◌≤◌, arith}
use Rattle.cpn_definitions.specs.Order.{value_cmp}
use Rattle.cpn_definitions.specs.ValueOrder.{value_cmp_total}
use Rattle.cpn_definitions.specs.Colour.{PlainColour}
use Rattle.cpn_definitions.specs.Bindable.{AreAll, IsSmall}
use Rattle.cpn_core.specs.ShapeValues.{values_in, count_of}
use Rattle.cpn_definitions.proofs.RisingLists.{in_from_contains, contains_from_in}
use Rattle.cpn_definitions.proofs.FewerItems.{not_more}
use Rattle.cpn_core.proofs.ShapeCounts.{values_counted}
use Rattle.cpn_core.proofs.ShapeOrder.{values_rise}
use Rattle.cpn_core.proofs.ShapeMembers.{values_all, values_have}

pub are_all : (colour : PlainColour) → count_of colour.shape ≤ 256 → AreAll colour (values_in colour.shape)
are_all colour few = record {
  in_order = values_rise colour.shape;
  all = λ v. (λ admitted. contains_from_in (values_in colour.shape) v (values_all colour.shape v few admitted), λ listed. values_have colour.shape v (in_from_contains (values_in colour.shape) v listed));
}

pub not_small : (colour : PlainColour) → 256 < count_of colour.shape → IsSmall colour → ⊥
not_small colour many small =
    let vs = small.0 in
    let at_most = not_more value_cmp value_cmp_total (values_in colour.shape) vs (values_rise colour.shape) small.1.in_order
    (λ v h. in_from_contains vs v ((small.1.all v).0 (values_have colour.shape v h)))
    in
    let counted = values_counted colour.shape in
    omega arith
