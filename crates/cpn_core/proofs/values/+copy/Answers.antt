-- The copy of one value more.
use Rattle.std.proofs.Common.{map, ap, ◌∙◌}
use Rattle.cpn_definitions.specs.Value.{from_list}
use Rattle.cpn_core.specs.Views.{value_view, values_view}
use Rattle.cpn_core.proofs.ListedValues.{copied_next, copied_all}
use Rattle.cpn_core.proofs.values.+copy.Goals as goal

pub copy_each-loop-value-init : goal.copy_each-loop-value-init
copy_each-loop-value-init t c = ap (λ vs. map value_view vs) c.in_ok-copies.ensures.items

pub copy_each-loop-value-preserved : goal.copy_each-loop-value-preserved
copy_each-loop-value-preserved t c =
    copied_next value_view c.deref-value-items.result.now c.loop-value.copies.items c.push.new.self.items c.loop-value.value-index c.value-item.result c.in_ok-copy_value.field-0 c.loop-value-test.true c.value-item.is
    c.in_ok-copy_value.ensures.same c.in_ok-push.ensures.items c.loop-value.invariant

pub copy_each-returns : goal.copy_each-returns
copy_each-returns t c = record {
  same = ap from_list (copied_all value_view c.deref-value-items.result.now c.loop-value.copies.items c.loop-value.value-index c.loop-value-test.false c.loop-value.invariant) ∙ ap values_view c.deref-value-items.ensures.value;
}
