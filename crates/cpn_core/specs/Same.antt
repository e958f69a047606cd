-- The order of values of the program, and when two are the same: as the plain values that they stand for.
use Rattle.std.specs.Prelude.{Bool}
use Rattle.std.specs.declared.cmp.Ordering.{Ordering}
use Rattle.std.specs.Ordering.{is_eq, as_partial_cmp}
use Rattle.std.specs.Cmp.{IsTotalOrder, IsEquivalence, IsPartialEquivalence, IsPartialOrder, partial_equiv_from_equiv, partial_order_from_total}
use Rattle.std.proofs.lemmas.Cmp.{on_total, eq_by_cmp_equiv}
use Rattle.cpn_definitions.specs.Order.{value_cmp}
use Rattle.cpn_definitions.specs.ValueOrder.{value_cmp_total}
use Rattle.cpn_core.specs.declared.values.Value.{Value}
use Rattle.cpn_core.specs.Views.{value_view}

-- how two values compare
abbrev pub value_order : Value → Value → Ordering
value_order v w = value_cmp (value_view v) (value_view w)

-- whether two values are the same
abbrev pub same_values : Value → Value → Bool
same_values v w = is_eq (value_order v w)

-- ---- the laws

pub value_order_total : IsTotalOrder value_order
value_order_total = on_total value_view value_cmp_total

pub same_values_equiv : IsEquivalence same_values
same_values_equiv = eq_by_cmp_equiv value_order_total

pub same_values_laws : IsPartialEquivalence same_values
same_values_laws = partial_equiv_from_equiv same_values_equiv

pub value_order_laws : IsPartialOrder same_values (as_partial_cmp value_order)
value_order_laws = partial_order_from_total value_order_total
