-- The order of watchers, and when two are the same: as their elements.
use Rattle.std.specs.Prelude.{ℕ, Bool, map}
use Rattle.std.specs.declared.cmp.Ordering.{Ordering}
use Rattle.std.specs.Ordering.{is_eq, as_partial_cmp}
use Rattle.std.specs.Cmp.{IsTotalOrder, IsEquivalence, IsPartialEquivalence, IsPartialOrder, partial_equiv_from_equiv, partial_order_from_total}
use Rattle.std.proofs.lemmas.Cmp.{lists_total, nat_cmp_total, on_total, then_total, eq_by_cmp_equiv}
use Rattle.cpn_definitions.specs.Occurrence.{PlainElement}
use Rattle.cpn_definitions.specs.Value.{PlainValue}
use Rattle.cpn_definitions.specs.ValueOrder.{value_cmp_total}
use Rattle.cpn_definitions.specs.Enabled.{element_cmp}
use Rattle.cpn_core.specs.Elements.{element_view}
use Rattle.cpn_index.specs.declared.waiting.Watcher.{Watcher}

-- the element that waits
abbrev pub watching : Watcher → PlainElement
watching watcher = element_view watcher.element.value

-- how two watchers compare
abbrev pub watcher_order : Watcher → Watcher → Ordering
watcher_order watcher other = element_cmp (watching watcher) (watching other)

-- whether two watchers are the same
abbrev pub same_watchers : Watcher → Watcher → Bool
same_watchers watcher other = is_eq (watcher_order watcher other)

-- ---- the laws

pub element_cmp_total : IsTotalOrder element_cmp
element_cmp_total = then_total (on_total (λ (e : PlainElement). e.transition) nat_cmp_total) (on_total (λ (e : PlainElement). map (λ (pair : ℕ × PlainValue). pair.1) e.binding) (lists_total value_cmp_total))

pub watcher_order_total : IsTotalOrder watcher_order
watcher_order_total = on_total watching element_cmp_total

pub same_watchers_equiv : IsEquivalence same_watchers
same_watchers_equiv = eq_by_cmp_equiv watcher_order_total

pub same_watchers_laws : IsPartialEquivalence same_watchers
same_watchers_laws = partial_equiv_from_equiv same_watchers_equiv

pub watcher_order_laws : IsPartialOrder same_watchers (as_partial_cmp watcher_order)
watcher_order_laws = partial_order_from_total watcher_order_total
