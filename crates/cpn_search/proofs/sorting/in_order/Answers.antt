-- The sort is by the values of the variables.
use Rattle.std.proofs.Common.{◌≡◌, rules, is_lt}
use Rattle.std.proofs.lemmas.Cmp.{lists_total}
use Rattle.std.proofs.lemmas.Fn.{always_returns_same}
use Rattle.std.proofs.lemmas.List.Sorted.{ranks_by}
use Rattle.cpn_definitions.specs.ValueOrder.{value_cmp_total}
use Rattle.cpn_definitions.specs.Enabled.{binding_cmp}
use Rattle.cpn_core.specs.declared.entries.EnabledElement.{EnabledElement}
use Rattle.cpn_search.specs.FoundViews.{found_view}
use Rattle.cpn_search.proofs.BindingOrder.{values_in_order}
use Rattle.cpn_search.proofs.sorting.in_order.Goals as goal

pub returns-clause-rises : goal.returns-clause-rises
returns-clause-rises c =
    c.in_ok-sort_by.ensures.sorted (λ (f g : EnabledElement). is_lt (binding_cmp (found_view f).binding (found_view g).binding)) (ranks_by (lists_total value_cmp_total) values_in_order)
    (always_returns_same _ (λ a r. is_lt r ≡ is_lt (binding_cmp (found_view a.0.now).binding (found_view a.1.0.now).binding)) _ (λ a r f' k. search rules))
