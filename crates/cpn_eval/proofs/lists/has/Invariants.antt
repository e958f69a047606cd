-- None of the items so far is the value.
use Rattle.std.proofs.Common.{◌≡◌, drop, map}
use Rattle.std.specs.List.{list_any}
use Rattle.cpn_definitions.specs.Order.{same_value}
use Rattle.cpn_core.specs.Views.{value_view}
use Rattle.cpn_eval.proofs.lists.has.Given as goal

abbrev pub invariant-loop-item : goal.invariant-loop-item
invariant-loop-item l = list_any (same_value (value_view l.wanted)) (map value_view l.items) ≡ list_any (same_value (value_view l.wanted)) (map value_view (drop l.item-index l.items))
