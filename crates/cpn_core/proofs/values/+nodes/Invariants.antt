-- The sum and the nodes of the values that are left are those of all values, up to the greatest number.
use Rattle.std.proofs.Common.{◌≡◌, ◌+◌, ◌-◌, ◌^◌, ◌<◌, min, drop}
use Rattle.cpn_definitions.specs.Value.{nodes_of_all}
use Rattle.cpn_core.specs.Views.{values_view}
use Rattle.cpn_core.proofs.values.+nodes.Given as goal

abbrev pub invariant-nodes_in_all-loop-value : goal.invariant-nodes_in_all-loop-value
invariant-nodes_in_all-loop-value l = record {
  total : min (l.sum + nodes_of_all (values_view (drop l.value-index l.value-items))) (2 ^ 64 - 1) ≡ min (nodes_of_all (values_view l.value-items)) (2 ^ 64 - 1);
  small : l.sum < 2 ^ 64;
}
