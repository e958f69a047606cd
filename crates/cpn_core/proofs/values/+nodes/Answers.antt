-- After the last value nothing is left to add.
use Rattle.std.proofs.Common.{◌≡◌, ℕ, ◌+◌, ◌-◌, ◌≤◌, ◌<◌, ◌^◌, min, drop, length, arith, drop_of_length-le, List, []}
use Rattle.cpn_definitions.specs.Value.{nodes_of_all}
use Rattle.cpn_core.specs.declared.values.Value.{Value}
use Rattle.cpn_core.specs.Views.{values_view}
use Rattle.cpn_core.proofs.values.+nodes.Goals as goal

sum_is_all : (vs : List Value) (i sum : ℕ) → length vs ≤ i → sum < 2 ^ 64 → min (sum + nodes_of_all (values_view (drop i vs))) (2 ^ 64 - 1) ≡ min (nodes_of_all (values_view vs)) (2 ^ 64 - 1) → sum ≡ min (nodes_of_all (values_view vs)) (2 ^ 64 - 1)
sum_is_all vs i sum done small h =
    let e : drop i vs ≡ [] = drop_of_length-le vs done in
    let k = rw e at h in
    omega arith

pub nodes_in_all-returns : goal.nodes_in_all-returns
nodes_in_all-returns t c = record {
  count =
      rw (← c.deref-value-items.ensures.value) (sum_is_all c.deref-value-items.result.now c.loop-value.value-index c.loop-value.sum (omega arith) c.loop-value.invariant.small c.loop-value.invariant.total);
}
