-- Those so far are on the places, and no more than were gone through.
use Rattle.std.proofs.Common.{◌<◌, ◌≤◌, length}
use Rattle.std.specs.List.{AllByRecursion}
use Rattle.cpn_test_calls.proofs.logs.outputs_on.Given as goal

abbrev pub invariant-loop-token : goal.invariant-loop-token
invariant-loop-token l = record {
  in_range : AllByRecursion (λ made. made.place < l.places) l.outputs;
  few : length l.outputs ≤ l.token-index;
}
