-- The arcs so far are joined, and those that are left are at transitions that there are.
use Rattle.std.proofs.Common.{◌≡◌, length, map}
use Rattle.std.specs.List.{AllByRecursion}
use Rattle.cpn_core.specs.Nets.{transition_view}
use Rattle.cpn_module_nets.specs.Accepted.{joined_from}
use Rattle.cpn_module_nets.specs.AcceptedViews.{sides_views}
use Rattle.cpn_module_nets.specs.Accepted as plain
use Rattle.cpn_module_nets.specs.Joining.{IsAtOneOf}
use Rattle.cpn_module_nets.proofs.joining.join_arcs.Given as goal

abbrev pub invariant-loop-arc : goal.invariant-loop-arc
invariant-loop-arc l = record {
  joined : map transition_view l.transitions.items ≡ joined_from 0 (map transition_view l.initial.transitions.items) (sides_views l.yielded);
  left : AllByRecursion (λ (arc : plain.Sides). IsAtOneOf (length l.initial.transitions.items) arc.node) (sides_views l.arc-iterator.rest.items);
}
