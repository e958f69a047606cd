-- The transitions so far have their variables.
use Rattle.std.proofs.Common.{map}
use Rattle.cpn_core.specs.Nets.{transition_view}
use Rattle.cpn_readings.specs.ItemByItem.{EachIs}
use Rattle.cpn_accepted.specs.Completed.{IsCompleted}
use Rattle.cpn_module_nets.proofs.joining.with_variables.Given as goal

abbrev pub invariant-loop-transition : goal.invariant-loop-transition
invariant-loop-transition l = EachIs IsCompleted (map transition_view l.yielded) (map transition_view l.made.items)
