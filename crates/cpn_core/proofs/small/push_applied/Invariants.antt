-- The constructor is applied to the arguments so far.
use Rattle.std.proofs.Common.{◌≡◌, ◌++◌, map}
use Rattle.cpn_definitions.specs.Value.{applied}
use Rattle.cpn_core.specs.Views.{value_view}
use Rattle.cpn_core.proofs.small.push_applied.Given as goal

abbrev pub invariant-loop-argument : goal.invariant-loop-argument
invariant-loop-argument l = map value_view l.values.items ≡ map value_view l.fn.values.items ++ map (applied l.position) (map value_view l.yielded)
