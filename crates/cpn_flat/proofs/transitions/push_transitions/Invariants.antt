-- The transitions so far stand behind those that were there.
use Rattle.std.proofs.Common.{◌≡◌, ◌++◌, map, take}
use Rattle.cpn_core.specs.Nets.{transition_view}
use Rattle.cpn_flat.specs.FlatNet.{flat_transition}
use Rattle.cpn_flat.proofs.transitions.push_transitions.Given as goal

abbrev pub invariant-loop-transition : goal.invariant-loop-transition
invariant-loop-transition l = map transition_view l.transitions.items ≡ map transition_view l.initial.transitions.items ++ map (flat_transition l.classes l.whole l.first) (map transition_view (take l.transition-index l.module.transitions.items))
