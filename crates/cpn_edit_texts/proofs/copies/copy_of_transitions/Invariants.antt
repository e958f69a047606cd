-- The transitions so far.
use Rattle.std.proofs.Common.{◌≡◌, map, take}
use Rattle.cpn_core.specs.Nets.{transition_view}
use Rattle.cpn_edit_texts.proofs.copies.copy_of_transitions.Given as goal

abbrev pub invariant-loop-transition : goal.invariant-loop-transition
invariant-loop-transition l = map transition_view l.copies.items ≡ map transition_view (take l.transition-index l.transitions)
