-- The names that were seen are there.
use Rattle.std.proofs.Common.{◌≡◌, take, map}
use Rattle.cpn_core.specs.Nets.{transition_view}
use Rattle.cpn_names.specs.Names.{texts_of}
use Rattle.cpn_monitor_texts.proofs.names.names_of_transitions.Given as goal

abbrev pub invariant-loop-transition : goal.invariant-loop-transition
invariant-loop-transition l = texts_of l.names.items ≡ map (λ x. x.name) (map transition_view (take l.transition-index l.transitions))
