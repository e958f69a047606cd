-- The next transition has its variables.
use Rattle.std.proofs.Common.{[], ◌∷◌, map}
use Rattle.std.proofs.lemmas.List.{map-append}
use Rattle.cpn_core.specs.Nets.{transition_view}
use Rattle.cpn_readings.proofs.ItemByItem.{each_is_more}
use Rattle.cpn_accepted.specs.Completed.{IsCompleted}
use Rattle.cpn_module_nets.proofs.joining.with_variables.Goals as goal

pub loop-transition-preserved : goal.loop-transition-preserved
loop-transition-preserved c =
    rw (c.in_ok-push.ensures.items, map-append transition_view c.loop-transition.yielded (c.in-Some.transition ∷ []), map-append transition_view c.loop-transition.made.items (c.in_ok-completed.field-0 ∷ []))
    (each_is_more IsCompleted (map transition_view c.loop-transition.yielded) (map transition_view c.loop-transition.made.items) (transition_view c.in-Some.transition) (transition_view c.in_ok-completed.field-0) c.loop-transition.invariant c.in_ok-completed.ensures.completed)
