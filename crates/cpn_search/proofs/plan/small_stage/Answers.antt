-- One of the variables that are left has a small colour set; the stage of the first is the next.
use Rattle.cpn_core.specs.Nets.{net_view, transition_view}
use Rattle.cpn_search.proofs.PlanSteps.{colours_of_left, not_stuck, small_is_next}
use Rattle.cpn_search.proofs.plan.small_stage.Goals as goal

pub first_small-requires : goal.first_small-requires
first_small-requires c = record { declared = colours_of_left c.args.net.now (transition_view c.args.transition.now) c.args.left.now c.requires.sound c.requires.left }

pub unreachable-requires : goal.unreachable-requires
unreachable-requires c =
    not_stuck (net_view c.args.net.now) (transition_view c.args.transition.now) c.args.left.now c.requires.sound c.requires.left c.requires.some c.requires.unsolved (rw c.in-None.is at c.in_ok-variable.ensures.first)

pub returns-clause-next : goal.returns-clause-next
returns-clause-next c = small_is_next (net_view c.args.net.now) (transition_view c.args.transition.now) c.args.left.now c.in-Some.field-0.variable c.requires.unsolved (rw c.in-Some.is at c.in_ok-variable.ensures.first).0
