-- What was planned so far goes on with the further stages for the variables that are left.
use Rattle.std.proofs.Common.{length}
use Rattle.std.specs.List.{AllByRecursion}
use Rattle.cpn_core.specs.Nets.{net_view, transition_view}
use Rattle.cpn_search.specs.StageViews.{stages_view, HasAllValues}
use Rattle.cpn_search.specs.Plans.{AreLeft, ArePlanned}
use Rattle.cpn_search.proofs.plan.push_further.Given as goal

abbrev pub invariant-loop-alloc : goal.invariant-loop-alloc
invariant-loop-alloc l =
    ArePlanned (net_view l.net) (transition_view l.transition) l.initial.left.items l.left.items (stages_view l.initial.stages.items) (stages_view l.stages.items)
    × AreLeft (transition_view l.transition) l.left.items
    × (AllByRecursion (HasAllValues (net_view l.net)) l.initial.stages.items → AllByRecursion (HasAllValues (net_view l.net)) l.stages.items)

abbrev pub decreases-loop-alloc : goal.decreases-loop-alloc
decreases-loop-alloc l = length l.left.items
