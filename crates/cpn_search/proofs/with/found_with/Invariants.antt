-- What has been found by the trials so far; the elements are of the transition; and the steps with the tries that are left are all.
use Rattle.std.proofs.Common.{◌≡◌, ◌+◌, [], map, take, drop}
use Rattle.cpn_definitions.specs.Net.{transition_at}
use Rattle.cpn_core.specs.Views.{value_view}
use Rattle.cpn_core.specs.Nets.{net_view}
use Rattle.cpn_stages.specs.Partial.{unbound}
use Rattle.cpn_stages.specs.Trials.{tried_by_each}
use Rattle.cpn_search.specs.FoundViews.{found_view, AreOf}
use Rattle.cpn_search.specs.HeldSearches.{AreFoundSoFar}
use Rattle.cpn_search.specs.TriedStages.{held}
use Rattle.cpn_search.proofs.with.found_with.Given as goal

abbrev pub invariant-loop-number : goal.invariant-loop-number
invariant-loop-number g l =
    AreFoundSoFar (net_view l.net) l.marking l.t (held l.marking l.place (value_view l.value) [] l.plan.stages.items) (held l.marking l.place (value_view l.value) (take l.number l.plan.stages.items) (drop l.number l.plan.stages.items)) (map found_view l.found.items)
    × AreOf (net_view l.net) l.t l.found.items
    × (l.steps + tried_by_each (net_view l.net) (held l.marking l.place (value_view l.value) (take l.number l.plan.stages.items) (drop l.number l.plan.stages.items)) (unbound (transition_at (net_view l.net) l.t).vars)
    ≡ l.initial.steps + tried_by_each (net_view l.net) (held l.marking l.place (value_view l.value) [] l.plan.stages.items) (unbound (transition_at (net_view l.net) l.t).vars))
