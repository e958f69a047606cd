-- What holds of a search that is under way; what was found are elements of the transition, with their needs; and the steps with the
-- tries that are still to be made are all the tries. The trials try what they tried, and they have listed no more values than steps were made.
use Rattle.std.proofs.Common.{◌≡◌, ◌≤◌, ◌+◌, map}
use Rattle.cpn_definitions.specs.Net.{transition_at}
use Rattle.cpn_core.specs.Nets.{net_view}
use Rattle.cpn_stages.specs.Partial.{unbound}
use Rattle.cpn_stages.specs.Trials.{tried}
use Rattle.cpn_search.specs.FoundViews.{found_view, AreOf}
use Rattle.cpn_search.specs.ListedTrials.{listed_in}
use Rattle.cpn_search.specs.TrialViews.{trials_view, all_under_way}
use Rattle.cpn_search.specs.Searches.{SearchState, still_made, still_tried}
use Rattle.cpn_search.proofs.turns.all_found.Given as goal

abbrev pub invariant-loop-next : goal.invariant-loop-next
invariant-loop-next g l =
    SearchState (net_view l.net) l.fn.marking l.t (trials_view l.initial.trials) (all_under_way l.ahead.items) (map found_view l.found.items) × AreOf (net_view l.net) l.t l.found.items
    × (l.steps + still_tried (net_view l.net) (trials_view l.initial.trials) (all_under_way l.ahead.items) ≡ l.initial.steps + tried (net_view l.net) (trials_view l.initial.trials) (unbound (transition_at (net_view l.net) l.t).vars))
    × (trials_view l.trials ≡ trials_view l.initial.trials)
    × (listed_in l.trials + l.initial.steps ≤ listed_in l.initial.trials + l.steps)

abbrev pub decreases-loop-next : goal.decreases-loop-next
decreases-loop-next g l = still_made (net_view l.net) (trials_view l.initial.trials) (all_under_way l.ahead.items)
