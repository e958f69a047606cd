-- What was added so far, and what is tried at the stages that are left, is what is tried at all; and the places of the stages that are
-- left are some of the marking's; and nothing was listed.
use Rattle.std.proofs.Common.{◌≡◌, ◌++◌, length, drop}
use Rattle.std.specs.List.{AllByRecursion}
use Rattle.cpn_search.specs.ListedTrials.{listed_in}
use Rattle.cpn_search.specs.StageViews.{stages_view}
use Rattle.cpn_search.specs.TrialViews.{trials_view}
use Rattle.cpn_search.specs.TriedStages.{IsPlaced, trials_at}
use Rattle.cpn_search.proofs.trials.push_trials.Given as goal

abbrev pub invariant-loop-stage : goal.invariant-loop-stage
invariant-loop-stage l =
    (trials_view l.trials.items ++ trials_at l.fn.marking (drop l.stage-index l.stages) ≡ trials_view l.fn.trials.items ++ trials_at l.fn.marking l.stages)
    × AllByRecursion (IsPlaced (length l.fn.marking)) (stages_view (drop l.stage-index l.stages))
    × (listed_in l.trials.items ≡ listed_in l.fn.trials.items)
