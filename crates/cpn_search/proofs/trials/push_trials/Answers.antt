-- One stage more is tried.
use Rattle.std.proofs.Common.{arith, length, ◌∙◌}
use Rattle.cpn_search.proofs.TriedPlans.{one_tried, rest_placed}
use Rattle.cpn_search.proofs.ListedValues.{one_lists_more}
use Rattle.cpn_search.proofs.trials.push_trials.Goals as goal

pub loop-stage-preserved : goal.loop-stage-preserved
loop-stage-preserved c = (
  one_tried c.args.marking.now c.args.stages.now c.loop-stage.trials.items c.push.new.self.items c.loop-stage.stage-index c.stage-item.result c.trial_of.result (omega arith) c.stage-item.is c.trial_of.ensures.tried c.in_ok-push.ensures.items
      ∙ c.loop-stage.invariant.0,
  rest_placed (length c.args.marking.now) c.args.stages.now c.loop-stage.stage-index c.loop-stage.invariant.1,
  one_lists_more c.loop-stage.trials.items c.push.new.self.items c.trial_of.result c.in_ok-push.ensures.items c.trial_of.ensures.none_listed ∙ c.loop-stage.invariant.2,
)
