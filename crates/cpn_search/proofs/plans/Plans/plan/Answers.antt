-- The plan at a number is that of the transition.
use Rattle.cpn_search.proofs.PlannedTransitions.{plan_at}
use Rattle.cpn_search.proofs.plans.Plans.plan.Goals as goal

pub returns : goal.returns
returns c = record { plan = λ n planned. plan_at n c.args.self.now.plans.items c.args.t c.index.result.now c.requires.in_range c.index.ensures planned.are }
