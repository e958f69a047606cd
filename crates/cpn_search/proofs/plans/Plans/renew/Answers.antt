-- With the plan made anew each transition has its plan.
use Rattle.std.proofs.Common.{refl}
use Rattle.cpn_core.specs.Nets.{net_view}
use Rattle.cpn_search.proofs.PlannedTransitions.{planned_anew}
use Rattle.cpn_search.proofs.plans.Plans.renew.Goals as goal

pub returns-clause-planned : goal.returns-clause-planned
returns-clause-planned c =
    planned_anew (net_view c.args.net.now) c.args.self.now _ c.args.t c.in_ok-plan.plan c.requires.planned (record { stages = c.in_ok-plan.ensures.stages; values = c.in_ok-plan.ensures.values }) refl
