-- There is a plan of each transition.
use Rattle.std.proofs.Common.{arith}
use Rattle.cpn_core.specs.Nets.{net_view}
use Rattle.cpn_search.proofs.PlannedTransitions.{planned_number}
use Rattle.cpn_search.proofs.plans.Plans.enabled_of.Goals as goal

pub plan-plan-requires : goal.plan-plan-requires
plan-plan-requires c = record { in_range = (let each = planned_number c.args.net.now c.args.self.now c.requires.planned in omega (arith, each, c.requires.in_range)) }

pub search_by-requires-clause-planned : goal.search_by-requires-clause-planned
search_by-requires-clause-planned c = c.plan-plan.ensures.plan (net_view c.args.net.now) c.requires.planned
