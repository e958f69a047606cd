-- One plan more.
use Rattle.std.proofs.Common.{arith}
use Rattle.cpn_core.specs.Nets.{net_view}
use Rattle.cpn_search.proofs.PlannedTransitions.{one_more}
use Rattle.cpn_search.proofs.plans.plans_of.Goals as goal

pub loop-t-preserved : goal.loop-t-preserved
loop-t-preserved c =
    let number = c.loop-t.invariant.0 in
    let longer = c.in_ok-push.ensures.len in (
      omega (arith, number, longer),
      one_more (net_view c.args.net.now) c.loop-t.t c.loop-t.plans.items c.push.new.self.items c.in_ok-of.field-0 c.loop-t.invariant.1 number (record { stages = c.in_ok-of.ensures.stages; values = c.in_ok-of.ensures.values }) c.in_ok-push.ensures.items,
    )
