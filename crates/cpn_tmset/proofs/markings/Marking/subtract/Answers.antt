-- One need more is taken out, and of needs in order the thresholds increase.
use Rattle.std.proofs.Common.{arith}
use Rattle.cpn_tmset.proofs.SubtractedNeeds.{subtracted_next, less_for_next, all_subtracted}
use Rattle.cpn_tmset.proofs.markings.Marking.subtract.Goals as goal

pub loop-need-preserved : goal.loop-need-preserved
loop-need-preserved c = record {
  subtracted = subtracted_next c.args.time c.tokens-need-items.result.now c.loop-need.need-index c.need-item.result (omega arith) c.need-item.is c.loop-need.self c.take_if_there.new.self _ c.take_if_there.ensures.taken c.loop-need.invariant.subtracted;
  left = less_for_next c.args.time c.tokens-need-items.result.now c.loop-need.need-index c.need-item.result (omega arith) c.need-item.is c.args.self.now c.loop-need.self c.take_if_there.new.self c.loop-need.invariant.left c.take_if_there.ensures.sorted c.take_if_there.ensures.taken;
}

pub returns-clause-left : goal.returns-clause-left
returns-clause-left c = all_subtracted c.args.time c.tokens-need-items.result.now c.loop-need.need-index c.args.needs.now c.args.self.now c.loop-need.self (omega arith) c.tokens-need-items.ensures.items c.tokens-need-items.ensures.in_order c.loop-need.invariant.left
