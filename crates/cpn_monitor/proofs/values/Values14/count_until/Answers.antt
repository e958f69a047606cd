-- A value is counted until the clock.
use Rattle.std.proofs.Common.{arith}
use Rattle.cpn_monitor.proofs.ValueViews.{up_to_here, until_at}
use Rattle.cpn_monitor.proofs.values.Values14.count_until.Goals as goal

pub until-requires-clause-up_to : goal.until-requires-clause-up_to
until-requires-clause-up_to c = up_to_here c.args.clock c.args.self.now.values.items c.loop-number.self.values.items c.loop-number.number c.index.result.now c.requires.up_to c.loop-number.invariant c.index.ensures (omega arith)

pub loop-number-preserved : goal.loop-number-preserved
loop-number-preserved c =
    until_at c.args.clock c.args.self.now.values.items c.loop-number.self.values.items c.loop-number.number c.index_mut.result.now c.index.result.now c.until.result c.loop-number.invariant c.index_mut.ensures.value c.index.ensures c.until.ensures.until (omega arith)
