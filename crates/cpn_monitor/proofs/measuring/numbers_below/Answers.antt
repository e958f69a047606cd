-- One number more.
use Rattle.std.proofs.Common.{arith}
use Rattle.cpn_monitor.proofs.ListedMonitors.{below_more, below_all, none_below}
use Rattle.cpn_monitor.proofs.measuring.numbers_below.Goals as goal

pub loop-number-init : goal.loop-number-init
loop-number-init c = none_below c.in_ok-numbers.numbers.items c.in_ok-numbers.ensures.items

pub loop-number-preserved : goal.loop-number-preserved
loop-number-preserved c = below_more c.loop-number.numbers.items c.push.new.self.items c.loop-number.number c.in_ok-push.ensures.items c.loop-number.invariant

pub returns : goal.returns
returns c = record { below = below_all c.loop-number.numbers.items c.loop-number.number c.args.count (omega arith) c.loop-number.invariant }
