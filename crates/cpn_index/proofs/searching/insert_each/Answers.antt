-- One number more.
use Rattle.cpn_index.proofs.NumberSets.{number_more}
use Rattle.cpn_index.proofs.searching.insert_each.Goals as goal

pub loop-number-preserved : goal.loop-number-preserved
loop-number-preserved c = λ t. number_more c.args.numbers.now c.loop-number.number-index c.args.set.now c.loop-number.set c.insert.new.self c.loop-number-test.true c.in_ok-insert.ensures.updates c.loop-number.invariant t
