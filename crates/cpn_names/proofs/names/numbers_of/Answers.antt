-- The next name has the number that it had, or else its own.
use Rattle.std.proofs.Common.{[], rules}
use Rattle.cpn_names.proofs.NameNumbers.{numbers_more}
use Rattle.cpn_names.proofs.names.numbers_of.Goals as goal

pub loop-number-preserved : goal.loop-number-preserved
loop-number-preserved c =
    numbers_more c.args.names.now c.loop-number.number (record { ref_ptr = (0, 0); now = [] }) c.loop-number-test.true c.loop-number.numbers c.insert.new.self c.unwrap_or-first.result c.loop-number.invariant (search rules) c.in_ok-insert.ensures.updates
