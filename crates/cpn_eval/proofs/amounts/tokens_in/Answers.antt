-- After the last term nothing is left to add.
use Rattle.std.proofs.Common.{arith}
use Rattle.cpn_eval.proofs.TermAmounts.{tokens_are_all}
use Rattle.cpn_eval.proofs.amounts.tokens_in.Goals as goal

pub returns : goal.returns
returns c = record { tokens = tokens_are_all c.args.terms.now c.loop-term.term-index c.loop-term.tokens (omega arith) c.loop-term.invariant.small c.loop-term.invariant.total }
