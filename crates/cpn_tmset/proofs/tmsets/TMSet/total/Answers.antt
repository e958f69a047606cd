-- Tokens that are kept value by value are sorted.
use Rattle.cpn_tmset.proofs.KeptTokens.{seen_sorted}
use Rattle.cpn_tmset.proofs.tmsets.TMSet.total.Goals as goal

pub returns-clause-sorted : goal.returns-clause-sorted
returns-clause-sorted c = seen_sorted c.self.inside.entries.entries c.args.self.now c.self.invariant.0 c.self.view_is
