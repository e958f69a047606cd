-- Tokens that are kept value by value are sorted.
use Rattle.cpn_tmset.proofs.KeptTokens.{seen_sorted}
use Rattle.cpn_tmset.proofs.tmsets.TMSet.alloc.Goals as goal

pub returns : goal.returns
returns c = record { sorted = seen_sorted c.self.inside.entries.entries c.args.self.now c.self.invariant.0 c.self.view_is }
