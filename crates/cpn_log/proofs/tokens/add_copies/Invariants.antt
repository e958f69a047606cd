-- What is left of the outputs is still to be put in, and there is room for it.
use Rattle.std.proofs.Common.{drop}
use Rattle.cpn_definitions.specs.Occurrence.{add_made}
use Rattle.cpn_core.specs.OutputsViews.{made_views}
use Rattle.cpn_log.proofs.CopiedTokens.{AreLeft}
use Rattle.cpn_log.proofs.tokens.add_copies.Given as goal

abbrev pub invariant-loop-made : goal.invariant-loop-made
invariant-loop-made l = AreLeft (made_views (drop l.made-index l.tokens)) l.marking (add_made (made_views l.tokens) l.initial.marking)
