-- One token more is put in.
use Rattle.std.proofs.Common.{arith}
use Rattle.cpn_definitions.specs.Occurrence.{add_made}
use Rattle.cpn_core.specs.OutputsViews.{made_view, made_views}
use Rattle.cpn_log.proofs.CopiedTokens.{one_put}
use Rattle.cpn_log.proofs.tokens.add_copies.Goals as goal

pub loop-made-preserved : goal.loop-made-preserved
loop-made-preserved c =
    one_put made_view c.tokens-tokens.result.now c.loop-made.made-index c.made-item.result c.loop-made.marking c.add_copy.new.marking (add_made (made_views c.tokens-tokens.result.now) c.args.marking.now) (omega arith) c.made-item.is c.loop-made.invariant
    c.in_ok-add_copy.ensures.added
