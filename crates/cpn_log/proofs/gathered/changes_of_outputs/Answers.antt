-- One item more is told.
use Rattle.std.proofs.Common.{arith}
use Rattle.cpn_core.specs.OutputsViews.{made_view}
use Rattle.cpn_log.specs.Gathered.{made_change}
use Rattle.cpn_tmset.specs.ChangedViews.{changes_view}
use Rattle.cpn_log.proofs.ToldItems.{told_more}
use Rattle.cpn_log.proofs.gathered.changes_of_outputs.Goals as goal

pub loop-made-preserved : goal.loop-made-preserved
loop-made-preserved c =
    told_more made_view made_change c.tokens-tokens.result.now c.loop-made.made-index c.made-item.result (changes_view c.loop-made.changes) (changes_view c.tell.new.changes) (omega arith) c.made-item.is c.loop-made.invariant c.in_ok-tell.ensures
