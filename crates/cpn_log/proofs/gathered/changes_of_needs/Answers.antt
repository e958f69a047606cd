-- One item more is told.
use Rattle.std.proofs.Common.{arith}
use Rattle.cpn_core.specs.NeedsViews.{needed_view}
use Rattle.cpn_log.specs.Gathered.{need_change}
use Rattle.cpn_tmset.specs.ChangedViews.{changes_view}
use Rattle.cpn_log.proofs.ToldItems.{told_more}
use Rattle.cpn_log.proofs.gathered.changes_of_needs.Goals as goal

pub loop-need-preserved : goal.loop-need-preserved
loop-need-preserved c =
    told_more needed_view need_change c.tokens-tokens.result.now c.loop-need.need-index c.need-item.result (changes_view c.loop-need.changes) (changes_view c.tell.new.changes) (omega arith) c.need-item.is c.loop-need.invariant c.in_ok-tell.ensures
