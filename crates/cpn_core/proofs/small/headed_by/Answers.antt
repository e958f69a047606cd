-- The rows with one head more follow those with the heads before it.
use Rattle.std.proofs.Common.{◌++◌, map, ap, sym, ◌∙◌, arith}
use Rattle.cpn_definitions.specs.Value.{more}
use Rattle.cpn_core.specs.Views.{value_view, rows_view}
use Rattle.cpn_core.proofs.ListedValues.{headed_more}
use Rattle.cpn_core.proofs.small.headed_by.Goals as goal

pub loop-head-preserved : goal.loop-head-preserved
loop-head-preserved c =
    c.in_ok-push_headed.ensures
    ∙ ap (λ rows. rows ++ map (more (value_view c.head-item.result)) (rows_view c.args.rows.now.items)) c.loop-head.invariant
    ∙ sym (headed_more c.deref-head-items.result.now (rows_view c.args.rows.now.items) c.loop-head.head-index c.head-item.result (omega arith) c.head-item.is)
