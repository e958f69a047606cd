-- The tuple of one row more.
use Rattle.std.proofs.Common.{map, ap}
use Rattle.cpn_definitions.specs.Value.{tuple}
use Rattle.cpn_core.specs.Views.{value_view, values_view, rows_view}
use Rattle.cpn_core.proofs.ValueLevels.{view_tuple}
use Rattle.cpn_core.proofs.ListedValues.{pushed, tupled_more}
use Rattle.cpn_core.proofs.small.tuples.Goals as goal

pub loop-row-init : goal.loop-row-init
loop-row-init c = ap (λ vs. map value_view vs) c.in_ok-values.ensures.items

pub loop-row-preserved : goal.loop-row-preserved
loop-row-preserved c =
    pushed c.loop-row.values.items c.push.new.self.items _ (map tuple (rows_view c.loop-row.yielded)) _ (tuple (values_view c.in-Some.row.items)) c.in_ok-push.ensures.items (view_tuple c.in-Some.row)
    (tupled_more c.loop-row.yielded c.in-Some.row) c.loop-row.invariant
