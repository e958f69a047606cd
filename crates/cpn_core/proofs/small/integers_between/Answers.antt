-- The integer that is pushed is the next one.
use Rattle.std.proofs.Common.{map, ap, ◌∙◌, arith, to_z, of_z, w64}
use Rattle.std.proofs.lemmas.Int.{ints}
use Rattle.cpn_definitions.specs.Value.{int}
use Rattle.cpn_core.specs.Views.{value_view}
use Rattle.cpn_core.proofs.NumberedItems.{integers_more}
use Rattle.cpn_core.proofs.ValueLevels.{view_int}
use Rattle.cpn_core.proofs.ShapeMembers.{within_bounds}
use Rattle.cpn_core.proofs.ListedValues.{pushed}
use Rattle.cpn_core.proofs.small.integers_between.Goals as goal

pub loop-k-init : goal.loop-k-init
loop-k-init c = ap (λ vs. map value_view vs) c.new-values.ensures.items

pub loop-k-preserved : goal.loop-k-preserved
loop-k-preserved c = pushed _ _ _ _ _ _ c.in_ok-push.ensures.items (view_int _ ∙ ap int (omega (arith, ints, within_bounds (to_z w64 (of_z w64 c.args.low)) (to_z w64 (of_z w64 c.args.high)) c.loop-k.k (omega arith)))) (integers_more _ c.loop-k.k) c.loop-k.invariant
