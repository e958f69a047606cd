-- The constant that is pushed is the next one.
use Rattle.std.proofs.Common.{map, ap, ◌∙◌, arith}
use Rattle.cpn_core.specs.ShapeValues.{constants}
use Rattle.cpn_core.specs.Views.{value_view}
use Rattle.cpn_core.proofs.NumberedItems.{constants_more}
use Rattle.cpn_core.proofs.ValueLevels.{view_enum}
use Rattle.cpn_core.proofs.ListedValues.{pushed}
use Rattle.cpn_core.proofs.small.constants_below.Goals as goal

pub loop-k-init : goal.loop-k-init
loop-k-init c = ap (λ vs. map value_view vs) c.new-values.ensures.items

pub loop-k-preserved : goal.loop-k-preserved
loop-k-preserved c = pushed _ _ _ _ _ _ c.in_ok-push.ensures.items (view_enum _) (constants_more c.loop-k.k) c.loop-k.invariant

pub returns : goal.returns
returns c = c.loop-k.invariant ∙ ap constants (omega arith)
