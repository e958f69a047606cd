-- Those so far are copied, in their order.
use Rattle.std.proofs.Common.{◌≡◌, take}
use Rattle.cpn_core.specs.NeedsViews.{needed_views}
use Rattle.cpn_definitions.specs.Lists.{in_order}
use Rattle.cpn_definitions.specs.Occurrence.{needed_cmp}
use Rattle.cpn_book.proofs.claiming.copy_needs.Given as goal

abbrev pub invariant-loop-need : goal.invariant-loop-need
invariant-loop-need l = l.copied ≡ in_order needed_cmp (needed_views (take l.need-index l.tokens))
