-- Those so far stand there, in order.
use Rattle.std.proofs.Common.{◌≡◌, take}
use Rattle.cpn_definitions.specs.Lists.{in_order}
use Rattle.cpn_definitions.specs.Occurrence.{made_cmp}
use Rattle.cpn_core.specs.NeedsViews.{needed_views}
use Rattle.cpn_log.specs.Gathered.{tokens_taken}
use Rattle.cpn_log.proofs.exchanged.taken_in_order.Given as goal

abbrev pub invariant-loop-index : goal.invariant-loop-index
invariant-loop-index l = l.taken ≡ in_order made_cmp (tokens_taken (needed_views (take l.index l.needs)) l.stamps)
