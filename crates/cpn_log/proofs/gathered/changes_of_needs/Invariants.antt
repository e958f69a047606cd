-- Those so far stand there, each once.
use Rattle.std.proofs.Common.{◌≡◌, map, take}
use Rattle.cpn_core.specs.NeedsViews.{needed_views}
use Rattle.cpn_log.specs.Gathered.{each_once, need_change}
use Rattle.cpn_tmset.specs.ChangedViews.{changes_view}
use Rattle.cpn_log.proofs.gathered.changes_of_needs.Given as goal

abbrev pub invariant-loop-need : goal.invariant-loop-need
invariant-loop-need l = changes_view l.changes ≡ each_once (map need_change (needed_views (take l.need-index l.tokens)))
