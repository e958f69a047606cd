-- Those so far stand behind what stood there.
use Rattle.std.proofs.Common.{◌≡◌, ◌++◌, map, take}
use Rattle.cpn_core.specs.NeedsViews.{needed_views}
use Rattle.cpn_log.specs.Gathered.{need_change}
use Rattle.cpn_tmset.specs.ChangedViews.{change_views}
use Rattle.cpn_log.proofs.touched.push_needs.Given as goal

abbrev pub invariant-loop-need : goal.invariant-loop-need
invariant-loop-need l = change_views l.items.items ≡ change_views l.initial.items.items ++ map need_change (needed_views (take l.need-index l.need-items))
