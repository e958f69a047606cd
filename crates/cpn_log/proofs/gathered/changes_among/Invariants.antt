-- Those so far that differ stand there, each once.
use Rattle.std.proofs.Common.{◌≡◌, take}
use Rattle.std.specs.List.{filter}
use Rattle.cpn_log.specs.Gathered.{differs, each_once}
use Rattle.cpn_tmset.specs.ChangedViews.{change_views, changes_view}
use Rattle.cpn_log.proofs.gathered.changes_among.Given as goal

abbrev pub invariant-loop-change : goal.invariant-loop-change
invariant-loop-change l = changes_view l.changes ≡ each_once (filter (differs l.old l.new) (change_views (take l.change-index l.touched)))
