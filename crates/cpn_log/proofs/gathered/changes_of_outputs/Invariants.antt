-- Those so far stand there, each once.
use Rattle.std.proofs.Common.{◌≡◌, map, take}
use Rattle.cpn_core.specs.OutputsViews.{made_views}
use Rattle.cpn_log.specs.Gathered.{each_once, made_change}
use Rattle.cpn_tmset.specs.ChangedViews.{changes_view}
use Rattle.cpn_log.proofs.gathered.changes_of_outputs.Given as goal

abbrev pub invariant-loop-made : goal.invariant-loop-made
invariant-loop-made l = changes_view l.changes ≡ each_once (map made_change (made_views (take l.made-index l.tokens)))
