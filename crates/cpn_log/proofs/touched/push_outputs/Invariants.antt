-- Those so far stand behind what stood there.
use Rattle.std.proofs.Common.{◌≡◌, ◌++◌, map, take}
use Rattle.cpn_core.specs.OutputsViews.{made_views}
use Rattle.cpn_log.specs.Gathered.{made_change}
use Rattle.cpn_tmset.specs.ChangedViews.{change_views}
use Rattle.cpn_log.proofs.touched.push_outputs.Given as goal

abbrev pub invariant-loop-made : goal.invariant-loop-made
invariant-loop-made l = change_views l.items.items ≡ change_views l.initial.items.items ++ map made_change (made_views (take l.made-index l.made-items))
