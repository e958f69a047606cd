-- Those so far are told behind what was told.
use Rattle.std.proofs.Common.{◌≡◌, List, ◌++◌, map, take}
use Rattle.cpn_core.specs.OutputsViews.{made_views}
use Rattle.cpn_tmset.specs.Changed.{PlainChange}
use Rattle.cpn_tmset.specs.ChangedViews.{changes_view}
use Rattle.cpn_log.specs.Gathered.{each_once, made_change}
use Rattle.cpn_log.proofs.exchanged.tell_each.Given as goal

abbrev pub invariant-loop-token : goal.invariant-loop-token
invariant-loop-token l = (told : List PlainChange) → changes_view l.initial.changes ≡ each_once told → changes_view l.changes ≡ each_once (told ++ map made_change (made_views (take l.token-index l.tokens)))
