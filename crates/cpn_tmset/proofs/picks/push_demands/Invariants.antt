-- So many demands of the value so far.
use Rattle.std.proofs.Common.{◌≡◌, ◌++◌, replicate}
use Rattle.cpn_core.specs.Views.{value_view}
use Rattle.cpn_tmset.specs.PicksViews.{demands_of}
use Rattle.cpn_tmset.proofs.picks.push_demands.Given as goal

abbrev pub invariant-loop-number : goal.invariant-loop-number
invariant-loop-number l = demands_of l.picks.items ≡ demands_of l.initial.picks.items ++ replicate l._number (record { value = value_view l.value; threshold = l.time })
