-- The transition is put at the places of the arcs so far.
use Rattle.std.proofs.Common.{take}
use Rattle.cpn_core.specs.Nets.{arcs_view}
use Rattle.cpn_monitor.specs.Views.{watched_view}
use Rattle.cpn_monitor.specs.Watched.{TouchMore}
use Rattle.cpn_monitor.proofs.watched.push_places.Given as goal

abbrev pub invariant-loop-arc : goal.invariant-loop-arc
invariant-loop-arc l = TouchMore (watched_view l.watched) (arcs_view (take l.arc-index l.arcs)) l.transition l.initial.transitions l.transitions
