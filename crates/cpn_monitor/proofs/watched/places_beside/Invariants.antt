-- The transitions so far are put at the places beside them.
use Rattle.cpn_core.specs.Nets.{net_view}
use Rattle.cpn_monitor.specs.Views.{watched_view}
use Rattle.cpn_monitor.proofs.WatchedNets.{AreTouched}
use Rattle.cpn_monitor.proofs.watched.places_beside.Given as goal

abbrev pub invariant-loop-number : goal.invariant-loop-number
invariant-loop-number l = AreTouched (net_view l.net) (watched_view l.watched) l.number l.transitions
