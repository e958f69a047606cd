-- The monitors so far are listed.
use Rattle.std.proofs.Common.{◌≡◌, length, map, take}
use Rattle.cpn_core.specs.Nets.{net_view}
use Rattle.cpn_monitor.specs.Watched.{AreWatched}
use Rattle.cpn_monitor.specs.Views.{monitor_view, watched_view}
use Rattle.cpn_monitor.proofs.watched.Watched.of.Given as goal

abbrev pub invariant-loop-number : goal.invariant-loop-number
invariant-loop-number l = record {
  watched : AreWatched (map monitor_view (take l.number l.monitors)) (watched_view l.watched);
  transitions : length (watched_view l.watched).of_transition ≡ length (net_view l.net).transitions;
  places : length (watched_view l.watched).of_place ≡ length (net_view l.net).places;
}
