-- The arcs so far are those of the net so far.
use Rattle.std.proofs.Common.{◌≡◌, map, take}
use Rattle.cpn_core.specs.Nets.{arc_view, net_view}
use Rattle.cpn_jobs.specs.Views.{work_arc_view}
use Rattle.cpn_jobs.specs.Work.{work_arc}
use Rattle.cpn_jobs.proofs.works.work_arcs.Given as goal

abbrev pub invariant-loop-arc : goal.invariant-loop-arc
invariant-loop-arc l = map work_arc_view l.found.items ≡ map (work_arc (net_view l.net)) (map arc_view (take l.arc-index l.arcs))
