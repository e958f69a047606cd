-- The outputs so far with those of the arcs that are left are those of all arcs.
use Rattle.std.proofs.Common.{◌≡◌, [], drop}
use Rattle.cpn_core.specs.Inscriptions.{funs_view}
use Rattle.cpn_jobs.specs.Gathered.{and_made}
use Rattle.cpn_jobs.specs.Views.{work_arcs_view}
use Rattle.cpn_jobs.specs.Work.{made_by_all, made_by_arc}
use Rattle.cpn_jobs.proofs.outputs.outputs_among.Given as goal

abbrev pub invariant-loop-arc : goal.invariant-loop-arc
invariant-loop-arc l =
    and_made l.outputs (made_by_all (made_by_arc (funs_view l.funs) l.binding l.time l.delay) (work_arcs_view (drop l.arc-index l.arcs)))
    ≡ and_made [] (made_by_all (made_by_arc (funs_view l.funs) l.binding l.time l.delay) (work_arcs_view l.arcs))
