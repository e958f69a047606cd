-- The plain work and jobs that those of the program stand for.
use Rattle.std.specs.Prelude.{List, map}
use Rattle.cpn_core.specs.Inscriptions.{funs_view}
use Rattle.cpn_core.specs.Nets.{delay_view}
use Rattle.cpn_core.specs.Elements.{element_view}
use Rattle.cpn_same.specs.SameArcs.{arc_expr_view}
use Rattle.cpn_jobs.specs.declared.work.WorkArc.{WorkArc}
use Rattle.cpn_jobs.specs.declared.work.Work.{Work}
use Rattle.cpn_jobs.specs.declared.work.Job.{Job}
use Rattle.cpn_jobs.specs.Work.{PlainWorkArc, PlainWork, PlainJob}

abbrev pub work_arc_view : WorkArc → PlainWorkArc
work_arc_view arc = record { place = arc.place; timed = arc.timed; inscription = arc_expr_view arc.inscription.value }

abbrev pub work_view : Work → PlainWork
work_view work = record { functions = funs_view work.funs.value; delay = delay_view work.delay; outputs = map work_arc_view work.outputs.items }

abbrev pub job_view : Job → PlainJob
job_view job = record { element = element_view job.element.value; time = job.time; work = work_view job.work.value }

abbrev pub work_arcs_view : List WorkArc → List PlainWorkArc
work_arcs_view arcs = map work_arc_view arcs
