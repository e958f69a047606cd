-- What `==` of two lists tells, of what their items stand for.
use Rattle.std.proofs.Common.{sym, ◌∙◌}
use Rattle.std.specs.Cmp.Derive.Mapped.{pointwise-map}
use Rattle.cpn_jobs.specs.SameJobs.{same_work_arc}
use Rattle.cpn_jobs.specs.Views.{work_arc_view}
use Rattle.cpn_jobs.proofs.equality.same_arcs.Goals as goal

pub returns : goal.returns
returns c = record { exact = c.eq.ensures ∙ sym (pointwise-map work_arc_view same_work_arc c.args.arcs.now.items c.args.others.now.items) }
