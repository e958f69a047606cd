-- When arcs, work and jobs of the program are the same: as the plain ones that they stand for.
use Rattle.std.specs.Prelude.{Bool}
use Rattle.std.specs.Cmp.{IsEquivalence, IsPartialEquivalence, partial_equiv_from_equiv}
use Rattle.std.proofs.lemmas.Cmp.{on_equiv}
use Rattle.cpn_same.specs.Equality.{equality_is_equivalence}
use Rattle.cpn_jobs.specs.declared.work.WorkArc.{WorkArc}
use Rattle.cpn_jobs.specs.declared.work.Work.{Work}
use Rattle.cpn_jobs.specs.declared.work.Job.{Job}
use Rattle.cpn_jobs.specs.Views.{work_arc_view, work_view, job_view}
use Rattle.cpn_jobs.specs.SameJobs.{same_work_arc, same_work, same_job, work_arcs_decide, works_decide, jobs_decide}

abbrev pub are_same_arcs : WorkArc → WorkArc → Bool
are_same_arcs arc other = same_work_arc (work_arc_view arc) (work_arc_view other)

abbrev pub are_same_work : Work → Work → Bool
are_same_work work other = same_work (work_view work) (work_view other)

abbrev pub are_same_jobs : Job → Job → Bool
are_same_jobs job other = same_job (job_view job) (job_view other)

-- ---- the laws

pub same_arcs_equiv : IsEquivalence are_same_arcs
same_arcs_equiv = on_equiv work_arc_view (equality_is_equivalence same_work_arc work_arcs_decide)

pub same_arcs_laws : IsPartialEquivalence are_same_arcs
same_arcs_laws = partial_equiv_from_equiv same_arcs_equiv

pub same_work_equiv : IsEquivalence are_same_work
same_work_equiv = on_equiv work_view (equality_is_equivalence same_work works_decide)

pub same_work_laws : IsPartialEquivalence are_same_work
same_work_laws = partial_equiv_from_equiv same_work_equiv

pub same_jobs_equiv : IsEquivalence are_same_jobs
same_jobs_equiv = on_equiv job_view (equality_is_equivalence same_job jobs_decide)

pub same_jobs_laws : IsPartialEquivalence are_same_jobs
same_jobs_laws = partial_equiv_from_equiv same_jobs_equiv
