-- The test is true exactly of what is the same, so of jobs at one time alone.
use Rattle.std.proofs.Common.{ap}
use Rattle.std.proofs.lemmas.Bool.Decides.{Decides-at}
use Rattle.cpn_jobs.specs.SameJobs.{jobs_decide}
use Rattle.cpn_jobs.specs.Work.{PlainJob}
use Rattle.cpn_jobs.specs.Views.{job_view}
use Rattle.cpn_jobs.proofs.equality.JobPartialEq.eq.Goals as goal

pub returns-clause-same : goal.returns-clause-same
returns-clause-same c = Decides-at _ _ c.is_same.ensures.exact (jobs_decide (job_view c.args.self.now) (job_view c.args.other.now))

pub returns-clause-time : goal.returns-clause-time
returns-clause-time c = λ is. ap (λ (job : PlainJob). job.time) ((returns-clause-same c).0 is)
