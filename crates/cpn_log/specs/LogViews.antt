-- The plain log that a log of the program stands for, and the jobs of its claims that are not committed.
use Rattle.std.specs.Prelude.{ℕ, ◌-◌, nat_lt, if◌then◌else◌, List, length, map, Option, None, slice_get}
use Rattle.cpn_jobs.specs.declared.work.Job.{Job}
use Rattle.cpn_log.specs.Logs.{PlainLog}
use Rattle.cpn_log.specs.ClaimViews.{claim_view, taken_view, head_view, jobs_of}
use Rattle.cpn_log.specs.MarkingViews.{settled_in, unclaimed_in}
use Rattle.cpn_log.specs.declared.logs.Log.{Log}

abbrev pub log_view : Log → PlainLog
log_view log = record {
  committed = map head_view log.heads.items;
  settled = settled_in log.markings;
  claims = map claim_view log.claims.items;
  picks = map taken_view log.claims.items;
  unclaimed = unclaimed_in log.markings;
}

-- the job of each claim behind the committed ones, in claim order
abbrev pub jobs_in : Log → List Job
jobs_in log = jobs_of log.claims.items

-- the job of the claim of a number; none of a committed one
abbrev pub job_in : Log → ℕ → Option Job
job_in log number = if nat_lt number (length (log_view log).committed) then None else slice_get (jobs_in log) (number - length (log_view log).committed)
