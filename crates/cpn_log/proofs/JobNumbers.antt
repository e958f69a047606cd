-- A claim that is not committed, by its number: it stands behind the committed part, and its job is found there.
use Rattle.std.proofs.Common.{◌≡◌, ℕ, ◌+◌, ◌-◌, ◌<◌, ◌≤◌, cond, length, Some, None, ap, ◌∙◌, slice_get, arith}
use Rattle.std.specs.Option.{option_map}
use Rattle.std.proofs.lemmas.Bool.{le-ltb}
use Rattle.std.proofs.lemmas.Option.{slice_get-map, slice_get_within}
use Rattle.cpn_log.specs.Logs.{PlainLog, claims_made, stands_open, standings}
use Rattle.cpn_log.specs.LogViews.{log_view, job_in, jobs_in}
use Rattle.cpn_log.specs.declared.claims.Claim.{Claim}
use Rattle.cpn_log.specs.declared.logs.Log.{Log}
use Rattle.cpn_log.proofs.LogParts.{committed_is, open_at}

-- one that stands open
module _ (log : PlainLog) (number : ℕ) (is : slice_get (standings log) number ≡ Some stands_open) where
  pub open_behind : length log.committed ≤ number
  open_behind = (open_at log number is).behind

  pub open_made : number < claims_made log
  open_made =
      let o = open_at log number is in
      let low = o.behind in
      let within = slice_get_within log.claims (number - length log.committed) o.claim o.is in
      omega (arith, low, within)

-- its job
pub job_behind : (log : Log) (number : ℕ) → length (log_view log).committed ≤ number → job_in log number ≡ slice_get (jobs_in log) (number - length (log_view log).committed)
job_behind log number behind = ap (λ b. cond b None (slice_get (jobs_in log) (number - length (log_view log).committed))) (le-ltb number (length (log_view log).committed) behind)

pub job_of_claim : (log : Log) (number position : ℕ) (claim : Claim) → number ≡ length log.heads.items + position → slice_get log.claims.items position ≡ Some claim → job_in log number ≡ Some claim.job.value
job_of_claim log number position claim at is =
    let committed = committed_is log in
    let place : number - length (log_view log).committed ≡ position = omega (arith, committed, at) in
    job_behind log number (omega (arith, committed, at)) ∙ ap (slice_get (jobs_in log)) place
    ∙ slice_get-map (λ (c : Claim). c.job.value) log.claims.items position ∙ ap (option_map (λ (c : Claim). c.job.value)) is
