-- The claim that is drawn: its needs are covered at the clock.
use Rattle.std.proofs.Common.{◌≡◌, ℕ, ◌≤◌, true, List, sym, ap, subst}
use Rattle.cpn_definitions.specs.Occurrence.{Needed, threshold, are_covered}
use Rattle.cpn_definitions.specs.Times.{last_time}
use Rattle.cpn_jobs.specs.Views.{job_view}
use Rattle.cpn_jobs.specs.Work.{PlainJob}
use Rattle.cpn_jobs.specs.declared.work.Job.{Job}
use Rattle.cpn_log.specs.Logs.{claims_made}
use Rattle.cpn_log.specs.LogViews.{log_view}
use Rattle.cpn_runs.specs.Playable.{IsPlayable}
use Rattle.cpn_runs.specs.State.{PlainSetup}
use Rattle.cpn_book.specs.DrawnClaims.{IsDrawnClaim, undrawn}
use Rattle.cpn_book.specs.Standings.{StillCommitted}
use Rattle.cpn_book.specs.declared.standings.Standing.{Standing}
use Rattle.cpn_book.proofs.DrawnElements.{clock_is_early, needs_covered}

module _ (setup : PlainSetup) (s : Standing) (number : ℕ) (job : Job) (needs : List Needed) (due : IsDrawnClaim setup s number (job_view job) needs) where
  pub drawn_now : job.time ≡ s.clock
  drawn_now = ap (λ (j : PlainJob). j.time) due.job_is

  pub drawn_element : (job_view job).element ≡ due.drawn.element
  drawn_element = ap (λ (j : PlainJob). j.element) due.job_is

  pub drawn_in_time : IsPlayable setup → job.time ≤ last_time
  drawn_in_time playable = subst (λ (t : ℕ). t ≤ last_time) (sym drawn_now) (clock_is_early setup (undrawn setup s) due.at playable)

  pub drawn_covered : IsPlayable setup → are_covered (threshold job.time) (log_view s.log).unclaimed needs ≡ true
  drawn_covered playable =
      subst (λ (t : ℕ). are_covered (threshold t) (log_view s.log).unclaimed needs ≡ true) (sym drawn_now)
      (needs_covered setup (undrawn setup s) due.at playable due.entries due.enabled (claims_made (log_view s.log)) due.drawn due.drawn_is needs due.needs_are)

-- what is committed stands where only the draw is another
pub still_drawn : (setup : PlainSetup) (s new : Standing) → StillCommitted setup (undrawn setup s) new → StillCommitted setup s new
still_drawn setup s new still = record { committed = still.committed; more = still.more; occurrences = still.occurrences }

-- the same claim, as it is carried on
pub drawn_as
    : (setup : PlainSetup) (s : Standing) (number now : ℕ) (job job_now : PlainJob) (needs needs_now : List Needed) → now ≡ number → job_now ≡ job → needs_now ≡ needs
    → IsDrawnClaim setup s number job needs → IsDrawnClaim setup s now job_now needs_now
drawn_as setup s number now job job_now needs needs_now numbers jobs same drawn =
    let by_job : IsDrawnClaim setup s number job_now needs = subst (λ (j : PlainJob). IsDrawnClaim setup s number j needs) (sym jobs) drawn in
    let by_number : IsDrawnClaim setup s now job_now needs = subst (λ (k : ℕ). IsDrawnClaim setup s k job_now needs) (sym numbers) by_job in
    subst (λ (ns : List Needed). IsDrawnClaim setup s now job_now ns) (sym same) by_number
