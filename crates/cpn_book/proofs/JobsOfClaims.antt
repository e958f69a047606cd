-- The job of a claim that is not committed is that of its element at its time.
use Rattle.std.proofs.Common.{◌≡◌, ℕ, ◌-◌, ◌≤◌, true, length, map, Some, sym, ap, ◌∙◌, arith, slice_get}
use Rattle.std.specs.Option.{option_map}
use Rattle.std.proofs.lemmas.Option.{slice_get-map}
use Rattle.cpn_jobs.specs.Views.{job_view}
use Rattle.cpn_log.specs.Logs.{PlainHead, head_of, heads}
use Rattle.cpn_log.specs.LogViews.{log_view, job_in, jobs_in}
use Rattle.cpn_log.proofs.JobNumbers.{job_behind}
use Rattle.cpn_runs.specs.HoleRun.{PlainClaim, is_open}
use Rattle.cpn_runs.specs.State.{PlainSetup}
use Rattle.cpn_book.specs.Standings.{IsToldAt, job_for}
use Rattle.cpn_book.specs.declared.standings.Standing.{Standing}
use Rattle.cpn_book.proofs.CompletedClaims.{open_is_behind}
use Rattle.cpn_book.proofs.CountedClaims.{heads_are}
use Rattle.cpn_book.proofs.LoggedClaims.{behind}

module _ (setup : PlainSetup) (s : Standing) (at : IsToldAt setup s) (number : ℕ) where
  -- of the claim that says this
  pub job_says : (head : PlainHead) → length (log_view s.log).committed ≤ number → slice_get (heads (log_view s.log)) number ≡ Some head → option_map job_view (job_in s.log number) ≡ Some (job_for setup.net head)
  job_says head low says =
      let log = log_view s.log in
      let place = number - length log.committed in
      let there : slice_get (map head_of log.claims) place ≡ Some head = sym (behind log.committed (map head_of log.claims) place) ∙ ap (slice_get (heads log)) (omega (arith, low)) ∙ says in
      ap (option_map job_view) (job_behind s.log number low) ∙ sym (slice_get-map job_view (jobs_in s.log) place)
      ∙ ap (λ js. slice_get js place) at.jobs
      ∙ slice_get-map (job_for setup.net) (map head_of log.claims) place ∙ ap (option_map (job_for setup.net)) there

  -- of an open claim
  pub job_of_open : (claim : PlainClaim) → slice_get at.state.claims number ≡ Some claim → is_open claim.status ≡ true → option_map job_view (job_in s.log number) ≡ Some (job_for setup.net (head_of claim))
  job_of_open claim stands opened =
      job_says (head_of claim) (open_is_behind setup at.state (log_view s.log) at.told.has number claim stands opened)
      (ap (λ hs. slice_get hs number) (heads_are setup.start at.state.claims (log_view s.log) at.told.has) ∙ slice_get-map head_of at.state.claims number ∙ ap (option_map head_of) stands)
