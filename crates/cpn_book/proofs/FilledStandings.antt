-- Where a run stands when a claim is done, before what can be committed is committed.
use Rattle.std.proofs.Common.{◌≡◌, ℕ, zero, suc, ◌-◌, ◌<◌, ◌≤◌, List, [], ◌∷◌, ◌++◌, length, map, take, Option, Some, None, Result, Ok, Err, refl, sym, ap, ◌∙◌, subst, arith, slice_get, slice_set}
use Rattle.std.specs.Option.{option_map}
use Rattle.std.specs.List.{AllByRecursion}
use Rattle.cpn_core.specs.declared.faults.EvalFault.{EvalFault}
use Rattle.cpn_core.specs.declared.outputs.Outputs.{Outputs}
use Rattle.cpn_definitions.specs.Bounds.{most_made}
use Rattle.cpn_definitions.specs.Outcome.{Outcome, gives}
use Rattle.cpn_definitions.specs.Occurrence.{Made, outputs_of}
use Rattle.cpn_definitions.proofs.Markings.{marking_length}
use Rattle.cpn_draw.specs.Draw.{generator}
use Rattle.cpn_jobs.specs.Views.{job_view}
use Rattle.cpn_jobs.specs.Work.{PlainJob}
use Rattle.cpn_jobs.specs.OutputsByWork.{work_makes}
use Rattle.cpn_log.specs.Kept.{IsKept}
use Rattle.cpn_log.specs.Logs.{head_of, with_status, changed_to}
use Rattle.cpn_log.specs.LogViews.{log_view, job_in, jobs_in}
use Rattle.cpn_monitor.specs.Views.{measuring_view}
use Rattle.cpn_runs.specs.Commits.{marked_from, stop_at_last}
use Rattle.cpn_runs.specs.HoleRun.{PlainClaim}
use Rattle.cpn_runs.specs.Playable.{IsPlayable}
use Rattle.cpn_runs.specs.State.{PlainSetup, PlainState, claim_completed, status_after, numbered}
use Rattle.cpn_runs.specs.GivingBack.{OnlyGivenBack}
use Rattle.cpn_runs.proofs.BoundedStates.{HasFewOutputs, claim_has_few_outputs, every_state_has_bounds}
use Rattle.cpn_runs.proofs.States.{IsClaimOf, every_state}
use Rattle.cpn_book.specs.StandingRuns.{IsTold}
use Rattle.cpn_book.proofs.CompletedClaims.{IsItsCompletion, is_behind, told_completed}
use Rattle.cpn_book.proofs.HeldClaims.{IsItsClaim}
use Rattle.cpn_book.proofs.HeldJobs.{all_at, held_known, its as held_claim, claim_stands as held_stands, job_of_claim as job_of_held, only_given_back}
use Rattle.cpn_book.proofs.LoggedClaims.{unclaimed_left}
use Rattle.cpn_book.specs.Committing.{MayCommit}
use Rattle.cpn_book.specs.Evaluations.{outputs_in, outcome_of, status_by, Tells}
use Rattle.cpn_book.specs.Standings.{IsToldAt, IsAt, committed_of, job_for, cut_view, events_in, occurrences_in}
use Rattle.cpn_book.specs.declared.standings.Standing.{Standing}
use Rattle.cpn_book.proofs.ClaimedStandings.{stands_at, goes_on_at}
use Rattle.cpn_book.proofs.MeasuredStandings.{measured_alike, WereMadeAt, made_at_same, made_at_whatever, same_ahead}

status_told : (r : Result Outputs EvalFault) (o : Outcome (List Made)) → outcome_of r ≡ o → status_after o ≡ Some (status_by r)
status_told (Ok outputs) o is = ap status_after (sym is)
status_told (Err fault) o is = ap status_after (sym is)

-- What a seat brings: it holds the claim of the number, which has the job, and the evaluation tells what its outputs are.
pub record IsBrought (setup : PlainSetup) (old : Standing) (seat number : ℕ) (job : PlainJob) (result : Result Outputs EvalFault) : Type 0 where
  pub held : slice_get old.held.items seat ≡ Some (Some number)
  pub job_is : option_map job_view (job_in old.log number) ≡ Some job
  pub tells : Tells result job

module _ (setup : PlainSetup) (old : Standing) (is : IsAt setup old) (seat number : ℕ) (job : PlainJob) (result : Result Outputs EvalFault) (brought : IsBrought setup old seat number job result) where
  abbrev pub its : IsItsClaim 0 seat is.at.state.claims number
  its = held_claim setup old is seat number brought.held

  pub claim_stands : slice_get is.at.state.claims number ≡ Some its.claim
  claim_stands = held_stands setup old is seat number brought.held

  pub job_of_claim : job ≡ job_for setup.net (head_of its.claim)
  job_of_claim = job_of_held setup old is seat number brought.held job brought.job_is

  outputs_told : outcome_of result ≡ outputs_of setup.net its.claim.element its.claim.time
  outputs_told = brought.tells ∙ ap outputs_in job_of_claim ∙ work_makes setup.net its.claim.element its.claim.time

  pub completion : IsItsCompletion setup is.at.state seat number its.claim (status_by result)
  completion = record { known = held_known setup old is seat number brought.held; stands = claim_stands; held = its.held; status_is = status_told result (outputs_of setup.net its.claim.element its.claim.time) outputs_told }

  -- no cut stands in the program, unless for want of memory
  pub only_now : OnlyGivenBack (option_map cut_view old.cut)
  only_now = subst OnlyGivenBack (sym is.at.cut) (only_given_back setup old is seat number brought.held)

  -- the outputs are few, on places of the net
  few_outputs : (outputs : List Made) → IsPlayable setup → outcome_of result ≡ gives outputs → HasFewOutputs setup outputs
  few_outputs outputs playable gave =
      claim_has_few_outputs setup its.claim outputs playable (all_at (IsClaimOf setup) is.at.state.claims number its.claim (every_state setup (events_in old) is.at.state is.at.told.reached).claims_are claim_stands) (sym outputs_told ∙ gave)

  pub outputs_fit : (outputs : List Made) → IsPlayable setup → outcome_of result ≡ gives outputs → (length outputs ≤ most_made) × AllByRecursion (λ made. made.place < length (log_view old.log).unclaimed) outputs
  outputs_fit outputs playable gave =
      let few = few_outputs outputs playable gave in
      let bounds = every_state_has_bounds setup (events_in old) is.at.state playable is.at.told.reached in
      let left = unclaimed_left setup.start is.at.state.claims (log_view old.log) (log_view old.log) is.at.told.has is.at.told.kept in
      let long : length (log_view old.log).unclaimed ≡ length setup.net.places = marking_length setup.net.places (log_view old.log).unclaimed (bounds.marking (log_view old.log).unclaimed left) in
      (few.few, subst (λ (k : ℕ). AllByRecursion (λ made. made.place < k) outputs) (sym long) few.on_places)

  -- What the code of a completion does.
  module _ (new : Standing)
      (log_done : (log_view new.log).claims ≡ with_status (status_by result) (number - length (log_view old.log).committed) (log_view old.log).claims)
      (jobs_same : jobs_in new.log ≡ jobs_in old.log)
      (heads_same : (log_view new.log).committed ≡ (log_view old.log).committed)
      (settled_same : (log_view new.log).settled ≡ (log_view old.log).settled)
      (kept : IsKept (log_view new.log))
      (held : new.held.items ≡ slice_set old.held.items seat None)
      (events : events_in new ≡ events_in old ++ claim_completed seat number ∷ [])
      (rest : new ≡ record old { log = new.log; held = new.held; journal = new.journal }) where
    behind : length (log_view old.log).committed ≤ number
    behind = is_behind setup (events_in old) is.at.state (log_view old.log) (log_view new.log) old.held.items (stands_at setup old is) seat number its.claim (status_by result) completion

    abbrev done_claim : PlainClaim
    done_claim = record its.claim { status = status_by result }

    abbrev after : PlainState
    after = record is.at.state { claims = slice_set is.at.state.claims number done_claim }

    told : IsTold setup (events_in new) after (log_view new.log) new.held.items
    told =
        let first = told_completed setup (events_in old) is.at.state (log_view old.log) (log_view new.log) old.held.items (stands_at setup old is) seat number its.claim (status_by result) completion (number - length (log_view old.log).committed) (let b = behind in omega (arith, b)) log_done heads_same settled_same kept in
        subst (λ es. IsTold setup es after (log_view new.log) new.held.items) (sym events)
        (subst (λ hs. IsTold setup (events_in old ++ claim_completed seat number ∷ []) after (log_view new.log) hs) (sym held) first)

    -- each claim says what it said
    same_heads : (place : ℕ) (cs : List PlainClaim) → map head_of (with_status (status_by result) place cs) ≡ map head_of cs
    same_heads place [] = refl
    same_heads zero (c ∷ cs) = refl
    same_heads (suc place) (c ∷ cs) = split (slice_get cs place) (same_heads place cs)
      where
        split : (o : Option PlainClaim) → map head_of (changed_to (status_by result) place cs o) ≡ map head_of cs → map head_of (changed_to (status_by result) (suc place) (c ∷ cs) o) ≡ head_of c ∷ map head_of cs
        split None same = refl
        split (Some claim) same = ap (λ hs. head_of c ∷ hs) same

    -- the run is told there
    abbrev filled : IsToldAt setup new
    filled = record {
      state = after;
      told = told;
      clock = ap (λ (s : Standing). s.clock) rest ∙ is.at.clock;
      cut = ap (λ (s : Standing). option_map cut_view s.cut) rest ∙ is.at.cut;
      jobs =
          ap (map job_view) jobs_same ∙ is.at.jobs
          ∙ ap (map (job_for setup.net)) (sym (ap (map head_of) log_done ∙ same_heads (number - length (log_view old.log).committed) (log_view old.log).claims));
      occurrences =
          ap occurrences_in rest ∙ is.at.occurrences
          ∙ ap (numbered 0) (sym (same_ahead is.at.state.claims done_claim number (length (log_view old.log).committed) behind))
          ∙ ap (λ hs. numbered 0 (take (length hs) (slice_set is.at.state.claims number done_claim))) (sym heads_same);
      measured =
          measured_alike setup old.clock new.clock (committed_of is.at.state old) (committed_of after new) (measuring_view old.measuring) (measuring_view new.measuring) (ap (λ (s : Standing). s.clock) rest)
          (ap (λ hs. take (length hs) (slice_set is.at.state.claims number done_claim)) heads_same ∙ same_ahead is.at.state.claims done_claim number (length (log_view old.log).committed) behind)
          (ap (λ (s : Standing). measuring_view s.measuring) rest) is.at.measured;
      made_now =
          subst (WereMadeAt new.clock) (sym log_done)
          (made_at_same old.clock new.clock (with_status (status_by result) (number - length (log_view old.log).committed) (log_view old.log).claims) (ap (λ (s : Standing). s.clock) rest)
          (made_at_whatever old.clock (status_by result) (number - length (log_view old.log).committed) (log_view old.log).claims is.at.made_now));
      draw = λ none. ap (λ (s : Standing). s.draw) rest ∙ is.at.draw none ∙ ap (λ (k : ℕ). generator setup.seed k) (sym (set_long is.at.state.claims number));
    }
      where
        set_long : (cs : List PlainClaim) (i : ℕ) → length (slice_set cs i done_claim) ≡ length cs
        set_long [] i = refl
        set_long (c ∷ cs) zero = refl
        set_long (c ∷ cs) (suc i) = ap (λ (k : ℕ). suc k) (set_long cs i)

    -- and what is next may be committed
    pub filled_may_commit : MayCommit setup new
    filled_may_commit = record {
      told = filled;
      goes_on =
          ap (λ hs. stop_at_last setup.monitors (marked_from setup.start (take (length hs) (slice_set is.at.state.claims number done_claim)))) heads_same
          ∙ ap (λ cs. stop_at_last setup.monitors (marked_from setup.start cs)) (same_ahead is.at.state.claims done_claim number (length (log_view old.log).committed) behind)
          ∙ goes_on_at setup old is only_now;
    }
