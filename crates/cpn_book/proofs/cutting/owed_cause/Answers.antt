-- A stop's cut is owed where a monitor stops the run; else that of the next claim's fault, if it has one.
use Rattle.std.proofs.Common.{◌≡◌, ℕ, length, Option, Some, None, refl, sym, ap, subst, ◌∙◌, slice_get}
use Rattle.std.proofs.Math.Path.{ap₂}
use Rattle.cpn_core.specs.Elements.{element_view}
use Rattle.cpn_core.specs.Faults.{fault_view}
use Rattle.cpn_core.specs.declared.faults.EvalFault.{EvalFault}
use Rattle.cpn_definitions.specs.Outcome.{Fault}
use Rattle.cpn_log.specs.Logs.{stands_failed, standings, claims_made}
use Rattle.cpn_log.specs.LogViews.{log_view, job_in}
use Rattle.cpn_log.specs.States.{state_view}
use Rattle.cpn_log.specs.declared.states.ClaimState.{ClaimState}
use Rattle.cpn_log.specs.declared.states.ClaimState.TheVariants as states
use Rattle.cpn_runs.specs.State.{cut_at, cut_by, fault_end}
use Rattle.cpn_runs.specs.State.{PlainSetup}
use Rattle.cpn_book.specs.Committing.{CommitsNoMore, IsStopped, MayCommit, NextWaits}
use Rattle.cpn_book.specs.declared.standings.Standing.{Standing}
use Rattle.cpn_book.proofs.NextClaims.{IsNext, next_stands, owes_none, none_next, failed_next, element_next}
use Rattle.cpn_book.proofs.OwedCuts.{owes_stop, owes_next}
use Rattle.cpn_book.proofs.cutting.owed_cause.Goals as goal

pub returns-in-Some : goal.returns-in-Some
returns-in-Some c = record {
  owed = λ setup no_more uncut.
      let s = c.args.standing.now in
      let is : IsStopped setup s c.in-Some.monitor = subst (CommitsNoMore setup s) c.in-Some.is no_more in
      let owes = owes_stop setup s c.in-Some.monitor is uncut in
      (is.told, owes.0, owes.1);
}

-- no fault is there
not_failed : (state : ClaimState) → ((fault : EvalFault) → state ≡ states.Failed fault → ⊥) → (fault : Fault) → state_view state ≡ stands_failed fault → ⊥
not_failed states.Open other fault is = cc
not_failed states.Done other fault is = cc
not_failed (states.Failed found) other fault is = other found refl

-- where no monitor stops the run
goes_on : (setup : PlainSetup) (s : Standing) (stop : Option ℕ) → ((monitor : ℕ) → stop ≡ Some monitor → ⊥) → CommitsNoMore setup s stop → MayCommit setup s × NextWaits s
goes_on setup s None other no_more = no_more
goes_on setup s (Some monitor) other no_more = absurd (other monitor refl)

pub returns-then-number-len : goal.returns-then-number-len
returns-then-number-len c = record {
  owed = λ setup no_more uncut.
      let s = c.args.standing.now in
      let log = log_view s.log in
      let waits = goes_on setup s c.args.stop c.in_default.not-Some no_more in
      let owes = owes_next setup s waits.0 waits.1 uncut in
      let all : length log.committed ≡ claims_made log = sym c.committed-number.ensures ∙ c.if-number-len.true ∙ c.len.ensures in
      (waits.0.told, owes.0, owes.1 ∙ none_next log (length log.committed) all);
}

pub returns-in_default-state : goal.returns-in_default-state
returns-in_default-state c = record {
  owed = λ setup no_more uncut.
      let s = c.args.standing.now in
      let log = log_view s.log in
      let waits = goes_on setup s c.args.stop c.in_default.not-Some no_more in
      let owes = owes_next setup s waits.0 waits.1 uncut in
      let next : IsNext log (state_view c.state.result) = next_stands log (state_view c.state.result) (ap (slice_get (standings log)) (sym c.committed-number.ensures) ∙ c.state.ensures) in
      (waits.0.told, owes.0, owes.1 ∙ owes_none log (length log.committed) (state_view c.state.result) next (not_failed c.state.result c.in_default-state.not-Failed));
}

pub returns : goal.returns
returns c = record {
  owed = λ setup no_more uncut.
      let s = c.args.standing.now in
      let log = log_view s.log in
      let fault = fault_view c.in-Failed.fault in
      let number = c.committed-number.ensures in
      let waits = goes_on setup s c.args.stop c.in_default.not-Some no_more in
      let owes = owes_next setup s waits.0 waits.1 uncut in
      let next : IsNext log (stands_failed fault) = next_stands log (stands_failed fault) (ap (slice_get (standings log)) (sym number) ∙ c.state.ensures ∙ ap (λ t. Some (state_view t)) c.in-Failed.is) in
      let job : job_in s.log (length log.committed) ≡ Some c.deref.result.now = ap (job_in s.log) (sym number) ∙ c.job.ensures ∙ ap Some (sym c.deref.ensures) in
      let copied : element_view c.in_ok-element.element ≡ element_view c.deref-2.result.now = ap₂ (λ t b. record { transition = t; binding = b }) c.in_ok-element.ensures.transition c.in_ok-element.ensures.binding in
      let element : element_view c.in_ok-element.element ≡ next.claim.element = copied ∙ ap element_view c.deref-2.ensures ∙ element_next setup s waits.0.told (stands_failed fault) next c.deref.result.now job in (
        waits.0.told,
        owes.0,
        owes.1 ∙ ap (cut_at (length log.committed)) (ap (λ cs. slice_get cs 0) next.first) ∙ ap (cut_by (length log.committed) next.claim.element) (failed_next log fault next)
            ∙ ap (λ e. Some (record { number = length log.committed; cause = fault_end e fault })) (sym element),
      );
}
