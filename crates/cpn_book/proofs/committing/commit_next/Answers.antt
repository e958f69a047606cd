-- The next claim joins the committed ones.
use Rattle.std.proofs.Common.{Global, ◌≡◌, ℕ, false, Some, length, map, refl, sym, ap, ◌∙◌, slice_get}
use Rattle.std.specs.declared.sync.Arc.{Arc}
use Rattle.cpn_core.specs.declared.bindings.Element.{Element}
use Rattle.cpn_core.specs.Elements.{element_view}
use Rattle.cpn_core.specs.Occurrences.{occurrence_view}
use Rattle.cpn_jobs.specs.declared.work.Job.{Job}
use Rattle.cpn_log.specs.Logs.{PlainLog, stands_done, standings, begin_done}
use Rattle.cpn_log.specs.LogViews.{log_view, job_in}
use Rattle.cpn_log.specs.States.{state_view}
use Rattle.cpn_log.specs.declared.states.ClaimState.{ClaimState}
use Rattle.cpn_log.specs.declared.states.ClaimState.TheVariants as states
use Rattle.cpn_runs.specs.State.{PlainSetup}
use Rattle.cpn_book.specs.Committing.{MayCommit}
use Rattle.cpn_book.specs.declared.standings.Standing.{Standing}
use Rattle.cpn_runs.specs.FinishedViews.{setup_view}
use Rattle.cpn_book.proofs.CommittedStandings.{still_at}
use Rattle.cpn_book.proofs.NextClaims.{IsNext, next_stands, not_begun, element_next, time_next}
use Rattle.cpn_book.proofs.NotedStandings.{IsOfNext, next_may_be_noted, next_still, next_goes_on, next_stops, one_committed, made_same}
use Rattle.cpn_book.proofs.ToldChanges.{still_unclaimed}
use Rattle.cpn_book.proofs.committing.commit_next.Goals as goal

-- how the next claim stands
stands_next : (log : PlainLog) (number : ℕ) (state : ClaimState) → number ≡ length log.committed → slice_get (standings log) number ≡ Some (state_view state) → state ≡ states.Done → slice_get (standings log) (length log.committed) ≡ Some stands_done
stands_next log number state at is done = ap (slice_get (standings log)) (sym at) ∙ is ∙ ap (λ s. Some (state_view s)) done

-- it doesn't stand done
other_state : (state : ClaimState) → (state ≡ states.Done → ⊥) → state_view state ≡ stands_done → ⊥
other_state states.Open other is = cc
other_state states.Done other is = other refl
other_state (states.Failed fault) other is = cc

pub returns-in_default : goal.returns-in_default
returns-in_default c =
    let old = c.args.standing.now in
    let log = log_view old.log in
    let next : IsNext log (state_view c.state.result) = next_stands log (state_view c.state.result) (ap (slice_get (standings log)) (sym c.committed-number.ensures) ∙ c.state.ensures) in
    let waits : begin_done log.claims ≡ false = not_begun log (state_view c.state.result) next (other_state c.state.result c.in_default.not-Done) in
    record { leads = (refl, waits); made = refl; unclaimed = refl; clock = refl; journal = refl; cut = refl; held = refl; committed = still_at (setup_view c.args.setup.now) old old c.requires.may.told refl refl refl }

pub returns-then-number-len-clause-committed : goal.returns-then-number-len-clause-committed
returns-then-number-len-clause-committed c = still_at (setup_view c.args.setup.now) c.args.standing.now _ c.requires.may.told refl refl refl

pub returns-in_err-clone-clause-committed : goal.returns-in_err-clone-clause-committed
returns-in_err-clone-clause-committed c = still_at (setup_view c.args.setup.now) c.args.standing.now _ c.requires.may.told refl refl refl

pub returns-in_err-reserve-clause-committed : goal.returns-in_err-reserve-clause-committed
returns-in_err-reserve-clause-committed c = still_at (setup_view c.args.setup.now) c.args.standing.now _ c.requires.may.told refl refl (ap (map occurrence_view) c.reserve.ensures.items)

pub returns-in_err-commit_one-clause-committed : goal.returns-in_err-commit_one-clause-committed
returns-in_err-commit_one-clause-committed c = still_at (setup_view c.args.setup.now) c.args.standing.now _ c.requires.may.told c.in_err-commit_one.ensures.committed c.in_err-commit_one.ensures.settled (ap (map occurrence_view) c.reserve.ensures.items)

-- the claim that is next
next_of
    : (old : Standing) (number : ℕ) (state : ClaimState)
    → number ≡ length (log_view old.log).committed
    → slice_get (standings (log_view old.log)) number ≡ Some (state_view state)
    → state ≡ states.Done
    → IsNext (log_view old.log) stands_done
next_of old number state at is done = next_stands (log_view old.log) stands_done (stands_next (log_view old.log) number state at is done)

-- its occurrence
is_of_next
    : (setup : PlainSetup) (old : Standing) (may : MayCommit setup old) (number : ℕ) (job : Job) (element : Arc Element Global) (next : IsNext (log_view old.log) stands_done)
    → number ≡ length (log_view old.log).committed
    → job_in old.log number ≡ Some job
    → element_view element.value ≡ element_view job.element.value
    → IsOfNext old next (record { number = number; time = job.time; element = element })
is_of_next setup old may number job element next at there shared =
    let stands : job_in old.log (length (log_view old.log).committed) ≡ Some job = ap (job_in old.log) (sym at) ∙ there in
    record { number = at; time = time_next setup old may.told stands_done next job stands; element = shared ∙ element_next setup old may.told stands_done next job stands }

pub note_last-requires-clause-may : goal.note_last-requires-clause-may
note_last-requires-clause-may c =
    next_may_be_noted (setup_view c.args.setup.now) c.args.standing.now c.requires.may (next_of c.args.standing.now c.committed-number.result c.state.result c.committed-number.ensures c.state.ensures c.in-Done.is)
    (record { number = c.committed-number.result; time = c.deref.result.now.time; element = c.in_ok-clone.field-0 })
    (is_of_next (setup_view c.args.setup.now) c.args.standing.now c.requires.may c.committed-number.result c.deref.result.now c.in_ok-clone.field-0 (next_of c.args.standing.now c.committed-number.result c.state.result c.committed-number.ensures c.state.ensures c.in-Done.is)
    c.committed-number.ensures (c.job-job.ensures ∙ ap Some (sym c.deref.ensures)) (ap element_view c.in_ok-clone.ensures.cases ∙ ap (λ (j : Job). element_view j.element.value) (c.deref-2.ensures ∙ sym c.deref.ensures)))
    c.commit_one.new.self (record { committed = c.in_ok-commit_one.ensures.next; kept = c.in_ok-commit_one.ensures.kept; jobs = c.in_ok-commit_one.ensures.jobs }) c.requires.playable

pub returns-in_err-monitor-clause-committed : goal.returns-in_err-monitor-clause-committed
returns-in_err-monitor-clause-committed c =
    next_still (setup_view c.args.setup.now) c.args.standing.now c.requires.may (next_of c.args.standing.now c.committed-number.result c.state.result c.committed-number.ensures c.state.ensures c.in-Done.is)
    (record { number = c.committed-number.result; time = c.deref.result.now.time; element = c.in_ok-clone.field-0 })
    (is_of_next (setup_view c.args.setup.now) c.args.standing.now c.requires.may c.committed-number.result c.deref.result.now c.in_ok-clone.field-0 (next_of c.args.standing.now c.committed-number.result c.state.result c.committed-number.ensures c.state.ensures c.in-Done.is)
    c.committed-number.ensures (c.job-job.ensures ∙ ap Some (sym c.deref.ensures)) (ap element_view c.in_ok-clone.ensures.cases ∙ ap (λ (j : Job). element_view j.element.value) (c.deref-2.ensures ∙ sym c.deref.ensures)))
    c.commit_one.new.self (record { committed = c.in_ok-commit_one.ensures.next; kept = c.in_ok-commit_one.ensures.kept; jobs = c.in_ok-commit_one.ensures.jobs })
    c.note_last.new.standing c.reserve.new.self c.reserve.ensures.items c.note_last.ensures.occurrences c.note_last.ensures.others

pub returns-in-Some-clause-made : goal.returns-in-Some-clause-made
returns-in-Some-clause-made c =
    made_same (setup_view c.args.setup.now) c.args.standing.now c.requires.may (next_of c.args.standing.now c.committed-number.result c.state.result c.committed-number.ensures c.state.ensures c.in-Done.is)
    (record { number = c.committed-number.result; time = c.deref.result.now.time; element = c.in_ok-clone.field-0 })
    (is_of_next (setup_view c.args.setup.now) c.args.standing.now c.requires.may c.committed-number.result c.deref.result.now c.in_ok-clone.field-0 (next_of c.args.standing.now c.committed-number.result c.state.result c.committed-number.ensures c.state.ensures c.in-Done.is)
    c.committed-number.ensures (c.job-job.ensures ∙ ap Some (sym c.deref.ensures)) (ap element_view c.in_ok-clone.ensures.cases ∙ ap (λ (j : Job). element_view j.element.value) (c.deref-2.ensures ∙ sym c.deref.ensures)))
    c.commit_one.new.self (record { committed = c.in_ok-commit_one.ensures.next; kept = c.in_ok-commit_one.ensures.kept; jobs = c.in_ok-commit_one.ensures.jobs })
    c.note_last.new.standing c.reserve.new.self c.reserve.ensures.items c.note_last.ensures.occurrences c.note_last.ensures.others

pub returns-in-Some-clause-committed : goal.returns-in-Some-clause-committed
returns-in-Some-clause-committed c =
    next_still (setup_view c.args.setup.now) c.args.standing.now c.requires.may (next_of c.args.standing.now c.committed-number.result c.state.result c.committed-number.ensures c.state.ensures c.in-Done.is)
    (record { number = c.committed-number.result; time = c.deref.result.now.time; element = c.in_ok-clone.field-0 })
    (is_of_next (setup_view c.args.setup.now) c.args.standing.now c.requires.may c.committed-number.result c.deref.result.now c.in_ok-clone.field-0 (next_of c.args.standing.now c.committed-number.result c.state.result c.committed-number.ensures c.state.ensures c.in-Done.is)
    c.committed-number.ensures (c.job-job.ensures ∙ ap Some (sym c.deref.ensures)) (ap element_view c.in_ok-clone.ensures.cases ∙ ap (λ (j : Job). element_view j.element.value) (c.deref-2.ensures ∙ sym c.deref.ensures)))
    c.commit_one.new.self (record { committed = c.in_ok-commit_one.ensures.next; kept = c.in_ok-commit_one.ensures.kept; jobs = c.in_ok-commit_one.ensures.jobs })
    c.note_last.new.standing c.reserve.new.self c.reserve.ensures.items c.note_last.ensures.occurrences c.note_last.ensures.others

pub returns-in-None-clause-made : goal.returns-in-None-clause-made
returns-in-None-clause-made c =
    made_same (setup_view c.args.setup.now) c.args.standing.now c.requires.may (next_of c.args.standing.now c.committed-number.result c.state.result c.committed-number.ensures c.state.ensures c.in-Done.is)
    (record { number = c.committed-number.result; time = c.deref.result.now.time; element = c.in_ok-clone.field-0 })
    (is_of_next (setup_view c.args.setup.now) c.args.standing.now c.requires.may c.committed-number.result c.deref.result.now c.in_ok-clone.field-0 (next_of c.args.standing.now c.committed-number.result c.state.result c.committed-number.ensures c.state.ensures c.in-Done.is)
    c.committed-number.ensures (c.job-job.ensures ∙ ap Some (sym c.deref.ensures)) (ap element_view c.in_ok-clone.ensures.cases ∙ ap (λ (j : Job). element_view j.element.value) (c.deref-2.ensures ∙ sym c.deref.ensures)))
    c.commit_one.new.self (record { committed = c.in_ok-commit_one.ensures.next; kept = c.in_ok-commit_one.ensures.kept; jobs = c.in_ok-commit_one.ensures.jobs })
    c.note_last.new.standing c.reserve.new.self c.reserve.ensures.items c.note_last.ensures.occurrences c.note_last.ensures.others

pub returns-in-None-clause-committed : goal.returns-in-None-clause-committed
returns-in-None-clause-committed c =
    next_still (setup_view c.args.setup.now) c.args.standing.now c.requires.may (next_of c.args.standing.now c.committed-number.result c.state.result c.committed-number.ensures c.state.ensures c.in-Done.is)
    (record { number = c.committed-number.result; time = c.deref.result.now.time; element = c.in_ok-clone.field-0 })
    (is_of_next (setup_view c.args.setup.now) c.args.standing.now c.requires.may c.committed-number.result c.deref.result.now c.in_ok-clone.field-0 (next_of c.args.standing.now c.committed-number.result c.state.result c.committed-number.ensures c.state.ensures c.in-Done.is)
    c.committed-number.ensures (c.job-job.ensures ∙ ap Some (sym c.deref.ensures)) (ap element_view c.in_ok-clone.ensures.cases ∙ ap (λ (j : Job). element_view j.element.value) (c.deref-2.ensures ∙ sym c.deref.ensures)))
    c.commit_one.new.self (record { committed = c.in_ok-commit_one.ensures.next; kept = c.in_ok-commit_one.ensures.kept; jobs = c.in_ok-commit_one.ensures.jobs })
    c.note_last.new.standing c.reserve.new.self c.reserve.ensures.items c.note_last.ensures.occurrences c.note_last.ensures.others

pub returns-in-Some-clause-leads : goal.returns-in-Some-clause-leads
returns-in-Some-clause-leads c =
    next_stops (setup_view c.args.setup.now) c.args.standing.now c.requires.may (next_of c.args.standing.now c.committed-number.result c.state.result c.committed-number.ensures c.state.ensures c.in-Done.is)
    (record { number = c.committed-number.result; time = c.deref.result.now.time; element = c.in_ok-clone.field-0 })
    (is_of_next (setup_view c.args.setup.now) c.args.standing.now c.requires.may c.committed-number.result c.deref.result.now c.in_ok-clone.field-0 (next_of c.args.standing.now c.committed-number.result c.state.result c.committed-number.ensures c.state.ensures c.in-Done.is)
    c.committed-number.ensures (c.job-job.ensures ∙ ap Some (sym c.deref.ensures)) (ap element_view c.in_ok-clone.ensures.cases ∙ ap (λ (j : Job). element_view j.element.value) (c.deref-2.ensures ∙ sym c.deref.ensures)))
    c.commit_one.new.self (record { committed = c.in_ok-commit_one.ensures.next; kept = c.in_ok-commit_one.ensures.kept; jobs = c.in_ok-commit_one.ensures.jobs })
    c.note_last.new.standing c.reserve.new.self c.reserve.ensures.items c.note_last.ensures.occurrences c.note_last.ensures.others c.requires.playable c.in_ok-monitor.field-0 c.in_ok-monitor.ensures.measured c.in_ok-monitor.ensures.stop c.in-Some.monitor c.in-Some.is

pub returns-in-None-clause-leads : goal.returns-in-None-clause-leads
returns-in-None-clause-leads c = (
  next_goes_on (setup_view c.args.setup.now) c.args.standing.now c.requires.may (next_of c.args.standing.now c.committed-number.result c.state.result c.committed-number.ensures c.state.ensures c.in-Done.is)
      (record { number = c.committed-number.result; time = c.deref.result.now.time; element = c.in_ok-clone.field-0 })
      (is_of_next (setup_view c.args.setup.now) c.args.standing.now c.requires.may c.committed-number.result c.deref.result.now c.in_ok-clone.field-0 (next_of c.args.standing.now c.committed-number.result c.state.result c.committed-number.ensures c.state.ensures c.in-Done.is)
      c.committed-number.ensures (c.job-job.ensures ∙ ap Some (sym c.deref.ensures)) (ap element_view c.in_ok-clone.ensures.cases ∙ ap (λ (j : Job). element_view j.element.value) (c.deref-2.ensures ∙ sym c.deref.ensures)))
      c.commit_one.new.self (record { committed = c.in_ok-commit_one.ensures.next; kept = c.in_ok-commit_one.ensures.kept; jobs = c.in_ok-commit_one.ensures.jobs })
      c.note_last.new.standing c.reserve.new.self c.reserve.ensures.items c.note_last.ensures.occurrences c.note_last.ensures.others c.requires.playable c.in_ok-monitor.field-0 c.in_ok-monitor.ensures.measured c.in_ok-monitor.ensures.stop c.in-None.is,
  one_committed (setup_view c.args.setup.now) c.args.standing.now c.requires.may (next_of c.args.standing.now c.committed-number.result c.state.result c.committed-number.ensures c.state.ensures c.in-Done.is)
      (record { number = c.committed-number.result; time = c.deref.result.now.time; element = c.in_ok-clone.field-0 })
      (is_of_next (setup_view c.args.setup.now) c.args.standing.now c.requires.may c.committed-number.result c.deref.result.now c.in_ok-clone.field-0 (next_of c.args.standing.now c.committed-number.result c.state.result c.committed-number.ensures c.state.ensures c.in-Done.is)
      c.committed-number.ensures (c.job-job.ensures ∙ ap Some (sym c.deref.ensures)) (ap element_view c.in_ok-clone.ensures.cases ∙ ap (λ (j : Job). element_view j.element.value) (c.deref-2.ensures ∙ sym c.deref.ensures)))
      c.commit_one.new.self (record { committed = c.in_ok-commit_one.ensures.next; kept = c.in_ok-commit_one.ensures.kept; jobs = c.in_ok-commit_one.ensures.jobs })
      c.note_last.new.standing c.reserve.new.self c.reserve.ensures.items c.note_last.ensures.occurrences c.note_last.ensures.others,
)

pub returns-in-Some-clause-unclaimed : goal.returns-in-Some-clause-unclaimed
returns-in-Some-clause-unclaimed c = still_unclaimed c.args.standing.now.log c.commit_one.new.self c.note_last.new.standing (ap (λ (s : Standing). s.log) c.note_last.ensures.others) c.in_ok-commit_one.ensures.next

pub returns-in-None-clause-unclaimed : goal.returns-in-None-clause-unclaimed
returns-in-None-clause-unclaimed c = still_unclaimed c.args.standing.now.log c.commit_one.new.self c.note_last.new.standing (ap (λ (s : Standing). s.log) c.note_last.ensures.others) c.in_ok-commit_one.ensures.next
