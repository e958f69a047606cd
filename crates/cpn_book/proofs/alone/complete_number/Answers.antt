-- The open claim is held by the seat that made it, and its job is ready to be evaluated.
use Rattle.std.proofs.Common.{◌≡◌, suc, ◌+◌, [], ◌∷◌, Some, refl, sym, ap, ◌∙◌, subst, slice_get, arith}
use Rattle.std.specs.Option.{option_map}
use Rattle.std.proofs.lemmas.List.{append-nil}
use Rattle.cpn_jobs.specs.Views.{job_view}
use Rattle.cpn_log.specs.Logs.{standings}
use Rattle.cpn_log.specs.LogViews.{log_view, job_in}
use Rattle.cpn_runs.specs.FinishedViews.{setup_view}
use Rattle.cpn_book.specs.Evaluations.{IsReadyToEvaluate}
use Rattle.cpn_runs.specs.State.{claim_completed}
use Rattle.cpn_book.specs.Committing.{AddsCompletion}
use Rattle.cpn_book.specs.GoingAlone.{AreCompletions}
use Rattle.cpn_book.specs.Standings.{events_in}
use Rattle.cpn_book.specs.States.{cut_events}
use Rattle.cpn_book.specs.Tickets.{evaluated_number, evaluated_job}
use Rattle.cpn_book.proofs.CommittedStandings.{still_at}
use Rattle.cpn_book.proofs.GoingAlone.{one_completion, completion_gives_none, nothing_gives_none}
use Rattle.cpn_book.proofs.HeldSeats.{where_ok}
use Rattle.cpn_book.proofs.OpenNumbers.{number_within, holds_number, number_is_ready, held_stands_open}
use Rattle.cpn_book.proofs.alone.complete_number.Goals as goal

pub returns-in_default-clause-frees : goal.returns-in_default-clause-frees
returns-in_default-clause-frees c = λ s k holds. (holds, λ same. c.in_default.ensures.job (ap (slice_get (standings (log_view c.args.standing.now.log))) (sym same) ∙ held_stands_open (setup_view c.args.setup.now) c.args.standing.now c.requires.at s k holds))

pub seat-seat-requires : goal.seat-seat-requires
seat-seat-requires c = record { within = number_within (setup_view c.args.setup.now) c.args.standing.now c.requires.at c.args.number c.in-Some.ensures.job.0 }

pub new-requires : goal.new-requires
new-requires c =
    let same : c.in_ok-job.job.value ≡ c.in-Some.job.now.value = c.in_ok-job.ensures.cases in
    record { ready = subst (λ job. IsReadyToEvaluate (job_view job)) (sym same) (number_is_ready (setup_view c.args.setup.now) c.args.standing.now c.requires.at c.args.number c.in-Some.ensures.job.0 c.requires.playable c.in-Some.job.now.value c.in-Some.ensures.job.1) }

pub complete_claim-requires-clause-held : goal.complete_claim-requires-clause-held
complete_claim-requires-clause-held c =
    let number : evaluated_number c.in-Ok.done ≡ c.args.number = c.in-Ok.ensures.number ∙ c.new.ensures.number in
    holds_number (setup_view c.args.setup.now) c.args.standing.now c.requires.at c.args.number c.in-Some.ensures.job.0 c.seat-seat.result c.seat-seat.ensures ∙ ap (λ k. Some (Some k)) (sym number)

pub complete_claim-requires-clause-job : goal.complete_claim-requires-clause-job
complete_claim-requires-clause-job c =
    let number : evaluated_number c.in-Ok.done ≡ c.args.number = c.in-Ok.ensures.number ∙ c.new.ensures.number in
    let same : evaluated_job c.in-Ok.done ≡ job_view c.in-Some.job.now.value = c.in-Ok.ensures.job ∙ c.new.ensures.job ∙ ap job_view c.in_ok-job.ensures.cases in
    ap (λ k. option_map job_view (job_in c.args.standing.now.log k)) number ∙ ap (option_map job_view) c.in-Some.ensures.job.1 ∙ ap Some (sym same)

pub returns-clause-frees : goal.returns-clause-frees
returns-clause-frees c =
    let number : evaluated_number c.in-Ok.done ≡ c.args.number = c.in-Ok.ensures.number ∙ c.new.ensures.number in
    where_ok c.complete_claim.result _ _ (λ frees. λ s k holds. let both = frees s k holds in (both.0, λ same. both.1 (same ∙ sym number))) c.complete_claim.ensures.frees

pub returns-in_default-clause-committed : goal.returns-in_default-clause-committed
returns-in_default-clause-committed c = still_at (setup_view c.args.setup.now) c.args.standing.now _ c.requires.at.at refl refl refl

pub returns-in_err-job-clause-committed : goal.returns-in_err-job-clause-committed
returns-in_err-job-clause-committed c = still_at (setup_view c.args.setup.now) c.args.standing.now _ c.requires.at.at refl refl refl

pub returns-in_default-evaluate-clause-committed : goal.returns-in_default-evaluate-clause-committed
returns-in_default-evaluate-clause-committed c = still_at (setup_view c.args.setup.now) c.args.standing.now _ c.requires.at.at refl refl refl

pub returns-clause-completions : goal.returns-clause-completions
returns-clause-completions c =
    let s = setup_view c.args.setup.now in
    let old = c.args.standing.now in
    let n = c.args.number in
    let seat = c.seat-seat.result in
    let number : evaluated_number c.in-Ok.done ≡ c.args.number = c.in-Ok.ensures.number ∙ c.new.ensures.number in
    let next : suc c.args.number ≡ c.args.number + 1 = omega arith in
    where_ok c.complete_claim.result _ _
    (λ events.
    let adds = subst (λ k. AddsCompletion (setup_view c.args.setup.now) c.seat-seat.result k c.args.standing.now c.complete_claim.new.standing) number events in (
      claim_completed seat n ∷ cut_events adds.owed,
      adds.events,
      subst (λ k. AreCompletions c.args.number k (claim_completed c.seat-seat.result c.args.number ∷ cut_events adds.owed)) next (one_completion seat n adds.owed),
      completion_gives_none s (events_in old) seat n adds.owed adds.owed_is,
    ))
    c.complete_claim.ensures.events

pub returns-in_default-clause-completions : goal.returns-in_default-clause-completions
returns-in_default-clause-completions c = ([], sym (append-nil (events_in c.args.standing.now)), omega arith, nothing_gives_none (setup_view c.args.setup.now) (events_in c.args.standing.now))

pub returns-in_default-clause-told : goal.returns-in_default-clause-told
returns-in_default-clause-told c = λ m stayed. stayed
