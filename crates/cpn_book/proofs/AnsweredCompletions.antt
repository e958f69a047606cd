-- What a book answers to an evaluation that a seat brings.
use Rattle.std.proofs.Common.{◌≡◌, ℕ, ◌<◌, ◌≤◌, List, [], ◌∷◌, ◌++◌, Some, Result, Ok, Err, sym, ap, ◌∙◌, subst, slice_get, refl}
use Rattle.std.specs.Option.{option_map}
use Rattle.std.specs.Prelude.{IfOk, OnOk}
use Rattle.std.proofs.lemmas.List.{append-nil}
use Rattle.std.proofs.lemmas.Option.{same_Some}
use Rattle.cpn_definitions.specs.Occurrence.{outputs_of}
use Rattle.cpn_jobs.specs.Views.{job_view}
use Rattle.cpn_jobs.specs.OutputsByWork.{work_makes}
use Rattle.cpn_log.specs.LogViews.{job_in}
use Rattle.cpn_runs.specs.HoleRun.{PlainClaim}
use Rattle.cpn_runs.specs.Filling.{IsFilled}
use Rattle.cpn_runs.specs.Playable.{IsPlayable}
use Rattle.cpn_runs.specs.State.{PlainEvent, claim_completed, first_state, given_outputs, Leads}
use Rattle.cpn_runs.proofs.FilledStates.{completion_fills}
use Rattle.cpn_runs.proofs.Journals.{marking_is_start}
use Rattle.cpn_runs.proofs.States.{leads_more}
use Rattle.cpn_book.specs.Answers.{IsNotCut, HasOpenClaim, IsCompletion, AnswersCompletion, AnswersEvaluation}
use Rattle.cpn_book.specs.Books.{setup_in, journal_in, IsRunning}
use Rattle.cpn_book.specs.Committing.{AddsCompletion}
use Rattle.cpn_book.specs.Evaluations.{outputs_told}
use Rattle.cpn_book.specs.States.{cut_events}
use Rattle.cpn_book.specs.Tickets.{evaluated_number, evaluated_job}
use Rattle.cpn_book.specs.declared.tickets.Evaluated.{Evaluated}
use Rattle.cpn_book.specs.declared.books.Book.{Book}
use Rattle.cpn_book.specs.declared.standings.Cut.{Cut}
use Rattle.cpn_book.specs.declared.answers.Completed.{Completed}
use Rattle.cpn_book.specs.declared.answers.Completed.TheVariants as completions
use Rattle.cpn_book.proofs.AnsweredBooks.{leads_rest, reached_in}
use Rattle.cpn_book.proofs.HeldJobs.{has_open_claim}
use Rattle.cpn_book.proofs.RefusedClaims.{cut_below, not_cut}
use Rattle.cpn_book.proofs.RunningBooks.{in_state}

module _ (book : Book) (running : IsRunning book) (seat : ℕ) (done : Evaluated) where
  -- the answer, with the events that it appends
  abbrev pub Answered : Book → Completed → Type 0
  Answered new answer = AnswersEvaluation book new seat done answer

  -- a cut has removed the claim
  pub void : (number : ℕ) → (cut : Cut) × (book.standing.cut ≡ Some cut) × (number ≡ cut.number) × (number ≤ evaluated_number done) → Answered book (completions.Void number)
  void number h =
      in_state book running (λ state. (events : List PlainEvent) × (journal_in book ≡ journal_in book ++ events) × AnswersCompletion (setup_in book) state seat done events (completions.Void number))
      ([], sym (append-nil (journal_in book)), (refl, cut_below book running seat (evaluated_number done) (evaluated_job done) number h))

  module _ (uncut : (cut : Cut) → book.standing.cut ≡ Some cut → evaluated_number done < cut.number) where
    none_cut : IsNotCut running.at.at.state (evaluated_number done)
    none_cut = not_cut book running seat (evaluated_number done) (evaluated_job done) uncut

    -- the claim is completed
    module _ (playable : IsPlayable (setup_in book)) (held : slice_get book.standing.held.items seat ≡ Some (Some (evaluated_number done))) (job : option_map job_view (job_in book.standing.log (evaluated_number done)) ≡ Some (evaluated_job done))
        (new : Book) (setup : new.setup ≡ book.setup) (then : IsRunning new) (adds : AddsCompletion (setup_in book) seat (evaluated_number done) book.standing new.standing) where
      has_claim : HasOpenClaim (setup_in book) running.at.at.state seat (evaluated_number done) (evaluated_job done)
      has_claim = has_open_claim (setup_in book) book.standing running.at seat (evaluated_number done) held (evaluated_job done) job

      led : Leads (setup_in book) running.at.at.state (claim_completed seat (evaluated_number done) ∷ cut_events adds.owed) then.at.at.state
      led =
          leads_rest (setup_in book) (first_state (setup_in book)) (journal_in book) (claim_completed seat (evaluated_number done) ∷ cut_events adds.owed) running.at.at.state then.at.at.state running.at.at.told.reached
          (reached_in book new setup then (journal_in book ++ claim_completed seat (evaluated_number done) ∷ cut_events adds.owed) adds.events)

      -- the unclaimed marking has the outputs besides, and each later claim has kept its needs
      fills : IsFilled (setup_in book) running.at.at.state (evaluated_number done) (outputs_told (evaluated_job done)) led.0
      fills =
          let start = marking_is_start (setup_in book) playable.marking in
          let filled = completion_fills (setup_in book) (journal_in book) running.at.at.state seat (evaluated_number done) led.0 start running.at.at.told.reached led.1 in
          let same : led.1.held_claim ≡ has_claim.0 = same_Some led.1.held_claim has_claim.0 (sym led.1.claim_is ∙ has_claim.1) in
          let outputs : given_outputs (outputs_of (setup_in book).net led.1.held_claim.element led.1.held_claim.time) ≡ outputs_told (evaluated_job done) =
          ap (λ (c : PlainClaim). given_outputs (outputs_of (setup_in book).net c.element c.time)) same
          ∙ ap given_outputs (sym (work_makes (setup_in book).net has_claim.0.element has_claim.0.time))
          ∙ ap outputs_told has_claim.3 in
          subst (λ made. IsFilled (setup_in book) running.at.at.state (evaluated_number done) made led.0) outputs filled

      completion : IsCompletion (setup_in book) running.at.at.state seat done (claim_completed seat (evaluated_number done) ∷ cut_events adds.owed)
      completion = record {
        open_claim = has_claim;
        after = led.0;
        may = led.1;
        fills = fills;
        events_are =
            ap (λ o. claim_completed seat (evaluated_number done) ∷ cut_events o)
            (sym (adds.owed_is led.0 (leads_more (setup_in book) (first_state (setup_in book)) (journal_in book) (claim_completed seat (evaluated_number done) ∷ []) running.at.at.state led.0 running.at.at.told.reached (led.0, led.1, refl))));
      }

      pub done_answer : Answered new completions.Done
      done_answer =
          in_state book running (λ state. (es : List PlainEvent) × (journal_in new ≡ journal_in book ++ es) × AnswersCompletion (setup_in book) state seat done es completions.Done)
          (claim_completed seat (evaluated_number done) ∷ cut_events adds.owed, adds.events, (none_cut, completion))

    pub held_answers : {E : Type 0} → IsPlayable (setup_in book) → slice_get book.standing.held.items seat ≡ Some (Some (evaluated_number done)) → option_map job_view (job_in book.standing.log (evaluated_number done)) ≡ Some (evaluated_job done)
        → (new : Book) → new.setup ≡ book.setup → (result : Result Completed E) → IfOk result (λ answer. answer ≡ completions.Done) → OnOk result (IsRunning new)
        → OnOk result (AddsCompletion (setup_in book) seat (evaluated_number done) book.standing new.standing) → IfOk result (λ answer. Answered new answer)
    held_answers playable held job new setup (Ok answer) is then adds = subst (λ a. Answered new a) (sym is) (done_answer playable held job new setup then adds)
    held_answers playable held job new setup (Err e) is then adds = is
