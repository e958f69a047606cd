-- What a book answers to a seat that brings the number and the job of a claim that it does not hold.
use Rattle.std.proofs.Common.{◌≡◌, ℕ, ◌+◌, ◌<◌, ◌≤◌, ◌==◌, true, false, Option, Some, None, refl, sym, ap, ◌∙◌, subst, arith, slice_get, eqb-true}
use Rattle.std.specs.Option.{option_map}
use Rattle.std.specs.Prelude.{MatchOption}
use Rattle.std.proofs.lemmas.Bool.{and_parts, cond-true, cond-false}
use Rattle.std.proofs.lemmas.Option.{same_Some, slice_get-map}
use Rattle.cpn_jobs.specs.Views.{job_view}
use Rattle.cpn_jobs.specs.Work.{PlainJob}
use Rattle.cpn_jobs.specs.declared.work.Job.{Job}
use Rattle.cpn_log.specs.Logs.{stands_open, standing_of, standings}
use Rattle.cpn_log.specs.LogViews.{log_view, job_in}
use Rattle.cpn_runs.specs.HoleRun.{PlainClaim, Status, open_claim, done_with, faulted_with, is_open}
use Rattle.cpn_runs.specs.State.{PlainCut}
use Rattle.cpn_runs.proofs.States.{IsClaimOf, IsReached, every_state}
use Rattle.cpn_book.specs.Held.{held_from}
use Rattle.cpn_book.specs.Answers.{IsNotCut, IsCutBelow, HasOpenClaim, IsStranger, job_if_open, open_job}
use Rattle.cpn_book.specs.Books.{setup_in, journal_in, InState, IsRunning}
use Rattle.cpn_book.specs.Standings.{cut_view}
use Rattle.cpn_book.specs.States.{claimed_job}
use Rattle.cpn_book.specs.declared.books.Book.{Book}
use Rattle.cpn_book.specs.declared.standings.Cut.{Cut}
use Rattle.cpn_book.proofs.AnsweredBooks.{job_kept}
use Rattle.cpn_book.proofs.CountedClaims.{standings_are}
use Rattle.cpn_book.proofs.HeldJobs.{all_at}
use Rattle.cpn_book.proofs.OpenNumbers.{held_there}
use Rattle.cpn_book.proofs.RunningBooks.{in_state}

-- ---- the job of an open claim

is_closed : (status : Status) → (standing_of status ≡ stands_open → ⊥) → is_open status ≡ false
is_closed open_claim never = absurd (never refl)
is_closed (done_with outputs) never = refl
is_closed (faulted_with fault) never = refl

is_opened : (status : Status) → standing_of status ≡ stands_open → is_open status ≡ true
is_opened open_claim so = refl
is_opened (done_with outputs) so = cc
is_opened (faulted_with fault) so = cc

module _ (book : Book) (running : IsRunning book) (seat number : ℕ) (job : PlainJob) where
  -- a cut has removed the claim
  pub cut_below : (at : ℕ) → (cut : Cut) × (book.standing.cut ≡ Some cut) × (at ≡ cut.number) × (at ≤ number) → IsCutBelow running.at.at.state number at
  cut_below at h = (cut_view h.0, sym running.at.at.cut ∙ ap (option_map cut_view) h.1, h.2, subst (λ (k : ℕ). k ≤ number) h.2 h.3)

  module _ (uncut : (cut : Cut) → book.standing.cut ≡ Some cut → number < cut.number) where
    pub not_cut : IsNotCut running.at.at.state number
    not_cut cut is = of book.standing.cut (running.at.at.cut ∙ is) uncut
      where
        of : (o : Option Cut) → option_map cut_view o ≡ Some cut → ((c : Cut) → o ≡ Some c → number < c.number) → number < cut.number
        of None e below = cc
        of (Some c) e below = subst (λ (k : PlainCut). number < k.number) (same_Some (cut_view c) cut e) (below c refl)

    pub not_void : InState book (λ state. IsNotCut state number)
    not_void = in_state book running (λ state. IsNotCut state number) not_cut

    reached : IsReached (setup_in book) (journal_in book) running.at.at.state
    reached = every_state (setup_in book) (journal_in book) running.at.at.state running.at.at.told.reached

    -- the seat has no such claim
    module _ (not_held : slice_get book.standing.held.items seat ≡ Some (Some number) → option_map job_view (job_in book.standing.log number) ≡ Some job → ⊥) where
      none_such : HasOpenClaim (setup_in book) running.at.at.state seat number job → ⊥
      none_such has = not_held (running.at.at.told.holds.numbers seat known ∙ ap Some held) (job_kept book running number has.0 has.1 (and_parts (is_open has.0.status) (has.0.seat == seat) has.2).0 ∙ ap Some has.3)
        where
          of_seat : has.0.seat ≡ seat
          of_seat = eqb-true has.0.seat seat (and_parts (is_open has.0.status) (has.0.seat == seat) has.2).1

          known : seat < (setup_in book).limits.seats
          known = subst (λ (s : ℕ). s < (setup_in book).limits.seats) of_seat (all_at (IsClaimOf (setup_in book)) running.at.at.state.claims number has.0 reached.claims_are has.1).seat_known

          held : held_from 0 seat running.at.at.state.claims ≡ Some number
          held = held_there 0 seat running.at.at.state.claims number has.0 has.1 has.2 (reached.one_each seat) ∙ ap (λ n. Some n) (let e : 0 + number ≡ number = omega arith in e)

      kept_is : {A : Type 0} (value : A → Job) (kept : Option A)
          → MatchOption kept (slice_get (standings (log_view book.standing.log)) number ≡ Some stands_open → ⊥) (λ job. (slice_get (standings (log_view book.standing.log)) number ≡ Some stands_open) × (job_in book.standing.log number ≡ Some (value job)))
          → option_map (λ job. job_view (value job)) kept ≡ open_job (setup_in book) running.at.at.state number
      kept_is {A = A} value kept told = of (slice_get running.at.at.state.claims number) refl kept told
        where
          stood : (o : Option PlainClaim) → slice_get running.at.at.state.claims number ≡ o → slice_get (standings (log_view book.standing.log)) number ≡ option_map (λ (c : PlainClaim). standing_of c.status) o
          stood o is =
              ap (λ ss. slice_get ss number) (standings_are (setup_in book).start running.at.at.state.claims (log_view book.standing.log) running.at.at.told.has)
              ∙ slice_get-map (λ (c : PlainClaim). standing_of c.status) running.at.at.state.claims number ∙ ap (option_map (λ (c : PlainClaim). standing_of c.status)) is

          of : (o : Option PlainClaim) → slice_get running.at.at.state.claims number ≡ o → (k : Option A)
              → MatchOption k (slice_get (standings (log_view book.standing.log)) number ≡ Some stands_open → ⊥) (λ job. (slice_get (standings (log_view book.standing.log)) number ≡ Some stands_open) × (job_in book.standing.log number ≡ Some (value job)))
              → option_map (λ job. job_view (value job)) k ≡ job_if_open (setup_in book) o
          of None is None never = refl
          of None is (Some job) so = let clash : Some stands_open ≡ None = sym so.0 ∙ stood None is in cc
          of (Some claim) is None never =
              let shut = is_closed claim.status (λ open_so. never (stood (Some claim) is ∙ ap Some open_so)) in
              sym (cond-false (is_open claim.status) (Some (claimed_job (setup_in book) claim)) None shut)
          of (Some claim) is (Some job) so =
              let opened = is_opened claim.status (same_Some (standing_of claim.status) stands_open (sym (stood (Some claim) is) ∙ so.0)) in
              let same : Some (job_view (value job)) ≡ Some (claimed_job (setup_in book) claim) = sym (ap (option_map job_view) so.1) ∙ job_kept book running number claim is opened in
              same ∙ sym (cond-true (is_open claim.status) (Some (claimed_job (setup_in book) claim)) None opened)

      pub of_another : {A : Type 0} (value : A → Job) (kept : Option A)
          → MatchOption kept (slice_get (standings (log_view book.standing.log)) number ≡ Some stands_open → ⊥) (λ job. (slice_get (standings (log_view book.standing.log)) number ≡ Some stands_open) × (job_in book.standing.log number ≡ Some (value job)))
          → IsStranger (setup_in book) running.at.at.state seat number job (option_map (λ job. job_view (value job)) kept)
      of_another value kept told = (not_cut, none_such, kept_is value kept told)
