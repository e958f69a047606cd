-- What a book answers to a ticket that a seat gives back.
use Rattle.std.proofs.Common.{◌≡◌, ℕ, ◌<◌, ◌≤◌, List, [], ◌∷◌, ◌++◌, Some, None, inl, inr, refl, sym, ap, ◌∙◌, slice_get}
use Rattle.std.specs.Option.{option_map}
use Rattle.std.proofs.Math.Path.{ap₂}
use Rattle.std.proofs.lemmas.List.{append-nil}
use Rattle.cpn_jobs.specs.Views.{job_view}
use Rattle.cpn_log.specs.LogViews.{job_in}
use Rattle.cpn_runs.specs.State.{PlainSetup, PlainState, PlainEvent, wants_memory, cut_made, owed_cut, IsDue, MayCut}
use Rattle.cpn_book.specs.Answers.{IsGivingBack, AnswersGivingBack, AnswersTicket}
use Rattle.cpn_book.specs.Books.{setup_in, journal_in, IsRunning}
use Rattle.cpn_book.specs.Committing.{IsDueAt}
use Rattle.cpn_book.specs.Standings.{IsAt}
use Rattle.cpn_book.specs.Tickets.{number_of, job_of}
use Rattle.cpn_book.specs.declared.tickets.Ticket.{Ticket}
use Rattle.cpn_book.specs.declared.books.Book.{Book}
use Rattle.cpn_book.specs.declared.standings.Cut.{Cut}
use Rattle.cpn_book.specs.declared.standings.Standing.{Standing}
use Rattle.cpn_book.specs.declared.answers.GivenBack.{GivenBack}
use Rattle.cpn_book.specs.declared.answers.GivenBack.TheVariants as returns
use Rattle.cpn_book.proofs.AnsweredBooks.{happens_last, reached_in}
use Rattle.cpn_book.proofs.HeldJobs.{its, claim_stands, its_open, has_open_claim}
use Rattle.cpn_book.proofs.RefusedClaims.{cut_below, not_cut}
use Rattle.cpn_book.proofs.RunningBooks.{in_state}

-- the claim that a seat holds may be given back
pub may_give_back : (setup : PlainSetup) (s : Standing) → IsAt setup s → (seat number : ℕ) → slice_get s.held.items seat ≡ Some (Some number) → IsDueAt setup s (record { number = number; cause = wants_memory })
may_give_back setup s is seat number held = record {
  told = is.at;
  all_committed = is.all_committed;
  due = inr (record {
    none_owed = is.none_owed;
    claim = (its setup s is seat number held).claim;
    claim_is = claim_stands setup s is seat number held;
    opened = its_open setup s is seat number held;
    cause_is = refl;
  });
}

-- a cut where none is owed is for want of memory
for_memory : (setup : PlainSetup) (old : PlainState) (number : ℕ) (new : PlainState) → owed_cut setup old ≡ None → MayCut setup old number new → new.cut ≡ Some (record { number = number; cause = wants_memory })
for_memory setup old number new none may = ap (λ (s : PlainState). s.cut) may.new_is ∙ ap Some (ap₂ (λ k cause. record { number = k; cause = cause }) (sym may.number_is) (cause_of may.due))
  where
    cause_of : IsDue setup old may.cut → may.cut.cause ≡ wants_memory
    cause_of (inl owed) = let e : Some may.cut ≡ None = sym owed ∙ none in cc
    cause_of (inr back) = back.cause_is

module _ (book : Book) (running : IsRunning book) (seat : ℕ) (ticket : Ticket) where
  -- the answer, with the events that it appends
  abbrev pub Answered : Book → GivenBack → Type 0
  Answered new answer = AnswersTicket book new seat ticket answer

  -- a cut has removed the claim
  pub void_ticket : (number : ℕ) → (cut : Cut) × (book.standing.cut ≡ Some cut) × (number ≡ cut.number) × (number ≤ number_of ticket) → Answered book (returns.Void number)
  void_ticket number h =
      in_state book running (λ state. (events : List PlainEvent) × (journal_in book ≡ journal_in book ++ events) × AnswersGivingBack (setup_in book) state seat ticket events (returns.Void number))
      ([], sym (append-nil (journal_in book)), (refl, cut_below book running seat (number_of ticket) (job_of ticket) number h))

  -- the claim is given back
  pub cut_answer
      : ((cut : Cut) → book.standing.cut ≡ Some cut → number_of ticket < cut.number)
      → slice_get book.standing.held.items seat ≡ Some (Some (number_of ticket))
      → option_map job_view (job_in book.standing.log (number_of ticket)) ≡ Some (job_of ticket)
      → (new : Book)
      → new.setup ≡ book.setup
      → IsRunning new
      → journal_in new ≡ journal_in book ++ cut_made (number_of ticket) ∷ []
      → Answered new returns.Cut
  cut_answer uncut held job new setup then events =
      in_state book running (λ state. (es : List PlainEvent) × (journal_in new ≡ journal_in book ++ es) × AnswersGivingBack (setup_in book) state seat ticket es returns.Cut)
      (cut_made (number_of ticket) ∷ [], events, (not_cut book running seat (number_of ticket) (job_of ticket) uncut, gives_back))
    where
      may : MayCut (setup_in book) running.at.at.state (number_of ticket) then.at.at.state
      may =
          happens_last (setup_in book) (journal_in book) (cut_made (number_of ticket)) running.at.at.state then.at.at.state running.at.at.told.reached
          (reached_in book new setup then (journal_in book ++ cut_made (number_of ticket) ∷ []) events)

      gives_back : IsGivingBack (setup_in book) running.at.at.state seat ticket (cut_made (number_of ticket) ∷ [])
      gives_back = record {
        open_claim = has_open_claim (setup_in book) book.standing running.at seat (number_of ticket) held (job_of ticket) job;
        after = then.at.at.state;
        may = may;
        cut_is = for_memory (setup_in book) running.at.at.state (number_of ticket) then.at.at.state running.at.none_owed may;
        events_are = refl;
      }
