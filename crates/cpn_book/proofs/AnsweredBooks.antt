-- What the calls on a book answer of the state that its journal leads to.
use Rattle.std.proofs.Common.{zero, suc, ◌≡◌, ◌≢◌, ℕ, ◌%◌, ◌<◌, true, false, List, [], ◌∷◌, ◌++◌, length, map, take, Option, Some, None, refl, sym, ap, ◌∙◌, subst, arith, slice_get}
use Rattle.std.specs.Option.{option_map, is_some}
use Rattle.std.specs.List.{count_by, list_any}
use Rattle.std.proofs.lemmas.List.{take-map, length-map}
use Rattle.std.proofs.lemmas.Option.{same_Some}
use Rattle.std.proofs.Math.Seq.{take-append_seam}
use Rattle.cpn_definitions.specs.Enabled.{PlainEntry, ready}
use Rattle.cpn_definitions.proofs.ListItems.{last_is_at}
use Rattle.cpn_draw.specs.Draw.{word}
use Rattle.cpn_jobs.specs.Views.{job_view}
use Rattle.cpn_log.specs.Logs.{claims_made}
use Rattle.cpn_log.specs.LogViews.{log_view, job_in}
use Rattle.cpn_runs.specs.FinishedViews.{setup_view}
use Rattle.cpn_runs.specs.HoleRun.{PlainClaim, is_open}
use Rattle.cpn_runs.specs.State.{PlainSetup, PlainState, PlainEvent, PlainEnd, EndsBy, claim_made, clock_moved, first_state, IsState, Happens, Leads, MayClaim, IsDrawn, new_claim}
use Rattle.cpn_runs.specs.Views.{event_view}
use Rattle.cpn_runs.proofs.States.{event_is_unique, no_end_with_an_open_claim}
use Rattle.cpn_book.specs.Held.{held_from}
use Rattle.cpn_book.proofs.MadeClaims.{IsNextClaim, may_claim}
use Rattle.cpn_book.proofs.OpenClaims.{open_count_is, some_counted}
use Rattle.cpn_book.specs.Answers.{IsTicket, AnswersClaim, MayClaimNext, GoesOn, AnswersAdvance}
use Rattle.cpn_book.specs.Books.{index_in, setup_in, journal_in, is_spent_in, InState, IsBook, IsRunning}
use Rattle.cpn_book.specs.Standings.{HasCommitted, cut_view}
use Rattle.cpn_book.specs.States.{open_claims, IsFull, AreReady, claimed_job}
use Rattle.cpn_book.specs.Steps.{Follows, IsSpentFrom, Moves}
use Rattle.cpn_book.specs.Tickets.{number_of, job_of}
use Rattle.cpn_book.specs.declared.tickets.Ticket.{Ticket}
use Rattle.cpn_book.specs.declared.books.Book.{Book}
use Rattle.cpn_book.specs.declared.standings.Cut.{Cut}
use Rattle.cpn_book.specs.declared.answers.Claimed.TheVariants as claims
use Rattle.cpn_book.specs.declared.answers.Advanced.{Advanced}
use Rattle.cpn_book.specs.declared.answers.Advanced.TheVariants as moves
use Rattle.cpn_book.proofs.ClaimedStandings.{stands_at, uncut_in, counted}
use Rattle.cpn_book.proofs.JobsOfClaims.{job_of_open}
use Rattle.cpn_book.proofs.NextTimes.{next_is_least, no_next_is_dead}
use Rattle.cpn_book.proofs.RunningBooks.{in_state, unclaimed_is, enabled_in, are_ready, spent_is_book}

-- ---- the events of a call

-- more events happen where those before lead
pub leads_rest : (setup : PlainSetup) (start : PlainState) (events more : List PlainEvent) (old new : PlainState) → Leads setup start events old → Leads setup start (events ++ more) new → Leads setup old more new
leads_rest setup start [] more old new is all = subst (λ s. Leads setup s more new) (sym is) all
leads_rest setup start (event ∷ events) more old new is all =
    leads_rest setup is.0 events more old new is.2 (subst (λ s. Leads setup s (events ++ more) new) (event_is_unique setup start event all.0 is.0 all.1 is.1) all.2)

-- one event more happens
pub happens_last : (setup : PlainSetup) (journal : List PlainEvent) (event : PlainEvent) (old new : PlainState) → IsState setup journal old → IsState setup (journal ++ event ∷ []) new → Happens setup old event new
happens_last setup journal event old new is all =
    let rest = leads_rest setup (first_state setup) journal (event ∷ []) old new is all in
    subst (λ s. Happens setup old event s) (sym rest.2) rest.1

-- where a book of the same run is, whose journal goes on from there
pub reached_in : (old new : Book) → new.setup ≡ old.setup → (running : IsRunning new) (events : List PlainEvent) → journal_in new ≡ events → IsState (setup_in old) events running.at.at.state
reached_in old new setup running events is =
    subst (λ es. IsState (setup_in old) es running.at.at.state) is
    (subst (λ s. IsState (setup_view s) (journal_in new) running.at.at.state) setup running.at.at.told.reached)

-- ---- items

some_cut : (o : Option Cut) → is_some o ≡ true → option_map cut_view o ≡ None → ⊥
some_cut None is none = cc
some_cut (Some cut) is none = cc

pub no_cut : (o : Option Cut) → is_some o ≡ false → o ≡ None
no_cut None is = refl
no_cut (Some cut) is = cc

-- the job of an open claim is the one that the log keeps
pub job_kept : (book : Book) (running : IsRunning book) (number : ℕ) (claim : PlainClaim) → slice_get running.at.at.state.claims number ≡ Some claim → is_open claim.status ≡ true → option_map job_view (job_in book.standing.log number) ≡ Some (claimed_job (setup_in book) claim)
job_kept book running number claim at opened = job_of_open (setup_in book) book.standing running.at.at number claim at opened

-- there is an item at an index within a list
item_at : {A : Type 0} (xs : List A) (i : ℕ) → i < length xs → (x : A) × (slice_get xs i ≡ Some x)
item_at [] i lt = absurd (omega arith)
item_at (x ∷ xs) zero lt = (x, refl)
item_at (x ∷ xs) (suc i) lt = item_at xs i (omega arith)

module _ (book : Book) (running : IsRunning book) where
  number_is : length running.at.at.state.claims ≡ claims_made (log_view book.standing.log)
  number_is = counted (setup_in book) book.standing running.at.at

  -- as many claims are open as seats hold one
  pub open_is : count_by is_some book.standing.held.items ≡ open_claims running.at.at.state
  open_is = open_count_is (setup_in book) (journal_in book) running.at.at.state (log_view book.standing.log) book.standing.held.items running.at.at.told

  -- what a seat holds
  pub held_is : (seat : ℕ) → seat < (setup_in book).limits.seats → (o : Option ℕ) → slice_get book.standing.held.items seat ≡ Some o → held_from 0 seat running.at.at.state.claims ≡ o
  held_is seat known o at = same_Some (held_from 0 seat running.at.at.state.claims) o (sym (running.at.at.told.holds.numbers seat known) ∙ at)

  pub holds_none : (seat : ℕ) → seat < (setup_in book).limits.seats → ((number : ℕ) → slice_get book.standing.held.items seat ≡ Some (Some number) → ⊥) → slice_get book.standing.held.items seat ≡ Some None
  holds_none seat known none = split (held_from 0 seat running.at.at.state.claims) (running.at.at.told.holds.numbers seat known)
    where
      split : (o : Option ℕ) → slice_get book.standing.held.items seat ≡ Some o → slice_get book.standing.held.items seat ≡ Some None
      split None at = at
      split (Some number) at = absurd (none number at)

  -- a cut stands
  pub over : is_some book.standing.cut ≡ true → InState book (λ state. state.cut ≢ None)
  over is = in_state book running (λ state. state.cut ≢ None) (λ none. some_cut book.standing.cut is (running.at.at.cut ∙ none))

  module _ (uncut : is_some book.standing.cut ≡ false) where
    state_uncut : running.at.at.state.cut ≡ None
    state_uncut = uncut_in (setup_in book) book.standing running.at.at (no_cut book.standing.cut uncut)

    -- as many claims were made as may be
    pub full : claims_made (log_view book.standing.log) ≡ (setup_in book).limits.steps → InState book (λ state. (state.cut ≡ None) × IsFull (setup_in book) state)
    full all = in_state book running (λ state. (state.cut ≡ None) × IsFull (setup_in book) state) (state_uncut, number_is ∙ all)

    module _ (not_all : claims_made (log_view book.standing.log) ≢ (setup_in book).limits.steps) where
      goes_on : GoesOn (setup_in book) running.at.at.state
      goes_on = (state_uncut, λ all. not_all (sym number_is ∙ all))

      -- ---- a claim

      -- the seat holds one
      pub busy : (seat number : ℕ) → seat < (setup_in book).limits.seats → slice_get book.standing.held.items seat ≡ Some (Some number) → InState book (λ state. AnswersClaim (setup_in book) state seat (claims.Busy number))
      busy seat number known at =
          in_state book running (λ state. AnswersClaim (setup_in book) state seat (claims.Busy number)) (state_uncut, goes_on.1, held_is seat known (Some number) at)

      -- nothing is ready
      pub nothing : (seat ready_now held : ℕ) → seat < (setup_in book).limits.seats → slice_get book.standing.held.items seat ≡ Some None → ready_now ≡ length (ready book.standing.clock (index_in book)) → ready_now ≡ 0
          → held ≡ count_by is_some book.standing.held.items → InState book (λ state. AnswersClaim (setup_in book) state seat (claims.Nothing held))
      nothing seat ready_now held known at are none held_are =
          in_state book running (λ state. AnswersClaim (setup_in book) state seat (claims.Nothing held))
          (state_uncut, goes_on.1, held_is seat known None at, are_ready book running 0 (sym none ∙ are), held_are ∙ open_is)

      -- a ticket is due
      pub due : (seat : ℕ) → seat < (setup_in book).limits.seats → slice_get book.standing.held.items seat ≡ Some None → claims_made (log_view book.standing.log) < (setup_in book).limits.steps → 0 < length (ready book.standing.clock (index_in book))
          → InState book (λ state. MayClaimNext (setup_in book) state seat)
      due seat known at below some = in_state book running (λ state. MayClaimNext (setup_in book) state seat) (_, may_claim (setup_in book) (journal_in book) running.at.at.state (log_view book.standing.log) (log_view book.standing.log) book.standing.held.items (stands_at (setup_in book) book.standing running.at) seat drawn.0 next)
        where
          some_then : 0 < length (ready running.at.at.state.clock (index_in book))
          some_then = subst (λ (t : ℕ). 0 < length (ready t (index_in book))) running.at.at.clock some

          drawn : (x : PlainEntry) × IsDrawn (setup_in book).seed (length running.at.at.state.claims) (ready running.at.at.state.clock (index_in book)) x
          drawn = item_at (ready running.at.at.state.clock (index_in book)) (word (setup_in book).seed (length running.at.at.state.claims) % length (ready running.at.at.state.clock (index_in book))) (omega (arith, some_then))

          next : IsNextClaim (setup_in book) running.at.at.state (log_view book.standing.log) seat drawn.0
          next = record {
            no_cut = state_uncut;
            below_limit = (let n = number_is in omega (arith, n, below));
            known = known;
            had_none = held_is seat known None at;
            entries = index_in book;
            enabled = enabled_in book running;
            drawn_is = drawn.1;
          }

      -- ---- a move of the clock

      -- something is ready
      pub some_ready : (number : ℕ) → number ≡ length (ready book.standing.clock (index_in book)) → 0 < number → InState book (λ state. AnswersAdvance (setup_in book) state moves.Ready)
      some_ready number are some = in_state book running (λ state. AnswersAdvance (setup_in book) state moves.Ready) (goes_on, (number, are_ready book running number are, some))

      module _ (none_ready : length (ready book.standing.clock (index_in book)) ≡ 0) where
        none_are : AreReady (setup_in book) running.at.at.state 0
        none_are = are_ready book running 0 (sym none_ready)

        -- claims are open
        pub some_open : (number : ℕ) → number ≡ count_by is_some book.standing.held.items → 0 < number → InState book (λ state. AnswersAdvance (setup_in book) state (moves.Open number))
        some_open number are some = in_state book running (λ state. AnswersAdvance (setup_in book) state (moves.Open number)) (goes_on, none_are, are ∙ open_is, some)

        -- none is
        pub moves_answer : count_by is_some book.standing.held.items ≡ 0 → (new : Book) (answer : Advanced) → Moves book new answer → InState book (λ state. AnswersAdvance (setup_in book) state answer)
        moves_answer none_open new (moves.Moved time) m =
            let setup : new.setup ≡ book.setup = ap (λ (b : Book). b.setup) m.1.book in
            let after = reached_in book new setup m.0 (journal_in book ++ clock_moved time ∷ []) m.2 in
            in_state book running (λ state. AnswersAdvance (setup_in book) state (moves.Moved time)) (m.0.at.at.state, happens_last (setup_in book) (journal_in book) (clock_moved time) running.at.at.state m.0.at.at.state running.at.at.told.reached after)
        moves_answer none_open new (moves.Until time) m =
            in_state book running (λ state. AnswersAdvance (setup_in book) state (moves.Until time))
            (goes_on, (none_are, sym open_is ∙ none_open), ((log_view book.standing.log).unclaimed, unclaimed_is book running, next_is_least (setup_in book).net (log_view book.standing.log).unclaimed running.at.at.state.clock time (index_in book) (enabled_in book running) m.1), m.2)
        moves_answer none_open new moves.Dead m =
            in_state book running (λ state. AnswersAdvance (setup_in book) state moves.Dead)
            (goes_on, (none_are, sym open_is ∙ none_open), ((log_view book.standing.log).unclaimed, unclaimed_is book running, no_next_is_dead (setup_in book).net (log_view book.standing.log).unclaimed running.at.at.state.clock (index_in book) (enabled_in book running) m.1))
        moves_answer none_open new (moves.Open number) m = absurd m
        moves_answer none_open new moves.Ready m = absurd m
        moves_answer none_open new moves.StepLimit m = absurd m
        moves_answer none_open new moves.Over m = absurd m
        moves_answer none_open new moves.Spent m = absurd m

  -- a ticket
  pub ticket : (new : Book) → new.setup ≡ book.setup → IsRunning new → (seat : ℕ) (given : Ticket) → journal_in new ≡ journal_in book ++ claim_made seat (number_of given) ∷ []
      → option_map job_view (job_in new.standing.log (number_of given)) ≡ Some (job_of given) → InState book (λ state. IsTicket (setup_in book) state seat given)
  ticket new setup then seat given events job = in_state book running (λ state. IsTicket (setup_in book) state seat given) (record {
    after = then.at.at.state;
    may = may;
    claim = made;
    claim_is = at;
    job_is = same_Some (job_of given) (claimed_job (setup_in new) made) (sym job ∙ kept) ∙ ap (λ s. claimed_job (setup_view s) made) setup;
  })
    where
      may : MayClaim (setup_in book) running.at.at.state seat (number_of given) then.at.at.state
      may = happens_last (setup_in book) (journal_in book) (claim_made seat (number_of given)) running.at.at.state then.at.at.state running.at.at.told.reached (reached_in book new setup then (journal_in book ++ claim_made seat (number_of given) ∷ []) events)

      made : PlainClaim
      made = new_claim (setup_in book).net seat running.at.at.state.clock may.drawn.element

      at : slice_get then.at.at.state.claims (number_of given) ≡ Some (new_claim (setup_in book).net seat running.at.at.state.clock may.drawn.element)
      at = ap (λ (s : PlainState). slice_get s.claims (number_of given)) may.new_is ∙ last_is_at running.at.at.state.claims (number_of given) (new_claim (setup_in book).net seat running.at.at.state.clock may.drawn.element) (sym may.next_number)

      kept : option_map job_view (job_in new.standing.log (number_of given)) ≡ Some (claimed_job (setup_in new) (new_claim (setup_in book).net seat running.at.at.state.clock may.drawn.element))
      kept = job_kept new then (number_of given) (new_claim (setup_in book).net seat running.at.at.state.clock may.drawn.element) at refl

-- where a claim is open the run has no end
pub open_has_no_end : (book : Book) (running : IsRunning book) → 0 < count_by is_some book.standing.held.items → InState book (λ state. (cause : PlainEnd) → EndsBy (setup_in book) state cause → ⊥)
open_has_no_end book running some = in_state book running (λ state. (cause : PlainEnd) → EndsBy (setup_in book) state cause → ⊥) (λ cause ends. no_end_with_an_open_claim (setup_in book) running.at.at.state cause open_now ends)
  where
    open_now : list_any (λ claim. is_open claim.status) running.at.at.state.claims ≡ true
    open_now = some_counted running.at.at.state.claims (subst (λ (k : ℕ). 0 < k) (open_is book running) some)

-- ---- a call that wanted memory

module _ (old mid new : Book) (is : IsBook old) (follows : Follows old mid) (spent : IsSpentFrom mid new) (number : ℕ) (taken : new.standing.journal.items ≡ take number mid.standing.journal.items) (long : number ≡ length old.standing.journal.items) where
  -- its events are those of before
  pub events_back : journal_in new ≡ journal_in old
  events_back =
      ap (map event_view) taken ∙ sym (take-map event_view number mid.standing.journal.items) ∙ ap (take number) follows.events
      ∙ ap (λ k. take k (journal_in old ++ follows.more)) (long ∙ sym (length-map old.standing.journal.items event_view))
      ∙ take-append_seam (journal_in old) follows.more

  committed_still : HasCommitted (setup_in old) new.standing
  committed_still =
      let has = follows.committed.committed in
      subst (HasCommitted (setup_in old)) (sym spent.standing) (record { claims = has.claims; each = has.each; heads_are = has.heads_are; left = has.left; occurrences = has.occurrences })

  -- and it is a book still
  pub spent_still : is_spent_in new ≡ true → IsBook new
  spent_still now =
      spent_is_book old new is (ap (λ (b : Book). b.setup) spent.book ∙ follows.setup) (ap (λ (b : Book). b.works) spent.book ∙ follows.works) (ap (λ (b : Book). b.opening) spent.book ∙ follows.opening) (ap (λ (b : Book). b.entered) spent.book ∙ follows.entered) events_back committed_still now
