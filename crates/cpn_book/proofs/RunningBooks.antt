-- What a book that is not spent has of its state.
use Rattle.std.proofs.Common.{◌≡◌, ◌≢◌, ℕ, ◌<◌, ◌≤◌, true, false, List, length, map, take, Option, Some, None, refl, sym, ap, ◌∙◌, subst, arith, slice_get}
use Rattle.std.specs.Option.{option_map, is_some}
use Rattle.std.specs.List.{count_by, list_any}
use Rattle.std.specs.Prelude.{MatchOption}
use Rattle.std.proofs.lemmas.Option.{same_Some}
use Rattle.cpn_definitions.specs.Enabled.{Enabled, ready, next_time, IsDead}
use Rattle.cpn_definitions.specs.Legal.{LeastTime, PlainOccurrence}
use Rattle.cpn_definitions.specs.Marking.{Marking}
use Rattle.cpn_log.specs.Logs.{claims_made}
use Rattle.cpn_log.specs.LogViews.{log_view}
use Rattle.cpn_jobs.specs.Views.{work_view}
use Rattle.cpn_jobs.specs.Work.{PlainWork}
use Rattle.cpn_runs.specs.HoleRun.{is_open, marking_left}
use Rattle.cpn_runs.specs.Playable.{IsPlayable}
use Rattle.cpn_monitor.specs.MonitorValues.{PlainMonitorValue}
use Rattle.cpn_monitor.specs.Kept.{values_until}
use Rattle.cpn_monitor.specs.Views.{measuring_view}
use Rattle.cpn_runs.specs.MeasuredStates.{values_in}
use Rattle.cpn_runs.specs.Run.{Outlook, HasOutlook, PlainFinished, IsRun}
use Rattle.cpn_runs.specs.State.{committed_occurrences, PlainSetup, PlainState, PlainEvent, PlainCut, PlainEnd, dead, steps_made, until_passed, fault_end, stopped_by, wants_memory, IsState, EndsBy, HasCause, unclaimed_in, settled_in}
use Rattle.cpn_runs.specs.FinishedViews.{setup_view, outlook_view}
use Rattle.cpn_runs.proofs.Journals.{marking_is_start}
use Rattle.cpn_runs.proofs.States.{one_state, least_is_unique}
use Rattle.cpn_book.proofs.LoggedClaims.{unclaimed_left}
use Rattle.cpn_book.proofs.OpenClaims.{none_held_where_none}
use Rattle.cpn_book.proofs.MovedClocks.{none_open, ends_by_cut, ends_without, run_is}
use Rattle.cpn_book.specs.Books.{setup_in, journal_in, index_in, works_in, committed_in, is_spent_in, entered_in, InState, IsRunning, IsBook, shown}
use Rattle.cpn_book.specs.Shown.{outlook_at}
use Rattle.cpn_book.specs.Standings.{HasCommitted, cut_view}
use Rattle.cpn_book.specs.States.{IsIndex, AreReady}
use Rattle.cpn_book.specs.Works.{AreWorks}
use Rattle.cpn_book.specs.declared.books.Book.{Book}
use Rattle.cpn_book.specs.declared.standings.Cut.{Cut}
use Rattle.cpn_book.proofs.ClaimedStandings.{stands_at, uncut_in, counted}
use Rattle.cpn_book.proofs.CommittedStandings.{values_are_in, committed_are, has_committed_at}
use Rattle.cpn_book.proofs.CountedClaims.{first_are}
use Rattle.cpn_book.proofs.IndexedBooks.{enabled_now}
use Rattle.cpn_book.proofs.NextTimes.{no_next_is_dead, next_is_least}

module _ (book : Book) (running : IsRunning book) where
  -- what holds of the state in which the program has the book holds of each state that the journal leads to
  pub in_state : (P : PlainState → Type 0) → P running.at.at.state → InState book P
  in_state P holds = λ state is. subst P (one_state (setup_in book) (journal_in book) running.at.at.state state running.at.at.told.reached is) holds

  pub unclaimed_is : unclaimed_in (setup_in book) running.at.at.state ≡ Some (log_view book.standing.log).unclaimed
  unclaimed_is = unclaimed_left (setup_in book).start running.at.at.state.claims (log_view book.standing.log) (log_view book.standing.log) running.at.at.told.has running.at.at.told.kept

  pub settled_is : settled_in (setup_in book) running.at.at.state ≡ Some (log_view book.standing.log).settled
  settled_is =
      let has = running.at.at.told.has in
      ap (λ k. settled_of k) running.at.all_committed
      ∙ ap (marking_left (setup_in book).start) (first_are (setup_in book).start running.at.at.state.claims (log_view book.standing.log) has)
      ∙ has.left
    where
      settled_of : ℕ → Option Marking
      settled_of k = marking_left (setup_in book).start (take k running.at.at.state.claims)

  -- its index is that of the state
  pub enabled_in : Enabled (setup_in book).net (log_view book.standing.log).unclaimed running.at.at.state.clock (index_in book)
  enabled_in = subst (λ (t : ℕ). Enabled (setup_in book).net (log_view book.standing.log).unclaimed t (index_in book)) running.at.at.clock (enabled_now book running)

  pub index : IsIndex (setup_in book) running.at.at.state (index_in book)
  index = record { marking = (log_view book.standing.log).unclaimed; marking_is = unclaimed_is; enabled = enabled_in }

  pub are_ready : (number : ℕ) → number ≡ length (ready book.standing.clock (index_in book)) → AreReady (setup_in book) running.at.at.state number
  are_ready number is = (index_in book, index, is ∙ ap (λ (t : ℕ). length (ready t (index_in book))) running.at.at.clock)

-- a book that follows another and is not spent is a book
module _ (old new : Book) (is : IsBook old) (setup : new.setup ≡ old.setup) (works : new.works ≡ old.works) (opening : new.opening ≡ old.opening) (entered : new.entered ≡ old.entered) where
  same_setup : setup_in old ≡ setup_in new
  same_setup = ap setup_view (sym setup)

  playable_still : IsPlayable (setup_in new)
  playable_still = subst IsPlayable same_setup is.playable

  works_still : AreWorks (setup_in new).net (works_in new)
  works_still =
      let P : PlainSetup → Type 0 = λ s. AreWorks s.net (works_in new) in
      let Q : List PlainWork → Type 0 = λ ws. AreWorks (setup_in old).net ws in
      subst P same_setup (subst Q (ap (λ ws. map (λ work. work_view work.value) ws.items) (sym works)) is.works)

  opening_still : HasOutlook (setup_in new) (setup_in new).start (setup_in new).clock (outlook_view new.opening)
  opening_still =
      let P : PlainSetup → Type 0 = λ s. HasOutlook s s.start s.clock (outlook_view new.opening) in
      let Q : Outlook → Type 0 = λ o. HasOutlook (setup_in old) (setup_in old).start (setup_in old).clock o in
      subst P same_setup (subst Q (ap outlook_view (sym opening)) is.opening)

  entered_still : entered_in new ≤ (setup_in new).limits.seats
  entered_still =
      let P : PlainSetup → Type 0 = λ s. entered_in new ≤ s.limits.seats in
      let Q : ℕ → Type 0 = λ n. n ≤ (setup_in old).limits.seats in
      subst P same_setup (subst Q (sym entered) is.entered)

  pub running_is_book : IsRunning new → IsBook new
  running_is_book running = record {
    playable = playable_still;
    works = works_still;
    opening = opening_still;
    state = running.at.at.state;
    reached = running.at.at.told.reached;
    committed = has_committed_at (setup_in new) new.standing running.at.at;
    running = λ unspent. running;
    entered = entered_still;
  }

  -- and so is one that is spent, with the journal of before
  pub spent_is_book : journal_in new ≡ journal_in old → HasCommitted (setup_in old) new.standing → is_spent_in new ≡ true → IsBook new
  spent_is_book journal committed spent = record {
    playable = playable_still;
    works = works_still;
    opening = opening_still;
    state = is.state;
    reached =
        let P : PlainSetup → Type 0 = λ s. IsState s (journal_in new) is.state in
        let Q : List PlainEvent → Type 0 = λ j. IsState (setup_in old) j is.state in
        subst P same_setup (subst Q (sym journal) is.reached);
    committed = (let P : PlainSetup → Type 0 = λ s. HasCommitted s new.standing in subst P same_setup committed);
    running = λ unspent. (let clash : true ≡ false = sym spent ∙ unspent in cc);
    entered = entered_still;
  }

-- ---- the end

-- a cause for which a run ends, of a book that has no open claim
module _ (book : Book) (is : IsBook book) (running : IsRunning book) (none_held : count_by is_some book.standing.held.items ≡ 0) where
  free : (s : ℕ) → s < (setup_in book).limits.seats → slice_get book.standing.held.items s ≡ Some None
  free s lt = none_held_where_none book.standing.held.items none_held s (let long = running.at.at.told.holds.each in omega (arith, lt, long))

  abbrev state : PlainState
  state = running.at.at.state

  closed : list_any (λ claim. is_open claim.status) running.at.at.state.claims ≡ false
  closed = none_open (setup_in book) (journal_in book) running.at.at.state (log_view book.standing.log) book.standing.held.items (stands_at (setup_in book) book.standing running.at) free

  -- by its cut
  pub by_cut : (cut : Cut) → book.standing.cut ≡ Some cut → EndsBy (setup_in book) running.at.at.state (cut_view cut).cause
  by_cut cut stands =
      ends_by_cut (setup_in book) (journal_in book) running.at.at.state (log_view book.standing.log) book.standing.held.items (stands_at (setup_in book) book.standing running.at) free (cut_view cut) (sym running.at.at.cut ∙ ap (option_map cut_view) stands)

  module _ (uncut : book.standing.cut ≡ None) where
    no_cut : running.at.at.state.cut ≡ None
    no_cut = uncut_in (setup_in book) book.standing running.at.at uncut

    number_is : length running.at.at.state.claims ≡ claims_made (log_view book.standing.log)
    number_is = counted (setup_in book) book.standing running.at.at

    ends : (cause : PlainEnd) → HasCause (setup_in book) running.at.at.state cause → EndsBy (setup_in book) running.at.at.state cause
    ends cause has = ends_without (setup_in book) (journal_in book) running.at.at.state (log_view book.standing.log) book.standing.held.items (stands_at (setup_in book) book.standing running.at) free cause no_cut has

    -- by the limit of claims
    pub by_steps : claims_made (log_view book.standing.log) ≡ (setup_in book).limits.steps → EndsBy (setup_in book) running.at.at.state steps_made
    by_steps all = ends steps_made (number_is ∙ all)

    module _ (below : claims_made (log_view book.standing.log) < (setup_in book).limits.steps) where
      not_all : length running.at.at.state.claims ≢ (setup_in book).limits.steps
      not_all all = let n = number_is in absurd (omega (arith, n, all, below))

      -- dead
      pub by_death : next_time (index_in book) ≡ None → EndsBy (setup_in book) running.at.at.state dead
      by_death none = ends dead (not_all, ((log_view book.standing.log).unclaimed, unclaimed_is book running, no_next_is_dead (setup_in book).net (log_view book.standing.log).unclaimed running.at.at.state.clock (index_in book) (enabled_in book running) none))

      least : (time : ℕ) → next_time (index_in book) ≡ Some time → LeastTime (setup_in book).net (log_view book.standing.log).unclaimed running.at.at.state.clock time
      least time next = next_is_least (setup_in book).net (log_view book.standing.log).unclaimed running.at.at.state.clock time (index_in book) (enabled_in book running) next

      -- past its time
      pub by_time : (time : ℕ) → next_time (index_in book) ≡ Some time → (setup_in book).limits.until < time → EndsBy (setup_in book) running.at.at.state (until_passed time)
      by_time time next past = ends (until_passed time) (not_all, past, ((log_view book.standing.log).unclaimed, unclaimed_is book running, least time next))

      -- and otherwise by no cause
      pub by_none : (time : ℕ) → next_time (index_in book) ≡ Some time → time ≤ (setup_in book).limits.until → (cause : PlainEnd) → EndsBy (setup_in book) running.at.at.state cause → ⊥
      by_none time next in_time cause ends_so = split cause (subst (λ (o : Option PlainCut). MatchOption o (HasCause (setup_in book) running.at.at.state cause) (λ cut. cause ≡ cut.cause)) no_cut ends_so.has_cause)
        where
          marking_of : (m : Marking) → unclaimed_in (setup_in book) running.at.at.state ≡ Some m → m ≡ (log_view book.standing.log).unclaimed
          marking_of m stood = same_Some m (log_view book.standing.log).unclaimed (sym stood ∙ unclaimed_is book running)

          split : (c : PlainEnd) → HasCause (setup_in book) running.at.at.state c → ⊥
          split steps_made all = not_all all
          split dead has =
              let is_dead : IsDead (setup_in book).net (log_view book.standing.log).unclaimed = subst (λ m. IsDead (setup_in book).net m) (marking_of has.1.0 has.1.1) has.1.2 in
              let some = (least time next).some in
              let clash : true ≡ false = sym some.1 ∙ is_dead time some.0 in cc
          split (until_passed late) has =
              let first : LeastTime (setup_in book).net (log_view book.standing.log).unclaimed running.at.at.state.clock late = subst (λ m. LeastTime (setup_in book).net m running.at.at.state.clock late) (marking_of has.2.0 has.2.1) has.2.2 in
              let same = least_is_unique (setup_in book).net (log_view book.standing.log).unclaimed running.at.at.state.clock late time first (least time next) in
              let past = has.1 in
              omega (arith, same, past, in_time)
          split (fault_end e fault) has = has
          split (stopped_by monitor) has = has
          split wants_memory has = has

  -- what it shows is a run, where it ends by the cause
  pub shows_run : (cause : PlainEnd) → EndsBy (setup_in book) running.at.at.state cause → IsRun (setup_in book) (shown book cause)
  shows_run cause ends_so =
      let start = marking_is_start (setup_in book) is.playable.marking in
      let closing : HasOutlook (setup_in book) (log_view book.standing.log).unclaimed running.at.at.state.clock (outlook_at running.at.at.state.clock (index_in book)) = record { entries = index_in book; enabled = enabled_in book running; ready_count_is = refl; next_is = refl } in
      let run = run_is (setup_in book) (journal_in book) running.at.at.state (log_view book.standing.log) book.standing.held.items (stands_at (setup_in book) book.standing running.at) free start cause (outlook_view book.opening) (outlook_at running.at.at.state.clock (index_in book)) ends_so is.opening closing in
      let shown_at : List PlainOccurrence → ℕ → ℕ → List PlainMonitorValue → PlainFinished = λ os t u vs. record { opening = outlook_view book.opening; journal = journal_in book; occurrences = os; marking = (log_view book.standing.log).unclaimed; clock = t; cause = cause; closing = outlook_at u (index_in book); values = vs } in
      let values : values_until book.standing.clock (measuring_view book.standing.measuring).values ≡ values_in (setup_in book) running.at.at.state = values_are_in (setup_in book) book.standing running.at is.playable in
      subst (λ u. IsRun (setup_in book) (shown_at (committed_in book) book.standing.clock u (values_until book.standing.clock (measuring_view book.standing.measuring).values))) (sym (running.clock ∙ running.at.at.clock))
      (subst (λ t. IsRun (setup_in book) (shown_at (committed_in book) t running.at.at.state.clock (values_until book.standing.clock (measuring_view book.standing.measuring).values))) (sym running.at.at.clock)
      (subst (λ os. IsRun (setup_in book) (shown_at os running.at.at.state.clock running.at.at.state.clock (values_until book.standing.clock (measuring_view book.standing.measuring).values))) (sym (committed_are (setup_in book) book.standing running.at))
      (subst (λ vs. IsRun (setup_in book) (shown_at (committed_occurrences (setup_in book) running.at.at.state) running.at.at.state.clock running.at.at.state.clock vs)) (sym values) run)))
