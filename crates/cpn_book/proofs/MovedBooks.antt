-- A book that moves its clock, and the bounds that each book keeps.
use Rattle.std.proofs.Common.{◌≡◌, ◌≢◌, ℕ, ◌<◌, ◌≤◌, List, [], ◌∷◌, ◌++◌, length, Option, Some, None, refl, sym, ap, subst, arith, slice_get}
use Rattle.std.specs.Option.{is_some}
use Rattle.std.specs.List.{AllByRecursion, count_by}
use Rattle.std.specs.Prelude.{MatchOption}
use Rattle.cpn_definitions.specs.Enabled.{PlainEntry, Enabled, ready, next_time}
use Rattle.cpn_definitions.specs.Sound.{IsMarking}
use Rattle.cpn_index.specs.Index.{kept_in, clock_in, listed_in, IsIndexOf}
use Rattle.cpn_index.specs.declared.index.Index.{Index}
use Rattle.cpn_log.specs.Logs.{claims_made}
use Rattle.cpn_log.specs.LogViews.{log_view}
use Rattle.cpn_monitor.proofs.ToldRuns.{kept_at_clock}
use Rattle.cpn_monitor.specs.Kept.{MayClose}
use Rattle.cpn_monitor.specs.Views.{measuring_view}
use Rattle.cpn_runs.specs.HoleRun.{PlainClaim}
use Rattle.cpn_runs.specs.MeasuredStates.{run_of}
use Rattle.cpn_runs.specs.Playable.{IsPlayable}
use Rattle.cpn_runs.specs.Run.{IsRun}
use Rattle.cpn_runs.specs.State.{PlainSetup, PlainEnd, clock_moved, EndsBy}
use Rattle.cpn_runs.specs.Views.{end_view}
use Rattle.cpn_runs.specs.declared.events.End.{End}
use Rattle.cpn_runs.proofs.BoundedStates.{every_state_has_bounds}
use Rattle.cpn_book.specs.StandingRuns.{StandsAt}
use Rattle.cpn_book.proofs.LoggedClaims.{unclaimed_left}
use Rattle.cpn_book.proofs.MovedClocks.{stands_moved}
use Rattle.cpn_book.proofs.OccurredClaims.{all_committed}
use Rattle.cpn_book.proofs.OpenClaims.{none_held_where_none}
use Rattle.cpn_book.specs.Books.{setup_in, journal_in, index_in, InState, IsBook, IsRunning, shown}
use Rattle.cpn_book.specs.Standings.{IsAt, committed_of, events_in}
use Rattle.cpn_book.specs.declared.books.Book.{Book}
use Rattle.cpn_book.specs.declared.standings.Standing.{Standing}
use Rattle.cpn_book.proofs.ClaimedStandings.{stands_at, uncut_in, counted}
use Rattle.cpn_book.proofs.IndexedBooks.{enabled_now, listed_then}
use Rattle.cpn_book.proofs.NextTimes.{next_is_least, none_is_covered, some_are_ready}
use Rattle.cpn_book.proofs.RunningBooks.{shows_run}

-- ---- bounds

-- the unclaimed marking is one of the net's places
pub unclaimed_is_marking : (setup : PlainSetup) (s : Standing) → IsAt setup s → IsPlayable setup → IsMarking setup.net.places (log_view s.log).unclaimed
unclaimed_is_marking setup s is playable =
    (every_state_has_bounds setup (events_in s) is.at.state playable is.at.told.reached).marking (log_view s.log).unclaimed
    (unclaimed_left setup.start is.at.state.claims (log_view s.log) (log_view s.log) is.at.told.has is.at.told.kept)

-- no more claims were made than may be
pub claims_below : (setup : PlainSetup) (s : Standing) → IsAt setup s → IsPlayable setup → claims_made (log_view s.log) ≢ setup.limits.steps → claims_made (log_view s.log) < setup.limits.steps
claims_below setup s is playable not_all =
    let few = (every_state_has_bounds setup (events_in s) is.at.state playable is.at.told.reached).few_claims in
    let same = counted setup s is.at in
    omega (arith, few, same, not_all)

-- monitors may count until its clock
pub may_close : (book : Book) → IsBook book → IsRunning book → MayClose (measuring_view book.standing.measuring) book.standing.clock
may_close book is running = record {
  up_to = running.at.at.measured.up_to;
  in_time =
      (let bounds = (every_state_has_bounds (setup_in book) (journal_in book) running.at.at.state is.playable running.at.at.told.reached).clock in
      let until = is.playable.until in
      let clock = running.at.at.clock in omega (arith, bounds, until, clock));
}

-- ---- the move

-- the next time is not before the clock
pub next_not_before : (book : Book) (time : ℕ) → IsRunning book → next_time (index_in book) ≡ Some time → book.standing.clock ≤ time
next_not_before book time running next = (next_is_least (setup_in book).net (log_view book.standing.log).unclaimed book.standing.clock time (index_in book) (enabled_now book running) next).not_before

module _ (book : Book) (time : ℕ) (running : IsRunning book) (none_ready : length (ready book.standing.clock (index_in book)) ≡ 0) (none_open : count_by is_some book.standing.held.items ≡ 0)
    (uncut : book.standing.cut ≡ None) (below : claims_made (log_view book.standing.log) < book.setup.limits.steps) (next : next_time (index_in book) ≡ Some time) (in_time : time ≤ book.setup.limits.until) where
  free : (seat : ℕ) → seat < (setup_in book).limits.seats → slice_get book.standing.held.items seat ≡ Some None
  free seat lt = none_held_where_none book.standing.held.items none_open seat (let long = running.at.at.told.holds.each in omega (arith, lt, long))

  abbrev clock_is : book.standing.clock ≡ running.at.at.state.clock
  clock_is = running.at.at.clock

  enabled : Enabled (setup_in book).net (log_view book.standing.log).unclaimed running.at.at.state.clock (index_in book)
  enabled = subst (λ (t : ℕ). Enabled (setup_in book).net (log_view book.standing.log).unclaimed t (index_in book)) clock_is (enabled_now book running)

  nothing_ready : length (ready running.at.at.state.clock (index_in book)) ≡ 0
  nothing_ready = subst (λ (t : ℕ). length (ready t (index_in book)) ≡ 0) clock_is none_ready

  stands : StandsAt (setup_in book) (journal_in book ++ clock_moved time ∷ []) (record running.at.at.state { clock = time }) (log_view book.standing.log) book.standing.held.items
  stands =
      stands_moved (setup_in book) (journal_in book) running.at.at.state (log_view book.standing.log) book.standing.held.items (stands_at (setup_in book) book.standing running.at) free time
      (uncut_in (setup_in book) book.standing running.at.at uncut)
      (let same = counted (setup_in book) book.standing running.at.at in omega (arith, same, below))
      (none_is_covered (setup_in book).net (log_view book.standing.log).unclaimed running.at.at.state.clock (index_in book) enabled nothing_ready)
      (next_is_least (setup_in book).net (log_view book.standing.log).unclaimed running.at.at.state.clock time (index_in book) enabled next)
      in_time

  -- all claims are committed
  all_in : (log_view book.standing.log).claims ≡ []
  all_in = all_committed (setup_in book) (journal_in book) running.at.at.state (log_view book.standing.log) book.standing.held.items (stands_at (setup_in book) book.standing running.at) free

  -- by the index that has moved to it
  module _ (index : Index) (kept : kept_in index ≡ kept_in book.index) (at_time : clock_in index ≡ time) where
    listed_now : listed_in index ≡ index_in book
    listed_now = listed_then book.index index time kept at_time (let own = running.clock in let from = next_not_before book time running next in omega (arith, own, from)) next

    -- something is ready then
    pub moved_ready : 0 < length (ready time (listed_in index))
    moved_ready = subst (λ (es : List PlainEntry). 0 < length (ready time es)) (sym listed_now) (some_are_ready (setup_in book).net (log_view book.standing.log).unclaimed running.at.at.state.clock time (index_in book) enabled next)

  module _ (s : Standing) (events : events_in s ≡ journal_in book ++ clock_moved time ∷ []) where
    abbrev pub moved_standing : Standing
    moved_standing = record book.standing { clock = time; journal = s.journal }

    moved_at : IsAt (setup_in book) moved_standing
    moved_at =
        let there = subst (λ es. StandsAt (setup_in book) es (record running.at.at.state { clock = time }) (log_view book.standing.log) book.standing.held.items) (sym events) stands in
        record {
          at = record {
            state = record running.at.at.state { clock = time };
            told = there.told;
            clock = refl;
            cut = running.at.at.cut;
            jobs = running.at.at.jobs;
            occurrences = running.at.at.occurrences;
            measured =
                kept_at_clock (setup_in book).net (setup_in book).functions (setup_in book).monitors (run_of (setup_in book) book.standing.clock (committed_of running.at.at.state book.standing)) time (measuring_view book.standing.measuring)
                running.at.at.measured (next_not_before book time running next);
            made_now = subst (AllByRecursion (λ (claim : PlainClaim). claim.time ≡ time)) (sym all_in) tt;
            draw = running.at.at.draw;
          };
          all_committed = there.all_committed;
          none_owed = there.none_owed;
        }

    -- and the run is under way
    pub moved_runs : (index : Index) → kept_in index ≡ kept_in book.index → clock_in index ≡ time → IsIndexOf (setup_in book).net (log_view book.standing.log).unclaimed index → IsRunning (record book { standing = moved_standing; index = index })
    moved_runs index kept at_time is = record {
      at = moved_at;
      index = is;
      clock = at_time;
      room = λ none. let some = moved_ready index kept at_time in let zero = ap length none in absurd (omega (arith, some, zero));
    }

-- ---- the end

-- a book that has an end shows a run
pub shows_end : (book : Book) → IsBook book → IsRunning book → count_by is_some book.standing.held.items ≡ 0 → (answer : Option End)
    → MatchOption answer (InState book (λ state. (cause : PlainEnd) → EndsBy (setup_in book) state cause → ⊥)) (λ cause. InState book (λ state. EndsBy (setup_in book) state (end_view cause)))
    → MatchOption answer (InState book (λ state. (cause : PlainEnd) → EndsBy (setup_in book) state cause → ⊥)) (λ cause. IsRun (setup_in book) (shown book (end_view cause)))
shows_end book is running none None ends = ends
shows_end book is running none (Some cause) ends = shows_run book is running none (end_view cause) (ends running.at.at.state running.at.at.told.reached)
