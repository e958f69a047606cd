-- The bounds of a run: its clock is one that it may reach, and its markings are of the net's places, with few tokens on each.
use Rattle.std.proofs.Common.{[], ◌≡◌, ℕ, ◌-◌, ◌^◌, ◌≤◌, length, sym, subst, arith}
use Rattle.cpn_definitions.specs.Bounds.{IsBounded}
use Rattle.cpn_definitions.specs.Marking.{Marking}
use Rattle.cpn_definitions.specs.Sound.{IsMarking}
use Rattle.cpn_definitions.proofs.BoundedMarkings.{bounded_by}
use Rattle.cpn_log.specs.LogViews.{log_view}
use Rattle.cpn_runs.specs.Bounds.{most_at_start, most_after, HasGrown}
use Rattle.cpn_runs.specs.Playable.{IsPlayable}
use Rattle.cpn_runs.specs.Run.{PlainFinished, IsRun}
use Rattle.cpn_runs.specs.State.{PlainSetup, PlainState, PlainEnd, committed}
use Rattle.cpn_runs.proofs.BoundedStates.{HasBounds, every_state_has_bounds}
use Rattle.cpn_runs.proofs.Cuts.{no_more_committed}
use Rattle.cpn_runs.proofs.GrownRuns.{run_has_grown}
use Rattle.cpn_book.specs.Bounds.{EndsInBounds}
use Rattle.cpn_book.specs.Books.{setup_in, journal_in, IsBook, IsRunning, shown}
use Rattle.cpn_book.specs.declared.books.Book.{Book}
use Rattle.cpn_book.proofs.RunningBooks.{unclaimed_is, settled_is}

-- A marking that so many claims leave: one of the net's places, with fewer than 2^48 tokens on each, and grown by what as many
-- occurrences make.
pub record IsKeptMarking (setup : PlainSetup) (claims : ℕ) (m : Marking) : Type 0 where
  pub marking : IsMarking setup.net.places m
  pub bounded : IsBounded (2 ^ 48 - 1) m
  pub grown : HasGrown setup.net.places setup.start claims m

-- so is one that no more claims leave than the run may make
few_claims_leave : (setup : PlainSetup) (claims : ℕ) (m : Marking) → IsPlayable setup → claims ≤ setup.limits.steps → HasGrown setup.net.places setup.start claims m → IsKeptMarking setup claims m
few_claims_leave setup claims m playable few grown =
    let steps = playable.steps in
    record {
      marking = grown.marking playable.marking;
      bounded = bounded_by (most_after claims) (2 ^ 48 - 1) m (omega (arith, few, steps)) (grown.few most_at_start playable.bounded);
      grown = grown;
    }

-- ---- a book that is not spent

module _ (book : Book) (is : IsBook book) (running : IsRunning book) where
  abbrev state : PlainState
  state = running.at.at.state

  bounds : HasBounds (setup_in book) state
  bounds = every_state_has_bounds (setup_in book) (journal_in book) state is.playable running.at.at.told.reached

  pub clock_in_time : book.standing.clock ≤ (setup_in book).limits.until
  clock_in_time = subst (λ (t : ℕ). t ≤ (setup_in book).limits.until) (sym running.at.at.clock) bounds.clock

  pub unclaimed_kept : IsKeptMarking (setup_in book) (length state.claims) (log_view book.standing.log).unclaimed
  unclaimed_kept =
      let m = (log_view book.standing.log).unclaimed in
      few_claims_leave (setup_in book) (length state.claims) m is.playable bounds.few_claims (bounds.grown m (unclaimed_is book running))

  pub settled_kept : IsKeptMarking (setup_in book) (committed (setup_in book) state) (log_view book.standing.log).settled
  settled_kept =
      let m = (log_view book.standing.log).settled in
      let few = bounds.few_claims in
      let first = no_more_committed (setup_in book).monitors [] (setup_in book).start state.claims in
      few_claims_leave (setup_in book) (committed (setup_in book) state) m is.playable (omega (arith, few, first)) (bounds.settled m (settled_is book running))

-- ---- a run

-- what a book shows is a run of its setup
pub shown_run : (setup : PlainSetup) (b : Book) (cause : PlainEnd) (f : PlainFinished) → IsRun (setup_in b) (shown b cause) → f ≡ shown b cause → setup_in b ≡ setup → IsRun setup f
shown_run setup b cause f run is same = subst (IsRun setup) (sym is) (subst (λ (s : PlainSetup). IsRun s (shown b cause)) same run)

-- a run ends within its bounds
pub run_ends_in_bounds : (setup : PlainSetup) (run : PlainFinished) → IsPlayable setup → IsRun setup run → EndsInBounds setup run
run_ends_in_bounds setup run playable is =
    let bounds = every_state_has_bounds setup run.journal is.state playable is.reached in
    let clock = bounds.clock in
    let clock_is = is.clock_is in
    let few = bounds.few_claims in
    let first = no_more_committed setup.monitors [] setup.start is.state.claims in
    let kept = few_claims_leave setup (committed setup is.state) run.marking playable (omega (arith, few, first)) (bounds.settled run.marking is.marking_is) in
    record {
      in_time = omega (arith, clock, clock_is);
      marking = kept.marking;
      bounded = kept.bounded;
      grown = run_has_grown setup run playable is;
    }
