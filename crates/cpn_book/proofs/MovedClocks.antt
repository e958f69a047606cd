-- The clock moves, or the run ends: no seat holds a claim then.
use Rattle.std.proofs.Common.{◌≡◌, ℕ, ◌<◌, ◌≤◌, ◌==◌, ◌&&◌, ◌||◌, ◌⊎◌, inl, inr, Bool, true, false, List, [], ◌∷◌, ◌++◌, length, Option, Some, None, refl, sym, ◌∙◌, slice_get}
use Rattle.std.specs.List.{AllByRecursion, list_any}
use Rattle.std.proofs.lemmas.Bool.Decides.{eqb_tells}
use Rattle.cpn_definitions.specs.Legal.{LeastTime}
use Rattle.cpn_definitions.specs.Occurrence.{PlainElement, covered}
use Rattle.cpn_runs.specs.HoleRun.{PlainClaim, is_open}
use Rattle.cpn_runs.specs.State.{PlainSetup, PlainState, PlainEvent, PlainEnd, PlainCut, clock_moved, is_held_by, MayMove, first_state, HasCause, EndsBy, settled_in, committed_occurrences}
use Rattle.cpn_runs.specs.MeasuredStates.{values_in}
use Rattle.cpn_runs.specs.Run.{Outlook, HasOutlook, IsRun}
use Rattle.cpn_runs.proofs.Journals.{IsStart, ended_is_run, ended_is_settled}
use Rattle.cpn_runs.proofs.States.{leads_more, IsClaimOf, every_state}
use Rattle.cpn_book.specs.Held.{held_from}
use Rattle.cpn_log.specs.Logs.{PlainLog}
use Rattle.cpn_book.specs.StandingRuns.{StandsAt}
use Rattle.cpn_book.proofs.HeldClaims.{none_held}
use Rattle.cpn_book.proofs.LoggedClaims.{unclaimed_left}

-- ---- no seat holds a claim

none_open_of : (seats : ℕ) (claims : List PlainClaim) → AllByRecursion (λ (claim : PlainClaim). claim.seat < seats) claims → ((s : ℕ) → s < seats → list_any (is_held_by s) claims ≡ false) → list_any (λ claim. is_open claim.status) claims ≡ false
none_open_of seats [] known none = refl
none_open_of seats (claim ∷ claims) known none =
    split (is_open claim.status) refl (none_open_of seats claims known.1 (λ s lt. (parts (is_held_by s claim) (list_any (is_held_by s) claims) (none s lt)).1))
  where
    parts : (b c : Bool) → (b || c) ≡ false → (b ≡ false) × (c ≡ false)
    parts true c h = cc
    parts false c h = (refl, h)

    own : (b : Bool) → b ≡ true → (b && (claim.seat == claim.seat)) ≡ false → ⊥
    own b is no_own = by (eqb_tells claim.seat claim.seat)
      where
        by : (((claim.seat == claim.seat) ≡ true) × (claim.seat ≡ claim.seat)) ⊎ (((claim.seat == claim.seat) ≡ false) × (claim.seat ≡ claim.seat → ⊥)) → ⊥
        by (inl h) = let e : (b && (claim.seat == claim.seat)) ≡ true = rw (is, h.0) refl in let clash : true ≡ false = sym e ∙ no_own in cc
        by (inr h) = h.1 refl

    split : (b : Bool) → is_open claim.status ≡ b → list_any (λ c. is_open c.status) claims ≡ false → (is_open claim.status || list_any (λ c. is_open c.status) claims) ≡ false
    split true is rest = absurd (own (is_open claim.status) is (parts (is_held_by claim.seat claim) (list_any (is_held_by claim.seat) claims) (none claim.seat known.0)).0)
    split false is rest = rw is rest

pub seats_known : (setup : PlainSetup) (claims : List PlainClaim) → AllByRecursion (IsClaimOf setup) claims → AllByRecursion (λ (claim : PlainClaim). claim.seat < setup.limits.seats) claims
seats_known setup [] all = tt
seats_known setup (claim ∷ claims) all = (all.0.seat_known, seats_known setup claims all.1)

module _ (setup : PlainSetup) (journal : List PlainEvent) (state : PlainState) (log : PlainLog) (held : List (Option ℕ)) (stands : StandsAt setup journal state log held) (free : (s : ℕ) → s < setup.limits.seats → slice_get held s ≡ Some None) where
  -- no claim is open
  pub none_open : list_any (λ claim. is_open claim.status) state.claims ≡ false
  none_open =
      none_open_of setup.limits.seats state.claims (seats_known setup state.claims (every_state setup journal state stands.told.reached).claims_are)
      (λ s lt. none_held 0 s state.claims (let e : Some (held_from 0 s state.claims) ≡ Some None = sym (stands.told.holds.numbers s lt) ∙ free s lt in cc))

  -- ---- the clock moves

  module _ (time : ℕ) (no_cut : state.cut ≡ None) (below : length state.claims < setup.limits.steps) (none_ready : (e : PlainElement) → covered setup.net log.unclaimed state.clock e ≡ false) (least : LeastTime setup.net log.unclaimed state.clock time) (in_time : time ≤ setup.limits.until) where
    abbrev pub moved_state : PlainState
    moved_state = record state { clock = time }

    may_move : MayMove setup state time moved_state
    may_move = record {
      no_cut = no_cut;
      none_owed = stands.none_owed;
      below_limit = below;
      none_open = none_open;
      marking = log.unclaimed;
      marking_is = unclaimed_left setup.start state.claims log log stands.told.has stands.told.kept;
      none_ready = none_ready;
      least = least;
      in_time = in_time;
      new_is = refl;
    }

    pub stands_moved : StandsAt setup (journal ++ clock_moved time ∷ []) moved_state log held
    stands_moved = record {
      told = record {
        reached = leads_more setup (first_state setup) journal (clock_moved time ∷ []) state moved_state stands.told.reached (moved_state, may_move, refl);
        has = stands.told.has;
        all_in = stands.told.all_in;
        kept = stands.told.kept;
        holds = stands.told.holds;
      };
      all_committed = stands.all_committed;
      none_owed = stands.none_owed;
    }

  -- ---- the run ends

  -- by the cause of its cut, or by that for which a run without a cut ends
  pub ends_by_cut : (cut : PlainCut) → state.cut ≡ Some cut → EndsBy setup state cut.cause
  ends_by_cut cut is = record { none_open = none_open; none_owed = stands.none_owed; has_cause = rw is refl }

  pub ends_without : (cause : PlainEnd) → state.cut ≡ None → HasCause setup state cause → EndsBy setup state cause
  ends_without cause is has = record { none_open = none_open; none_owed = stands.none_owed; has_cause = rw is has }

  -- all that is claimed is settled then, and what the run shows is a run
  pub settled_is_unclaimed : IsStart setup → (cause : PlainEnd) → EndsBy setup state cause → settled_in setup state ≡ Some log.unclaimed
  settled_is_unclaimed start cause ends = ended_is_settled setup journal state cause start stands.told.reached ends ∙ unclaimed_left setup.start state.claims log log stands.told.has stands.told.kept

  pub run_is : IsStart setup → (cause : PlainEnd) (opening closing : Outlook) → EndsBy setup state cause → HasOutlook setup setup.start setup.clock opening → HasOutlook setup log.unclaimed state.clock closing
      → IsRun setup (record { opening = opening; journal = journal; occurrences = committed_occurrences setup state; marking = log.unclaimed; clock = state.clock; cause = cause; closing = closing; values = values_in setup state })
  run_is start cause opening closing ends at_start at_end =
      ended_is_run setup journal state cause log.unclaimed opening closing start stands.told.reached ends (settled_is_unclaimed start cause ends) at_start at_end
