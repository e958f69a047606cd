-- A claim is made: where the run stands then.
use Rattle.std.proofs.Common.{◌≡◌, ℕ, zero, suc, ◌+◌, ◌<◌, ◌≤◌, ◌==◌, ◌&&◌, Bool, true, false, List, [], ◌∷◌, ◌++◌, length, take, Option, Some, None, refl, sym, ap, ◌∙◌, subst, arith, slice_get, slice_set, eqb-true}
use Rattle.std.proofs.lemmas.Bool.{cond-true, eqb-false}
use Rattle.std.proofs.lemmas.List.{take-append-le}
use Rattle.cpn_definitions.specs.Enabled.{PlainEntry, Enabled, ready}
use Rattle.cpn_definitions.specs.Occurrence.{PlainElement}
use Rattle.cpn_definitions.proofs.NumberTests.{equals_itself}
use Rattle.cpn_definitions.proofs.ListItems.{set_there, set_elsewhere, set_long}
use Rattle.cpn_runs.specs.HoleRun.{PlainClaim}
use Rattle.cpn_runs.specs.Commits.{marked_from, stop_at_last, committed_from}
use Rattle.cpn_runs.specs.State.{PlainSetup, PlainState, PlainEvent, claim_made, new_claim, is_held_by, IsDrawn, MayClaim, first_state, committed, owed_cut, cut_at}
use Rattle.cpn_runs.proofs.Cuts.{no_more_committed, owes_none, owes_none_so, uncut_so}
use Rattle.cpn_runs.proofs.States.{leads_more}
use Rattle.cpn_book.specs.Held.{held_from, AreHeld}
use Rattle.cpn_log.specs.Kept.{IsKept}
use Rattle.cpn_book.specs.Logged.{HasClaims}
use Rattle.cpn_log.specs.Logs.{PlainLog, PlainHead}
use Rattle.cpn_book.specs.StandingRuns.{StandsAt}
use Rattle.cpn_book.proofs.HeldClaims.{none_held, held_more, held_by_another}
use Rattle.cpn_book.proofs.LoggedClaims.{unclaimed_left, has_one_more}
use Rattle.cpn_book.proofs.CommittedClaims.{committed_still}

-- an open claim at the end makes no cut owed
still_owes_none : (j k : ℕ) (claims : List PlainClaim) (claim : PlainClaim) → cut_at j (slice_get claims k) ≡ None → cut_at j (Some claim) ≡ None → cut_at j (slice_get (claims ++ claim ∷ []) k) ≡ None
still_owes_none j zero [] claim none is = is
still_owes_none j (suc k) [] claim none is = none
still_owes_none j zero (c ∷ claims) claim none is = none
still_owes_none j (suc k) (c ∷ claims) claim none is = still_owes_none j k claims claim none is

-- ---- what seats hold

module _ (seats : ℕ) (claims : List PlainClaim) (held : List (Option ℕ)) (are : AreHeld seats claims held) (seat : ℕ) (known : seat < seats) (claim : PlainClaim) (own : is_held_by seat claim ≡ true) (others : (s : ℕ) → (seat ≡ s → ⊥) → is_held_by s claim ≡ false) (had_none : held_from 0 seat claims ≡ None) where
  at : (s : ℕ) → s < seats → (b : Bool) → (seat == s) ≡ b → slice_get (slice_set held seat (Some (length claims))) s ≡ Some (held_from 0 s (claims ++ claim ∷ []))
  at s lt true is =
      let same : seat ≡ s = eqb-true seat s is in
      let number : held_from 0 seat (claims ++ claim ∷ []) ≡ Some (length claims) =
      held_more 0 seat claims claim (none_held 0 seat claims had_none) ∙ cond-true (is_held_by seat claim) (Some (0 + length claims)) None own ∙ ap Some (let e : 0 + length claims ≡ length claims = omega arith in e) in
      subst (λ t. slice_get (slice_set held seat (Some (length claims))) t ≡ Some (held_from 0 t (claims ++ claim ∷ []))) same
      (set_there held seat (Some (length claims)) (omega (arith, known, are.each)) ∙ ap Some (sym number))
  at s lt false is =
      let other : seat ≡ s → ⊥ = eqb-false seat s is in
      set_elsewhere held seat s (Some (length claims)) other ∙ are.numbers s lt ∙ ap Some (sym (held_by_another 0 s claims claim (others s other)))

  pub held_one_more : AreHeld seats (claims ++ claim ∷ []) (slice_set held seat (Some (length claims)))
  held_one_more = record { each = set_long held seat (Some (length claims)) ∙ are.each; numbers = λ s lt. at s lt (seat == s) refl }

-- ---- the event

pub own_claim : (setup : PlainSetup) (seat time : ℕ) (e : PlainElement) → is_held_by seat (new_claim setup.net seat time e) ≡ true
own_claim setup seat time e = rw (equals_itself seat) refl

others_not : (setup : PlainSetup) (seat time : ℕ) (e : PlainElement) (s : ℕ) → (seat ≡ s → ⊥) → is_held_by s (new_claim setup.net seat time e) ≡ false
others_not setup seat time e s other = split (seat == s) refl
  where
    split : (b : Bool) → (seat == s) ≡ b → (true && (seat == s)) ≡ false
    split true is = absurd (other (eqb-true seat s is))
    split false is = is

-- What a claim needs: no cut stands, fewer claims were made than may be, the seat is one of the run's and has none; and the element is
-- the drawn one of those that are ready in the unclaimed marking.
pub record IsNextClaim (setup : PlainSetup) (state : PlainState) (log : PlainLog) (seat : ℕ) (drawn : PlainEntry) : Type 0 where
  pub no_cut : state.cut ≡ None
  pub below_limit : length state.claims < setup.limits.steps
  pub known : seat < setup.limits.seats
  pub had_none : held_from 0 seat state.claims ≡ None
  pub entries : List PlainEntry
  pub enabled : Enabled setup.net log.unclaimed state.clock entries
  pub drawn_is : IsDrawn setup.seed (length state.claims) (ready state.clock entries) drawn

module _ (setup : PlainSetup) (journal : List PlainEvent) (state : PlainState) (log new : PlainLog) (held : List (Option ℕ)) (stands : StandsAt setup journal state log held) (seat : ℕ) (drawn : PlainEntry) (next : IsNextClaim setup state log seat drawn) where
  abbrev pub made : PlainClaim
  made = new_claim setup.net seat state.clock drawn.element

  abbrev pub after : PlainState
  after = record state { claims = state.claims ++ made ∷ [] }

  pub may_claim : MayClaim setup state seat (length state.claims) after
  may_claim = record {
    no_cut = next.no_cut;
    none_owed = stands.none_owed;
    next_number = refl;
    below_limit = next.below_limit;
    seat_known = next.known;
    seat_free = none_held 0 seat state.claims next.had_none;
    marking = log.unclaimed;
    marking_is = unclaimed_left setup.start state.claims log new stands.told.has stands.told.kept;
    entries = next.entries;
    enabled = next.enabled;
    drawn = drawn;
    drawn_is = next.drawn_is;
    new_is = refl;
  }

  module _ (is : new.claims ≡ log.claims ++ made ∷ []) (heads_same : new.committed ≡ log.committed) (settled_same : new.settled ≡ log.settled) where
    has_now : HasClaims setup.start after.claims new
    has_now = has_one_more setup.start state.claims log new stands.told.has heads_same settled_same made is

    many_now : committed setup after ≡ committed setup state
    many_now = committed_still setup.monitors [] setup.start state.claims made refl

    first_same : (k : ℕ) → k ≤ length state.claims → take k after.claims ≡ take k state.claims
    first_same k few = take-append-le k state.claims (made ∷ []) few

    few_committed : committed setup state ≤ length state.claims
    few_committed = no_more_committed setup.monitors [] setup.start state.claims

    pub none_owed_now : owed_cut setup after ≡ None
    none_owed_now =
        let none = owes_none setup state (uncut_so state.cut next.no_cut) stands.none_owed in
        owes_none_so setup after
        (ap (λ k. stop_at_last setup.monitors (marked_from setup.start (take k after.claims))) many_now ∙ ap (λ cs. stop_at_last setup.monitors (marked_from setup.start cs)) (first_same (committed setup state) few_committed) ∙ none.0)
        (ap (λ k. cut_at k (slice_get after.claims k)) many_now ∙ still_owes_none (committed setup state) (committed setup state) state.claims made none.1 refl)

    -- where the run stands after the claim
    pub stands_claimed : IsKept new → StandsAt setup (journal ++ claim_made seat (length state.claims) ∷ []) after new (slice_set held seat (Some (length state.claims)))
    stands_claimed kept = record {
      told = record {
        reached = leads_more setup (first_state setup) journal (claim_made seat (length state.claims) ∷ []) state after stands.told.reached (after, may_claim, refl);
        has = has_now;
        all_in =
            ap (λ hs. committed_from setup.monitors [] setup.start (take (length hs) after.claims)) heads_same
            ∙ ap (committed_from setup.monitors [] setup.start) (first_same (length log.committed) (let few = few_committed in let all = stands.all_committed in omega (arith, few, all)))
            ∙ stands.told.all_in ∙ ap (λ (hs : List PlainHead). length hs) (sym heads_same);
        kept = kept;
        holds = held_one_more setup.limits.seats state.claims held stands.told.holds seat next.known made (own_claim setup seat state.clock drawn.element) (others_not setup seat state.clock drawn.element) next.had_none;
      };
      all_committed = many_now ∙ stands.all_committed ∙ ap (λ (hs : List PlainHead). length hs) (sym heads_same);
      none_owed = none_owed_now;
    }
