-- A claim is completed, what can be committed is committed, and the cut that is owed is made: where the run stands then.
use Rattle.std.proofs.Common.{◌≡◌, ℕ, zero, suc, ◌+◌, ◌<◌, ◌≤◌, ◌==◌, Bool, true, false, List, [], ◌∷◌, ◌++◌, length, take, Option, Some, None, refl, sym, ap, ◌∙◌, subst, arith, slice_get, slice_set, eqb-true, count_by, length-append, append_assoc}
use Rattle.std.specs.Option.{option_map}
use Rattle.std.proofs.lemmas.List.{length-map}
use Rattle.std.proofs.lemmas.Bool.{eqb-false, and_parts}
use Rattle.std.proofs.Math.Seq.{take-append_seam}
use Rattle.cpn_definitions.specs.Occurrence.{are_covered, threshold, outputs_of}
use Rattle.cpn_definitions.proofs.ListItems.{set_there, set_elsewhere, set_long}
use Rattle.cpn_runs.specs.HoleRun.{PlainClaim, Status, is_open, is_done, marking_left}
use Rattle.cpn_runs.specs.Commits.{committed_from}
use Rattle.cpn_runs.specs.State.{PlainSetup, PlainState, PlainEvent, claim_completed, cut_made, PlainCut, is_held_by, status_after, committed, IsDue, MayComplete, MayCut, first_state, IsState}
use Rattle.cpn_runs.proofs.Cuts.{AreDone, open_is_not_done}
use Rattle.cpn_runs.proofs.Sequences.{left_parts}
use Rattle.cpn_runs.proofs.GivenBackClaims.{left_after, first_of_first}
use Rattle.cpn_runs.proofs.States.{LeavesCommitted, cut_leaves_committed, leads_more, every_state, closed_status}
use Rattle.cpn_book.specs.Held.{held_from, held_below, AreHeld}
use Rattle.cpn_log.specs.Kept.{IsKept}
use Rattle.cpn_log.proofs.LeftMarkings.{leaves}
use Rattle.cpn_log.specs.Logs.{PlainLog, PlainHead, head_of, with_status, with_committed}
use Rattle.cpn_book.specs.StandingRuns.{IsTold, NoneStops, StandsAt}
use Rattle.cpn_book.proofs.HeldClaims.{held_changed, held_closed, held_ahead}
use Rattle.cpn_book.proofs.LoggedClaims.{has_changed, has_committed, has_first}
use Rattle.cpn_book.specs.Logged.{HasClaims}
use Rattle.cpn_book.proofs.CountedClaims.{as_many}
use Rattle.cpn_book.proofs.CommittedClaims.{committed_next}
use Rattle.cpn_book.proofs.MeasuredStandings.{same_ahead}

-- an open claim stands behind those that are done
pub behind_done : (done rest : List PlainClaim) (i : ℕ) (claim : PlainClaim) → AreDone done → slice_get (done ++ rest) i ≡ Some claim → is_open claim.status ≡ true → length done ≤ i
behind_done [] rest i claim done at is = omega arith
behind_done (c ∷ front) rest zero claim done at is =
    let same : c ≡ claim = cc in
    let no : true ≡ false = sym done.0 ∙ ap (λ (k : PlainClaim). is_done k.status) same ∙ open_is_not_done claim.status is in
    absurd cc
behind_done (c ∷ front) rest (suc i) claim done at is = let deeper = behind_done front rest i claim done.1 at is in omega (arith, deeper)

pub open_is_behind : (setup : PlainSetup) (state : PlainState) (log : PlainLog) (has : HasClaims setup.start state.claims log) (number : ℕ) (claim : PlainClaim) → slice_get state.claims number ≡ Some claim → is_open claim.status ≡ true → length log.committed ≤ number
open_is_behind setup state log has number claim stands opened =
    let at : slice_get (has.committed ++ log.claims) number ≡ Some claim = ap (λ cs. slice_get cs number) (sym has.claims_are) ∙ stands in
    let le = behind_done has.committed log.claims number claim has.done at opened in
    let many : length has.committed ≡ length log.committed = sym (length-map has.committed head_of) ∙ ap length has.heads in
    omega (arith, le, many)

-- ---- what seats hold

module _ (seats : ℕ) (claims : List PlainClaim) (held : List (Option ℕ)) (are : AreHeld seats claims held) (seat : ℕ) (known : seat < seats) (number : ℕ) (old new : PlainClaim) (stood : slice_get claims number ≡ Some old) (own : is_held_by seat old ≡ true) (closed : is_open new.status ≡ false) (one : count_by (is_held_by seat) claims ≤ 1) where
  not_held : (s : ℕ) → is_held_by s new ≡ false
  not_held s = rw closed refl

  of_another : (s : ℕ) → (seat ≡ s → ⊥) → is_held_by s old ≡ false
  of_another s other = split (is_held_by s old) refl
    where
      split : (b : Bool) → is_held_by s old ≡ b → is_held_by s old ≡ false
      split true is =
          let mine = eqb-true old.seat seat (and_parts (is_open old.status) (old.seat == seat) own).1 in
          let theirs = eqb-true old.seat s (and_parts (is_open old.status) (old.seat == s) is).1 in
          absurd (other (sym mine ∙ theirs))
      split false is = is

  at : (s : ℕ) → s < seats → (b : Bool) → (seat == s) ≡ b → slice_get (slice_set held seat None) s ≡ Some (held_from 0 s (slice_set claims number new))
  at s lt true is =
      let same : seat ≡ s = eqb-true seat s is in
      subst (λ t. slice_get (slice_set held seat None) t ≡ Some (held_from 0 t (slice_set claims number new))) same
      (set_there held seat None (omega (arith, known, are.each)) ∙ ap Some (sym (held_closed 0 seat number claims old new stood own (not_held seat) one)))
  at s lt false is =
      let other : seat ≡ s → ⊥ = eqb-false seat s is in
      set_elsewhere held seat s None other ∙ are.numbers s lt ∙ ap Some (sym (held_changed 0 s number claims old new stood (of_another s other) (not_held s)))

  pub held_one_less : AreHeld seats (slice_set claims number new) (slice_set held seat None)
  held_one_less = record { each = set_long held seat None ∙ are.each; numbers = λ s lt. at s lt (seat == s) refl }

-- ---- a claim is completed

-- What a completion needs: the seat is one of the run's and holds the claim of the number, and the status is what the outputs of its
-- element are.
pub record IsItsCompletion (setup : PlainSetup) (state : PlainState) (seat number : ℕ) (claim : PlainClaim) (status : Status) : Type 0 where
  pub known : seat < setup.limits.seats
  pub stands : slice_get state.claims number ≡ Some claim
  pub held : is_held_by seat claim ≡ true
  pub status_is : status_after (outputs_of setup.net claim.element claim.time) ≡ Some status

module _ (setup : PlainSetup) (journal : List PlainEvent) (state : PlainState) (log new : PlainLog) (held : List (Option ℕ)) (stands : StandsAt setup journal state log held) (seat number : ℕ) (claim : PlainClaim) (status : Status) (done : IsItsCompletion setup state seat number claim status) where
  abbrev pub completed_claim : PlainClaim
  completed_claim = record claim { status = status }

  abbrev pub completed_state : PlainState
  completed_state = record state { claims = slice_set state.claims number completed_claim }

  pub may_complete : MayComplete setup state seat number completed_state
  may_complete = record { none_owed = stands.none_owed; held_claim = claim; claim_is = done.stands; held = done.held; status = status; status_is = done.status_is; new_is = refl }

  -- it stands behind the committed claims
  pub is_behind : length log.committed ≤ number
  is_behind = open_is_behind setup state log stands.told.has number claim done.stands (and_parts (is_open claim.status) (claim.seat == seat) done.held).0

  pub told_completed : (place : ℕ) → number ≡ length log.committed + place → new.claims ≡ with_status status place log.claims → new.committed ≡ log.committed → new.settled ≡ log.settled → IsKept new
      → IsTold setup (journal ++ claim_completed seat number ∷ []) completed_state new (slice_set held seat None)
  told_completed place where_is is heads_same settled_same kept = record {
    reached = leads_more setup (first_state setup) journal (claim_completed seat number ∷ []) state completed_state stands.told.reached (completed_state, may_complete, refl);
    has = has_changed setup.start state.claims log new stands.told.has heads_same settled_same status number place claim where_is done.stands is;
    all_in =
        ap (λ hs. committed_from setup.monitors [] setup.start (take (length hs) completed_state.claims)) heads_same
        ∙ ap (committed_from setup.monitors [] setup.start) (same_ahead state.claims completed_claim number (length log.committed) is_behind)
        ∙ stands.told.all_in ∙ ap (λ (hs : List PlainHead). length hs) (sym heads_same);
    kept = kept;
    holds = held_one_less setup.limits.seats state.claims held stands.told.holds seat done.known number claim completed_claim done.stands done.held (closed_status (outputs_of setup.net claim.element claim.time) status done.status_is) ((every_state setup journal state stands.told.reached).one_each seat);
  }

-- ---- the next claim is committed

pub told_committed : (setup : PlainSetup) (journal : List PlainEvent) (state : PlainState) (log : PlainLog) (held : List (Option ℕ)) (claim : PlainClaim) (rest : List PlainClaim)
    → IsTold setup journal state log held
    → NoneStops setup state log
    → log.claims ≡ claim ∷ rest
    → is_done claim.status ≡ true
    → IsKept (with_committed log claim rest)
    → IsTold setup journal state (with_committed log claim rest) held
told_committed setup journal state log held claim rest told goes_on is done kept = record { reached = told.reached; has = has; all_in = all; kept = kept; holds = told.holds }
  where
    covers : are_covered (threshold claim.time) log.settled claim.needs ≡ true
    covers = (left_parts log.settled claim rest log.unclaimed (ap (marking_left log.settled) (sym is) ∙ leaves log told.kept)).0

    has : HasClaims setup.start state.claims (with_committed log claim rest)
    has = has_committed setup.start state.claims log claim rest told.has is done covers

    long : length (log.committed ++ head_of claim ∷ []) ≡ length log.committed + 1
    long = length-append log.committed (head_of claim ∷ [])

    -- the committed ones are those of before, and the claim
    front : take (length (log.committed ++ head_of claim ∷ [])) state.claims ≡ told.has.committed ++ claim ∷ []
    front =
        let many = as_many setup.start state.claims log told.has in
        let longer = length-append told.has.committed (claim ∷ []) in
        ap (take (length (log.committed ++ head_of claim ∷ []))) (told.has.claims_are ∙ ap (λ cs. told.has.committed ++ cs) is ∙ sym (append_assoc told.has.committed (claim ∷ []) rest))
        ∙ ap (λ k. take k ((told.has.committed ++ claim ∷ []) ++ rest)) (let e : length (log.committed ++ head_of claim ∷ []) ≡ length (told.has.committed ++ claim ∷ []) = (let l = long in omega (arith, l, many, longer)) in e)
        ∙ take-append_seam (told.has.committed ++ claim ∷ []) rest

    all : committed_from setup.monitors [] setup.start (take (length (log.committed ++ head_of claim ∷ [])) state.claims) ≡ length (log.committed ++ head_of claim ∷ [])
    all = ap (committed_from setup.monitors [] setup.start) front ∙ committed_next setup state log told.has told.all_in claim goes_on done ∙ sym long

-- ---- claims are cut off

module _ (setup : PlainSetup) (journal : List PlainEvent) (state : PlainState) (log new : PlainLog) (held : List (Option ℕ)) (told : IsTold setup journal state log held) (cut : PlainCut)
    (all : committed setup state ≡ length log.committed) (due : IsDue setup state cut) where
  may_cut : MayCut setup state cut.number (left_after state cut)
  may_cut = record { cut = cut; due = due; number_is = refl; new_is = refl }

  cut_reached : IsState setup (journal ++ cut_made cut.number ∷ []) (left_after state cut)
  cut_reached = leads_more setup (first_state setup) journal (cut_made cut.number ∷ []) state (left_after state cut) told.reached (left_after state cut, may_cut, refl)

  pub left : LeavesCommitted setup state cut
  left = cut_leaves_committed setup journal state cut (every_state setup journal state told.reached) due

  -- the committed claims are ahead of the cut
  pub cut_behind : length log.committed ≤ cut.number
  cut_behind = let least = left.least in omega (arith, least, all)

  -- just the claims ahead of it stand
  pub stands_cut
      : (place : ℕ)
      → cut.number ≡ length log.committed + place
      → new.claims ≡ take place log.claims
      → new.committed ≡ log.committed
      → new.settled ≡ log.settled
      → IsKept new
      → (still : List (Option ℕ))
      → length still ≡ length held
      → ((s : ℕ) → slice_get still s ≡ option_map (held_below cut.number) (slice_get held s))
      → StandsAt setup (journal ++ cut_made cut.number ∷ []) (left_after state cut) new still
  stands_cut place where_is is heads_same settled_same kept still long freed = record {
    told = record {
      reached = cut_reached;
      has = has_first setup.start state.claims log new told.has heads_same settled_same cut.number place where_is is;
      all_in =
          ap (λ hs. committed_from setup.monitors [] setup.start (take (length hs) (take cut.number state.claims))) heads_same
          ∙ ap (committed_from setup.monitors [] setup.start) (first_of_first (length log.committed) cut.number state.claims cut_behind)
          ∙ told.all_in ∙ ap (λ (hs : List PlainHead). length hs) (sym heads_same);
      kept = kept;
      holds = held_ahead setup.limits.seats state.claims held still cut.number told.holds long freed;
    };
    all_committed = left.as_many ∙ all ∙ ap (λ (hs : List PlainHead). length hs) (sym heads_same);
    none_owed = left.none_owed;
  }
