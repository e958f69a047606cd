-- What a claim that is given back leaves: the claims ahead of it, of which as many are committed as before.
use Rattle.std.proofs.Common.{◌≡◌, ℕ, zero, suc, ◌≤◌, ◌⊎◌, inl, inr, Bool, true, false, List, [], ◌∷◌, ◌++◌, take, Some, None, refl, sym, ap, ◌∙◌, arith, slice_get}
use Rattle.std.specs.Option.{is_some}
use Rattle.cpn_definitions.specs.Marking.{Marking}
use Rattle.cpn_monitor.specs.MeasuredRuns.{MarkedOccurrence}
use Rattle.cpn_monitor.specs.Monitors.{PlainMonitor}
use Rattle.cpn_runs.specs.Commits.{marked_claim, marked_from, stop_at_last, committed_from}
use Rattle.cpn_runs.specs.HoleRun.{PlainClaim, is_open, is_done, after_claim}
use Rattle.cpn_runs.specs.State.{PlainSetup, PlainState, PlainCut, cut_at, committed, committed_claims, stop_in, owed_cut, GivesBack}
use Rattle.cpn_runs.specs.GivingBack.{OnlyGivenBack}
use Rattle.cpn_runs.proofs.Cuts.{not_done, done_last, done_goes_on, open_is_not_done, owes_none, owes_none_so}

-- ---- the first items of a list

pub first_of_first : {A : Type 0} (k i : ℕ) (xs : List A) → k ≤ i → take k (take i xs) ≡ take k xs
first_of_first zero i xs within = refl
first_of_first (suc k) zero xs within = absurd (omega arith)
first_of_first (suc k) (suc i) [] within = refl
first_of_first (suc k) (suc i) (x ∷ xs) within = ap (λ ys. x ∷ ys) (first_of_first k i xs (omega arith))

-- at an index the first items have what all have, or nothing
pub among_first : {A : Type 0} (i k : ℕ) (xs : List A) → (slice_get (take i xs) k ≡ slice_get xs k) ⊎ (slice_get (take i xs) k ≡ None)
among_first zero zero xs = inr refl
among_first zero (suc k) xs = inr refl
among_first (suc i) k [] = inl refl
among_first (suc i) zero (x ∷ xs) = inl refl
among_first (suc i) (suc k) (x ∷ xs) = among_first i k xs

-- ---- the claims that are committed

-- What an open claim tells of those ahead of it: as many are committed as of all, and it is none of these.
pub record AreAhead (monitors : List PlainMonitor) (before : List MarkedOccurrence) (m : Marking) (i : ℕ) (claims : List PlainClaim) : Type 0 where
  pub as_many : committed_from monitors before m (take i claims) ≡ committed_from monitors before m claims
  pub ahead : committed_from monitors before m claims ≤ i

pub are_ahead
    : (monitors : List PlainMonitor) (before : List MarkedOccurrence) (m : Marking) (i : ℕ) (claims : List PlainClaim) (claim : PlainClaim)
    → slice_get claims i ≡ Some claim
    → is_open claim.status ≡ true
    → AreAhead monitors before m i claims
are_ahead monitors before m zero [] claim is opened = cc
are_ahead monitors before m (suc i) [] claim is opened = cc
are_ahead monitors before m zero (first ∷ claims) claim is opened =
    let same : claim ≡ first = cc in
    let none = not_done monitors before m first claims (open_is_not_done first.status (ap (λ (c : PlainClaim). is_open c.status) (sym same) ∙ opened)) in
    record { as_many = sym none; ahead = omega (arith, none) }
are_ahead monitors before m (suc i) (first ∷ claims) claim is opened = split (are_ahead monitors (before ++ marked_claim m first ∷ []) (after_claim first m) i claims claim is opened) (is_done first.status) refl
  where
    those : List MarkedOccurrence
    those = before ++ marked_claim m first ∷ []

    Ahead : Type 0
    Ahead = AreAhead monitors before m (suc i) (first ∷ claims)

    Later : Type 0
    Later = AreAhead monitors those (after_claim first m) i claims

    by_stop : Later → is_done first.status ≡ true → (stop : Bool) → is_some (stop_at_last monitors those) ≡ stop → Ahead
    by_stop later h true stops =
        let one = done_last monitors before m first claims h stops in
        record { as_many = done_last monitors before m first (take i claims) h stops ∙ sym one; ahead = omega (arith, one) }
    by_stop later h false goes_on =
        let more = done_goes_on monitors before m first claims h goes_on in
        let ahead = later.ahead in
        record { as_many = done_goes_on monitors before m first (take i claims) h goes_on ∙ ap (λ (k : ℕ). suc k) later.as_many ∙ sym more; ahead = omega (arith, more, ahead) }

    split : Later → (done : Bool) → is_done first.status ≡ done → Ahead
    split later true h = by_stop later h (is_some (stop_at_last monitors those)) refl
    split later false h =
        let none = not_done monitors before m first claims h in
        record { as_many = not_done monitors before m first (take i claims) h ∙ sym none; ahead = omega (arith, none) }

-- ---- the state

-- the state that a cut leaves
abbrev pub left_after : PlainState → PlainCut → PlainState
left_after old cut = record old { claims = take cut.number old.claims; cut = Some cut }

module _ (setup : PlainSetup) (old : PlainState) (cut : PlainCut) (back : GivesBack setup old cut) where
  those_ahead : AreAhead setup.monitors [] setup.start cut.number old.claims
  those_ahead = are_ahead setup.monitors [] setup.start cut.number old.claims back.claim back.claim_is back.opened

  -- as many claims are committed
  pub still_committed : committed setup (left_after old cut) ≡ committed setup old
  still_committed = those_ahead.as_many

  -- they are ahead of the one that is given back
  pub committed_stay : committed setup old ≤ cut.number
  committed_stay = those_ahead.ahead

  -- and are the same
  pub still_the_same : committed_claims setup (left_after old cut) ≡ committed_claims setup old
  still_the_same = ap (λ k. take k (take cut.number old.claims)) still_committed ∙ first_of_first (committed setup old) cut.number old.claims committed_stay

  -- the same monitor stops the run after the last of them, or none
  pub still_stops : stop_in setup (left_after old cut) ≡ stop_in setup old
  still_stops = ap (λ claims. stop_at_last setup.monitors (marked_from setup.start claims)) still_the_same

  -- no cut is owed
  pub still_owes_none : OnlyGivenBack old.cut → owed_cut setup (left_after old cut) ≡ None
  still_owes_none only =
      let none = owes_none setup old only back.none_owed in
      owes_none_so setup (left_after old cut) (still_stops ∙ none.0)
      (ap (λ k. cut_at k (slice_get (take cut.number old.claims) k)) still_committed ∙ by (among_first cut.number (committed setup old) old.claims) none.1)
    where
      by : (slice_get (take cut.number old.claims) (committed setup old) ≡ slice_get old.claims (committed setup old)) ⊎ (slice_get (take cut.number old.claims) (committed setup old) ≡ None)
          → cut_at (committed setup old) (slice_get old.claims (committed setup old)) ≡ None
          → cut_at (committed setup old) (slice_get (take cut.number old.claims) (committed setup old)) ≡ None
      by (inl same) none = ap (cut_at (committed setup old)) same ∙ none
      by (inr past) none = ap (cut_at (committed setup old)) past
