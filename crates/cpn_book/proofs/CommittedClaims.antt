-- How many claims are committed: one more where the next is done and no monitor has stopped the run, and no more where one has, where the next
-- is not done, or where one is open.
use Rattle.std.proofs.Common.{◌≡◌, ℕ, suc, ◌+◌, ◌<◌, Bool, true, false, List, [], ◌∷◌, ◌++◌, length, take, Option, Some, None, refl, sym, ap, ◌∙◌, subst, arith, append_assoc}
use Rattle.std.specs.Option.{is_some}
use Rattle.cpn_definitions.specs.Marking.{Marking}
use Rattle.cpn_log.specs.Logs.{PlainLog, begin_done}
use Rattle.cpn_monitor.specs.MeasuredRuns.{MarkedOccurrence}
use Rattle.cpn_monitor.specs.Monitors.{PlainMonitor}
use Rattle.cpn_runs.specs.Commits.{marked_claim, marked_from, stop_at_last, committed_from}
use Rattle.cpn_runs.specs.HoleRun.{PlainClaim, is_done, after_claim}
use Rattle.cpn_runs.specs.State.{PlainSetup, PlainState, committed}
use Rattle.cpn_runs.proofs.Cuts.{not_done, done_last, done_goes_on}
use Rattle.cpn_book.specs.Logged.{HasClaims}
use Rattle.cpn_book.proofs.CountedClaims.{as_many, first_are}

no_stop : (stop : Option ℕ) → is_some stop ≡ true → stop ≡ None → ⊥
no_stop None is none = cc
no_stop (Some monitor) is none = cc

-- of claims that are all committed the first is done; behind it nothing is committed where a monitor stops the run after it, and else the others are
module _ (monitors : List PlainMonitor) (before : List MarkedOccurrence) (m : Marking) (claim : PlainClaim) (front : List PlainClaim) (all : committed_from monitors before m (claim ∷ front) ≡ suc (length front)) where
  abbrev those : List MarkedOccurrence
  those = before ++ marked_claim m claim ∷ []

  first_done : is_done claim.status ≡ true
  first_done = split (is_done claim.status) refl
    where
      split : (b : Bool) → is_done claim.status ≡ b → b ≡ true
      split true h = refl
      split false h = let none = not_done monitors before m claim front h in absurd (omega (arith, none, all))

  first_last : is_some (stop_at_last monitors those) ≡ true → front ≡ []
  first_last stops = by front (let one = done_last monitors before m claim front first_done stops in omega (arith, one, all))
    where
      by : (cs : List PlainClaim) → length cs ≡ 0 → cs ≡ []
      by [] none = refl
      by (c ∷ cs) none = absurd (omega (arith, none))

  others : is_some (stop_at_last monitors those) ≡ false → committed_from monitors those (after_claim claim m) front ≡ length front
  others goes_on = let more = done_goes_on monitors before m claim front first_done goes_on in omega (arith, more, all)

-- the next claim, which is done, where no monitor stops the run after the last
pub committed_more
    : (monitors : List PlainMonitor) (before : List MarkedOccurrence) (m : Marking) (front : List PlainClaim) (claim : PlainClaim)
    → committed_from monitors before m front ≡ length front
    → stop_at_last monitors (before ++ marked_from m front) ≡ None
    → is_done claim.status ≡ true
    → committed_from monitors before m (front ++ claim ∷ []) ≡ length front + 1
committed_more monitors before m [] claim all goes_on done = by (is_some (stop_at_last monitors (before ++ marked_claim m claim ∷ []))) refl
  where
    by : (stop : Bool) → is_some (stop_at_last monitors (before ++ marked_claim m claim ∷ [])) ≡ stop → committed_from monitors before m (claim ∷ []) ≡ 0 + 1
    by true is = let one = done_last monitors before m claim [] done is in omega (arith, one)
    by false is = let one = done_goes_on monitors before m claim [] done is in omega (arith, one)
committed_more monitors before m (c ∷ front) claim all goes_on done =
    by (committed_more monitors (before ++ marked_claim m c ∷ []) (after_claim c m) front claim) (is_some (stop_at_last monitors (before ++ marked_claim m c ∷ []))) refl
  where
    passed : List MarkedOccurrence
    passed = before ++ marked_claim m c ∷ []

    Later : Type 0
    Later =
        committed_from monitors passed (after_claim c m) front ≡ length front
        → stop_at_last monitors (passed ++ marked_from (after_claim c m) front) ≡ None
        → is_done claim.status ≡ true
        → committed_from monitors passed (after_claim c m) (front ++ claim ∷ []) ≡ length front + 1

    by : Later → (stop : Bool) → is_some (stop_at_last monitors passed) ≡ stop → committed_from monitors before m (c ∷ front ++ claim ∷ []) ≡ suc (length front) + 1
    by later true is =
        let none : front ≡ [] = first_last monitors before m c front all is in
        absurd (no_stop (stop_at_last monitors passed) is (subst (λ cs. stop_at_last monitors (before ++ marked_claim m c ∷ marked_from (after_claim c m) cs) ≡ None) none goes_on))
    by later false is =
        let more = done_goes_on monitors before m c (front ++ claim ∷ []) (first_done monitors before m c front all) is in
        let same = append_assoc before (marked_claim m c ∷ []) (marked_from (after_claim c m) front) in
        let rest = later (others monitors before m c front all is) (ap (stop_at_last monitors) same ∙ goes_on) done in
        omega (arith, more, rest)

-- no more, where the next is not done
pub committed_waits
    : (monitors : List PlainMonitor) (before : List MarkedOccurrence) (m : Marking) (front rest : List PlainClaim)
    → committed_from monitors before m front ≡ length front
    → begin_done rest ≡ false
    → committed_from monitors before m (front ++ rest) ≡ length front
committed_waits monitors before m [] [] all waits = refl
committed_waits monitors before m [] (claim ∷ rest) all waits = not_done monitors before m claim rest waits
committed_waits monitors before m (c ∷ front) rest all waits =
    by (committed_waits monitors (before ++ marked_claim m c ∷ []) (after_claim c m) front rest) (is_some (stop_at_last monitors (before ++ marked_claim m c ∷ []))) refl
  where
    passed : List MarkedOccurrence
    passed = before ++ marked_claim m c ∷ []

    Later : Type 0
    Later = committed_from monitors passed (after_claim c m) front ≡ length front → begin_done rest ≡ false → committed_from monitors passed (after_claim c m) (front ++ rest) ≡ length front

    by : Later → (stop : Bool) → is_some (stop_at_last monitors passed) ≡ stop → committed_from monitors before m (c ∷ front ++ rest) ≡ suc (length front)
    by later true is =
        let one = done_last monitors before m c (front ++ rest) (first_done monitors before m c front all) is in
        let none : length front ≡ 0 = ap (λ (cs : List PlainClaim). length cs) (first_last monitors before m c front all is) in
        omega (arith, one, none)
    by later false is =
        let more = done_goes_on monitors before m c (front ++ rest) (first_done monitors before m c front all) is in
        let others_are = later (others monitors before m c front all is) waits in
        omega (arith, more, others_are)

-- no more, where a monitor stops the run after the last of some
pub committed_stops
    : (monitors : List PlainMonitor) (before : List MarkedOccurrence) (m : Marking) (front rest : List PlainClaim)
    → committed_from monitors before m front ≡ length front
    → 0 < length front
    → is_some (stop_at_last monitors (before ++ marked_from m front)) ≡ true
    → committed_from monitors before m (front ++ rest) ≡ length front
committed_stops monitors before m [] rest all some stops = absurd (omega (arith, some))
committed_stops monitors before m (c ∷ front) rest all some stops =
    by (committed_stops monitors (before ++ marked_claim m c ∷ []) (after_claim c m) front rest) (is_some (stop_at_last monitors (before ++ marked_claim m c ∷ []))) refl
  where
    passed : List MarkedOccurrence
    passed = before ++ marked_claim m c ∷ []

    Later : Type 0
    Later =
        committed_from monitors passed (after_claim c m) front ≡ length front
        → 0 < length front
        → is_some (stop_at_last monitors (passed ++ marked_from (after_claim c m) front)) ≡ true
        → committed_from monitors passed (after_claim c m) (front ++ rest) ≡ length front

    not_last : is_some (stop_at_last monitors passed) ≡ false → 0 < length front
    not_last is = by_front front refl
      where
        by_front : (cs : List PlainClaim) → front ≡ cs → 0 < length cs
        by_front [] none =
            let last : is_some (stop_at_last monitors passed) ≡ true = subst (λ cs. is_some (stop_at_last monitors (before ++ marked_claim m c ∷ marked_from (after_claim c m) cs)) ≡ true) none stops in
            let clash : true ≡ false = sym last ∙ is in
            cc
        by_front (x ∷ cs) is_more = omega arith

    by : Later → (stop : Bool) → is_some (stop_at_last monitors passed) ≡ stop → committed_from monitors before m (c ∷ front ++ rest) ≡ suc (length front)
    by later true is =
        let one = done_last monitors before m c (front ++ rest) (first_done monitors before m c front all) is in
        let none : length front ≡ 0 = ap (λ (cs : List PlainClaim). length cs) (first_last monitors before m c front all is) in
        omega (arith, one, none)
    by later false is =
        let more = done_goes_on monitors before m c (front ++ rest) (first_done monitors before m c front all) is in
        let same = append_assoc before (marked_claim m c ∷ []) (marked_from (after_claim c m) front) in
        let some_left : 0 < length front = subst (λ (k : ℕ). 0 < k) refl (not_last is) in
        let others_are = later (others monitors before m c front all is) some_left (ap (λ os. is_some (stop_at_last monitors os)) same ∙ stops) in
        omega (arith, more, others_are)

-- and an open claim more changes nothing
pub committed_still
    : (monitors : List PlainMonitor) (before : List MarkedOccurrence) (m : Marking) (claims : List PlainClaim) (claim : PlainClaim)
    → is_done claim.status ≡ false
    → committed_from monitors before m (claims ++ claim ∷ []) ≡ committed_from monitors before m claims
committed_still monitors before m [] claim open_still = not_done monitors before m claim [] open_still
committed_still monitors before m (c ∷ claims) claim open_still =
    by (is_done c.status) refl (committed_still monitors (before ++ marked_claim m c ∷ []) (after_claim c m) claims claim open_still)
  where
    passed : List MarkedOccurrence
    passed = before ++ marked_claim m c ∷ []

    Later : Type 0
    Later = committed_from monitors passed (after_claim c m) (claims ++ claim ∷ []) ≡ committed_from monitors passed (after_claim c m) claims

    by_stop : is_done c.status ≡ true → Later → (stop : Bool) → is_some (stop_at_last monitors passed) ≡ stop → committed_from monitors before m (c ∷ claims ++ claim ∷ []) ≡ committed_from monitors before m (c ∷ claims)
    by_stop done later true is = done_last monitors before m c (claims ++ claim ∷ []) done is ∙ sym (done_last monitors before m c claims done is)
    by_stop done later false is = done_goes_on monitors before m c (claims ++ claim ∷ []) done is ∙ ap (λ (k : ℕ). suc k) later ∙ sym (done_goes_on monitors before m c claims done is)

    by : (b : Bool) → is_done c.status ≡ b → Later → committed_from monitors before m (c ∷ claims ++ claim ∷ []) ≡ committed_from monitors before m (c ∷ claims)
    by true done later = by_stop done later (is_some (stop_at_last monitors passed)) refl
    by false waits later = not_done monitors before m c (claims ++ claim ∷ []) waits ∙ sym (not_done monitors before m c claims waits)

-- ---- what a log has committed

module _ (setup : PlainSetup) (state : PlainState) (log : PlainLog) (has : HasClaims setup.start state.claims log)
    (all_in : committed_from setup.monitors [] setup.start (take (length log.committed) state.claims) ≡ length log.committed) where
  pub front_in : committed_from setup.monitors [] setup.start has.committed ≡ length has.committed
  front_in = ap (committed_from setup.monitors [] setup.start) (sym (first_are setup.start state.claims log has)) ∙ all_in ∙ sym (as_many setup.start state.claims log has)

  -- where the next claim is not done, those are all that are committed
  pub committed_here : begin_done log.claims ≡ false → committed setup state ≡ length log.committed
  committed_here waits =
      ap (committed_from setup.monitors [] setup.start) has.claims_are ∙ committed_waits setup.monitors [] setup.start has.committed log.claims front_in waits ∙ as_many setup.start state.claims log has

  -- and so they are where a monitor stops the run
  pub committed_at_stop : (monitor : ℕ) → stop_at_last setup.monitors (marked_from setup.start (take (length log.committed) state.claims)) ≡ Some monitor → committed setup state ≡ length log.committed
  committed_at_stop monitor stop =
      let stops : is_some (stop_at_last setup.monitors (marked_from setup.start has.committed)) ≡ true =
      ap (λ cs. is_some (stop_at_last setup.monitors (marked_from setup.start cs))) (sym (first_are setup.start state.claims log has)) ∙ ap is_some stop in
      ap (committed_from setup.monitors [] setup.start) has.claims_are ∙ committed_stops setup.monitors [] setup.start has.committed log.claims front_in (some has.committed refl stops) stops ∙ as_many setup.start state.claims log has
    where
      some : (front : List PlainClaim) → has.committed ≡ front → is_some (stop_at_last setup.monitors (marked_from setup.start has.committed)) ≡ true → 0 < length has.committed
      some [] is stops =
          let none : false ≡ true = subst (λ cs. is_some (stop_at_last setup.monitors (marked_from setup.start cs)) ≡ true) is stops in
          cc
      some (c ∷ front) is stops = let long = ap (λ (cs : List PlainClaim). length cs) is in omega (arith, long)

  -- the next claim joins them where it is done and no monitor stops the run
  pub committed_next : (claim : PlainClaim) → stop_at_last setup.monitors (marked_from setup.start (take (length log.committed) state.claims)) ≡ None → is_done claim.status ≡ true
      → committed_from setup.monitors [] setup.start (has.committed ++ claim ∷ []) ≡ length log.committed + 1
  committed_next claim goes_on done =
      committed_more setup.monitors [] setup.start has.committed claim front_in (ap (λ cs. stop_at_last setup.monitors (marked_from setup.start cs)) (sym (first_are setup.start state.claims log has)) ∙ goes_on) done
      ∙ ap (λ (k : ℕ). k + 1) (as_many setup.start state.claims log has)
