-- A claim is made, completed and committed, one event after the other, where no seat holds one: where the run stands then.
use Rattle.std.proofs.Common.{◌≡◌, ℕ, ◌+◌, ◌<◌, true, List, [], ◌∷◌, ◌++◌, length, take, Option, Some, None, refl, sym, ap, ◌∙◌, subst, arith, append-nil, length-append, slice_get, slice_set}
use Rattle.std.proofs.lemmas.List.{take_all}
use Rattle.cpn_definitions.specs.Enabled.{PlainEntry}
use Rattle.cpn_definitions.specs.Occurrence.{Made, are_covered, threshold, outputs_of}
use Rattle.cpn_definitions.proofs.ListItems.{last_is_at}
use Rattle.cpn_definitions.proofs.RisingLists.{each_appended}
use Rattle.cpn_runs.specs.HoleRun.{PlainClaim, done_with, is_done}
use Rattle.cpn_runs.specs.State.{PlainSetup, PlainState, PlainEvent, claim_made, claim_completed, new_claim, status_after, committed, MayComplete, first_state}
use Rattle.cpn_runs.specs.Commits.{marked_from, stop_at_last, committed_from}
use Rattle.cpn_runs.proofs.Cuts.{AreDone, owes_none, uncut_so}
use Rattle.cpn_runs.proofs.Journals.{no_claim_left}
use Rattle.cpn_runs.proofs.States.{leads_more}
use Rattle.cpn_log.specs.Kept.{IsKept}
use Rattle.cpn_log.specs.Logs.{PlainLog, head_of, with_occurred}
use Rattle.cpn_book.specs.Held.{AreHeld}
use Rattle.cpn_book.specs.Logged.{HasClaims}
use Rattle.cpn_book.specs.StandingRuns.{IsTold, StandsAt}
use Rattle.cpn_book.proofs.HeldClaims.{done_hold_none}
use Rattle.cpn_book.proofs.LoggedClaims.{changed_behind, has_one_more, has_committed}
use Rattle.cpn_book.proofs.CountedClaims.{as_many}
use Rattle.cpn_book.proofs.CommittedClaims.{committed_more}
use Rattle.cpn_book.proofs.MadeClaims.{IsNextClaim, may_claim, none_owed_now, own_claim}
use Rattle.cpn_book.proofs.MovedClocks.{none_open}

-- ---- no claim stands behind the committed ones

module _ (setup : PlainSetup) (journal : List PlainEvent) (state : PlainState) (log : PlainLog) (held : List (Option ℕ)) (stands : StandsAt setup journal state log held) (free : (s : ℕ) → s < setup.limits.seats → slice_get held s ≡ Some None) where
  every_claim : committed setup state ≡ length state.claims
  every_claim = no_claim_left setup journal state stands.told.reached (none_open setup journal state log held stands free) stands.none_owed

  -- where no seat holds a claim all are committed
  pub all_committed : log.claims ≡ []
  all_committed = none_left log.claims (
      let has = stands.told.has in
      let all = every_claim in
      let many = stands.all_committed in
      let front = as_many setup.start state.claims log has in
      let long = ap (λ (cs : List PlainClaim). length cs) has.claims_are ∙ length-append has.committed log.claims in
      omega (arith, all, many, front, long))
    where
      none_left : (claims : List PlainClaim) → length claims ≡ 0 → claims ≡ []
      none_left [] none = refl
      none_left (claim ∷ claims) none = absurd (omega (arith, none))

-- ---- the claim, its completion and its commit

module _ (setup : PlainSetup) (journal : List PlainEvent) (state : PlainState) (log : PlainLog) (held : List (Option ℕ)) (stands : StandsAt setup journal state log held) (all : log.claims ≡ []) (seat : ℕ) (drawn : PlainEntry) (next : IsNextClaim setup state log seat drawn) (outputs : List Made) (gave : status_after (outputs_of setup.net drawn.element state.clock) ≡ Some (done_with outputs)) where
  abbrev made : PlainClaim
  made = new_claim setup.net seat state.clock drawn.element

  abbrev pub done : PlainClaim
  done = record made { status = done_with outputs }

  -- the claim is made
  abbrev between : PlainState
  between = record state { claims = state.claims ++ made ∷ [] }

  -- it is done
  abbrev pub occurred_state : PlainState
  occurred_state = record state { claims = state.claims ++ done ∷ [] }

  may_complete : MayComplete setup between seat (length state.claims) occurred_state
  may_complete = record {
    none_owed = none_owed_now setup journal state log (record log { claims = log.claims ++ made ∷ [] }) held stands seat drawn next refl refl refl;
    held_claim = made;
    claim_is = last_is_at state.claims (length state.claims) made refl;
    held = own_claim setup seat state.clock drawn.element;
    status = done_with outputs;
    status_is = gave;
    new_is = ap (λ cs. record state { claims = cs }) (sym set);
  }
    where
      set : slice_set (state.claims ++ made ∷ []) (length state.claims) done ≡ state.claims ++ done ∷ []
      set = ap (λ k. slice_set (state.claims ++ made ∷ []) k done) (let e : length state.claims ≡ length state.claims + 0 = omega arith in e) ∙ changed_behind state.claims (made ∷ []) 0 done

  were_done : AreDone state.claims
  were_done =
      let has = stands.told.has in
      subst AreDone (sym (has.claims_are ∙ ap (λ cs. has.committed ++ cs) all ∙ append-nil has.committed)) has.done

  are_done : AreDone occurred_state.claims
  are_done = each_appended (λ claim. is_done claim.status ≡ true) state.claims (done ∷ []) were_done (refl, tt)

  -- no seat holds a claim before it, and none after it
  holds : AreHeld setup.limits.seats occurred_state.claims held
  holds = record {
    each = stands.told.holds.each;
    numbers = λ s lt. stands.told.holds.numbers s lt ∙ ap Some (done_hold_none 0 s state.claims were_done ∙ sym (done_hold_none 0 s occurred_state.claims are_done));
  }

  has_it : are_covered (threshold state.clock) log.settled made.needs ≡ true → HasClaims setup.start occurred_state.claims (with_occurred log done)
  has_it covers =
      let behind = record log { claims = done ∷ [] } in
      let one = has_one_more setup.start state.claims log behind stands.told.has refl refl done (ap (λ cs. cs ++ done ∷ []) (sym all)) in
      let h = has_committed setup.start occurred_state.claims behind done [] one refl refl covers in
      record { committed = h.committed; claims_are = h.claims_are; done = h.done; heads = h.heads; left = h.left }

  -- all claims were committed, and no monitor stopped the run
  whole : take (length log.committed) state.claims ≡ state.claims
  whole = take_all (length log.committed) state.claims (
      let has = stands.told.has in
      let front = as_many setup.start state.claims log has in
      let none : length log.claims ≡ 0 = ap (λ (cs : List PlainClaim). length cs) all in
      let long = ap (λ (cs : List PlainClaim). length cs) has.claims_are ∙ length-append has.committed log.claims in
      omega (arith, front, none, long))

  many_are : length log.committed ≡ length state.claims
  many_are =
      let has = stands.told.has in
      let front = as_many setup.start state.claims log has in
      let none : length log.claims ≡ 0 = ap (λ (cs : List PlainClaim). length cs) all in
      let long = ap (λ (cs : List PlainClaim). length cs) has.claims_are ∙ length-append has.committed log.claims in
      omega (arith, front, none, long)

  goes_on : stop_at_last setup.monitors (marked_from setup.start state.claims) ≡ None
  goes_on =
      ap (λ cs. stop_at_last setup.monitors (marked_from setup.start cs)) (sym (ap (λ k. take k state.claims) stands.all_committed ∙ whole))
      ∙ (owes_none setup state (uncut_so state.cut next.no_cut) stands.none_owed).0

  -- with it all are committed again
  pub all_with_it : committed setup occurred_state ≡ length state.claims + 1
  all_with_it =
      committed_more setup.monitors [] setup.start state.claims done
      (ap (committed_from setup.monitors [] setup.start) (sym whole) ∙ stands.told.all_in ∙ many_are) goes_on refl

  -- how the run is told after all three
  pub told_occurred : are_covered (threshold state.clock) log.settled made.needs ≡ true → IsKept (with_occurred log done)
      → IsTold setup (journal ++ claim_made seat (length state.claims) ∷ claim_completed seat (length state.claims) ∷ []) occurred_state (with_occurred log done) held
  told_occurred covers kept = record {
    reached =
        leads_more setup (first_state setup) journal (claim_made seat (length state.claims) ∷ claim_completed seat (length state.claims) ∷ []) state occurred_state stands.told.reached
        (between, may_claim setup journal state log log held stands seat drawn next, (occurred_state, may_complete, refl));
    has = has_it covers;
    all_in =
        let long = length-append log.committed (head_of done ∷ []) in
        let longer = length-append state.claims (done ∷ []) in
        let many = many_are in
        ap (committed_from setup.monitors [] setup.start) (take_all (length (log.committed ++ head_of done ∷ [])) occurred_state.claims (omega (arith, long, longer, many)))
        ∙ all_with_it ∙ (let e : length state.claims + 1 ≡ length (log.committed ++ head_of done ∷ []) = omega (arith, long, many) in e);
    kept = kept;
    holds = holds;
  }
