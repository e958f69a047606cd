-- Of claims that are done and committed one after another, as a legal occurrence sequence, each leaves the marking to which those up to it lead.
use Rattle.std.proofs.Common.{◌≡◌, ℕ, zero, suc, true, List, [], ◌∷◌, ◌++◌, map, take, drop, Some, refl, sym, subst, ◌∙◌, inl}
use Rattle.std.specs.Prelude.{slice_get}
use Rattle.std.specs.List.{AllByRecursion}
use Rattle.std.proofs.lemmas.List.{take-append-drop}
use Rattle.std.proofs.lemmas.Option.{same_Some}
use Rattle.cpn_definitions.proofs.ListItems.{all_parts}
use Rattle.cpn_definitions.specs.Legal.{Legal}
use Rattle.cpn_definitions.specs.Marking.{Marking}
use Rattle.cpn_definitions.specs.Sound.{IsStamped}
use Rattle.cpn_monitor.specs.MeasuredRuns.{MarkedOccurrence}
use Rattle.cpn_runs.specs.Commits.{timed_claim, marked_claim, marked_from}
use Rattle.cpn_runs.specs.HoleRun.{PlainClaim, after_claim, marking_left, is_done}
use Rattle.cpn_runs.specs.MeasuredStates.{measured_run, ShowsItsMarkings}
use Rattle.cpn_runs.specs.State.{PlainSetup, PlainState, PlainEvent, IsState, committed, committed_claims}
use Rattle.cpn_runs.proofs.Cuts.{committed_are_done}
use Rattle.cpn_runs.proofs.Journals.{IsStart, leaves_its_marking, stamped_after, timed_numbered, every_journal_settles}
use Rattle.cpn_runs.proofs.Sequences.{left_parts}
use Rattle.cpn_runs.proofs.States.{IsClaimOf, every_state}

pub led_so_far
    : (setup : PlainSetup) (m : Marking) (clock : ℕ) (claims : List PlainClaim) (last : Marking) (end : ℕ)
    → IsStamped setup.net m
    → AllByRecursion (IsClaimOf setup) claims
    → AllByRecursion (λ claim. is_done claim.status ≡ true) claims
    → marking_left m claims ≡ Some last
    → Legal setup.net m clock (map timed_claim claims) last end
    → (j : ℕ) (o : MarkedOccurrence) → slice_get (marked_from m claims) j ≡ Some o
    → Legal setup.net m clock (map (λ (shown : MarkedOccurrence). shown.occurrence) (take (suc j) (marked_from m claims))) o.after o.occurrence.time
led_so_far setup m clock [] last end stamped each done is legal j o there = cc
led_so_far setup m clock (claim ∷ claims) last end stamped each done is legal zero o there =
    let parts = left_parts m claim claims last is in
    let next = leaves_its_marking setup m claim stamped each.0 done.0 parts.0 in
    let same : marked_claim m claim ≡ o = same_Some (marked_claim m claim) o there in
    subst (λ (shown : MarkedOccurrence). Legal setup.net m clock (timed_claim claim ∷ []) shown.after shown.occurrence.time) same
    (legal.0, legal.1, (after_claim claim m, next, (refl, inl refl)))
led_so_far setup m clock (claim ∷ claims) last end stamped each done is legal (suc j) o there =
    let n = setup.net in
    let parts = left_parts m claim claims last is in
    let next = leaves_its_marking setup m claim stamped each.0 done.0 parts.0 in
    let same : legal.2.0 ≡ after_claim claim m = same_Some legal.2.0 (after_claim claim m) (sym legal.2.1 ∙ next) in
    let rest = subst (λ (mid : Marking). Legal n mid claim.time (map timed_claim claims) last end) same legal.2.2 in
    (legal.0, legal.1, (after_claim claim m, next, led_so_far setup (after_claim claim m) claim.time claims last end (stamped_after setup claim m each.0 stamped) each.1 done.1 parts.1 rest j o there))

-- So monitors are shown the markings of every journal, for any number of seats.
pub every_journal_shows : (setup : PlainSetup) (journal : List PlainEvent) (state : PlainState) → IsStart setup → IsState setup journal state → ShowsItsMarkings setup.net (measured_run setup state)
every_journal_shows setup journal state start reached =
    let s = every_journal_settles setup journal state start reached in
    let r = every_state setup journal state reached in
    let k = committed setup state in
    let whole : take k state.claims ++ drop k state.claims ≡ state.claims = take-append-drop k state.claims in
    let each = all_parts (IsClaimOf setup) (take k state.claims) (drop k state.claims) (subst (AllByRecursion (IsClaimOf setup)) (sym whole) r.claims_are) in
    let legal = subst (λ os. Legal setup.net setup.start setup.clock os s.marking state.clock) (timed_numbered 0 (take k state.claims)) s.legal in
    led_so_far setup setup.start setup.clock (committed_claims setup state) s.marking state.clock start.stamped each.0 (committed_are_done setup.monitors [] setup.start state.claims) s.settled_is legal
