-- What the monitors of a run measure where it stands.
use Rattle.std.proofs.Common.{◌≡◌, ℕ, zero, suc, ◌-◌, ◌≤◌, List, [], ◌∷◌, ◌++◌, length, take, Option, Some, None, refl, sym, ap, ◌∙◌, subst, arith, slice_get, slice_set, length-append}
use Rattle.std.specs.List.{AllByRecursion}
use Rattle.std.proofs.Math.Path.{ap₂}
use Rattle.std.proofs.lemmas.Option.{same_Some}
use Rattle.cpn_core.specs.Elements.{element_view}
use Rattle.cpn_core.specs.declared.occurrences.Occurrence.{Occurrence}
use Rattle.cpn_definitions.specs.Marking.{Marking}
use Rattle.cpn_definitions.specs.Occurrence.{PlainElement}
use Rattle.cpn_log.proofs.LeftMarkings.{leaves}
use Rattle.cpn_log.specs.LogViews.{log_view}
use Rattle.cpn_log.specs.Logs.{with_status, changed_to}
use Rattle.cpn_monitor.specs.Fitting.{IsNext}
use Rattle.cpn_monitor.specs.Kept.{PlainMeasuring, AreKept, MayNote, KeepsNext, FindsStop}
use Rattle.cpn_monitor.specs.MeasuredRuns.{MarkedOccurrence, with_occurrence}
use Rattle.cpn_monitor.specs.Stops.{stop_after}
use Rattle.cpn_monitor.specs.Views.{measuring_view, marked_view}
use Rattle.cpn_runs.specs.HoleRun.{PlainClaim, Status, after_claim, marking_left}
use Rattle.cpn_runs.specs.MeasuredStates.{run_of}
use Rattle.cpn_runs.specs.Playable.{IsPlayable}
use Rattle.cpn_runs.specs.State.{PlainSetup}
use Rattle.cpn_runs.specs.Commits.{marked_claim, marked_from, stop_at_last}
use Rattle.cpn_runs.proofs.MeasuredStates.{marked_more, run_more, IsNextToTell, may_be_told}
use Rattle.cpn_runs.proofs.Sequences.{left_parts}
use Rattle.cpn_book.specs.Standings.{IsToldAt, committed_of, events_in}
use Rattle.cpn_book.specs.declared.standings.Standing.{Standing}
use Rattle.cpn_book.proofs.CountedClaims.{first_are}

-- the same values, of the same claims, by the same clock
pub measured_alike
    : (setup : PlainSetup) (clock clock' : ℕ) (claims claims' : List PlainClaim) (kept kept' : PlainMeasuring)
    → clock' ≡ clock
    → claims' ≡ claims
    → kept' ≡ kept
    → AreKept setup.net setup.functions setup.monitors (run_of setup clock claims) kept
    → AreKept setup.net setup.functions setup.monitors (run_of setup clock' claims') kept'
measured_alike setup clock clock' claims claims' kept kept' clocks same kept_same are =
    subst (AreKept setup.net setup.functions setup.monitors (run_of setup clock' claims')) (sym kept_same)
    (subst (λ run. AreKept setup.net setup.functions setup.monitors run kept) (ap₂ (λ t cs. run_of setup t cs) (sym clocks) (sym same)) are)

-- ---- claims that were made at the clock

abbrev pub WereMadeAt : ℕ → List PlainClaim → Type 0
WereMadeAt clock claims = AllByRecursion (λ claim. claim.time ≡ clock) claims

-- they are, where the clock is the same
pub made_at_same : (clock clock' : ℕ) (claims : List PlainClaim) → clock' ≡ clock → WereMadeAt clock claims → WereMadeAt clock' claims
made_at_same clock clock' claims same were = subst (λ t. WereMadeAt t claims) (sym same) were

all_set : (P : PlainClaim → Type 0) (claims : List PlainClaim) (i : ℕ) (claim : PlainClaim) → AllByRecursion P claims → P claim → AllByRecursion P (slice_set claims i claim)
all_set P [] i claim all is = tt
all_set P (c ∷ claims) zero claim all is = (is, all.1)
all_set P (c ∷ claims) (suc i) claim all is = (all.0, all_set P claims i claim all.1 is)

one_of : (P : PlainClaim → Type 0) (claims : List PlainClaim) (i : ℕ) (claim : PlainClaim) → AllByRecursion P claims → slice_get claims i ≡ Some claim → P claim
one_of P [] i claim all at = cc
one_of P (c ∷ claims) zero claim all at = subst P (same_Some c claim at) all.0
one_of P (c ∷ claims) (suc i) claim all at = one_of P claims i claim all.1 at

-- another status changes no time
pub made_at_whatever : (clock : ℕ) (status : Status) (i : ℕ) (claims : List PlainClaim) → WereMadeAt clock claims → WereMadeAt clock (with_status status i claims)
made_at_whatever clock status i claims were = split (slice_get claims i) refl
  where
    split : (found : Option PlainClaim) → slice_get claims i ≡ found → WereMadeAt clock (changed_to status i claims found)
    split None at = were
    split (Some claim) at = all_set (λ c. c.time ≡ clock) claims i (record claim { status = status }) were (one_of (λ c. c.time ≡ clock) claims i claim were at)

-- the claims ahead of one are the same when that one is another
pub same_ahead : (claims : List PlainClaim) (claim : PlainClaim) (i k : ℕ) → k ≤ i → take k (slice_set claims i claim) ≡ take k claims
same_ahead [] claim i k le = refl
same_ahead (c ∷ claims) claim i zero le = refl
same_ahead (c ∷ claims) claim zero (suc k) le = absurd (omega arith)
same_ahead (c ∷ claims) claim (suc i) (suc k) le = ap (λ cs. c ∷ cs) (same_ahead claims claim i k (omega arith))

-- after the last of occurrences
pub stop_at_end : (setup : PlainSetup) (before : List MarkedOccurrence) (marked : MarkedOccurrence) → stop_after setup.monitors (before ++ marked ∷ []) (length before) ≡ stop_at_last setup.monitors (before ++ marked ∷ [])
stop_at_end setup before marked = ap (stop_after setup.monitors (before ++ marked ∷ [])) (let long = length-append before (marked ∷ []) in let e : length before ≡ length (before ++ marked ∷ []) - 1 = omega (arith, long) in e)

-- ---- the next claim is told

-- an occurrence with the marking that the claim leaves
pub marked_is : (o : Occurrence) (after : Marking) (claim : PlainClaim) (m : Marking) → element_view o.element.value ≡ claim.element → o.time ≡ claim.time → after ≡ after_claim claim m → marked_view o after ≡ marked_claim m claim
marked_is o after claim m element time left =
    ap₂ (λ (e : PlainElement) (t : ℕ). record { occurrence = record { element = e; time = t }; after = after }) element time
    ∙ ap (λ (k : Marking). record { occurrence = record { element = claim.element; time = claim.time }; after = k }) left

module _ (setup : PlainSetup) (s : Standing) (at : IsToldAt setup s) (claim : PlainClaim) (rest : List PlainClaim) (first : (log_view s.log).claims ≡ claim ∷ rest) where
  abbrev front : List PlainClaim
  front = at.told.has.committed

  pub now : WereMadeAt s.clock (claim ∷ rest)
  now = subst (WereMadeAt s.clock) first at.made_now

  measured_there : AreKept setup.net setup.functions setup.monitors (run_of setup at.state.clock front) (measuring_view s.measuring)
  measured_there = measured_alike setup s.clock at.state.clock (committed_of at.state s) front (measuring_view s.measuring) (measuring_view s.measuring) (sym at.clock) (sym (first_are setup.start at.state.claims (log_view s.log) at.told.has)) refl at.measured

  next : IsNextToTell setup at.state front claim (log_view s.log).settled
  next = record {
    rest = rest;
    claims_are = at.told.has.claims_are ∙ ap (λ cs. front ++ cs) first;
    made_now = now.0 ∙ at.clock;
    left = at.told.has.left;
    covers = (left_parts (log_view s.log).settled claim rest (log_view s.log).unclaimed (ap (marking_left (log_view s.log).settled) (sym first) ∙ leaves (log_view s.log) at.told.kept)).0;
  }

  -- monitors may be told of it
  next_to_tell : IsPlayable setup → (marked : MarkedOccurrence) → marked ≡ marked_claim (log_view s.log).settled claim → IsNext setup.net (run_of setup at.state.clock front) marked
  next_to_tell playable marked is = subst (λ o. IsNext setup.net (run_of setup at.state.clock front) o) (sym is) (may_be_told setup (events_in s) at.state playable at.told.reached front claim (log_view s.log).settled next)

  -- so they may note it
  pub may_note : IsPlayable setup → (marked : MarkedOccurrence) → marked ≡ marked_claim (log_view s.log).settled claim → MayNote setup.functions setup.monitors (measuring_view s.measuring) marked
  may_note playable marked is = record {
    net = setup.net;
    run = run_of setup at.state.clock front;
    fit = playable.monitors;
    is_kept = measured_there;
    next = next_to_tell playable marked is;
  }

  -- what they then measure
  pub noted_measured
      : IsPlayable setup
      → (marked : MarkedOccurrence) (kept : PlainMeasuring)
      → marked ≡ marked_claim (log_view s.log).settled claim
      → KeepsNext setup.net setup.functions setup.monitors marked (measuring_view s.measuring) kept
      → AreKept setup.net setup.functions setup.monitors (run_of setup s.clock (front ++ claim ∷ [])) kept
  noted_measured playable marked kept is noted =
      subst (λ t. AreKept setup.net setup.functions setup.monitors (run_of setup t (front ++ claim ∷ [])) kept) now.0
      (subst (λ run. AreKept setup.net setup.functions setup.monitors run kept) (sym (run_more setup at.state.clock front claim (log_view s.log).settled at.told.has.left))
      (subst (λ o. AreKept setup.net setup.functions setup.monitors (with_occurrence o (run_of setup at.state.clock front)) kept) is (noted (run_of setup at.state.clock front) measured_there (next_to_tell playable marked is))))

  -- which monitor then stops the run
  pub stop_noted
      : IsPlayable setup
      → (marked : MarkedOccurrence)
      → marked ≡ marked_claim (log_view s.log).settled claim
      → (stop : Option ℕ)
      → FindsStop setup.net setup.functions setup.monitors marked (measuring_view s.measuring) stop
      → stop ≡ stop_at_last setup.monitors (marked_from setup.start (front ++ claim ∷ []))
  stop_noted playable marked is stop tells =
      tells (run_of setup at.state.clock front) measured_there (next_to_tell playable marked is)
      ∙ stop_at_end setup (marked_from setup.start front) marked
      ∙ ap (λ o. stop_at_last setup.monitors (marked_from setup.start front ++ o ∷ [])) is
      ∙ ap (stop_at_last setup.monitors) (sym (marked_more setup.start front claim (log_view s.log).settled at.told.has.left))
