-- What monitors may be told of a run: its next occurrence, with the marking after it.
use Rattle.std.proofs.Common.{◌≡◌, ℕ, suc, ◌+◌, ◌<◌, ◌≤◌, ◌^◌, true, List, [], ◌∷◌, ◌++◌, length, Some, false, refl, sym, ap, ◌∙◌, subst, arith, length-append}
use Rattle.std.specs.List.{AllByRecursion}
use Rattle.std.proofs.lemmas.Bool.{and_parts}
use Rattle.std.proofs.lemmas.Option.{same_Some}
use Rattle.cpn_definitions.specs.Marking.{Marking}
use Rattle.cpn_definitions.specs.Occurrence.{threshold, are_covered}
use Rattle.cpn_definitions.specs.Times.{last_time}
use Rattle.cpn_definitions.proofs.LegalSequences.{covered_is_bound}
use Rattle.cpn_definitions.proofs.ListItems.{all_parts}
use Rattle.cpn_definitions.proofs.Markings.{marking_length}
use Rattle.cpn_definitions.proofs.RisingLists.{each_implied}
use Rattle.cpn_monitor.specs.Fitting.{IsMeasurable, IsNext}
use Rattle.cpn_monitor.specs.Looks.{is_beside}
use Rattle.cpn_monitor.specs.MeasuredRuns.{size_on, marking_after, last_marking, with_occurrence}
use Rattle.cpn_monitor.specs.Monitors.{PlainMonitor, PlainMeasure, counts, sizes, values, stops_by_count, stops_by_size}
use Rattle.cpn_monitor.specs.Noted.{MayLook}
use Rattle.cpn_runs.specs.Bounds.{HasGrown, most_at_start, most_steps}
use Rattle.cpn_runs.specs.HoleRun.{PlainClaim, after_claim, marking_left}
use Rattle.cpn_runs.specs.Commits.{marked_claim, marked_from}
use Rattle.cpn_runs.specs.MeasuredStates.{run_of}
use Rattle.cpn_runs.specs.Playable.{IsPlayable}
use Rattle.cpn_runs.specs.State.{PlainSetup, PlainEvent, PlainState, IsState}
use Rattle.cpn_runs.proofs.BoundedStates.{HasBounds, claims_grow, every_state_has_bounds}
use Rattle.cpn_runs.proofs.ElsewhereClaims.{claim_elsewhere}
use Rattle.cpn_runs.proofs.Sequences.{left_parts, marking_left_more}
use Rattle.cpn_runs.proofs.States.{IsClaimOf, every_state}

-- ---- one claim more

-- claims are followed by the occurrence of one claim more
pub marked_more
    : (m : Marking) (claims : List PlainClaim) (claim : PlainClaim) (mid : Marking)
    → marking_left m claims ≡ Some mid
    → marked_from m (claims ++ claim ∷ []) ≡ marked_from m claims ++ marked_claim mid claim ∷ []
marked_more m [] claim mid is = ap (λ k. marked_claim k claim ∷ []) (same_Some m mid is)
marked_more m (first ∷ claims) claim mid is = ap (λ os. marked_claim m first ∷ os) (marked_more (after_claim first m) claims claim mid (left_parts m first claims mid is).1)

-- so monitors are told one occurrence more
pub run_more
    : (setup : PlainSetup) (clock : ℕ) (claims : List PlainClaim) (claim : PlainClaim) (mid : Marking)
    → marking_left setup.start claims ≡ Some mid
    → run_of setup claim.time (claims ++ claim ∷ []) ≡ with_occurrence (marked_claim mid claim) (run_of setup clock claims)
run_more setup clock claims claim mid is = ap (λ os. record { start = setup.start; clock = setup.clock; occurrences = os; last_clock = claim.time }) (marked_more setup.start claims claim mid is)

as_many_marked : (m : Marking) (claims : List PlainClaim) → length (marked_from m claims) ≡ length claims
as_many_marked m [] = refl
as_many_marked m (claim ∷ claims) = ap (λ (k : ℕ). suc k) (as_many_marked (after_claim claim m) claims)

-- the marking to which such a run has come is the one that they leave
marked_end : (m : Marking) (claims : List PlainClaim) (mid : Marking) → marking_left m claims ≡ Some mid → marking_after m (marked_from m claims) ≡ mid
marked_end m [] mid is = same_Some m mid is
marked_end m (first ∷ claims) mid is = marked_end (after_claim first m) claims mid (left_parts m first claims mid is).1

-- ---- what monitors may be told

-- The next claim of a state, behind claims that leave a marking: it was made at the clock, and its needs are covered there.
pub record IsNextToTell (setup : PlainSetup) (state : PlainState) (front : List PlainClaim) (claim : PlainClaim) (mid : Marking) : Type 0 where
  pub rest : List PlainClaim
  pub claims_are : state.claims ≡ front ++ claim ∷ rest
  pub made_now : claim.time ≡ state.clock
  pub left : marking_left setup.start front ≡ Some mid
  pub covers : are_covered (threshold claim.time) mid claim.needs ≡ true

-- monitors may be told of it
module _ (setup : PlainSetup) (journal : List PlainEvent) (state : PlainState) (playable : IsPlayable setup) (reached : IsState setup journal state) (front : List PlainClaim) (claim : PlainClaim) (mid : Marking)
    (next : IsNextToTell setup state front claim mid) where
  bounds : HasBounds setup state
  bounds = every_state_has_bounds setup journal state playable reached

  its : AllByRecursion (IsClaimOf setup) front × (IsClaimOf setup claim × AllByRecursion (IsClaimOf setup) next.rest)
  its = all_parts (IsClaimOf setup) front (claim ∷ next.rest) (subst (AllByRecursion (IsClaimOf setup)) next.claims_are (every_state setup journal state reached).claims_are)

  times : AllByRecursion (λ (k : PlainClaim). k.time ≤ last_time) front × ((claim.time ≤ last_time) × AllByRecursion (λ (k : PlainClaim). k.time ≤ last_time) next.rest)
  times =
      let clock = bounds.clock in
      let until = playable.until in
      all_parts (λ (k : PlainClaim). k.time ≤ last_time) front (claim ∷ next.rest)
      (subst (AllByRecursion (λ (k : PlainClaim). k.time ≤ last_time)) next.claims_are
      (each_implied (λ k. k.time ≤ state.clock) (λ k. k.time ≤ last_time) state.claims (λ k up_to. omega (arith, up_to, clock, until)) bounds.claims_in_time))

  few_there : length front + 1 ≤ most_steps
  few_there =
      let few = bounds.few_claims in
      let steps = playable.steps in
      let long = ap (λ (cs : List PlainClaim). length cs) next.claims_are ∙ length-append front (claim ∷ next.rest) in
      omega (arith, few, steps, long)

  grown : HasGrown setup.net.places setup.start (length (front ++ claim ∷ [])) (after_claim claim mid)
  grown =
      claims_grow setup (front ++ claim ∷ []) setup.start (after_claim claim mid) playable (each_appended_one (IsClaimOf setup) front its.0 its.1.0) (each_appended_one (λ k. k.time ≤ last_time) front times.0 times.1.0)
      (marking_left_more setup.start front claim mid next.left next.covers)
    where
      each_appended_one : (P : PlainClaim → Type 0) (cs : List PlainClaim) → AllByRecursion P cs → P claim → AllByRecursion P (cs ++ claim ∷ [])
      each_appended_one P [] each last = (last, tt)
      each_appended_one P (c ∷ cs) each last = (each.0, each_appended_one P cs each.1 last)

  -- a place that is at none of its transition's arcs keeps its tokens
  same_elsewhere : (p : ℕ) → is_beside setup.net claim.element.transition p ≡ false → size_on p (after_claim claim mid) ≡ size_on p (last_marking (run_of setup state.clock front))
  same_elsewhere p none = ap length (claim_elsewhere setup claim its.1.0 mid p none) ∙ ap (size_on p) (sym (marked_end setup.start front mid next.left))

  pub may_be_told : IsNext setup.net (run_of setup state.clock front) (marked_claim mid claim)
  may_be_told = record {
    bound = (and_parts _ _ (covered_is_bound setup.net its.1.0.marking claim.time claim.element its.1.0.was_covered)).1;
    in_order = (let now = next.made_now in omega (arith, now));
    in_time = times.1.0;
    after = record {
      entries = marking_length setup.net.places (after_claim claim mid) (grown.marking playable.marking);
      few = λ p.
          (let up_to = grown.few most_at_start playable.bounded p in
          let long = length-append front (claim ∷ []) in
          let few = few_there in
          omega (arith, up_to, long, few));
    };
    elsewhere = same_elsewhere;
    few = (let many = as_many_marked setup.start front in let few = few_there in omega (arith, many, few));
  }

-- ---- where the run starts

-- monitors may look at the start of a run
pub may_look_at_start : (setup : PlainSetup) → IsPlayable setup → AllByRecursion (λ monitor. MayLook setup.start monitor.measure) setup.monitors
may_look_at_start setup playable = each setup.monitors playable.monitors.measurable
  where
    long : length setup.start ≡ length setup.net.places
    long = marking_length setup.net.places setup.start playable.marking

    few : (p : ℕ) → size_on p setup.start < 2 ^ 48
    few p = let own = playable.bounded p in omega (arith, own)

    by : (measure : PlainMeasure) → IsMeasurable setup.net measure → MayLook setup.start measure
    by (counts t) is = tt
    by (sizes p) is = record { there = (let l = long in omega (arith, is, l)); few = few p }
    by (values t e) is = tt
    by (stops_by_count t number) is = tt
    by (stops_by_size p bound number) is = record { there = (let l = long in omega (arith, is, l)); few = few p }

    each : (monitors : List PlainMonitor) → AllByRecursion (λ monitor. IsMeasurable setup.net monitor.measure) monitors → AllByRecursion (λ monitor. MayLook setup.start monitor.measure) monitors
    each [] all = tt
    each (monitor ∷ monitors) all = (by monitor.measure all.0, each monitors all.1)
