-- What a run leaves of its start; and that after phases a run may start from each setup of the next.
use Rattle.std.proofs.Common.{◌≡◌, ℕ, suc, ◌+◌, ◌*◌, ◌≤◌, inl, inr, List, [], ◌∷◌, length, take, refl, sym, ap, ◌∙◌, subst, arith}
use Rattle.std.proofs.lemmas.List.Sums.{sum_by-cons}
use Rattle.cpn_definitions.specs.Bounds.{most_made, IsBounded}
use Rattle.cpn_definitions.specs.Marking.{Marking}
use Rattle.cpn_definitions.specs.Net.{Coloured}
use Rattle.cpn_definitions.specs.Sound.{IsMarking}
use Rattle.cpn_definitions.specs.Terms.{most_tokens}
use Rattle.cpn_definitions.specs.Times.{last_time}
use Rattle.cpn_definitions.proofs.BoundedMarkings.{bounded_by}
use Rattle.cpn_runs.specs.Bounds.{most_steps, most_at_start, HasGrown}
use Rattle.cpn_runs.specs.HoleRun.{PlainClaim}
use Rattle.cpn_runs.specs.Phases.{PlainPhase, occurrences_of, IsWhereLatestEnded, IsNextStart, IsNextSetup, IsPhase, ArePhases, PhasesGoOn}
use Rattle.cpn_runs.specs.Playable.{IsPlayable}
use Rattle.cpn_runs.specs.Run.{PlainFinished, IsRun}
use Rattle.cpn_runs.specs.State.{PlainSetup, numbered, committed}
use Rattle.cpn_runs.proofs.BoundedStates.{HasBounds, every_state_has_bounds}
use Rattle.cpn_runs.proofs.Cuts.{as_many_are_committed, no_more_committed}

as_many_numbered : (k : ℕ) (claims : List PlainClaim) → length (numbered k claims) ≡ length claims
as_many_numbered k [] = refl
as_many_numbered k (claim ∷ claims) = ap (λ (n : ℕ). suc n) (as_many_numbered (suc k) claims)

-- the occurrences of a run are as many as the committed claims
as_many_occurrences : (setup : PlainSetup) (run : PlainFinished) (is : IsRun setup run) → committed setup is.state ≡ length run.occurrences
as_many_occurrences setup run is = sym (ap length is.occurrences_are ∙ as_many_numbered 0 (take (committed setup is.state) is.state.claims) ∙ as_many_are_committed setup.monitors [] setup.start is.state.claims)

-- a run leaves what its occurrences leave of its start
pub run_has_grown : (setup : PlainSetup) (run : PlainFinished) → IsPlayable setup → IsRun setup run → HasGrown setup.net.places setup.start (length run.occurrences) run.marking
run_has_grown setup run playable is =
    let many = as_many_occurrences setup run is in
    subst (λ (k : ℕ). HasGrown setup.net.places setup.start k run.marking) many ((every_state_has_bounds setup run.journal is.state playable is.reached).settled run.marking is.marking_is)

-- a run has no more occurrences than it may make claims, and ends at a clock that it may reach
pub record EndsWithinLimits (setup : PlainSetup) (run : PlainFinished) : Type 0 where
  pub few_occurrences : length run.occurrences ≤ setup.limits.steps
  pub in_time : run.clock ≤ setup.limits.until

pub run_ends_within_limits : (setup : PlainSetup) (run : PlainFinished) → IsPlayable setup → IsRun setup run → EndsWithinLimits setup run
run_ends_within_limits setup run playable is =
    let bounds : HasBounds setup is.state = every_state_has_bounds setup run.journal is.state playable is.reached in
    let many = as_many_occurrences setup run is in
    let first = no_more_committed setup.monitors [] setup.start is.state.claims in
    let few = bounds.few_claims in
    let clock = bounds.clock in
    let clock_is = is.clock_is in
    record { few_occurrences = omega (arith, many, first, few); in_time = omega (arith, clock, clock_is) }

-- ---- phases

-- What so many occurrences of phases may leave: a marking of the places, with as many tokens more than 65,536 on each as these make, at a
-- clock up to the last time.
record IsLeftByPhases (places : List Coloured) (until occurrences : ℕ) (start : Marking) (clock : ℕ) : Type 0 where
  marking : IsMarking places start
  few : IsBounded (most_tokens + occurrences * most_made) start
  in_time : clock ≤ until

-- Phases with few occurrences, the latest of which left what so many may leave.
record ArePhasesInBounds (places : List Coloured) (until : ℕ) (phases : List PlainPhase) : Type 0 where
  few_occurrences : occurrences_of phases ≤ most_steps
  left : (start : Marking) (clock : ℕ) → IsWhereLatestEnded phases start clock → IsLeftByPhases places until (occurrences_of phases) start clock

-- so is an initial start
next_start_is_left : (places : List Coloured) (until : ℕ) (earlier : List PlainPhase) (start : Marking) (clock : ℕ) → ArePhasesInBounds places until earlier → IsNextStart places earlier start clock
    → IsLeftByPhases places until (occurrences_of earlier) start clock
next_start_is_left places until earlier start clock before (inl initial) =
    let clock_is = initial.clock_is in
    record {
      marking = initial.marking;
      few = bounded_by most_tokens (most_tokens + occurrences_of earlier * most_made) start (omega arith) initial.few;
      in_time = omega (arith, clock_is);
    }
next_start_is_left places until earlier start clock before (inr here) = before.left start clock here

next_is_playable : (places : List Coloured) (until : ℕ) (earlier : List PlainPhase) (setup : PlainSetup) → until ≤ last_time → ArePhasesInBounds places until earlier → IsNextSetup places until earlier setup
    → IsPlayable setup
next_is_playable places until earlier setup early before next =
    let left = next_start_is_left places until earlier setup.start setup.clock before next.start in
    let few = before.few_occurrences in
    let until_is = next.until_is in
    let in_time = left.in_time in
    let steps = next.steps in
    record {
      sound = next.sound;
      marking = subst (λ (ps : List Coloured). IsMarking ps setup.start) (sym next.places_are) left.marking;
      bounded = bounded_by (most_tokens + occurrences_of earlier * most_made) most_at_start setup.start (omega (arith, few)) left.few;
      clock = omega (arith, in_time, until_is);
      until = omega (arith, early, until_is);
      steps = omega (arith, steps);
      some_seat = next.some_seat;
      few_seats = next.few_seats;
      monitors = next.monitors;
    }

-- a phase after phases in bounds is within them, and leaves what so many more occurrences may leave
module _ (places : List Coloured) (until : ℕ) (early : until ≤ last_time) (earlier : List PlainPhase) (latest : PlainPhase) (before : ArePhasesInBounds places until earlier) (is : IsPhase places until earlier latest) where
  playable : IsPlayable latest.setup
  playable = next_is_playable places until earlier latest.setup early before is.setup

  started : IsLeftByPhases places until (occurrences_of earlier) latest.setup.start latest.setup.clock
  started = next_start_is_left places until earlier latest.setup.start latest.setup.clock before is.setup.start

  ends : EndsWithinLimits latest.setup latest.run
  ends = run_ends_within_limits latest.setup latest.run playable is.is_run

  grown : HasGrown places latest.setup.start (length latest.run.occurrences) latest.run.marking
  grown = subst (λ (ps : List Coloured). HasGrown ps latest.setup.start (length latest.run.occurrences) latest.run.marking) is.setup.places_are (run_has_grown latest.setup latest.run playable is.is_run)

  all : occurrences_of (latest ∷ earlier) ≡ length latest.run.occurrences + occurrences_of earlier
  all = sum_by-cons (λ phase. length phase.run.occurrences) latest earlier

  ended : IsLeftByPhases places until (occurrences_of (latest ∷ earlier)) latest.run.marking latest.run.clock
  ended =
      let in_time = ends.in_time in
      let until_is = is.setup.until_is in
      let number = most_tokens + occurrences_of earlier * most_made in
      let sum = all in
      record {
        marking = grown.marking started.marking;
        few = bounded_by (number + length latest.run.occurrences * most_made) (most_tokens + occurrences_of (latest ∷ earlier) * most_made) latest.run.marking (omega (arith, sum)) (grown.few number started.few);
        in_time = omega (arith, in_time, until_is);
      }

  left : (start : Marking) (clock : ℕ) → IsWhereLatestEnded (latest ∷ earlier) start clock → IsLeftByPhases places until (occurrences_of (latest ∷ earlier)) start clock
  left start clock (start_is, clock_is) =
      subst (λ (m : Marking). IsLeftByPhases places until (occurrences_of (latest ∷ earlier)) m clock) (sym start_is)
      (subst (IsLeftByPhases places until (occurrences_of (latest ∷ earlier)) latest.run.marking) (sym clock_is) ended)

  one_more_in_bounds : ArePhasesInBounds places until (latest ∷ earlier)
  one_more_in_bounds =
      let sum = all in
      let few = before.few_occurrences in
      let steps = is.setup.steps in
      let own = ends.few_occurrences in
      record { few_occurrences = omega (arith, sum, few, steps, own); left = left }

phases_are_in_bounds : (places : List Coloured) (until : ℕ) (phases : List PlainPhase) → until ≤ last_time → ArePhases places until phases → ArePhasesInBounds places until phases
phases_are_in_bounds places until [] early are = record { few_occurrences = omega arith; left = λ start clock here. absurd here }
phases_are_in_bounds places until (latest ∷ earlier) early (is, are) = one_more_in_bounds places until early earlier latest (phases_are_in_bounds places until earlier early are) is

-- The law: a run may start from each setup of the next phase.
pub phases_go_on : PhasesGoOn
phases_go_on places until earlier setup early are next = next_is_playable places until earlier setup early (phases_are_in_bounds places until earlier early are) next
