-- The clock in the worked net, with a token that may be used from 3 on: where it moves and where not, the run that it moves in,
-- and the runs that end before.
use Rattle.std.proofs.Common.{◌≡◌, ℕ, ◌≤◌, ◌<◌, true, false, List, [], ◌∷◌, Some, None, refl, sym, subst, inl, arith}
use Rattle.cpn_definitions.specs.Marking.{Marking}
use Rattle.cpn_definitions.specs.Occurrence.{Made, covered, needs_of, outputs_of, after}
use Rattle.cpn_definitions.specs.Legal.{LeastTime}
use Rattle.cpn_definitions.proofs.TruthValues.{not_both}
use Rattle.cpn_monitor.specs.Monitors.{PlainMonitor}
use Rattle.cpn_runs.specs.HoleRun.{PlainClaim, done_with}
use Rattle.cpn_runs.specs.State.{PlainSetup, claim_made, claim_completed, clock_moved, dead, steps_made, until_passed, PlainState, first_state, new_claim, MayClaim, MayComplete, MayMove, EndsBy}
use Rattle.cpn_runs.specs.Run.{PlainFinished, IsRun}
use Rattle.cpn_runs.proofs.States.{least_is_unique}
use Rattle.cpn_runs.proofs.TwoSeats.{drawn_alone, enabled_now}
use Rattle.cpn_runs.proofs.WorkedNet.{seven, worked, move, seven_at_three, moved, entry, covered_at_three, covered_no_earlier, after_three, least_is_three, one_is_enabled, no_other, moved_is_dead, none_is_enabled}

-- runs that may make so many claims up to a last time
abbrev pub setup : ℕ → ℕ → PlainSetup
setup steps until = record { net = worked; start = seven_at_three; clock = 0; limits = record { steps = steps; until = until; seats = 1 }; functions = []; monitors = []; seed = 11 }

-- the same up to 3 with monitors
abbrev pub monitored : List PlainMonitor → PlainSetup
monitored monitors = record (setup 2 3) { monitors = monitors }

-- a state at a clock with these claims
abbrev pub state : ℕ → List PlainClaim → PlainState
state clock claims = record { clock = clock; claims = claims; cut = None }

-- ---- where the clock moves

-- to 3, where the last time is 3, whatever monitors there are
pub moves_to_three : (monitors : List PlainMonitor) → MayMove (monitored monitors) (first_state (monitored monitors)) 3 (state 3 [])
moves_to_three monitors = record {
  no_cut = refl;
  none_owed = refl;
  below_limit = omega arith;
  none_open = refl;
  marking = seven_at_three;
  marking_is = refl;
  none_ready = λ e. no_other seven_at_three 0 e (covered_no_earlier 0 (omega arith));
  least = least_is_three;
  in_time = omega arith;
  new_is = refl;
}

-- to no other time, and not past the last one
to_no_other : (until time : ℕ) (new : PlainState) → MayMove (setup 2 until) (first_state (setup 2 until)) time new → time ≡ 3
to_no_other until time new m =
    let same : seven_at_three ≡ m.marking = (let e : Some seven_at_three ≡ Some m.marking = m.marking_is in cc) in
    let P : Marking → Type 0 = λ k. LeastTime worked k 0 time in
    least_is_unique worked seven_at_three 0 time 3 (subst P (sym same) m.least) least_is_three

not_past_the_last : (time : ℕ) (new : PlainState) → MayMove (setup 2 2) (first_state (setup 2 2)) time new → ⊥
not_past_the_last time new m =
    let at : time ≡ 3 = to_no_other 2 time new m in
    let within : time ≤ 2 = m.in_time in
    absurd (omega arith)

-- not where something is ready, nor with an open claim, nor at the limit of claims
not_with_something_ready : (time : ℕ) (new : PlainState) → MayMove (setup 2 9) (state 3 []) time new → ⊥
not_with_something_ready time new m =
    let same : seven_at_three ≡ m.marking = (let e : Some seven_at_three ≡ Some m.marking = m.marking_is in cc) in
    let P : Marking → Type 0 = λ k. covered worked k 3 move ≡ false in
    not_both (covered worked seven_at_three 3 move) covered_at_three (subst P (sym same) (m.none_ready move))

not_with_an_open_claim : (time : ℕ) (new : PlainState) → MayMove (setup 2 9) (state 3 (new_claim worked 0 3 move ∷ [])) time new → ⊥
not_with_an_open_claim time new m = let e : true ≡ false = m.none_open in cc

not_at_the_limit : (time : ℕ) (new : PlainState) → MayMove (setup 0 9) (first_state (setup 0 9)) time new → ⊥
not_at_the_limit time new m = let below : 0 < 0 = m.below_limit in absurd (omega arith)

-- ---- the run: the clock moves, and the element occurs

abbrev pub opened : PlainClaim
opened = new_claim worked 0 3 move

abbrev output : Made
output = record { place = 1; value = seven; stamp = 5 }

abbrev pub done : PlainClaim
done = record opened { status = done_with (output ∷ []) }

pub claims_at_three : (monitors : List PlainMonitor) → MayClaim (monitored monitors) (state 3 []) 0 0 (state 3 (opened ∷ []))
claims_at_three monitors = record {
  no_cut = refl;
  none_owed = refl;
  next_number = refl;
  below_limit = omega arith;
  seat_known = omega arith;
  seat_free = refl;
  marking = seven_at_three;
  marking_is = refl;
  entries = entry 3 ∷ [];
  enabled = enabled_now seven_at_three covered_at_three;
  drawn = entry 3;
  drawn_is = drawn_alone 11 0 (entry 3);
  new_is = refl;
}

pub completes_at_three : (monitors : List PlainMonitor) → MayComplete (monitored monitors) (state 3 (opened ∷ [])) 0 0 (state 3 (done ∷ []))
unfolding outputs_of
completes_at_three monitors = record { none_owed = refl; held_claim = opened; claim_is = refl; held = refl; status = done_with (output ∷ []); status_is = refl; new_is = refl }

abbrev pub moved_shown : PlainFinished
moved_shown = record {
  opening = record { ready_count = 0; next = Some 3 };
  journal = clock_moved 3 ∷ claim_made 0 0 ∷ claim_completed 0 0 ∷ [];
  occurrences = record { number = 0; time = 3; element = move } ∷ [];
  marking = moved;
  clock = 3;
  cause = dead;
  closing = record { ready_count = 0; next = None };
  values = [];
}

pub moved_run : IsRun (setup 2 3) moved_shown
unfolding covered needs_of outputs_of after
moved_run = record {
  state = state 3 (done ∷ []);
  reached = (state 3 [], moves_to_three [], (state 3 (opened ∷ []), claims_at_three [], (state 3 (done ∷ []), completes_at_three [], refl)));
  ends = record { none_open = refl; none_owed = refl; has_cause = ((λ all. absurd (omega (arith, all))), (moved, refl, moved_is_dead)) };
  occurrences_are = refl;
  marking_is = refl;
  clock_is = refl;
  legal = (least_is_three, covered_at_three, (moved, after_three, (refl, inl refl)));
  true_fault = tt;
  true_stop = tt;
  opening = record { entries = entry 3 ∷ []; enabled = one_is_enabled seven_at_three 0 3 (omega arith) covered_at_three (λ s from below. covered_no_earlier s below); ready_count_is = refl; next_is = refl };
  closing = record { entries = []; enabled = none_is_enabled moved 3 moved_is_dead; ready_count_is = refl; next_is = refl };
  values_are = refl;
}

-- ---- runs that end where they start

-- the last time is 2: the run ends until 3, not dead, and not until another time
ends_until_three : EndsBy (setup 2 2) (first_state (setup 2 2)) (until_passed 3)
ends_until_three = record { none_open = refl; none_owed = refl; has_cause = ((λ all. absurd (omega (arith, all))), omega arith, (seven_at_three, refl, least_is_three)) }

not_dead_yet : EndsBy (setup 2 2) (first_state (setup 2 2)) dead → ⊥
not_dead_yet ends =
    let same : seven_at_three ≡ ends.has_cause.1.0 = (let e : Some seven_at_three ≡ Some ends.has_cause.1.0 = ends.has_cause.1.1 in cc) in
    let P : Marking → Type 0 = λ k. covered worked k 3 move ≡ false in
    not_both (covered worked seven_at_three 3 move) covered_at_three (subst P (sym same) (ends.has_cause.1.2 3 move))

until_no_other_time : (time : ℕ) → EndsBy (setup 2 2) (first_state (setup 2 2)) (until_passed time) → time ≡ 3
until_no_other_time time ends =
    let same : seven_at_three ≡ ends.has_cause.2.0 = (let e : Some seven_at_three ≡ Some ends.has_cause.2.0 = ends.has_cause.2.1 in cc) in
    let P : Marking → Type 0 = λ k. LeastTime worked k 0 time in
    least_is_unique worked seven_at_three 0 time 3 (subst P (sym same) ends.has_cause.2.2) least_is_three

-- the last time may be reached
not_until_within : EndsBy (setup 2 3) (first_state (setup 2 3)) (until_passed 3) → ⊥
not_until_within ends = let past : 3 < 3 = ends.has_cause.1 in absurd (omega arith)

-- the limit of claims comes first
steps_before_until : EndsBy (setup 0 2) (first_state (setup 0 2)) steps_made
steps_before_until = record { none_open = refl; none_owed = refl; has_cause = refl }

no_until_at_the_limit : (time : ℕ) → EndsBy (setup 0 2) (first_state (setup 0 2)) (until_passed time) → ⊥
no_until_at_the_limit time ends = ends.has_cause.0 refl
