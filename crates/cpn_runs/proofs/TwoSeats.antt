-- A run of two seats in the worked net, in which the second claim is completed before the first; and which causes end a run,
-- and which do not.
use Rattle.std.proofs.Common.{◌≡◌, ℕ, ◌%◌, true, false, List, [], ◌∷◌, Some, None, refl, sym, subst, inl, arith, slice_get}
use Rattle.cpn_definitions.specs.Marking.{Marking, token_at}
use Rattle.cpn_definitions.specs.Outcome.{not_in_colour}
use Rattle.cpn_definitions.specs.Occurrence.{Made, covered, needs_of, outputs_of, after}
use Rattle.cpn_definitions.specs.Enabled.{PlainEntry, Enabled}
use Rattle.cpn_definitions.specs.Legal.{LeastTime, Legal}
use Rattle.cpn_definitions.proofs.TruthValues.{not_both}
use Rattle.cpn_draw.specs.Draw.{word}
use Rattle.cpn_monitor.specs.Monitors.{PlainMonitor}
use Rattle.cpn_runs.specs.HoleRun.{PlainClaim, done_with}
use Rattle.cpn_runs.specs.State.{PlainSetup, PlainEvent, claim_made, claim_completed, PlainEnd, dead, steps_made, fault_end, PlainState, first_state, new_claim, IsDrawn, MayClaim, MayComplete, IsState, EndsBy}
use Rattle.cpn_runs.specs.Run.{HasOutlook, PlainFinished, IsRun}
use Rattle.cpn_runs.proofs.WorkedNet.{seven, worked, move, seven_at_three, entry, covered_at_three, one_is_enabled, emptied, emptied_is_dead, none_is_enabled, no_other}

-- 7 at 0 and 7 at 3 on place 0, at the clock 3, and two claims that may be made
abbrev pub start : Marking
start = (token_at seven 0 ∷ token_at seven 3 ∷ []) ∷ [] ∷ []

abbrev pub setup : PlainSetup
setup = record { net = worked; start = start; clock = 3; limits = record { steps = 2; until = 100; seats = 2 }; functions = []; monitors = []; seed = 11 }

-- the same with monitors
abbrev pub monitored : List PlainMonitor → PlainSetup
monitored monitors = record setup { monitors = monitors }

-- its states: seat 0 claims, seat 1 claims, seat 1 completes, seat 0 completes
abbrev pub with_claims : List PlainClaim → PlainState
with_claims claims = record { clock = 3; claims = claims; cut = None }

abbrev pub opened : ℕ → PlainClaim
opened seat = new_claim worked seat 3 move

abbrev pub output : Made
output = record { place = 1; value = seven; stamp = 5 }

abbrev pub done : ℕ → PlainClaim
done seat = record (opened seat) { status = done_with (output ∷ []) }

abbrev pub one_claimed : PlainState
one_claimed = with_claims (opened 0 ∷ [])

abbrev pub both_claimed : PlainState
both_claimed = with_claims (opened 0 ∷ opened 1 ∷ [])

abbrev pub second_done : PlainState
second_done = with_claims (opened 0 ∷ done 1 ∷ [])

abbrev pub both_done : PlainState
both_done = with_claims (done 0 ∷ done 1 ∷ [])

remainder_by_one : (x : ℕ) → x % 1 ≡ 0
remainder_by_one x = omega arith

pub drawn_alone : (seed k : ℕ) (x : PlainEntry) → IsDrawn seed k (x ∷ []) x
drawn_alone seed k x = subst (λ i. slice_get (x ∷ []) i ≡ Some x) (sym (remainder_by_one (word seed k))) refl

-- at the clock 3 the element is enabled, alone, where it is covered at it
pub enabled_now : (m : Marking) → covered worked m 3 move ≡ true → Enabled worked m 3 (entry 3 ∷ [])
enabled_now m is = one_is_enabled m 3 3 (omega arith) is (λ s from below. absurd (omega arith))

-- whatever monitors there are: nothing is committed before claim 0 is done
pub first_claim : (monitors : List PlainMonitor) → MayClaim (monitored monitors) (first_state (monitored monitors)) 0 0 one_claimed
unfolding covered needs_of
first_claim monitors = record {
  no_cut = refl;
  none_owed = refl;
  next_number = refl;
  below_limit = omega arith;
  seat_known = omega arith;
  seat_free = refl;
  marking = start;
  marking_is = refl;
  entries = entry 3 ∷ [];
  enabled = enabled_now start refl;
  drawn = entry 3;
  drawn_is = drawn_alone 11 0 (entry 3);
  new_is = refl;
}

pub second_claim : (monitors : List PlainMonitor) → MayClaim (monitored monitors) one_claimed 1 1 both_claimed
unfolding covered needs_of
second_claim monitors = record {
  no_cut = refl;
  none_owed = refl;
  next_number = refl;
  below_limit = omega arith;
  seat_known = omega arith;
  seat_free = refl;
  marking = (token_at seven 0 ∷ []) ∷ [] ∷ [];
  marking_is = refl;
  entries = entry 3 ∷ [];
  enabled = enabled_now ((token_at seven 0 ∷ []) ∷ [] ∷ []) refl;
  drawn = entry 3;
  drawn_is = drawn_alone 11 1 (entry 3);
  new_is = refl;
}

pub second_completion : (monitors : List PlainMonitor) → MayComplete (monitored monitors) both_claimed 1 1 second_done
unfolding outputs_of
second_completion monitors = record { none_owed = refl; held_claim = opened 1; claim_is = refl; held = refl; status = done_with (output ∷ []); status_is = refl; new_is = refl }

pub first_completion : (monitors : List PlainMonitor) → MayComplete (monitored monitors) second_done 0 0 both_done
unfolding outputs_of
first_completion monitors = record { none_owed = refl; held_claim = opened 0; claim_is = refl; held = refl; status = done_with (output ∷ []); status_is = refl; new_is = refl }

abbrev pub journal : List PlainEvent
journal = claim_made 0 0 ∷ claim_made 1 1 ∷ claim_completed 1 1 ∷ claim_completed 0 0 ∷ []

reached : IsState setup journal both_done
reached = (one_claimed, first_claim [], (both_claimed, second_claim [], (second_done, second_completion [], (both_done, first_completion [], refl))))

ends_by_steps : EndsBy setup both_done steps_made
ends_by_steps = record { none_open = refl; none_owed = refl; has_cause = refl }

-- ---- the run

abbrev pub last : Marking
last = [] ∷ (token_at seven 5 ∷ token_at seven 5 ∷ []) ∷ []

pub least_at_three : (m : Marking) → covered worked m 3 move ≡ true → LeastTime worked m 3 3
least_at_three m is = record { not_before = omega arith; some = (move, is); none_earlier = λ s e from below. absurd (omega arith) }

pub legal : Legal worked start 3 (record { element = move; time = 3 } ∷ record { element = move; time = 3 } ∷ []) last 3
unfolding covered needs_of outputs_of after
legal =
    let between : Marking = (token_at seven 0 ∷ []) ∷ (token_at seven 5 ∷ []) ∷ [] in
    (least_at_three start refl, refl, (between, refl, (least_at_three between refl, refl, (last, refl, (refl, inl refl)))))

not_covered_last : (time : ℕ) → covered worked last time move ≡ false
unfolding covered needs_of
not_covered_last time = refl

abbrev pub run : PlainFinished
run = record {
  opening = record { ready_count = 1; next = Some 3 };
  journal = journal;
  occurrences = record { number = 0; time = 3; element = move } ∷ record { number = 1; time = 3; element = move } ∷ [];
  marking = last;
  clock = 3;
  cause = steps_made;
  closing = record { ready_count = 0; next = None };
  values = [];
}

pub opening : (monitors : List PlainMonitor) → HasOutlook (monitored monitors) start 3 (record { ready_count = 1; next = Some 3 })
unfolding covered needs_of
opening monitors = record { entries = entry 3 ∷ []; enabled = enabled_now start refl; ready_count_is = refl; next_is = refl }

pub closing : (monitors : List PlainMonitor) → HasOutlook (monitored monitors) last 3 (record { ready_count = 0; next = None })
closing monitors = record { entries = []; enabled = none_is_enabled last 3 (λ time e. no_other last time e (not_covered_last time)); ready_count_is = refl; next_is = refl }

is_run : IsRun setup run
unfolding needs_of
is_run = record { state = both_done; reached = reached; ends = ends_by_steps; occurrences_are = refl; marking_is = refl; clock_is = refl; legal = legal; opening = opening []; true_fault = tt; true_stop = tt; closing = closing []; values_are = refl }

-- ---- what ends a run, and what does not

-- with as many claims as may be made it ends for no other cause
not_dead_at_the_limit : EndsBy setup both_done dead → ⊥
not_dead_at_the_limit ends = ends.has_cause.0 refl

-- with a claim open it does not end
no_end_with_one_open : (cause : PlainEnd) → EndsBy setup second_done cause → ⊥
no_end_with_one_open cause ends = let e : true ≡ false = ends.none_open in cc

none_is_two : ◌≡◌ {A = ℕ} 0 2 → ⊥
none_is_two e = omega arith

-- with fewer claims than may be made it does not end for them, nor where something is covered, now or later
not_yet_at_the_limit : EndsBy setup (first_state setup) steps_made → ⊥
not_yet_at_the_limit ends = none_is_two ends.has_cause

abbrev waiting : PlainSetup
waiting = record setup { start = seven_at_three; clock = 0 }

not_dead_while_waiting : EndsBy waiting (first_state waiting) dead → ⊥
not_dead_while_waiting ends =
    let marking_is : Some seven_at_three ≡ Some ends.has_cause.1.0 = ends.has_cause.1.1 in
    let P : Marking → Type 0 = λ m. covered worked m 3 move ≡ false in
    let same : ends.has_cause.1.0 ≡ seven_at_three = cc in
    not_both (covered worked seven_at_three 3 move) covered_at_three (subst P same (ends.has_cause.1.2 3 move))

-- where nothing is covered at any time it is dead, and it does not end for its claims
abbrev used_up : PlainSetup
used_up = record setup { start = emptied }

dead_where_emptied : EndsBy used_up (first_state used_up) dead
dead_where_emptied = record { none_open = refl; none_owed = refl; has_cause = ((λ is. absurd (omega arith)), (emptied, refl, emptied_is_dead)) }

not_by_steps_where_emptied : EndsBy used_up (first_state used_up) steps_made → ⊥
not_by_steps_where_emptied ends = none_is_two ends.has_cause

-- without a cut no fault is the cause
abbrev pub no_fault : PlainEnd
no_fault = fault_end move not_in_colour

no_fault_ends_it : EndsBy used_up (first_state used_up) no_fault → ⊥
no_fault_ends_it ends = ends.has_cause

-- after a cut its cause is the cause, and no other
abbrev cut_off : PlainState
cut_off = record { clock = 3; claims = []; cut = Some (record { number = 0; cause = no_fault }) }

ends_by_the_cut : EndsBy used_up cut_off no_fault
ends_by_the_cut = record { none_open = refl; none_owed = refl; has_cause = refl }

not_dead_after_a_cut : EndsBy used_up cut_off dead → ⊥
not_dead_after_a_cut ends = let e : dead ≡ no_fault = ends.has_cause in cc
