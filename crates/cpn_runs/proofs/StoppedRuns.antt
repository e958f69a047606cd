-- Runs of two seats in the worked net that a monitor stops: after the first occurrence, while the second claim is done already; and after
-- the second, which makes the last of the claims that may be made.
use Rattle.std.proofs.Common.{◌≡◌, ℕ, List, [], ◌∷◌, ◌++◌, Some, None, refl, inl, subst}
use Rattle.cpn_definitions.specs.Legal.{Legal}
use Rattle.cpn_definitions.specs.Marking.{Marking, token_at}
use Rattle.cpn_definitions.specs.Occurrence.{covered, needs_of, outputs_of, after}
use Rattle.cpn_monitor.specs.MonitorValues.{counted, sized, counted_to_stop, sized_to_stop}
use Rattle.cpn_monitor.specs.Monitors.{PlainMonitor, counts, sizes, stops_by_count, stops_by_size, at_least}
use Rattle.cpn_runs.specs.Run.{HasOutlook, PlainFinished, IsRun}
use Rattle.cpn_runs.specs.State.{cut_made, PlainEnd, stopped_by, PlainState, MayCut, EndsBy, IsState}
use Rattle.cpn_runs.proofs.MeasuredRows.{monitor, value}
use Rattle.cpn_runs.proofs.States.{one_state}
use Rattle.cpn_runs.proofs.StopRows.{stop_cut, stopped_with}
use Rattle.cpn_runs.proofs.TwoSeats.{start, monitored, done, one_claimed, both_claimed, second_done, both_done, first_claim, second_claim, second_completion, first_completion, journal, enabled_now, least_at_three, legal, opening, closing, run}
use Rattle.cpn_runs.proofs.WorkedNet.{seven, worked, move, entry}

-- what leads to both claims done, whatever monitors there are
both_led_to : (monitors : List PlainMonitor) → IsState (monitored monitors) journal both_done
both_led_to monitors = (one_claimed, first_claim monitors, (both_claimed, second_claim monitors, (second_done, second_completion monitors, (both_done, first_completion monitors, refl))))

-- and, with a cut after them, to the state that it leaves
cut_led_to : (monitors : List PlainMonitor) (number : ℕ) (new : PlainState) → MayCut (monitored monitors) both_done number new → IsState (monitored monitors) (journal ++ cut_made number ∷ []) new
cut_led_to monitors number new cut = (one_claimed, first_claim monitors, (both_claimed, second_claim monitors, (second_done, second_completion monitors, (both_done, first_completion monitors, (new, cut, refl)))))

-- ---- after the first occurrence

-- the second monitor stops the run
abbrev at_the_first : List PlainMonitor
at_the_first = monitor (sizes 1) ∷ monitor (stops_by_count 0 1) ∷ monitor (counts 0) ∷ []

abbrev stopped : PlainState
stopped = stopped_with (done 0 ∷ []) (stop_cut 1 1)

stop_at_the_first : MayCut (monitored at_the_first) both_done 1 stopped
stop_at_the_first = record { cut = stop_cut 1 1; due = inl refl; number_is = refl; new_is = refl }

abbrev after_one : Marking
after_one = (token_at seven 0 ∷ []) ∷ (token_at seven 5 ∷ []) ∷ []

-- the second claim is gone, though it was done: one occurrence, and the element is ready as before
abbrev one_shown : PlainFinished
one_shown = record {
  opening = record { ready_count = 1; next = Some 3 };
  journal = journal ++ cut_made 1 ∷ [];
  occurrences = record { number = 0; time = 3; element = move } ∷ [];
  marking = after_one;
  clock = 3;
  cause = stopped_by 1;
  closing = record { ready_count = 1; next = Some 3 };
  values = value (sized 0 1 1 0 3) ∷ value (counted_to_stop 1) ∷ value (counted 1) ∷ [];
}

one_is_legal : Legal worked start 3 (record { element = move; time = 3 } ∷ []) after_one 3
unfolding covered needs_of outputs_of after
one_is_legal = (least_at_three start refl, refl, (after_one, refl, (refl, inl refl)))

ready_still : HasOutlook (monitored at_the_first) after_one 3 (record { ready_count = 1; next = Some 3 })
unfolding covered needs_of
ready_still = record { entries = entry 3 ∷ []; enabled = enabled_now after_one refl; ready_count_is = refl; next_is = refl }

stopped_run : IsRun (monitored at_the_first) one_shown
unfolding needs_of
stopped_run = record {
  state = stopped;
  reached = cut_led_to at_the_first 1 stopped stop_at_the_first;
  ends = record { none_open = refl; none_owed = refl; has_cause = refl };
  occurrences_are = refl;
  marking_is = refl;
  clock_is = refl;
  legal = one_is_legal;
  true_fault = tt;
  true_stop = refl;
  opening = opening at_the_first;
  closing = ready_still;
  values_are = refl;
}

-- that journal is the one of no run that ends by another cause
no_other_cause : (cause : PlainEnd) → IsRun (monitored at_the_first) (record one_shown { cause = cause }) → cause ≡ stopped_by 1
no_other_cause cause is =
    let same : is.state ≡ stopped = one_state (monitored at_the_first) (journal ++ cut_made 1 ∷ []) is.state stopped is.reached (cut_led_to at_the_first 1 stopped stop_at_the_first) in
    let ends = subst (λ s. EndsBy (monitored at_the_first) s cause) same is.ends in
    ends.has_cause

-- ---- after the second, which makes the last claim

abbrev at_the_last : List PlainMonitor
at_the_last = monitor (stops_by_count 0 2) ∷ monitor (stops_by_size 1 at_least 2) ∷ []

abbrev stopped_last : PlainState
stopped_last = stopped_with (done 0 ∷ done 1 ∷ []) (stop_cut 2 0)

stop_at_the_last : MayCut (monitored at_the_last) both_done 2 stopped_last
unfolding needs_of
stop_at_the_last = record { cut = stop_cut 2 0; due = inl refl; number_is = refl; new_is = refl }

-- it ends by the stop, and not for its claims; the first of the monitors is the cause
last_run : IsRun (monitored at_the_last) (record run { journal = journal ++ cut_made 2 ∷ []; cause = stopped_by 0; values = value (counted_to_stop 2) ∷ value (sized_to_stop 2) ∷ [] })
unfolding needs_of
last_run = record {
  state = stopped_last;
  reached = cut_led_to at_the_last 2 stopped_last stop_at_the_last;
  ends = record { none_open = refl; none_owed = refl; has_cause = refl };
  occurrences_are = refl;
  marking_is = refl;
  clock_is = refl;
  legal = legal;
  true_fault = tt;
  true_stop = refl;
  opening = opening at_the_last;
  closing = closing at_the_last;
  values_are = refl;
}

-- without the cut there is no run, for whatever cause
no_run_without_the_cut : (cause : PlainEnd) → IsRun (monitored at_the_last) (record run { cause = cause }) → ⊥
unfolding needs_of
no_run_without_the_cut cause is =
    let same : is.state ≡ both_done = one_state (monitored at_the_last) journal is.state both_done is.reached (both_led_to at_the_last) in
    let ends = subst (λ s. EndsBy (monitored at_the_last) s cause) same is.ends in
    let e : Some (stop_cut 2 0) ≡ None = ends.none_owed in
    cc
