-- What monitors of each kind measure in states of a run in the worked net: while a claim is open, when the clock has moved, and when the
-- claim is committed; and the run that shows it.
use Rattle.std.proofs.Common.{◌≡◌, pos, List, [], ◌∷◌, Some, None, refl, ap, ◌∙◌, inl, arith}
use Rattle.std.specs.Prelude.{codes}
use Rattle.cpn_definitions.specs.Inscription.{PlainExpr, Functions, literal, apply, operation, calling, division, the_time, more_exprs, no_exprs}
use Rattle.cpn_definitions.specs.Occurrence.{covered, needs_of, outputs_of, after}
use Rattle.cpn_definitions.specs.Value.{int}
use Rattle.cpn_monitor.specs.MonitorValues.{PlainMonitorValue, PlainMeasured, counted, sized, valued, counted_to_stop, sized_to_stop}
use Rattle.cpn_monitor.specs.Monitors.{PlainMonitor, PlainMeasure, counts, sizes, values, stops_by_count, stops_by_size, at_least}
use Rattle.cpn_runs.specs.MeasuredStates.{values_in}
use Rattle.cpn_runs.specs.Run.{PlainFinished, IsRun}
use Rattle.cpn_runs.specs.State.{PlainState}
use Rattle.cpn_runs.proofs.MovedRows.{monitored, state, opened, done, moves_to_three, claims_at_three, completes_at_three, moved_shown}
use Rattle.cpn_runs.proofs.States.{one_state}
use Rattle.cpn_runs.proofs.TwoSeats as two
use Rattle.cpn_runs.proofs.WorkedNet.{worked, seven_at_three, moved, entry, covered_at_three, covered_no_earlier, after_three, least_is_three, one_is_enabled, moved_is_dead, none_is_enabled}

-- a monitor of some measure, and what it measured
abbrev pub monitor : PlainMeasure → PlainMonitor
monitor measure = record { name = codes "m"; measure = measure }

abbrev pub value : PlainMeasured → PlainMonitorValue
value measured = record { name = codes "m"; measured = measured }

-- 10 div 0, which has a fault at each occurrence
abbrev pub faulty : PlainExpr
faulty = apply (operation division) (more_exprs (literal (int (pos 10))) (more_exprs (literal (int (pos 0))) no_exprs))

-- ---- a run in which the clock moves from 0 to 3, and the element occurs there

-- what one monitor measures in a state
abbrev of_one : PlainMeasure → PlainState → List PlainMonitorValue
of_one measure s = values_in (monitored (monitor measure ∷ [])) s

abbrev at_start : PlainState
at_start = state 0 []

abbrev clock_moved : PlainState
clock_moved = state 3 []

abbrev with_open : PlainState
with_open = state 3 (opened ∷ [])

abbrev with_done : PlainState
with_done = state 3 (done ∷ [])

-- Place 0 has one token; from 0 to 3 that is a sum of 3. An open claim has taken it, but is not committed; then the token is gone.
size_at_start : of_one (sizes 0) at_start ≡ value (sized 1 1 1 0 0) ∷ []
size_at_start = refl

size_when_moved : of_one (sizes 0) clock_moved ≡ value (sized 1 1 1 3 3) ∷ []
size_when_moved = refl

size_with_open : of_one (sizes 0) with_open ≡ value (sized 1 1 1 3 3) ∷ []
size_with_open = refl

size_with_done : of_one (sizes 0) with_done ≡ value (sized 0 1 0 3 3) ∷ []
unfolding needs_of
size_with_done = refl

-- at a later clock, the last size has stood until then: on place 1 one token from 3 to 9
size_later : of_one (sizes 1) (state 9 (done ∷ [])) ≡ value (sized 0 1 1 6 9) ∷ []
unfolding needs_of
size_later = refl

count_with_open : of_one (counts 0) with_open ≡ value (counted 0) ∷ []
count_with_open = refl

count_with_done : of_one (counts 0) with_done ≡ value (counted 1) ∷ []
count_with_done = refl

-- the inscription is evaluated at the time of the occurrence, and not before
time_with_open : of_one (values 0 the_time) with_open ≡ value (valued 0 (pos 0) None None 0) ∷ []
time_with_open = refl

time_with_done : of_one (values 0 the_time) (state 9 (done ∷ [])) ≡ value (valued 1 (pos 3) (Some (pos 3)) (Some (pos 3)) 0) ∷ []
time_with_done = refl

fault_with_done : of_one (values 0 faulty) with_done ≡ value (valued 0 (pos 0) None None 1) ∷ []
fault_with_done = refl

-- by a function of the net
abbrev ten : Functions
ten = record { parameters = 0; body = literal (int (pos 10)) } ∷ []

by_its_function : values_in (record (monitored (monitor (values 0 (apply (calling 0) no_exprs)) ∷ [])) { net = record worked { functions = ten }; functions = ten }) with_done ≡ value (valued 1 (pos 10) (Some (pos 10)) (Some (pos 10)) 0) ∷ []
by_its_function = refl

stop_count_with_open : of_one (stops_by_count 0 2) with_open ≡ value (counted_to_stop 0) ∷ []
stop_count_with_open = refl

stop_count_with_done : of_one (stops_by_count 0 2) with_done ≡ value (counted_to_stop 1) ∷ []
stop_count_with_done = refl

-- before the first occurrence the start has its size, too
stop_size_at_start : of_one (stops_by_size 0 at_least 9) at_start ≡ value (sized_to_stop 1) ∷ []
stop_size_at_start = refl

stop_size_with_done : of_one (stops_by_size 0 at_least 9) with_done ≡ value (sized_to_stop 0) ∷ []
unfolding needs_of
stop_size_with_done = refl

-- ---- two seats, of which the second is done first

abbrev of_two : PlainMeasure → PlainState → List PlainMonitorValue
of_two measure s = values_in (two.monitored (monitor measure ∷ [])) s

-- after an open claim nothing is measured; then both are: place 1 has 0, 1 and 2 tokens
after_an_open_claim : of_two (counts 0) two.second_done ≡ value (counted 0) ∷ []
after_an_open_claim = refl

no_size_after_an_open_claim : of_two (sizes 1) two.second_done ≡ value (sized 0 0 0 0 3) ∷ []
no_size_after_an_open_claim = refl

both_count : of_two (counts 0) two.both_done ≡ value (counted 2) ∷ []
both_count = refl

both_sizes : of_two (sizes 1) two.both_done ≡ value (sized 0 2 2 0 3) ∷ []
unfolding needs_of
both_sizes = refl

both_values : of_two (values 0 the_time) two.both_done ≡ value (valued 2 (pos 6) (Some (pos 3)) (Some (pos 3)) 0) ∷ []
both_values = refl

-- ---- the run with a monitor of each kind, of which none stops it

abbrev pub each_kind : List PlainMonitor
each_kind = monitor (counts 0) ∷ monitor (sizes 0) ∷ monitor (values 0 the_time) ∷ monitor (values 0 faulty) ∷ monitor (stops_by_count 0 2) ∷ monitor (stops_by_size 1 at_least 2) ∷ []

abbrev their_values : List PlainMonitorValue
their_values =
    value (counted 1)
    ∷ value (sized 0 1 0 3 3)
    ∷ value (valued 1 (pos 3) (Some (pos 3)) (Some (pos 3)) 0)
    ∷ value (valued 0 (pos 0) None None 1)
    ∷ value (counted_to_stop 1)
    ∷ value (sized_to_stop 1)
    ∷ []

abbrev shown : PlainFinished
shown = record moved_shown { values = their_values }

measured_run : IsRun (monitored each_kind) shown
unfolding covered needs_of outputs_of after
measured_run = record {
  state = with_done;
  reached = (clock_moved, moves_to_three each_kind, (with_open, claims_at_three each_kind, (with_done, completes_at_three each_kind, refl)));
  ends = record { none_open = refl; none_owed = refl; has_cause = ((λ all. absurd (omega (arith, all))), (moved, refl, moved_is_dead)) };
  occurrences_are = refl;
  marking_is = refl;
  clock_is = refl;
  legal = (least_is_three, covered_at_three, (moved, after_three, (refl, inl refl)));
  true_fault = tt;
  true_stop = tt;
  opening = record { entries = entry 3 ∷ []; enabled = one_is_enabled seven_at_three 0 3 (omega arith) covered_at_three (λ s from below. covered_no_earlier s below); ready_count_is = refl; next_is = refl };
  closing = record { entries = []; enabled = none_is_enabled moved 3 moved_is_dead; ready_count_is = refl; next_is = refl };
  values_are = refl;
}

-- it shows no other values
its_values : (others : List PlainMonitorValue) → IsRun (monitored each_kind) (record moved_shown { values = others }) → others ≡ their_values
unfolding measured_run
its_values others is = is.values_are ∙ ap (values_in (monitored each_kind)) (one_state (monitored each_kind) moved_shown.journal is.state with_done is.reached measured_run.reached)
