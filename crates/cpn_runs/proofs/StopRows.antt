-- Worked cases of monitors that stop a run: which claims are committed, which cut is owed, and what it leaves; in the worked net, from two
-- tokens on place 0, at the clock 3.
use Rattle.std.proofs.Common.{inl, ◌≡◌, ℕ, List, [], ◌∷◌, Some, None, refl}
use Rattle.cpn_definitions.specs.Marking.{token_at}
use Rattle.cpn_definitions.specs.Outcome.{not_in_colour}
use Rattle.cpn_definitions.specs.Occurrence.{needs_of}
use Rattle.cpn_monitor.specs.Monitors.{PlainMeasure, counts, sizes, values, stops_by_count, stops_by_size, at_least, at_most}
use Rattle.cpn_runs.specs.HoleRun.{PlainClaim, done_with, faulted_with}
use Rattle.cpn_runs.specs.Run.{IsTrueStop}
use Rattle.cpn_runs.specs.State.{PlainSetup, PlainEvent, cut_made, PlainCut, PlainEnd, steps_made, stopped_by, PlainState, committed, settled_in, unclaimed_in, stop_in, owed_cut, MayCut, Happens, EndsBy}
use Rattle.cpn_runs.proofs.MeasuredRows.{monitor, faulty}
use Rattle.cpn_runs.proofs.Rows.{need, output, claim}
use Rattle.cpn_runs.proofs.States.{cut_happens_where_owed}
use Rattle.cpn_runs.proofs.TwoSeats.{monitored, with_claims, opened, done, no_fault}
use Rattle.cpn_runs.proofs.WorkedNet.{seven}

-- a setup with one monitor, and with two
abbrev pub by : PlainMeasure → PlainSetup
by measure = monitored (monitor measure ∷ [])

abbrev pub by_two : PlainMeasure → PlainMeasure → PlainSetup
by_two first second = monitored (monitor first ∷ monitor second ∷ [])

abbrev pub faulted : PlainClaim
faulted = record (opened 1) { status = faulted_with not_in_colour }

-- a cut after so many claims by the monitor of a number, and the state that it leaves
abbrev pub stop_cut : ℕ → ℕ → PlainCut
stop_cut k number = record { number = k; cause = stopped_by number }

abbrev pub stopped_with : List PlainClaim → PlainCut → PlainState
stopped_with claims cut = record { clock = 3; claims = claims; cut = Some cut }

-- ---- a stop while later claims are done

abbrev two_done : PlainState
two_done = with_claims (done 0 ∷ done 1 ∷ [])

-- the first occurrence stops the run: its claim is committed, and none after it
one_is_committed : committed (by (stops_by_count 0 1)) two_done ≡ 1
one_is_committed = refl

stop_is_seen : stop_in (by (stops_by_count 0 1)) two_done ≡ Some 0
stop_is_seen = refl

-- so the settled marking is the one after it, where 7 at 3 was taken, and not that of both
one_is_settled : settled_in (by (stops_by_count 0 1)) two_done ≡ Some ((token_at seven 0 ∷ []) ∷ (token_at seven 5 ∷ []) ∷ [])
unfolding needs_of
one_is_settled = refl

-- and a cut is owed after it
stop_is_owed : owed_cut (by (stops_by_count 0 1)) two_done ≡ Some (stop_cut 1 0)
stop_is_owed = refl

just_the_cut_happens : (event : PlainEvent) (new : PlainState) → Happens (by (stops_by_count 0 1)) two_done event new → event ≡ cut_made 1
just_the_cut_happens event new happens = cut_happens_where_owed (by (stops_by_count 0 1)) two_done (stop_cut 1 0) event new refl happens

-- it removes the later claim, and leaves the one that stops the run; then none is owed, and the run ends
abbrev pub stopped : PlainState
stopped = stopped_with (done 0 ∷ []) (stop_cut 1 0)

pub later_is_cut_off : MayCut (by (stops_by_count 0 1)) two_done 1 stopped
later_is_cut_off = record { cut = stop_cut 1 0; due = inl refl; number_is = refl; new_is = refl }

none_is_owed_then : owed_cut (by (stops_by_count 0 1)) stopped ≡ None
none_is_owed_then = refl

pub ends_by_the_stop : EndsBy (by (stops_by_count 0 1)) stopped (stopped_by 0)
ends_by_the_stop = record { none_open = refl; none_owed = refl; has_cause = refl }

-- what the later claim took is back
tokens_are_back : unclaimed_in (by (stops_by_count 0 1)) stopped ≡ Some ((token_at seven 0 ∷ []) ∷ (token_at seven 5 ∷ []) ∷ [])
unfolding needs_of
tokens_are_back = refl

-- the run does not end before the cut, nor by another monitor, nor for its claims, though all that may be made were
not_before_the_cut : (cause : PlainEnd) → EndsBy (by (stops_by_count 0 1)) two_done cause → ⊥
not_before_the_cut cause ends = let e : Some (stop_cut 1 0) ≡ None = ends.none_owed in cc

not_by_another : EndsBy (by (stops_by_count 0 1)) stopped (stopped_by 1) → ⊥
not_by_another ends = let e : stopped_by 1 ≡ stopped_by 0 = ends.has_cause in cc

not_for_its_claims : EndsBy (by (stops_by_count 0 1)) stopped steps_made → ⊥
not_for_its_claims ends = let e : steps_made ≡ stopped_by 0 = ends.has_cause in cc

-- and without a cut no stop is the cause
not_without_a_cut : (number : ℕ) → EndsBy (by (stops_by_count 0 9)) two_done (stopped_by number) → ⊥
not_without_a_cut number ends = ends.has_cause

-- a cut that stands for another monitor, or after more claims, is not the one that is owed
another_stands : owed_cut (by (stops_by_count 0 1)) (stopped_with (done 0 ∷ []) (stop_cut 1 7)) ≡ Some (stop_cut 1 0)
another_stands = refl

one_elsewhere_stands : owed_cut (by (stops_by_count 0 1)) (stopped_with (done 0 ∷ []) (stop_cut 2 0)) ≡ Some (stop_cut 1 0)
one_elsewhere_stands = refl

-- ---- a fault beside a stop

-- a fault after the stop owes none: the stop's cut is owed, and it removes the faulted claim
stop_before_a_fault : owed_cut (by (stops_by_count 0 1)) (with_claims (done 0 ∷ faulted ∷ [])) ≡ Some (stop_cut 1 0)
stop_before_a_fault = refl

-- so it is whatever claims come after it, how many they are and what becomes of them
whatever_comes_after : (later : List PlainClaim) → owed_cut (by (stops_by_count 0 1)) (with_claims (done 0 ∷ later)) ≡ Some (stop_cut 1 0)
whatever_comes_after later = refl

fault_is_cut_off : MayCut (by (stops_by_count 0 1)) (with_claims (done 0 ∷ faulted ∷ [])) 1 stopped
fault_is_cut_off = record { cut = stop_cut 1 0; due = inl refl; number_is = refl; new_is = refl }

-- where the occurrence does not stop the run, the cut of the fault is owed after it; and that of a fault ahead of all is owed too, as nothing has occurred
fault_without_a_stop : owed_cut (by (stops_by_count 0 2)) (with_claims (done 0 ∷ faulted ∷ [])) ≡ Some (record { number = 1; cause = no_fault })
fault_without_a_stop = refl

fault_before_a_stop : owed_cut (by (stops_by_count 0 1)) (with_claims (faulted ∷ done 0 ∷ [])) ≡ Some (record { number = 0; cause = no_fault })
fault_before_a_stop = refl

-- ---- two stops

-- at one occurrence the first of the monitors counts, with its number among all
first_of_two : owed_cut (by_two (stops_by_count 0 1) (stops_by_size 1 at_least 1)) two_done ≡ Some (stop_cut 1 0)
first_of_two = refl

second_alone : owed_cut (by_two (counts 0) (stops_by_count 0 1)) two_done ≡ Some (stop_cut 1 1)
second_alone = refl

-- at two occurrences the earlier one counts, though it is the later monitor's
earlier_of_two : owed_cut (by_two (stops_by_count 0 2) (stops_by_count 0 1)) two_done ≡ Some (stop_cut 1 1)
earlier_of_two = refl

-- ---- a stop is counted over committed claims

-- an open claim ahead: nothing is committed, and no stop is there
abbrev open_ahead : PlainState
open_ahead = with_claims (opened 0 ∷ done 1 ∷ [])

none_is_committed : committed (by (stops_by_count 0 1)) open_ahead ≡ 0
none_is_committed = refl

no_stop_yet : stop_in (by (stops_by_count 0 1)) open_ahead ≡ None
no_stop_yet = refl

none_is_owed_yet : owed_cut (by (stops_by_count 0 1)) open_ahead ≡ None
none_is_owed_yet = refl

-- nor by the size that the tokens on place 0 fall to, which the open claim has taken
no_size_yet : owed_cut (by (stops_by_size 0 at_most 1)) open_ahead ≡ None
no_size_yet = refl

-- an open claim in between is not counted: the second occurrence is still to come
open_between : owed_cut (by (stops_by_count 0 2)) (with_claims (done 0 ∷ opened 1 ∷ done 0 ∷ [])) ≡ None
open_between = refl

-- an open claim after the stop is cut off, too
open_after : owed_cut (by (stops_by_count 0 1)) (with_claims (done 0 ∷ opened 1 ∷ [])) ≡ Some (stop_cut 1 0)
open_after = refl

-- the second occurrence stops the run after both claims, of which none is removed
second_occurrence : committed (by (stops_by_count 0 2)) two_done ≡ 2
second_occurrence = refl

both_stay : MayCut (by (stops_by_count 0 2)) two_done 2 (stopped_with (done 0 ∷ done 1 ∷ []) (stop_cut 2 0))
both_stay = record { cut = stop_cut 2 0; due = inl refl; number_is = refl; new_is = refl }

-- of three claims, from three tokens, the second occurrence stops the run: by its number, and by the two tokens that it leaves on place 1
abbrev from_three : PlainMeasure → PlainSetup
from_three measure = record (by measure) { start = (token_at seven 0 ∷ token_at seven 0 ∷ token_at seven 3 ∷ []) ∷ [] ∷ [] }

abbrev three_done : PlainState
three_done = with_claims (done 0 ∷ done 1 ∷ done 0 ∷ [])

second_of_three : committed (from_three (stops_by_count 0 2)) three_done ≡ 2
second_of_three = refl

two_tokens_of_three : committed (from_three (stops_by_size 1 at_least 2)) three_done ≡ 2
unfolding needs_of
two_tokens_of_three = refl

third_is_cut_off : owed_cut (from_three (stops_by_size 1 at_least 2)) three_done ≡ Some (stop_cut 2 0)
unfolding needs_of
third_is_cut_off = refl

-- of four claims, from four tokens, the third occurrence stops the run: what came before the second counts still, and the fourth claim is removed
abbrev from_four : PlainMeasure → PlainSetup
from_four measure = record (by measure) { start = (token_at seven 0 ∷ token_at seven 0 ∷ token_at seven 0 ∷ token_at seven 3 ∷ []) ∷ [] ∷ [] }

abbrev four_done : PlainState
four_done = with_claims (done 0 ∷ done 1 ∷ done 0 ∷ done 1 ∷ [])

third_of_four : committed (from_four (stops_by_count 0 3)) four_done ≡ 3
third_of_four = refl

fourth_is_cut_off : owed_cut (from_four (stops_by_count 0 3)) four_done ≡ Some (stop_cut 3 0)
fourth_is_cut_off = refl

-- a third is not there of two, and a monitor that only measures stops nothing, also where its inscription has a fault
no_third : owed_cut (by (stops_by_count 0 3)) two_done ≡ None
no_third = refl

measures_alone : owed_cut (monitored (monitor (counts 0) ∷ monitor (sizes 0) ∷ monitor (values 0 faulty) ∷ [])) two_done ≡ None
measures_alone = refl

measured_are_committed : committed (monitored (monitor (counts 0) ∷ monitor (sizes 0) ∷ monitor (values 0 faulty) ∷ [])) two_done ≡ 2
measured_are_committed = refl

-- ---- sizes

-- place 1 has 1 token after the first occurrence, and 2 after the second; place 0 has 1 and 0
two_tokens : owed_cut (by (stops_by_size 1 at_least 2)) two_done ≡ Some (stop_cut 2 0)
unfolding needs_of
two_tokens = refl

no_tokens : owed_cut (by (stops_by_size 0 at_most 0)) two_done ≡ Some (stop_cut 2 0)
unfolding needs_of
no_tokens = refl

-- the start is no occurrence: at most none are on place 1 there, and 2 on place 0
not_at_the_start : owed_cut (by_two (stops_by_size 1 at_most 0) (stops_by_size 0 at_least 2)) two_done ≡ None
unfolding needs_of
not_at_the_start = refl

none_claimed : owed_cut (by (stops_by_size 0 at_least 2)) (with_claims []) ≡ None
none_claimed = refl

-- A place that no claim touches: it has two tokens on each side of the first occurrence, which stops the run where two are enough.
abbrev untouched : PlainMeasure → PlainSetup
untouched measure = record (by measure) { start = (token_at seven 0 ∷ []) ∷ [] ∷ (token_at seven 0 ∷ token_at seven 3 ∷ []) ∷ [] }

abbrev others_done : PlainState
others_done = with_claims (claim 0 3 (need 0 0 ∷ []) (done_with (output 1 5 ∷ [])) ∷ claim 1 3 [] (done_with []) ∷ [])

enough_there : owed_cut (untouched (stops_by_size 2 at_least 2)) others_done ≡ Some (stop_cut 1 0)
enough_there = refl

too_few_there : owed_cut (untouched (stops_by_size 2 at_least 3)) others_done ≡ None
too_few_there = refl

-- ---- a true stop

true_stop : IsTrueStop (by (stops_by_count 0 1)) stopped (stopped_by 0)
true_stop = refl

not_of_another_monitor : (number : ℕ) → IsTrueStop (by (stops_by_count 0 1)) stopped (stopped_by number) → number ≡ 0
not_of_another_monitor number is = let e : Some 0 ≡ Some number = is in cc

not_where_none_stops : (number : ℕ) → IsTrueStop (by (stops_by_count 0 9)) stopped (stopped_by number) → ⊥
not_where_none_stops number is = let e : None ≡ Some number = is in cc
