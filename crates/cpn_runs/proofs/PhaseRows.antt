-- A phase of the worked net, setups from which the next may start, and setups from which it may not.
use Rattle.std.proofs.Common.{◌≡◌, ℕ, zero, suc, ◌<◌, ◌≤◌, [], ◌∷◌, ◌++◌, length, replicate, refl, sym, ap, ◌∙◌, inl, inr, arith}
use Rattle.std.proofs.lemmas.List.{length-replicate}
use Rattle.cpn_definitions.specs.Bounds.{IsBounded}
use Rattle.cpn_definitions.specs.Marking.{Marking, token_at}
use Rattle.cpn_definitions.specs.Terms.{most_tokens}
use Rattle.cpn_runs.specs.Phases.{PlainPhase, occurrences_of, IsInitialStart, IsNextStart, IsNextSetup, IsPhase, ArePhases}
use Rattle.cpn_runs.specs.Playable.{IsPlayable}
use Rattle.cpn_runs.specs.State.{PlainSetup, PlainState}
use Rattle.cpn_runs.proofs.GrownRuns.{phases_go_on}
use Rattle.cpn_monitor.specs.Monitors.{counts, stops_by_count}
use Rattle.cpn_runs.proofs.MeasuredRows.{monitor, each_kind}
use Rattle.cpn_runs.proofs.MovedRows.{setup, moved_shown, moved_run}
use Rattle.cpn_runs.proofs.PlayableRows.{worked_is_sound, seven_at, seven_is_marking, no_monitors, each_kind_fits, another_function}
use Rattle.cpn_runs.proofs.States.{one_state}
use Rattle.cpn_runs.proofs.WorkedNet.{seven, worked, seven_at_three, moved}

few_sevens : (stamp : ℕ) → IsBounded most_tokens (seven_at stamp)
few_sevens stamp zero = omega arith
few_sevens stamp (suc zero) = omega arith
few_sevens stamp (suc (suc p)) = omega arith

initial : (stamp : ℕ) → IsInitialStart worked.places (seven_at stamp) 0
initial stamp = record { marking = seven_is_marking stamp; few = few_sevens stamp; clock_is = refl }

-- ---- a phase

-- one occurrence from 7 at 3, where the clock moves to 3
abbrev phase : PlainPhase
phase = record { setup = setup 2 3; run = moved_shown }

first_phase : IsPhase worked.places 3 [] phase
first_phase = record {
  setup = record { sound = worked_is_sound; places_are = refl; start = inl (initial 3); until_is = refl; steps = omega arith; some_seat = omega arith; few_seats = omega arith; monitors = no_monitors };
  is_run = moved_run;
}

one_phase : ArePhases worked.places 3 (phase ∷ [])
one_phase = (first_phase, tt)

one_occurrence : occurrences_of (phase ∷ []) ≡ 1
one_occurrence = refl

-- occurrences are counted, and not phases
abbrev of_two : PlainPhase
of_two = record phase { run = record moved_shown { occurrences = moved_shown.occurrences ++ moved_shown.occurrences } }

two_occurrences : occurrences_of (of_two ∷ []) ≡ 2
two_occurrences = refl

three_occurrences : occurrences_of (of_two ∷ phase ∷ []) ≡ 3
three_occurrences = refl

-- ---- setups of the next one

abbrev next_from : Marking → ℕ → ℕ → ℕ → PlainSetup
next_from start clock steps until = record { net = worked; start = start; clock = clock; limits = record { steps = steps; until = until; seats = 64 }; functions = []; monitors = []; seed = 5 }

abbrev IsNext : PlainSetup → Type 0
IsNext next = IsNextSetup worked.places 3 (phase ∷ []) next

next_with : (start : Marking) (clock steps : ℕ) → IsNextStart worked.places (phase ∷ []) start clock → steps ≤ 999999 → IsNext (next_from start clock steps 3)
next_with start clock steps is few = record { sound = worked_is_sound; places_are = refl; start = is; until_is = refl; steps = omega (arith, few); some_seat = omega arith; few_seats = omega arith; monitors = no_monitors }

-- where the phase ended, with 7 at 5 on place 1, at clock 3, with the claims that it left
here : IsNext (next_from moved 3 999999 3)
here = next_with moved 3 999999 (inr (refl, refl)) (omega arith)

-- and so a run may start there
here_is_playable : IsPlayable (next_from moved 3 999999 3)
here_is_playable = phases_go_on worked.places 3 (phase ∷ []) (next_from moved 3 999999 3) (omega arith) one_phase here

-- at an initial marking, and at another one
initially : IsNext (next_from seven_at_three 0 999999 3)
initially = next_with seven_at_three 0 999999 (inl (initial 3)) (omega arith)

at_another_marking : IsNext (next_from (seven_at 8) 0 1 3)
at_another_marking = next_with (seven_at 8) 0 1 (inl (initial 8)) (omega arith)

-- with monitors that fit the net, whatever the phase had; and so a run may start with them
with_each_kind : IsNext (record (next_from moved 3 999999 3) { monitors = each_kind })
with_each_kind = record { sound = worked_is_sound; places_are = refl; start = inr (refl, refl); until_is = refl; steps = omega arith; some_seat = omega arith; few_seats = omega arith; monitors = each_kind_fits }

each_kind_is_playable : IsPlayable (record (next_from moved 3 999999 3) { monitors = each_kind })
each_kind_is_playable = phases_go_on worked.places 3 (phase ∷ []) (record (next_from moved 3 999999 3) { monitors = each_kind }) (omega arith) one_phase with_each_kind

-- ---- no setups of the next one

-- with one claim more
a_claim_too_many : IsNext (next_from moved 3 1000000 3) → ⊥
a_claim_too_many is = let steps = is.steps in omega (arith, steps)

-- up to another time
another_last_time : IsNext (next_from moved 3 999999 4) → ⊥
another_last_time is = let until : 4 ≡ 3 = is.until_is in omega (arith, until)

-- of a net with another place
another_place : IsNext (record (next_from moved 3 999999 3) { net = record worked { places = [] } }) → ⊥
another_place is = let places = ap length is.places_are in cc

no_seat : IsNext (record (next_from moved 3 999999 3) { limits = record { steps = 999999; until = 3; seats = 0 } }) → ⊥
no_seat is = let seats : 0 < 0 = is.some_seat in omega (arith, seats)

a_seat_too_many : IsNext (record (next_from moved 3 999999 3) { limits = record { steps = 999999; until = 3; seats = 65 } }) → ⊥
a_seat_too_many is = let seats : 65 ≤ 64 = is.few_seats in omega (arith, seats)

-- with a monitor of a transition that the net does not have, and with functions that are not the net's
no_transition_to_stop_at : IsNext (record (next_from moved 3 999999 3) { monitors = monitor (stops_by_count 1 5) ∷ [] }) → ⊥
no_transition_to_stop_at is = let there : 1 < 1 = is.monitors.measurable.0 in absurd (omega (arith, there))

not_its_functions : IsNext (record (next_from moved 3 999999 3) { functions = another_function; monitors = monitor (counts 0) ∷ [] }) → ⊥
not_its_functions is = let same = is.monitors.functions_are in cc

-- where the phase ended, but at clock 0 or 2 or with another token: that is where it ended neither, nor initial
not_at_another_clock : (clock : ℕ) → 0 < clock → clock < 3 → IsNextStart worked.places (phase ∷ []) moved clock → ⊥
not_at_another_clock clock above below (inl is) = let none = is.clock_is in omega (arith, none, above)
not_at_another_clock clock above below (inr is) = let end = is.1 in omega (arith, end, below)

not_with_another_token : IsNextStart worked.places (phase ∷ []) (seven_at 8) 3 → ⊥
not_with_another_token (inl is) = let none : 3 ≡ 0 = is.clock_is in omega (arith, none)
not_with_another_token (inr is) = let same : seven_at 8 ≡ moved = is.0 in cc

-- the first phase starts initially
not_where_none_ended : IsNextStart worked.places [] moved 3 → ⊥
not_where_none_ended (inl is) = let none : 3 ≡ 0 = is.clock_is in omega (arith, none)
not_where_none_ended (inr is) = is

-- an initial marking has no place too few, and at most 65,536 tokens on each
not_of_another_place : IsInitialStart worked.places [] 0 → ⊥
not_of_another_place is = is.marking

sevens : ℕ → Marking
sevens number = replicate number (token_at seven 3) ∷ [] ∷ []

not_with_tokens_too_many : (number : ℕ) → 65536 < number → IsInitialStart worked.places (sevens number) 0 → ⊥
unfolding sevens
not_with_tokens_too_many number more is =
    let few : length (replicate number (token_at seven 3)) ≤ most_tokens = is.few 0 in
    let many = length-replicate number (token_at seven 3) in
    omega (arith, few, many, more)

-- ---- phases, and what is none

-- the same phase again, which starts at the initial marking
once_more : ArePhases worked.places 3 (phase ∷ phase ∷ [])
once_more = (record { setup = record { sound = worked_is_sound; places_are = refl; start = inl (initial 3); until_is = refl; steps = omega arith; some_seat = omega arith; few_seats = omega arith; monitors = no_monitors }; is_run = moved_run }, one_phase)

-- what is shown is no run of the setup: it ended at clock 3, and not at 4
not_with_another_end : IsPhase worked.places 3 [] (record { setup = setup 2 3; run = record moved_shown { clock = 4 } }) → ⊥
not_with_another_end is =
    let clock : 4 ≡ is.is_run.state.clock = is.is_run.clock_is in
    let same : is.is_run.state.clock ≡ 3 = ap (λ (s : PlainState). s.clock) (one_state (setup 2 3) moved_shown.journal is.is_run.state moved_run.state is.is_run.reached moved_run.reached) ∙ sym moved_run.clock_is in
    omega (arith, clock, same)
