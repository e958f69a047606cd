-- Setups of the worked net from which a run may start, and from which none may.
use Rattle.std.proofs.Common.{ℕ, zero, suc, ◌+◌, ◌<◌, ◌≤◌, ◌^◌, List, [], ◌∷◌, length, replicate, Contains, refl, arith}
use Rattle.std.proofs.lemmas.List.{length-replicate}
use Rattle.cpn_definitions.specs.Bounds.{last_stamp, IsBounded}
use Rattle.cpn_definitions.specs.Marking.{Marking, token_at}
use Rattle.cpn_definitions.specs.Meaning.{PlainBinding}
use Rattle.cpn_definitions.specs.Inscription.{Functions, literal, variable, one}
use Rattle.cpn_definitions.specs.Outcome.{HasMeaning}
use Rattle.cpn_definitions.specs.Occurrence.{transition_delay}
use Rattle.cpn_definitions.specs.Sound.{IsSoundTransition, IsSound, IsMarking}
use Rattle.cpn_definitions.specs.Terms.{terms_of}
use Rattle.cpn_definitions.specs.Times.{last_time}
use Rattle.cpn_definitions.specs.Value.{text}
use Rattle.cpn_monitor.specs.Fitting.{IsMeasurable, FitNet}
use Rattle.cpn_monitor.specs.Monitors.{PlainMonitor, PlainMeasure, counts, sizes, values, stops_by_count, stops_by_size, at_most}
use Rattle.cpn_runs.specs.Bounds.{most_steps, most_at_start}
use Rattle.cpn_runs.specs.Playable.{IsPlayable}
use Rattle.cpn_runs.specs.State.{PlainSetup}
use Rattle.cpn_runs.proofs.MeasuredRows.{monitor, each_kind}
use Rattle.cpn_runs.proofs.WorkedNet.{seven, digits, move_transition, worked}

-- ---- the net is sound

none_there : {A : Type 0} (x : A) → Contains [] x → ⊥
none_there x (k, below, is) = absurd (omega (arith, below))

seven_means : (b : PlainBinding) (time : ℕ) → HasMeaning (terms_of [] (one (literal seven)) digits b time)
seven_means b time none = cc

delay_means : (b : PlainBinding) (time : ℕ) → HasMeaning (transition_delay [] move_transition.delay b time)
delay_means b time none = cc

move_is_sound : IsSoundTransition worked move_transition
move_is_sound = record {
  listed = tt;
  declared = refl;
  bindable = λ x is. absurd (none_there x is);
  guard_means = λ b binding. tt;
  guard_solvable = record {
    guard_listed = λ x is. absurd (none_there x is);
    equations_mean = λ x e is. absurd (none_there is.conjunct is.is_conjunct);
  };
  delay_means = λ b time binding early. delay_means b time;
  few_arcs = omega arith;
  inputs_sound = (record { sound = record { place_known = omega arith; colour_is = refl; means = λ b time binding early. seven_means b time }; terms_are = refl }, tt);
  outputs_sound = (record { place_known = omega arith; colour_is = refl; means = λ b time binding early. seven_means b time }, tt);
}

pub worked_is_sound : IsSound worked
worked_is_sound = record { transitions_sound = (move_is_sound, tt); functions_closed = tt; few_places = omega arith; few_transitions = omega arith; few_variables = omega arith }

-- ---- setups from which a run may start

-- a 7 with a stamp on place 0
abbrev pub seven_at : ℕ → Marking
seven_at stamp = (token_at seven stamp ∷ []) ∷ [] ∷ []

abbrev starting_at : ℕ → PlainSetup
starting_at stamp = record { net = worked; start = seven_at stamp; clock = 9; limits = record { steps = 1000000; until = 2 ^ 62; seats = 64 }; functions = []; monitors = []; seed = 11 }

pub seven_is_marking : (stamp : ℕ) → IsMarking worked.places (seven_at stamp)
seven_is_marking stamp = ((tt, tt), refl, (tt, refl, tt))

seven_is_bounded : (stamp : ℕ) → IsBounded most_at_start (seven_at stamp)
seven_is_bounded stamp zero = omega arith
seven_is_bounded stamp (suc zero) = omega arith
seven_is_bounded stamp (suc (suc p)) = omega arith

-- the empty list of monitors fits the net
pub no_monitors : FitNet worked [] []
no_monitors = record { functions_are = refl; measurable = tt }

-- a monitor of each kind does, also one whose inscription has a fault at each occurrence
pub each_kind_fits : FitNet worked [] each_kind
each_kind_fits = record { functions_are = refl; measurable = (omega arith, (omega arith, ((omega arith, λ b time bound in_time. tt), ((omega arith, λ b time bound in_time. tt), (omega arith, (omega arith, tt)))))) }

-- a setup with functions and monitors
abbrev with_monitors : Functions → List PlainMonitor → PlainSetup → PlainSetup
with_monitors functions monitors setup = record setup { functions = functions; monitors = monitors }

-- with the most claims, the last time and the most seats, whatever the stamp, and with monitors that fit the net
playable_with : (stamp : ℕ) (monitors : List PlainMonitor) → FitNet worked [] monitors → IsPlayable (with_monitors [] monitors (starting_at stamp))
playable_with stamp monitors fit = record {
  sound = worked_is_sound;
  marking = seven_is_marking stamp;
  bounded = seven_is_bounded stamp;
  clock = omega arith;
  until = omega arith;
  steps = omega arith;
  some_seat = omega arith;
  few_seats = omega arith;
  monitors = fit;
}

playable : (stamp : ℕ) → IsPlayable (starting_at stamp)
playable stamp = playable_with stamp [] no_monitors

later_than_the_latest : IsPlayable (starting_at (last_stamp + 1))
later_than_the_latest = playable (last_stamp + 1)

with_each_kind : IsPlayable (with_monitors [] each_kind (starting_at 3))
with_each_kind = playable_with 3 each_kind each_kind_fits

-- ---- setups from which none may start

abbrev limited : ℕ → ℕ → ℕ → PlainSetup
limited steps until seats = record (starting_at 3) { limits = record { steps = steps; until = until; seats = seats } }

a_claim_too_many : IsPlayable (limited 1000001 9 1) → ⊥
a_claim_too_many is = let steps : 1000001 ≤ most_steps = is.steps in absurd (omega (arith, steps))

after_the_last_time : IsPlayable (limited 1 (2 ^ 62 + 1) 1) → ⊥
after_the_last_time is = let until : 2 ^ 62 + 1 ≤ last_time = is.until in absurd (omega (arith, until))

behind_its_clock : IsPlayable (limited 1 8 1) → ⊥
behind_its_clock is = let clock : 9 ≤ 8 = is.clock in absurd (omega (arith, clock))

no_seat : IsPlayable (limited 1 9 0) → ⊥
no_seat is = let seats : 0 < 0 = is.some_seat in absurd (omega (arith, seats))

a_seat_too_many : IsPlayable (limited 1 9 65) → ⊥
a_seat_too_many is = let seats : 65 ≤ 64 = is.few_seats in absurd (omega (arith, seats))

-- more than 2^47 tokens on a place
tokens_too_many : (number : ℕ) → 2 ^ 47 < number → IsPlayable (record (starting_at 3) { start = replicate number (token_at seven 3) ∷ [] ∷ [] }) → ⊥
tokens_too_many number more is =
    let few : length (replicate number (token_at seven 3)) ≤ most_at_start = is.bounded 0 in
    let many = length-replicate number (token_at seven 3) in
    absurd (omega (arith, few, many, more))

-- ---- monitors with which none may start

abbrev measuring : PlainMeasure → PlainSetup
measuring measure = with_monitors [] (monitor measure ∷ []) (starting_at 3)

must_be_measurable : (measure : PlainMeasure) → IsPlayable (measuring measure) → IsMeasurable worked measure
must_be_measurable measure is = is.monitors.measurable.0

-- of a transition or a place that the net does not have
no_transition_to_count : IsPlayable (measuring (counts 1)) → ⊥
no_transition_to_count is = let there : 1 < 1 = must_be_measurable (counts 1) is in absurd (omega (arith, there))

no_transition_to_stop_at : IsPlayable (measuring (stops_by_count 1 5)) → ⊥
no_transition_to_stop_at is = let there : 1 < 1 = must_be_measurable (stops_by_count 1 5) is in absurd (omega (arith, there))

no_transition_to_evaluate_at : IsPlayable (measuring (values 1 (literal seven))) → ⊥
no_transition_to_evaluate_at is = let there : 1 < 1 = (must_be_measurable (values 1 (literal seven)) is).0 in absurd (omega (arith, there))

no_place_to_look_at : IsPlayable (measuring (sizes 2)) → ⊥
no_place_to_look_at is = let there : 2 < 2 = must_be_measurable (sizes 2) is in absurd (omega (arith, there))

no_place_to_stop_at : IsPlayable (measuring (stops_by_size 2 at_most 0)) → ⊥
no_place_to_stop_at is = let there : 2 < 2 = must_be_measurable (stops_by_size 2 at_most 0) is in absurd (omega (arith, there))

-- by a string, and by a variable that the transition does not have
a_string : IsPlayable (measuring (values 0 (literal (text [])))) → ⊥
a_string is = (must_be_measurable (values 0 (literal (text []))) is).1 [] 0 refl (omega arith)

another_variable : IsPlayable (measuring (values 0 (variable 0))) → ⊥
another_variable is = (must_be_measurable (values 0 (variable 0)) is).1 [] 0 refl (omega arith)

-- with the second of two that does not fit
second_of_two : IsPlayable (with_monitors [] (monitor (counts 0) ∷ monitor (sizes 2) ∷ []) (starting_at 3)) → ⊥
second_of_two is = let there : 2 < 2 = is.monitors.measurable.1.0 in absurd (omega (arith, there))

-- with functions that are not the net's, though no monitor calls them
abbrev pub another_function : Functions
another_function = record { parameters = 0; body = literal seven } ∷ []

not_its_functions : IsPlayable (with_monitors another_function [] (starting_at 3)) → ⊥
not_its_functions is = let same = is.monitors.functions_are in cc
