-- Worked sessions: the setups of their runs, and which runs they have.
use Rattle.std.proofs.Common.{◌≡◌, ℕ, ◌-◌, ◌^◌, inl, inr, List, [], ◌∷◌, refl, ap, pos, false, arith}
use Rattle.std.specs.Prelude.{None}
use Rattle.cpn_definitions.specs.Inscription.{literal}
use Rattle.cpn_definitions.specs.Marking.{Marking, Tokens, token_at}
use Rattle.cpn_definitions.specs.Net.{PlainNet, PlainTransition, no_transition}
use Rattle.cpn_definitions.specs.Value.{boolean, int}
use Rattle.cpn_document.specs.declared.document.Start.TheVariants as starts
use Rattle.cpn_edit_texts.specs.Edits.{EditedPhase, edits_guard, edits_initial}
use Rattle.cpn_model.specs.Reading.{PlainModel}
use Rattle.cpn_runs.specs.Phases.{PlainPhase}
use Rattle.cpn_runs.specs.State.{PlainSetup, PlainEnd, dead, steps_made, until_passed, stopped_by, fault_end, wants_memory}
use Rattle.cpn_definitions.specs.Legal.{PlainOccurrence}
use Rattle.cpn_definitions.specs.Outcome.{overflow}
use Rattle.cpn_typing.specs.Names.{Declared}
use Rattle.cpn_edit.specs.Sessions.{SessionLimits, PlainSession, phases_run, session_of, after_edit, after_phase, setup_of, StartsAt, IsFault, AreRuns}

abbrev no_net : PlainNet
no_net = record { places = []; transitions = []; variables = []; constants = []; constructors = []; functions = [] }

abbrev an_occurrence : PlainOccurrence
an_occurrence = record { number = 0; time = 0; element = record { transition = 0; binding = [] } }

abbrev a_setup : PlainSetup
a_setup = record { net = no_net; start = []; clock = 0; limits = record { steps = 3; until = 9; seats = 1 }; functions = []; monitors = []; seed = 0 }

-- a run of two occurrences that ended so, at clock 5
abbrev run_to : PlainEnd → PlainPhase
run_to cause = record {
  setup = a_setup;
  run = record {
    opening = record { ready_count = 0; next = None };
    journal = [];
    occurrences = an_occurrence ∷ an_occurrence ∷ [];
    marking = [] ∷ [];
    clock = 5;
    cause = cause;
    closing = record { ready_count = 0; next = None };
    values = [];
  };
}

module _ (ds : Declared) where
  -- a session of three occurrences with the greatest seed, after these runs, with these phases left
  abbrev session_with : List EditedPhase → List PlainPhase → PlainSession
  session_with phases earlier = record { limits = record { seed = 2 ^ 64 - 1; steps = 3; until = 9; seats = 1 }; declared = ds; net = no_net; initial = []; monitors = []; phases = phases; earlier = earlier }

  abbrev from_here : EditedPhase
  from_here = record { start = starts.Here; edits = [] }

  one_occurrence_is_left : (setup_of (session_with [] (run_to dead ∷ [])) [] 0).limits.steps ≡ 1
  one_occurrence_is_left = refl

  none_is_left : (setup_of (session_with [] (run_to dead ∷ run_to dead ∷ [])) [] 0).limits.steps ≡ 0
  none_is_left = refl

  the_first_seed : (setup_of (session_with [] []) [] 0).seed ≡ 2 ^ 64 - 1
  the_first_seed = refl

  the_seed_after_the_greatest : (setup_of (session_with [] (run_to dead ∷ [])) [] 0).seed ≡ 0
  the_seed_after_the_greatest = refl

  the_seed_after_two_runs : (setup_of (session_with [] (run_to dead ∷ run_to dead ∷ [])) [] 0).seed ≡ 1
  the_seed_after_two_runs = refl

  one_phase_where_none_is_written : phases_run [] ≡ record { start = starts.Initial; edits = [] } ∷ []
  one_phase_where_none_is_written = refl

  here_is_where_the_latest_ended : StartsAt (session_with [] (run_to dead ∷ [])) starts.Here ([] ∷ []) 5
  here_is_where_the_latest_ended = (refl, refl)

  here_is_not_at_clock_0 : StartsAt (session_with [] (run_to dead ∷ [])) starts.Here ([] ∷ []) 0 → ⊥
  here_is_not_at_clock_0 (start, clock) = omega (arith, clock)

  here_wants_a_run : (start : Marking) (clock : ℕ) → StartsAt (session_with [] []) starts.Here start clock → ⊥
  here_wants_a_run start clock none = none

  initial_is_at_clock_0 : StartsAt (session_with [] (run_to dead ∷ [])) starts.Initial [] 5 → ⊥
  initial_is_at_clock_0 (start, clock) = omega (arith, clock)

  no_run_is_left : AreRuns (session_with [] (run_to dead ∷ [])) []
  unfolding AreRuns
  no_run_is_left = inl refl

  none_after_a_fault : AreRuns (session_with (from_here ∷ []) (run_to (fault_end (record { transition = 0; binding = [] }) overflow) ∷ [])) []
  unfolding AreRuns
  none_after_a_fault = inr tt

  a_run_after_a_fault : (run : PlainPhase) (runs : List PlainPhase) → AreRuns (session_with (from_here ∷ []) (run_to (fault_end (record { transition = 0; binding = [] }) overflow) ∷ [])) (run ∷ runs) → ⊥
  unfolding AreRuns
  a_run_after_a_fault run runs (phase, left, are, no_fault, next, ends, others) = no_fault tt

  a_run_that_wants_memory : (runs : List PlainPhase) → AreRuns (session_with (from_here ∷ []) (run_to dead ∷ [])) (run_to wants_memory ∷ runs) → ⊥
  unfolding AreRuns
  a_run_that_wants_memory runs (phase, left, are, no_fault, next, ends, others) = ends refl

  nothing_is_left : from_here ∷ [] ≡ [] → ⊥
  nothing_is_left none = cc

  a_phase_without_a_run : AreRuns (session_with (from_here ∷ []) (run_to dead ∷ [])) [] → ⊥
  unfolding AreRuns
  a_phase_without_a_run (inl none) = nothing_is_left none
  a_phase_without_a_run (inr fault) = fault

  -- ---- what a session begins with, and what edits leave

  abbrev seven : Tokens
  seven = token_at (int (pos 7)) 0 ∷ []

  -- a net of one transition, and the same with a guard that is `false`
  abbrev with_transition : PlainTransition → PlainNet
  with_transition t = record no_net { transitions = t ∷ [] }

  abbrev guarded : PlainTransition
  guarded = record no_transition { guard = literal (boolean false) ∷ [] }

  abbrev of_one_transition : PlainSession
  of_one_transition = record (session_with [] []) { net = with_transition no_transition; initial = [] ∷ [] }

  edits_of_a_phase_change_the_initial_marking : (after_phase of_one_transition (record { start = starts.Here; edits = edits_initial 0 seven ∷ [] }) []).initial ≡ seven ∷ []
  edits_of_a_phase_change_the_initial_marking = refl

  and_the_net : (after_phase of_one_transition (record { start = starts.Here; edits = edits_guard 0 guarded ∷ [] }) []).net ≡ with_transition guarded
  and_the_net = refl

  so_does_an_edit_alone : (after_edit of_one_transition (edits_guard 0 guarded)).net ≡ with_transition guarded
  so_does_an_edit_alone = refl

  and_its_initial_marking : (after_edit of_one_transition (edits_initial 0 seven)).initial ≡ seven ∷ []
  and_its_initial_marking = refl

  a_model_without_phases_has_one : (limits : SessionLimits) (model : PlainModel) → model.phases ≡ [] → (session_of limits model).phases ≡ record { start = starts.Initial; edits = [] } ∷ []
  a_model_without_phases_has_one limits model none = ap phases_run none

  its_phases_are_those_written : (limits : SessionLimits) (model : PlainModel) → model.phases ≡ from_here ∷ [] → (session_of limits model).phases ≡ from_here ∷ []
  its_phases_are_those_written limits model one = ap phases_run one

  -- the setup of a run has the seats and the last time of the session
  abbrev of_seats : ℕ → ℕ → PlainSession
  of_seats seats until = record (session_with [] []) { limits = record { seed = 0; steps = 3; until = until; seats = seats } }

  its_seats : (seats : ℕ) → (setup_of (of_seats seats 9) [] 0).limits.seats ≡ seats
  its_seats seats = refl

  its_last_time : (until : ℕ) → (setup_of (of_seats 1 until) [] 0).limits.until ≡ until
  its_last_time until = refl

-- ---- which ends are faults: that a run would pass the last time is none, nor is a stop

no_fault_by_time : (time : ℕ) → IsFault (until_passed time) → ⊥
no_fault_by_time time fault = fault

no_fault_by_a_stop : (monitor : ℕ) → IsFault (stopped_by monitor) → ⊥
no_fault_by_a_stop monitor fault = fault

no_fault_by_steps : IsFault steps_made → ⊥
no_fault_by_steps fault = fault

a_fault : IsFault (fault_end (record { transition = 0; binding = [] }) overflow)
a_fault = tt
