-- Worked cases of claims: what they take and leave, which of them are committed, and which cut is owed; and of the draws.
use Rattle.std.proofs.Common.{◌≡◌, ℕ, pos, true, false, List, [], ◌∷◌, Some, None, refl}
use Rattle.rand_core.specs.Steps.{u32_at, word_bytes}
use Rattle.rand_core.specs.Pcg32Seed.{pcg32_seed}
use Rattle.cpn_definitions.specs.Value.{PlainValue, int}
use Rattle.cpn_definitions.specs.Marking.{Marking, token_at}
use Rattle.cpn_definitions.specs.Outcome.{gives, faults, no_meaning, not_in_colour, overflow}
use Rattle.cpn_definitions.specs.Occurrence.{PlainElement, Needed, Made}
use Rattle.cpn_draw.specs.Draw.{generator, word}
use Rattle.cpn_tmset.specs.Stamps.{latest_stamp}
use Rattle.cpn_runs.specs.HoleRun.{PlainClaim, Status, open_claim, done_with, faulted_with, PlainPick, hole_run, marking_left, unclaimed, settled}
use Rattle.cpn_definitions.specs.Enabled.{PlainEntry}
use Rattle.cpn_runs.specs.State.{PlainSetup, PlainState, IsDrawn, fault_end, committed, owed_cut, is_held_by, status_after, committed_occurrences}

-- the value 7, and a need, an output and a pick of it on a place
abbrev pub seven : PlainValue
seven = int (pos 7)

abbrev pub need : ℕ → ℕ → Needed
need place offset = record { place = place; value = seven; offset = offset }

abbrev pub output : ℕ → ℕ → Made
output place stamp = record { place = place; value = seven; stamp = stamp }

abbrev pub pick : ℕ → ℕ → ℕ → PlainPick
pick place threshold stamp = record { place = place; value = seven; threshold = threshold; stamp = stamp }

-- an element, and a claim on it of a seat at a time
abbrev pub element : PlainElement
element = record { transition = 4; binding = [] }

abbrev pub claim : ℕ → ℕ → List Needed → Status → PlainClaim
claim seat time needs status = record { seat = seat; element = element; time = time; needs = needs; status = status }

-- 7 at 0 and 7 at 3 on place 0, and nothing on place 1
abbrev start : Marking
start = (token_at seven 0 ∷ token_at seven 3 ∷ []) ∷ [] ∷ []

-- ---- what claims take and leave

-- the latest stamp that is not above the threshold
latest_by_four : latest_stamp 4 (0 ∷ 3 ∷ 5 ∷ []) ≡ 3
latest_by_four = refl

-- an open claim of seat 0 before one of seat 1 that is done: each has taken its token, and one was added
open_before_done : hole_run start (claim 0 5 (need 0 0 ∷ []) open_claim ∷ claim 1 5 (need 0 0 ∷ []) (done_with (output 1 9 ∷ [])) ∷ []) ≡ Some (record { marking = [] ∷ (token_at seven 9 ∷ []) ∷ []; picks = (pick 0 5 3 ∷ []) ∷ (pick 0 5 0 ∷ []) ∷ [] })
open_before_done = refl

-- The first of two claims is completed after the second. What it adds at 4 the second claim takes, as if the first had been
-- completed before, where its time is 5; where its time is 3, it keeps the token at 0.
completed_later : hole_run start (claim 0 5 (need 0 0 ∷ []) (done_with (output 0 4 ∷ [])) ∷ claim 1 5 (need 0 0 ∷ []) (done_with (output 1 9 ∷ [])) ∷ []) ≡ Some (record { marking = (token_at seven 0 ∷ []) ∷ (token_at seven 9 ∷ []) ∷ []; picks = (pick 0 5 3 ∷ []) ∷ (pick 0 5 4 ∷ []) ∷ [] })
completed_later = refl

completed_too_late : hole_run start (claim 0 3 (need 0 0 ∷ []) (done_with (output 0 4 ∷ [])) ∷ claim 1 3 (need 0 0 ∷ []) (done_with (output 1 9 ∷ [])) ∷ []) ≡ Some (record { marking = (token_at seven 4 ∷ []) ∷ (token_at seven 9 ∷ []) ∷ []; picks = (pick 0 3 3 ∷ []) ∷ (pick 0 3 0 ∷ []) ∷ [] })
completed_too_late = refl

-- two needs of one claim: the thresholds are 1 and 4, in the order of the needs, and each takes the latest that it may
two_needs : hole_run start (claim 0 1 (need 0 0 ∷ need 0 3 ∷ []) open_claim ∷ []) ≡ Some (record { marking = [] ∷ [] ∷ []; picks = (pick 0 1 0 ∷ pick 0 4 3 ∷ []) ∷ [] })
two_needs = refl

-- two needs with one threshold take the latest, and then the latest that is left
two_alike : hole_run start (claim 0 5 (need 0 0 ∷ need 0 0 ∷ []) open_claim ∷ []) ≡ Some (record { marking = [] ∷ [] ∷ []; picks = (pick 0 5 3 ∷ pick 0 5 0 ∷ []) ∷ [] })
two_alike = refl

-- at 2 the token at 3 is not covered, so two needs are not; nor is a third need at any time
not_yet_covered : hole_run start (claim 0 2 (need 0 0 ∷ need 0 0 ∷ []) open_claim ∷ []) ≡ None
not_yet_covered = refl

covered_at_three : marking_left start (claim 0 3 (need 0 0 ∷ need 0 0 ∷ []) open_claim ∷ []) ≡ Some ([] ∷ [] ∷ [])
covered_at_three = refl

too_many_needs : hole_run start (claim 0 9 (need 0 0 ∷ []) open_claim ∷ claim 1 9 (need 0 0 ∷ need 0 0 ∷ []) open_claim ∷ []) ≡ None
too_many_needs = refl

-- a claim that is not covered is not passed over
not_passed_over : unclaimed start (claim 0 2 (need 1 0 ∷ []) open_claim ∷ claim 1 5 (need 0 0 ∷ []) open_claim ∷ []) ≡ None
not_passed_over = refl

-- an open claim adds nothing, one that is done adds its outputs, and one with a fault adds nothing
open_adds_nothing : unclaimed start (claim 0 5 [] open_claim ∷ []) ≡ Some start
open_adds_nothing = refl

done_adds_its_outputs : unclaimed start (claim 0 5 [] (done_with (output 0 1 ∷ output 1 6 ∷ [])) ∷ []) ≡ Some ((token_at seven 0 ∷ token_at seven 1 ∷ token_at seven 3 ∷ []) ∷ (token_at seven 6 ∷ []) ∷ [])
done_adds_its_outputs = refl

fault_adds_nothing : unclaimed start (claim 0 5 (need 0 0 ∷ []) (faulted_with overflow) ∷ []) ≡ Some ((token_at seven 0 ∷ []) ∷ [] ∷ [])
fault_adds_nothing = refl

-- ---- which claims are committed

abbrev state_of : List PlainClaim → PlainState
state_of claims = record { clock = 5; claims = claims; cut = None }

-- a setup without monitors
abbrev unmonitored : PlainSetup → PlainSetup
unmonitored setup = record setup { monitors = [] }

-- one that is done, then a hole, then one that is done
abbrev at_a_hole : PlainState
at_a_hole = state_of (claim 0 5 (need 0 0 ∷ []) (done_with (output 1 6 ∷ [])) ∷ claim 0 5 [] open_claim ∷ claim 1 5 (need 0 0 ∷ []) (done_with (output 1 8 ∷ [])) ∷ [])

one_is_committed : (setup : PlainSetup) → committed (unmonitored setup) at_a_hole ≡ 1
one_is_committed setup = refl

one_occurrence : (setup : PlainSetup) → committed_occurrences (unmonitored setup) at_a_hole ≡ record { number = 0; time = 5; element = element } ∷ []
one_occurrence setup = refl

settled_at_a_hole : settled start 1 at_a_hole.claims ≡ Some ((token_at seven 0 ∷ []) ∷ (token_at seven 6 ∷ []) ∷ [])
settled_at_a_hole = refl

unclaimed_past_it : unclaimed start at_a_hole.claims ≡ Some ([] ∷ (token_at seven 6 ∷ token_at seven 8 ∷ []) ∷ [])
unclaimed_past_it = refl

none_is_committed : (setup : PlainSetup) → committed (unmonitored setup) (state_of (claim 0 5 [] (faulted_with overflow) ∷ claim 1 5 [] (done_with []) ∷ [])) ≡ 0
none_is_committed setup = refl

numbers_from_0 : (setup : PlainSetup) → committed_occurrences (unmonitored setup) (state_of (claim 0 5 [] (done_with []) ∷ claim 1 5 [] (done_with []) ∷ [])) ≡ record { number = 0; time = 5; element = element } ∷ record { number = 1; time = 5; element = element } ∷ []
numbers_from_0 setup = refl

-- ---- which cut is owed

-- the first claim that is not committed has a fault: the cut has its number and the fault as its cause
cut_is_owed : (setup : PlainSetup) → owed_cut (unmonitored setup) (state_of (claim 0 5 [] (done_with []) ∷ claim 1 5 [] (faulted_with not_in_colour) ∷ claim 0 5 [] (faulted_with overflow) ∷ [])) ≡ Some (record { number = 1; cause = fault_end element not_in_colour })
cut_is_owed setup = refl

-- behind an open claim a fault owes none yet; and none is owed where each claim is done
none_behind_a_hole : (setup : PlainSetup) → owed_cut (unmonitored setup) (state_of (claim 0 5 [] (done_with []) ∷ claim 1 5 [] open_claim ∷ claim 0 5 [] (faulted_with overflow) ∷ [])) ≡ None
none_behind_a_hole setup = refl

none_where_done : (setup : PlainSetup) → owed_cut (unmonitored setup) (state_of (claim 0 5 [] (done_with []) ∷ claim 1 5 [] (done_with []) ∷ [])) ≡ None
none_where_done setup = refl

-- ---- what becomes of a claim

outputs_make_it_done : status_after (gives (output 0 4 ∷ [])) ≡ Some (done_with (output 0 4 ∷ []))
outputs_make_it_done = refl

fault_makes_it_faulted : status_after (faults not_in_colour) ≡ Some (faulted_with not_in_colour)
fault_makes_it_faulted = refl

no_meaning_makes_nothing : status_after no_meaning ≡ None
no_meaning_makes_nothing = refl

open_is_held : is_held_by 1 (claim 1 5 [] open_claim) ≡ true
open_is_held = refl

not_of_another_seat : is_held_by 0 (claim 1 5 [] open_claim) ≡ false
not_of_another_seat = refl

done_is_not_held : is_held_by 1 (claim 1 5 [] (done_with [])) ≡ false
done_is_not_held = refl

faulted_is_not_held : is_held_by 1 (claim 1 5 [] (faulted_with overflow)) ≡ false
faulted_is_not_held = refl

-- ---- what is drawn

abbrev ready_entry : ℕ → PlainEntry
ready_entry t = record { earliest = 0; element = record { transition = t; binding = [] } }

-- of seven ready elements word 0 draws the one at 3, the remainder of 2354861276966075475
drawn_of_seven : IsDrawn 0 0 (ready_entry 0 ∷ ready_entry 1 ∷ ready_entry 2 ∷ ready_entry 3 ∷ ready_entry 4 ∷ ready_entry 5 ∷ ready_entry 6 ∷ []) (ready_entry 3)
unfolding word generator pcg32_seed word_bytes u32_at
drawn_of_seven = refl
