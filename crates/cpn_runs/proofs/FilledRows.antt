-- Worked cases of holes that are filled: which tokens later claims take in exchange, and which are left over.
use Rattle.std.proofs.Common.{◌≡◌, pos, List, [], ◌∷◌, Some, refl}
use Rattle.cpn_definitions.specs.Value.{int}
use Rattle.cpn_definitions.specs.Marking.{Marking, token_at}
use Rattle.cpn_runs.specs.HoleRun.{PlainClaim, open_claim, done_with, PlainPick, PlainHoleRun, hole_run}
use Rattle.cpn_runs.specs.Filling.{picks_after, carried_past, left_over, filled_run}
use Rattle.cpn_runs.proofs.Rows.{seven, need, output, pick, claim}

-- ---- one output

-- 7 at 3 on place 0, and nothing on place 1
abbrev start : Marking
start = (token_at seven 3 ∷ []) ∷ [] ∷ []

-- a hole, and behind it a claim that takes 7 from place 0 by the threshold 5
abbrev taker : PlainClaim
taker = claim 1 5 (need 0 0 ∷ []) (done_with (output 1 9 ∷ []))

abbrev run : PlainHoleRun
run = record { marking = [] ∷ (token_at seven 9 ∷ []) ∷ []; picks = [] ∷ (pick 0 5 3 ∷ []) ∷ [] }

with_a_hole : hole_run start (claim 0 5 [] open_claim ∷ taker ∷ []) ≡ Some run
with_a_hole = refl

-- filled with 7 at 5: the later claim takes it in exchange for the one at 3, which is left over
five_is_taken : filled_run 0 (output 0 5 ∷ []) run ≡ record { marking = (token_at seven 3 ∷ []) ∷ (token_at seven 9 ∷ []) ∷ []; picks = [] ∷ (pick 0 5 5 ∷ []) ∷ [] }
five_is_taken = refl

so_it_was_from_the_start : hole_run start (claim 0 5 [] (done_with (output 0 5 ∷ [])) ∷ taker ∷ []) ≡ Some (filled_run 0 (output 0 5 ∷ []) run)
so_it_was_from_the_start = refl

-- filled with 7 at 6, above the threshold, or at 2, earlier than the one that was taken: the pick stays
six_is_left : filled_run 0 (output 0 6 ∷ []) run ≡ record { marking = (token_at seven 6 ∷ []) ∷ (token_at seven 9 ∷ []) ∷ []; picks = [] ∷ (pick 0 5 3 ∷ []) ∷ [] }
six_is_left = refl

two_is_left : filled_run 0 (output 0 2 ∷ []) run ≡ record { marking = (token_at seven 2 ∷ []) ∷ (token_at seven 9 ∷ []) ∷ []; picks = [] ∷ (pick 0 5 3 ∷ []) ∷ [] }
two_is_left = refl

-- a token of another value, or on another place, is carried past it as it is
other_value_is_left : left_over 0 (record { place = 0; value = int (pos 8); stamp = 5 } ∷ []) run ≡ record { place = 0; value = int (pos 8); stamp = 5 } ∷ []
other_value_is_left = refl

other_place_is_left : left_over 0 (output 1 5 ∷ []) run ≡ output 1 5 ∷ []
other_place_is_left = refl

-- the claim itself does not take its own output
own_output_is_left : filled_run 1 (output 0 5 ∷ []) run ≡ record { marking = (token_at seven 5 ∷ []) ∷ (token_at seven 9 ∷ []) ∷ []; picks = [] ∷ (pick 0 5 3 ∷ []) ∷ [] }
own_output_is_left = refl

-- on an untimed place each stamp is 0: the pick stays, and the output is left over
untimed_is_left : carried_past (output 0 0 ∷ []) ((pick 0 5 0 ∷ []) ∷ []) ≡ output 0 0 ∷ []
untimed_is_left = refl

untimed_pick_stays : picks_after (output 0 0 ∷ []) ((pick 0 5 0 ∷ []) ∷ []) ≡ (pick 0 5 0 ∷ []) ∷ []
untimed_pick_stays = refl

-- ---- two outputs and two later claims

-- 7 at 1 and 7 at 3: the first later claim took 3 by the threshold 5, the second took 1 by the threshold 4
abbrev two_later : List (List PlainPick)
two_later = (pick 0 5 3 ∷ []) ∷ (pick 0 4 1 ∷ []) ∷ []

-- an output at 4 is taken by the first, its 3 by the second, and 1 is left over
four_leaves_one : carried_past (output 0 4 ∷ []) two_later ≡ output 0 1 ∷ []
four_leaves_one = refl

picks_past_four : picks_after (output 0 4 ∷ []) two_later ≡ (pick 0 5 4 ∷ []) ∷ (pick 0 4 3 ∷ []) ∷ []
picks_past_four = refl

-- one more at 5 is then taken by the first, its 4 by the second, and 3 is left over
five_leaves_three : carried_past (output 0 4 ∷ output 0 5 ∷ []) two_later ≡ output 0 1 ∷ output 0 3 ∷ []
five_leaves_three = refl

picks_past_both : picks_after (output 0 4 ∷ output 0 5 ∷ []) two_later ≡ (pick 0 5 5 ∷ []) ∷ (pick 0 4 4 ∷ []) ∷ []
picks_past_both = refl

-- so it is where the claims are run anew: a claim that is done, a hole that took nothing, and the two behind it
two_tokens_more
    : hole_run ((token_at seven 1 ∷ token_at seven 3 ∷ []) ∷ []) (claim 0 2 [] (done_with []) ∷ claim 0 2 [] (done_with (output 0 4 ∷ output 0 5 ∷ [])) ∷ claim 1 5 (need 0 0 ∷ []) open_claim ∷ claim 2 4 (need 0 0 ∷ []) open_claim ∷ [])
    ≡ Some (filled_run 1 (output 0 4 ∷ output 0 5 ∷ []) (record { marking = [] ∷ []; picks = [] ∷ [] ∷ two_later }))
two_tokens_more = refl
