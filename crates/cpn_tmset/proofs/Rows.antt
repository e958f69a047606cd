-- Rows that the definitions compute: which stamp is taken, counted groups, when a place covers a multiset and what it takes, and what
-- needs leave of a marking.
use Rattle.std.proofs.Common.{◌≡◌, true, false, List, [], ◌∷◌, Some, None, refl}
use Rattle.std.specs.Prelude.{pos}
use Rattle.cpn_definitions.specs.Value.{int}
use Rattle.cpn_definitions.specs.Marking.{Tokens, token_at, less}
use Rattle.cpn_definitions.specs.Occurrence.{Needed, threshold, thresholds, subtract}
use Rattle.cpn_mset.specs.MSets.{PlainMSet}
use Rattle.cpn_tmset.specs.Covering.{covers_need}
use Rattle.cpn_tmset.specs.Listed.{groups, values_of}
use Rattle.cpn_tmset.specs.Picks.{demands_at, left_after, picked}
use Rattle.cpn_tmset.specs.Stamps.{latest_of}
use Rattle.cpn_tmset.specs.StampCounts.{repeated}
use Rattle.cpn_tmset.specs.Subtracted.{need_for}

-- of 1, 3, 3 and 5 the threshold 4 takes 3, and the threshold 0 nothing
up_to_four : latest_of 4 (1 ∷ 3 ∷ 3 ∷ 5 ∷ []) ≡ Some 3
up_to_four = refl

up_to_zero : latest_of 0 (1 ∷ 3 ∷ 3 ∷ 5 ∷ []) ≡ None
up_to_zero = refl

as_often : repeated ((1, 1) ∷ (3, 2) ∷ []) ≡ 1 ∷ 3 ∷ 3 ∷ []
as_often = refl

-- a place with 7 at 1, 7 at 3 twice and 9 at 0
abbrev tokens : Tokens
tokens = token_at (int (pos 7)) 1 ∷ token_at (int (pos 7)) 3 ∷ token_at (int (pos 7)) 3 ∷ token_at (int (pos 9)) 0 ∷ []

its_values : values_of tokens ≡ int (pos 7) ∷ int (pos 9) ∷ []
its_values = refl

its_groups : groups tokens ≡ record { token = token_at (int (pos 7)) 1; count = 1 } ∷ record { token = token_at (int (pos 7)) 3; count = 2 } ∷ record { token = token_at (int (pos 9)) 0; count = 1 } ∷ []
its_groups = refl

-- it covers 7 twice and 9 once at 3, and not at 2
abbrev need : PlainMSet
need = (int (pos 7), 2) ∷ (int (pos 9), 1) ∷ []

covered_at_three : covers_need tokens need 3 ≡ true
covered_at_three = refl

not_at_two : covers_need tokens need 2 ≡ false
not_at_two = refl

-- at 3 both tokens of 7 at 3 are taken, so 7 at 1 is left
left_at_three : left_after (demands_at 3 need) tokens ≡ token_at (int (pos 7)) 1 ∷ []
left_at_three = refl

picked_at_three
    : picked (demands_at 3 need) tokens
    ≡ record { value = int (pos 7); threshold = 3; stamp = 3 } ∷ record { value = int (pos 7); threshold = 3; stamp = 3 } ∷ record { value = int (pos 9); threshold = 3; stamp = 0 } ∷ []
picked_at_three = refl

-- at 4 needs for 7 on place 0, with offsets 0 and 1, have the thresholds 4 and 5 there; needs for another value or on another place
-- have theirs; of 7 at 1, 4 and 6 the one at 6 is left
abbrev needs : List Needed
needs =
    record { place = 0; value = int (pos 7); offset = 0 } ∷ record { place = 0; value = int (pos 7); offset = 1 } ∷ record { place = 0; value = int (pos 9); offset = 0 }
    ∷ record { place = 1; value = int (pos 7); offset = 2 } ∷ []

thresholds_of_seven : thresholds (threshold 4) (need_for 0 (int (pos 7))) needs ≡ 4 ∷ 5 ∷ []
thresholds_of_seven = refl

thresholds_on_one : thresholds (threshold 4) (need_for 1 (int (pos 7))) needs ≡ 6 ∷ []
thresholds_on_one = refl

six_is_left : less (1 ∷ 4 ∷ 6 ∷ []) (4 ∷ 5 ∷ []) ≡ 6 ∷ []
six_is_left = refl

so_it_is_subtracted
    : subtract (threshold 4) needs ((token_at (int (pos 7)) 1 ∷ token_at (int (pos 7)) 4 ∷ token_at (int (pos 7)) 6 ∷ token_at (int (pos 9)) 3 ∷ []) ∷ (token_at (int (pos 7)) 7 ∷ []) ∷ [])
    ≡ (token_at (int (pos 7)) 6 ∷ []) ∷ (token_at (int (pos 7)) 7 ∷ []) ∷ []
so_it_is_subtracted = refl
