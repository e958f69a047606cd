-- Worked cases of a token that is put in ahead of a pick: 7 at 0 and at 3 stand on a place, and at 5 the one at 3 was taken.
use Rattle.std.proofs.Common.{◌≡◌, List, [], ◌∷◌, refl}
use Rattle.std.specs.Prelude.{pos}
use Rattle.cpn_definitions.specs.Value.{PlainValue, int}
use Rattle.cpn_definitions.specs.Marking.{Tokens, token_at, add_token}
use Rattle.cpn_tmset.specs.Carried.{picks_after, past_picks}
use Rattle.cpn_tmset.specs.Picks.{Demand, left_after, picked}

abbrev seven : PlainValue
seven = int (pos 7)

abbrev start : Tokens
start = token_at seven 0 ∷ token_at seven 3 ∷ []

abbrev at_five : List Demand
at_five = record { value = seven; threshold = 5 } ∷ []

three_is_taken : picked at_five start ≡ record { value = seven; threshold = 5; stamp = 3 } ∷ []
three_is_taken = refl

zero_is_left : left_after at_five start ≡ token_at seven 0 ∷ []
zero_is_left = refl

-- 7 at 5 is taken in its place, and 3 is left
five_is_taken : picks_after seven 5 (picked at_five start) ≡ record { value = seven; threshold = 5; stamp = 5 } ∷ []
five_is_taken = refl

three_is_left : past_picks seven 5 (picked at_five start) ≡ 3
three_is_left = refl

-- so it would have been with 7 at 5 from the start
from_the_start : left_after at_five (add_token (token_at seven 5) start) ≡ token_at seven 0 ∷ token_at seven 3 ∷ []
from_the_start = refl

-- 7 at 6 is above the threshold, and 7 at 2 is earlier than what was taken: each is left itself
six_is_left : past_picks seven 6 (picked at_five start) ≡ 6
six_is_left = refl

two_is_left : past_picks seven 2 (picked at_five start) ≡ 2
two_is_left = refl

three_stays_taken : picks_after seven 2 (picked at_five start) ≡ picked at_five start
three_stays_taken = refl

-- a token of another value is carried past as it is
eight_is_left : past_picks (int (pos 8)) 5 (picked at_five start) ≡ 5
eight_is_left = refl

-- two picks: the first takes 5 and gives up 3, which the second takes and gives up 0
both_take : picks_after seven 5 (record { value = seven; threshold = 5; stamp = 3 } ∷ record { value = seven; threshold = 4; stamp = 0 } ∷ []) ≡ record { value = seven; threshold = 5; stamp = 5 } ∷ record { value = seven; threshold = 4; stamp = 3 } ∷ []
both_take = refl

zero_is_given_up : past_picks seven 5 (record { value = seven; threshold = 5; stamp = 3 } ∷ record { value = seven; threshold = 4; stamp = 0 } ∷ []) ≡ 0
zero_is_given_up = refl
