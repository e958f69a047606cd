-- What a change touches, and what is gone: rows, each computed by hand.
use Rattle.std.proofs.Common.{◌≡◌, true, false, [], ◌∷◌, refl}
use Rattle.cpn_definitions.specs.Occurrence.{needs_of}
use Rattle.cpn_index.specs.Touched.{is_touched}
use Rattle.cpn_index.specs.UpdateWork.{gone}
use Rattle.cpn_index.specs.Clocks.{from_clock_on}
use Rattle.cpn_index.proofs.SmallNets.{three_transitions, with_x, of_nothing, at_time, change}

-- ---- what is touched

-- a 2 is added to place 0, or taken from it: what takes it is touched
a_value_at_a_term : is_touched three_transitions (change 0 2 ∷ []) (with_x 0 2) ≡ true
unfolding needs_of
a_value_at_a_term = refl

-- what takes another value is not
another_value : is_touched three_transitions (change 0 2 ∷ []) (with_x 0 1) ≡ false
unfolding needs_of
another_value = refl

-- nor is it where the same value changed on another place
another_place : is_touched three_transitions (change 1 2 ∷ []) (with_x 0 2) ≡ false
unfolding needs_of
another_place = refl

-- x + 1 is 2 where x is 1
a_value_read_otherwise : is_touched three_transitions (change 0 2 ∷ []) (with_x 1 1) ≡ true
unfolding needs_of
a_value_read_otherwise = refl

not_that_of_the_variable : is_touched three_transitions (change 0 2 ∷ []) (with_x 1 2) ≡ false
unfolding needs_of
not_that_of_the_variable = refl

-- the second of two that are told
one_of_two : is_touched three_transitions (change 0 1 ∷ change 1 3 ∷ []) (with_x 1 3) ≡ true
unfolding needs_of
one_of_two = refl

-- what takes nothing is touched by nothing
without_an_arc : is_touched three_transitions (change 0 1 ∷ change 0 2 ∷ change 1 1 ∷ []) of_nothing ≡ false
unfolding needs_of
without_an_arc = refl

-- ---- what is gone

-- one has its time, one has another, one is gone, and one is new
what_is_gone
    : gone (at_time 0 (with_x 0 1) ∷ at_time 5 (with_x 0 2) ∷ at_time 5 (with_x 1 1) ∷ []) (at_time 0 (with_x 0 1) ∷ at_time 4 (with_x 0 2) ∷ at_time 0 of_nothing ∷ []) ≡ at_time 5 (with_x 0 2) ∷ at_time 5 (with_x 1 1) ∷ []
what_is_gone = refl

-- ---- from a clock on

from_three_on : from_clock_on 3 (at_time 0 (with_x 0 1) ∷ at_time 5 (with_x 0 2) ∷ at_time 3 of_nothing ∷ []) ≡ at_time 3 (with_x 0 1) ∷ at_time 5 (with_x 0 2) ∷ at_time 3 of_nothing ∷ []
from_three_on = refl
