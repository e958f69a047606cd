-- How many tries a search of a transition makes with a value at one of its terms: rows, each computed by hand.
use Rattle.std.proofs.Common.{ℕ, pos, [], ◌∷◌, refl, inl, inr, None}
use Rattle.cpn_definitions.specs.Value.{int}
use Rattle.cpn_definitions.specs.Marking.{Marking}
use Rattle.cpn_definitions.specs.Inscription.{variable_pattern, variable}
use Rattle.cpn_definitions.proofs.RisingLists.{IsIn, in_from_contains, contains_from_in}
use Rattle.cpn_stages.specs.Stages.{by_equation, by_value, none_left, next_equation}
use Rattle.cpn_stages.specs.Reached.{StandsOn, IsReached}
use Rattle.cpn_stages.specs.Work.{AreSoMany, IsPinned}
use Rattle.cpn_stages.specs.Trials.{Trial, matching, solving}
use Rattle.cpn_stages.proofs.StandingValues.{values_on, just_standing}
use Rattle.cpn_stages.proofs.ReachedEnds.{ends_are_reached}
use Rattle.cpn_stages.proofs.CountedPinned.{pinned_is_tried}
use Rattle.cpn_stages.proofs.FullRows.{taking, net_of, number_token, three_tokens, equals, of_place, at_place, by_function}

-- a token of 1, two of 2 and one of 3
abbrev four_tokens : Marking
four_tokens = (number_token 1 ∷ number_token 2 ∷ number_token 2 ∷ number_token 3 ∷ []) ∷ []

-- the term of a variable, held to the value
abbrev held_to : ℕ → ℕ → Trial
held_to x k = matching (variable_pattern x) (int (pos k) ∷ [])

stands : (m : Marking) (k : ℕ) → IsIn (int (pos k)) (values_on m 0) → StandsOn m 0 (int (pos k))
stands m k h = ((just_standing m 0).all (int (pos k))).1 (contains_from_in (values_on m 0) (int (pos k)) h)

-- ---- the rows

-- x is 1: 1 try; 1 binding. In all there are 4
one_term : IsPinned (net_of (taking 0 ∷ []) [] (0 ∷ [])) three_tokens 0 0 (int (pos 1)) 2
one_term =
    pinned_is_tried (net_of (taking 0 ∷ []) [] (0 ∷ [])) three_tokens 0 (refl, tt) (tt, tt) (of_place 0 ∷ []) (record { further = []; are = refl; follow = none_left }) 0 (int (pos 1))
    ((held_to 0 1 ∷ []) ∷ []) (((refl, refl, stands three_tokens 1 (inl refl)), tt), tt)

-- x and y from one place, one of them 2: 1 try for it, 3 values of the other, 3 bindings; and so twice. In all there are 21
two_terms : IsPinned (net_of (taking 0 ∷ taking 1 ∷ []) [] (0 ∷ 1 ∷ [])) four_tokens 0 0 (int (pos 2)) 14
two_terms =
    pinned_is_tried (net_of (taking 0 ∷ taking 1 ∷ []) [] (0 ∷ 1 ∷ [])) four_tokens 0 (refl, tt) ((refl, tt), (tt, tt)) (of_place 0 ∷ of_place 1 ∷ []) (record { further = []; are = refl; follow = none_left }) 0 (int (pos 2))
    ((held_to 0 2 ∷ at_place four_tokens 1 ∷ []) ∷ (held_to 1 2 ∷ at_place four_tokens 0 ∷ []) ∷ [])
    (((refl, refl, stands four_tokens 2 (inr (inl refl))), ((refl, just_standing four_tokens 0), tt)), (((refl, refl, stands four_tokens 2 (inr (inl refl))), ((refl, just_standing four_tokens 0), tt)), tt))

-- x twice, and both are 2: 1 try for the first, 3 for the second, of which one is that of x, 1 binding; and so twice. In all there are 15
a_term_repeated : IsPinned (net_of (taking 0 ∷ taking 0 ∷ []) [] (0 ∷ [])) four_tokens 0 0 (int (pos 2)) 10
a_term_repeated =
    pinned_is_tried (net_of (taking 0 ∷ taking 0 ∷ []) [] (0 ∷ [])) four_tokens 0 (refl, tt) (tt, tt) (of_place 0 ∷ of_place 0 ∷ []) (record { further = []; are = refl; follow = none_left }) 0 (int (pos 2))
    ((held_to 0 2 ∷ at_place four_tokens 0 ∷ []) ∷ (held_to 0 2 ∷ at_place four_tokens 0 ∷ []) ∷ [])
    (((refl, refl, stands four_tokens 2 (inr (inl refl))), ((refl, just_standing four_tokens 0), tt)), (((refl, refl, stands four_tokens 2 (inr (inl refl))), ((refl, just_standing four_tokens 0), tt)), tt))

-- x is 2, and y = f(x): 1 try of x, 1 of the equation; 1 binding
an_equation : IsPinned (net_of (taking 0 ∷ []) (equals (variable 1) by_function ∷ []) (0 ∷ 1 ∷ [])) three_tokens 0 0 (int (pos 2)) 3
an_equation =
    pinned_is_tried (net_of (taking 0 ∷ []) (equals (variable 1) by_function ∷ []) (0 ∷ 1 ∷ [])) three_tokens 0 (refl, tt) ((refl, tt), (tt, tt)) (of_place 0 ∷ by_equation 1 by_function ∷ [])
    (record { further = by_equation 1 by_function ∷ []; are = refl; follow = next_equation (1 ∷ []) 1 by_function [] refl none_left }) 0 (int (pos 2))
    ((held_to 0 2 ∷ solving 1 by_function ∷ []) ∷ []) (((refl, refl, stands three_tokens 2 (inr (inl refl))), ((refl, refl), tt)), tt)

-- no term is on the place
no_term : IsPinned (net_of (taking 0 ∷ []) [] (0 ∷ [])) three_tokens 0 1 (int (pos 1)) 0
no_term = pinned_is_tried (net_of (taking 0 ∷ []) [] (0 ∷ [])) three_tokens 0 (refl, tt) (tt, tt) (of_place 0 ∷ []) (record { further = []; are = refl; follow = none_left }) 1 (int (pos 1)) [] tt

-- 5 does not stand on the place: it is tried, and nothing is reached
none_of_five : StandsOn three_tokens 0 (int (pos 5)) → ⊥
none_of_five is = split (in_from_contains (values_on three_tokens 0) (int (pos 5)) (((just_standing three_tokens 0).all (int (pos 5))).0 is))
  where
    split : IsIn (int (pos 5)) (values_on three_tokens 0) → ⊥
    split (inl same) = cc
    split (inr (inl same)) = cc
    split (inr (inr h)) = absurd h

nothing_reached : AreSoMany (IsReached (net_of (taking 0 ∷ []) [] (0 ∷ [])) three_tokens (record { name = []; guard = []; delay = None; inputs = taking 0 ∷ []; outputs = []; vars = 0 ∷ [] }) (by_value 0 (variable_pattern 0) (int (pos 5)) ∷ [])) 0
nothing_reached = ([], record { differ = tt; all = λ b. (λ is. absurd (none_of_five is.hold.0.0), λ h. absurd (in_from_contains [] b h)) }, refl)

a_value_that_does_not_stand_there : IsPinned (net_of (taking 0 ∷ []) [] (0 ∷ [])) three_tokens 0 0 (int (pos 5)) 1
a_value_that_does_not_stand_there = record {
  stages = of_place 0 ∷ [];
  are = record { further = []; are = refl; follow = none_left };
  tries = (
    1,
    0,
    (1, 1, 0, (_, ends_are_reached (net_of (taking 0 ∷ []) [] (0 ∷ [])) three_tokens _ [] [] (refl, tt) (tt, tt) tt tt tt, refl), refl, nothing_reached, refl),
    refl,
    refl,
  );
}
