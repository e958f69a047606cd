-- How many tries a search of a transition makes: rows, each computed from the stages and from what stands on the places.
use Rattle.std.proofs.Common.{ℕ, pos, false, List, [], ◌∷◌, None, refl}
use Rattle.cpn_definitions.specs.Value.{int}
use Rattle.cpn_definitions.specs.Colour.{PlainColour, int_shape, boolean_shape}
use Rattle.cpn_definitions.specs.Marking.{PlainToken, Marking, token_at}
use Rattle.cpn_definitions.specs.Inscription.{operation, calling, addition, division, equality, variable_pattern, PlainExpr, literal, variable, local, apply, exprs_from, one}
use Rattle.cpn_definitions.specs.Net.{PlainArc, PlainNet}
use Rattle.cpn_definitions.proofs.SmallColours.{plain_colour, both_truths, all_truths, truths_are_small}
use Rattle.cpn_stages.specs.Stages.{Stage, by_term, by_equation, by_size, none_left, next_equation, next_small}
use Rattle.cpn_stages.specs.Work.{IsFull}
use Rattle.cpn_stages.specs.Trials.{Trial, matching, solving}
use Rattle.cpn_stages.proofs.StandingValues.{values_on, just_standing, just_admitted}
use Rattle.cpn_stages.proofs.CountedTries.{full_is_tried}

-- ---- a place of numbers, and a transition that takes from it

-- the numbers from 0 to 999
abbrev pub numbers : PlainColour
numbers = record { shape = int_shape (pos 0) (pos 999); timed = false }

-- an input arc from the place with a variable
abbrev pub taking : ℕ → PlainArc
taking x = record { place = 0; colour = numbers; expr = one (variable x); terms = record { count = 1; pattern = variable_pattern x } ∷ [] }

-- the net, with these arcs and this guard; it has the variables x and y of numbers, and b of truth values, and a function that
-- adds 1
abbrev pub net_of : List PlainArc → List PlainExpr → List ℕ → PlainNet
net_of arcs guard xs = record {
  places = record { name = []; colour = numbers } ∷ [];
  transitions = record { name = []; guard = guard; delay = None; inputs = arcs; outputs = []; vars = xs } ∷ [];
  variables = record { name = []; colour = numbers } ∷ record { name = []; colour = numbers } ∷ record { name = []; colour = plain_colour boolean_shape } ∷ [];
  constants = [];
  constructors = [];
  functions = record { parameters = 1; body = apply (operation addition) (exprs_from (local 0 ∷ literal (int (pos 1)) ∷ [])) } ∷ [];
}

abbrev pub number_token : ℕ → PlainToken
number_token k = token_at (int (pos k)) 0

-- a token of 1 and two of 2
abbrev pub three_tokens : Marking
three_tokens = (number_token 1 ∷ number_token 2 ∷ number_token 2 ∷ []) ∷ []

abbrev pub equals : PlainExpr → PlainExpr → PlainExpr
equals e f = apply (operation equality) (exprs_from (e ∷ f ∷ []))

-- the stage of a variable on the place, and what it tries in a marking
abbrev pub of_place : ℕ → Stage
of_place x = by_term 0 (variable_pattern x)

abbrev pub at_place : Marking → ℕ → Trial
at_place m x = matching (variable_pattern x) (values_on m 0)

-- ---- the rows

-- without a variable nothing is tried, and one binding is complete
nothing_to_find : IsFull (net_of [] [] []) three_tokens 0 1
nothing_to_find = full_is_tried (net_of [] [] []) three_tokens 0 [] [] (refl, tt) tt (record { further = []; are = refl; follow = none_left }) tt

-- x: 2 values; 2 bindings
one_term : IsFull (net_of (taking 0 ∷ []) [] (0 ∷ [])) three_tokens 0 4
one_term =
    full_is_tried (net_of (taking 0 ∷ []) [] (0 ∷ [])) three_tokens 0 (of_place 0 ∷ []) (at_place three_tokens 0 ∷ []) (refl, tt) (tt, tt)
    (record { further = []; are = refl; follow = none_left }) ((refl, just_standing three_tokens 0), tt)

-- x and y from one place: 2 values of x, and at each of these 2 of y; 4 bindings
two_terms : IsFull (net_of (taking 0 ∷ taking 1 ∷ []) [] (0 ∷ 1 ∷ [])) three_tokens 0 10
two_terms =
    full_is_tried (net_of (taking 0 ∷ taking 1 ∷ []) [] (0 ∷ 1 ∷ [])) three_tokens 0 (of_place 0 ∷ of_place 1 ∷ []) (at_place three_tokens 0 ∷ at_place three_tokens 1 ∷ []) (refl, tt) ((refl, tt), (tt, tt))
    (record { further = []; are = refl; follow = none_left }) ((refl, just_standing three_tokens 0), ((refl, just_standing three_tokens 0), tt))

-- x twice: 2 values of x, and at each of these 2 again, of which one is that of x; 2 bindings
a_term_repeated : IsFull (net_of (taking 0 ∷ taking 0 ∷ []) [] (0 ∷ [])) three_tokens 0 8
a_term_repeated =
    full_is_tried (net_of (taking 0 ∷ taking 0 ∷ []) [] (0 ∷ [])) three_tokens 0 (of_place 0 ∷ of_place 0 ∷ []) (at_place three_tokens 0 ∷ at_place three_tokens 0 ∷ []) (refl, tt) (tt, tt)
    (record { further = []; are = refl; follow = none_left }) ((refl, just_standing three_tokens 0), ((refl, just_standing three_tokens 0), tt))

-- y = f(x), where f adds 1: 2 values of x, and at each of these the equation, once; 2 bindings
abbrev pub by_function : PlainExpr
by_function = apply (calling 0) (exprs_from (variable 0 ∷ []))

an_equation : IsFull (net_of (taking 0 ∷ []) (equals (variable 1) by_function ∷ []) (0 ∷ 1 ∷ [])) three_tokens 0 6
an_equation =
    full_is_tried (net_of (taking 0 ∷ []) (equals (variable 1) by_function ∷ []) (0 ∷ 1 ∷ [])) three_tokens 0 (of_place 0 ∷ by_equation 1 by_function ∷ []) (at_place three_tokens 0 ∷ solving 1 by_function ∷ [])
    (refl, tt) ((refl, tt), (tt, tt))
    (record { further = by_equation 1 by_function ∷ []; are = refl; follow = next_equation (1 ∷ []) 1 by_function [] refl none_left }) ((refl, just_standing three_tokens 0), ((refl, refl), tt))

-- 6 div x = y, with a token of 0 and one of 2: 2 values of x, at each of these the equation, which has a fault at 0; 1 binding
abbrev quotient : PlainExpr
quotient = apply (operation division) (exprs_from (literal (int (pos 6)) ∷ variable 0 ∷ []))

abbrev zero_and_two : Marking
zero_and_two = (number_token 0 ∷ number_token 2 ∷ []) ∷ []

an_equation_with_a_fault : IsFull (net_of (taking 0 ∷ []) (equals quotient (variable 1) ∷ []) (0 ∷ 1 ∷ [])) zero_and_two 0 5
an_equation_with_a_fault =
    full_is_tried (net_of (taking 0 ∷ []) (equals quotient (variable 1) ∷ []) (0 ∷ 1 ∷ [])) zero_and_two 0 (of_place 0 ∷ by_equation 1 quotient ∷ []) (at_place zero_and_two 0 ∷ solving 1 quotient ∷ [])
    (refl, tt) ((refl, tt), (tt, tt))
    (record { further = by_equation 1 quotient ∷ []; are = refl; follow = next_equation (1 ∷ []) 1 quotient [] refl none_left }) ((refl, just_standing zero_and_two 0), ((refl, refl), tt))

-- b, which stands nowhere: 2 values of x, and at each of these both truth values; 4 bindings
a_small_variable : IsFull (net_of (taking 0 ∷ []) [] (0 ∷ 2 ∷ [])) three_tokens 0 10
a_small_variable =
    full_is_tried (net_of (taking 0 ∷ []) [] (0 ∷ 2 ∷ [])) three_tokens 0 (of_place 0 ∷ by_size 2 ∷ []) (at_place three_tokens 0 ∷ matching (variable_pattern 2) both_truths ∷ []) (refl, tt) ((refl, tt), (tt, tt))
    (record {
      further = by_size 2 ∷ [];
      are = refl;
      follow = next_small (2 ∷ []) 2 [] refl (record { before = []; behind = []; stands = refl; not_before = tt; small = truths_are_small }) none_left;
    })
    ((refl, just_standing three_tokens 0), ((refl, just_admitted (net_of (taking 0 ∷ []) [] (0 ∷ 2 ∷ [])) 2 both_truths all_truths), tt))

-- b = (x = 2): the equation comes before the values of the colour set, so it is 2 values of x, and at each of these the equation; 2
-- bindings
abbrev is_two : PlainExpr
is_two = equals (variable 0) (literal (int (pos 2)))

an_equation_of_a_small_variable : IsFull (net_of (taking 0 ∷ []) (equals (variable 2) is_two ∷ []) (0 ∷ 2 ∷ [])) three_tokens 0 6
an_equation_of_a_small_variable =
    full_is_tried (net_of (taking 0 ∷ []) (equals (variable 2) is_two ∷ []) (0 ∷ 2 ∷ [])) three_tokens 0 (of_place 0 ∷ by_equation 2 is_two ∷ []) (at_place three_tokens 0 ∷ solving 2 is_two ∷ [])
    (refl, tt) ((refl, tt), (tt, tt))
    (record { further = by_equation 2 is_two ∷ []; are = refl; follow = next_equation (2 ∷ []) 2 is_two [] refl none_left }) ((refl, just_standing three_tokens 0), ((refl, refl), tt))
