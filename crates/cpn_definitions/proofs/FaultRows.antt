-- Worked cases of the faults of a transition: those of its guard and its input arcs, by which it is not enabled, and those of
-- its delay and its output arcs, of which the first one counts.
use Rattle.std.proofs.Common.{◌≡◌, ℕ, ◌+◌, ◌^◌, pos, Bool, true, false, Option, Some, None, List, [], ◌∷◌, refl}
use Rattle.cpn_definitions.specs.Colour.{PlainColour, int_shape}
use Rattle.cpn_definitions.specs.Outcome.{Outcome, gives, faults, divide_by_zero, empty_list, not_in_colour, bad_delay, too_large}
use Rattle.cpn_definitions.specs.Inscription.{less_than, division, PlainExpr, the_time, ArcInscription, one, times, later}
use Rattle.cpn_definitions.specs.Marking.{Marking, token_at}
use Rattle.cpn_definitions.specs.Net.{Coloured, PlainArc, PlainNet}
use Rattle.cpn_definitions.specs.Occurrence.{PlainElement, Made, needs_of, covered, outputs_of}
use Rattle.cpn_definitions.proofs.ShortForms.{whole, number, minus, truth, of_two, no_quotient, no_head, x}

-- two places, the second of them timed, and one variable, of the integers from 0 to 9
abbrev digits : Bool → PlainColour
digits timed = record { shape = int_shape (pos 0) (pos 9); timed = timed }

abbrev arc_to : ℕ → Bool → ArcInscription → PlainArc
arc_to p timed m = record { place = p; colour = digits timed; expr = m; terms = [] }

abbrev coloured : Bool → Coloured
coloured timed = record { name = []; colour = digits timed }

-- a transition with a guard, a delay, an input inscription and two output inscriptions, one to each place
abbrev net_of : List PlainExpr → Option PlainExpr → ArcInscription → ArcInscription → ArcInscription → PlainNet
net_of guard delay input first second = record {
  places = coloured false ∷ coloured true ∷ [];
  transitions = record { name = []; guard = guard; delay = delay; inputs = arc_to 0 false input ∷ []; outputs = arc_to 0 false first ∷ arc_to 1 true second ∷ []; vars = 0 ∷ [] } ∷ [];
  variables = coloured false ∷ [];
  constants = [];
  constructors = [];
  functions = [];
}

abbrev seven : PlainElement
seven = record { transition = 0; binding = (0, whole 7) ∷ [] }

-- two tokens 7 on the first place
abbrev sevens : Marking
sevens = (token_at (whole 7) 0 ∷ token_at (whole 7) 0 ∷ []) ∷ [] ∷ []

abbrev covers_seven : List PlainExpr → ArcInscription → Bool
covers_seven guard input = covered (net_of guard None input (one x) (one x)) sevens 5 seven

abbrev makes : Option PlainExpr → ArcInscription → ArcInscription → Outcome (List Made)
makes delay first second = outputs_of (net_of [] delay (one x) first second) seven 5

abbrev made : ℕ → ℕ → Made
made p stamp = record { place = p; value = whole 7; stamp = stamp }

-- ---- a fault of the guard or of an input inscription: not enabled

-- an empty guard is true, and one of several conjuncts that are all true
guardless : covers_seven [] (one x) ≡ true
unfolding covered needs_of
guardless = refl

guard_of_two : covers_seven (of_two less_than x (number 8) ∷ truth true ∷ []) (one x) ≡ true
unfolding covered needs_of
guard_of_two = refl

conjunct_is_false : covers_seven (truth true ∷ of_two less_than x (number 7) ∷ []) (one x) ≡ false
unfolding covered needs_of
conjunct_is_false = refl

conjunct_has_a_fault : covers_seven (truth true ∷ of_two less_than x no_quotient ∷ []) (one x) ≡ false
unfolding covered needs_of
conjunct_has_a_fault = refl

conjunct_is_no_truth : covers_seven (x ∷ []) (one x) ≡ false
unfolding covered needs_of
conjunct_is_no_truth = refl

input_of_two : covers_seven [] (times (number 2) x) ≡ true
unfolding covered needs_of
input_of_two = refl

input_of_three : covers_seven [] (times (number 3) x) ≡ false
unfolding covered needs_of
input_of_three = refl

input_of_none : covers_seven [] (times (number 0) (number 9)) ≡ true
unfolding covered needs_of
input_of_none = refl

input_of_a_negative_number : covers_seven [] (times (minus 1) x) ≡ false
unfolding covered needs_of
input_of_a_negative_number = refl

input_has_a_fault : covers_seven [] (one (of_two division x (number 0))) ≡ false
unfolding covered needs_of
input_has_a_fault = refl

input_outside_the_colour_set : covers_seven [] (times (number 0) (number 10)) ≡ false
unfolding covered needs_of
input_outside_the_colour_set = refl

-- ---- the delay of the transition first, then the output arcs in their order

stamps_of_outputs : makes (Some (number 3)) (one x) (one x) ≡ gives (made 0 0 ∷ made 1 8 ∷ [])
unfolding outputs_of
stamps_of_outputs = refl

delay_is_added : makes (Some (number 3)) (one x) (later (one x) (number 4)) ≡ gives (made 0 0 ∷ made 1 12 ∷ [])
unfolding outputs_of
delay_is_added = refl

clock_in_the_delay : makes (Some the_time) (one x) (one x) ≡ gives (made 0 0 ∷ made 1 10 ∷ [])
unfolding outputs_of
clock_in_the_delay = refl

no_delay_is_zero : makes None (one x) (one x) ≡ gives (made 0 0 ∷ made 1 5 ∷ [])
unfolding outputs_of
no_delay_is_zero = refl

longest_delay : makes (Some (number (2 ^ 62))) (one x) (one x) ≡ gives (made 0 0 ∷ made 1 (2 ^ 62 + 5) ∷ [])
unfolding outputs_of
longest_delay = refl

longer_delay : makes (Some (number (2 ^ 62 + 1))) (one no_head) (one x) ≡ faults bad_delay
unfolding outputs_of
longer_delay = refl

negative_delay : makes (Some (minus 1)) (one no_head) (one x) ≡ faults bad_delay
unfolding outputs_of
negative_delay = refl

fault_of_the_delay : makes (Some no_quotient) (one no_head) (one x) ≡ faults divide_by_zero
unfolding outputs_of
fault_of_the_delay = refl

delay_where_nothing_is_made : makes (Some (minus 1)) (times (number 0) x) (times (number 0) x) ≡ faults bad_delay
unfolding outputs_of
delay_where_nothing_is_made = refl

first_arc_first : makes None (one (number 10)) (one no_head) ≡ faults not_in_colour
unfolding outputs_of
first_arc_first = refl

second_arc : makes None (one x) (later (one x) no_head) ≡ faults empty_list
unfolding outputs_of
second_arc = refl

each_arc_has_its_own_count : makes None (times (number 1) x) (times (number 65537) x) ≡ faults too_large
unfolding outputs_of
each_arc_has_its_own_count = refl

outputs_of_none : makes None (times (number 0) x) (times (number 2) x) ≡ gives (made 1 5 ∷ made 1 5 ∷ [])
unfolding outputs_of
outputs_of_none = refl
