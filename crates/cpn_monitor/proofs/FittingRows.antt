-- Worked cases of what monitors may measure in a net: one with a place of integers, and a transition with a variable of integers.
use Rattle.std.proofs.Common.{◌≡◌, true, false, pos, negsuc, List, [], ◌∷◌, refl, arith}
use Rattle.std.specs.Prelude.{codes}
use Rattle.cpn_definitions.specs.Colour.{PlainColour, int_shape}
use Rattle.cpn_definitions.specs.Inscription.{literal, variable, the_time}
use Rattle.cpn_definitions.specs.Marking.{token_at}
use Rattle.cpn_definitions.specs.Net.{PlainNet, PlainTransition, no_transition}
use Rattle.cpn_definitions.specs.Value.{boolean, int, text}
use Rattle.cpn_monitor.specs.Fitting.{IsMeasurable, FitNet}
use Rattle.cpn_monitor.specs.Monitors.{PlainMonitor, counts, sizes, values, stops_by_count, stops_by_size, at_least}
use Rattle.cpn_monitor.specs.MeasuredRuns.{MeasuredRun, MarkedOccurrence, begun, with_occurrence, at_clock, IsTimely}

abbrev integers : PlainColour
integers = record { shape = int_shape (negsuc 99) (pos 99); timed = false }

abbrev transition : PlainTransition
transition = record no_transition { vars = 0 ∷ [] }

abbrev net : PlainNet
net = record {
  places = record { name = codes "A"; colour = integers } ∷ [];
  transitions = transition ∷ [];
  variables = record { name = codes "x"; colour = integers } ∷ [];
  constants = [];
  constructors = [];
  functions = [];
}

-- ---- what is in the net

its_transition : IsMeasurable net (counts 0)
its_transition = omega arith

no_transition_there : IsMeasurable net (counts 1) → ⊥
no_transition_there h = omega (arith, h)

none_to_stop_after : IsMeasurable net (stops_by_count 1 3) → ⊥
none_to_stop_after h = omega (arith, h)

none_for_a_value : IsMeasurable net (values 1 (literal (int (pos 7)))) → ⊥
none_for_a_value h = let there = h.0 in omega (arith, there)

its_place : IsMeasurable net (stops_by_size 0 at_least 3)
its_place = omega arith

no_place_there : IsMeasurable net (sizes 1) → ⊥
no_place_there h = omega (arith, h)

none_to_stop_at : IsMeasurable net (stops_by_size 1 at_least 3) → ⊥
none_to_stop_at h = omega (arith, h)

-- an integer that is written out, and the time; a boolean, and a string
an_integer : IsMeasurable net (values 0 (literal (int (pos 7))))
an_integer = (omega arith, λ b time bound in_time. tt)

the_time_of_it : IsMeasurable net (values 0 the_time)
the_time_of_it = (omega arith, λ b time bound in_time. tt)

a_boolean : IsMeasurable net (values 0 (literal (boolean true))) → ⊥
a_boolean h = h.1 ((0, int (pos 7)) ∷ []) 0 refl (omega arith)

a_string : IsMeasurable net (values 0 (literal (text []))) → ⊥
a_string h = h.1 ((0, int (pos 7)) ∷ []) 0 refl (omega arith)

-- a variable that the transition does not have
another_variable : IsMeasurable net (values 0 (variable 1)) → ⊥
another_variable h = h.1 ((0, int (pos 7)) ∷ []) 0 refl (omega arith)

-- functions of their own are not the net's
abbrev of_net : List PlainMonitor
of_net = record { name = codes "m"; measure = counts 0 } ∷ []

they_fit : FitNet net [] of_net
they_fit = record { functions_are = refl; measurable = (its_transition, tt) }

by_another_function : FitNet net (record { parameters = 0; body = literal (int (pos 7)) } ∷ []) of_net → ⊥
by_another_function h = let e = h.functions_are in cc

-- ---- a run, told on

abbrev marked : MarkedOccurrence
marked = record { occurrence = record { element = record { transition = 0; binding = (0, int (pos 7)) ∷ [] }; time = 5 }; after = [] ∷ [] }

abbrev told : MeasuredRun
told = with_occurrence marked (begun ((token_at (int (pos 7)) 0 ∷ []) ∷ []) 3)

its_occurrences : told ≡ record { start = (token_at (int (pos 7)) 0 ∷ []) ∷ []; clock = 3; occurrences = marked ∷ []; last_clock = 5 }
its_occurrences = refl

at_its_clock : IsTimely (at_clock 5 told)
at_its_clock = omega arith

before_its_clock : IsTimely (at_clock 4 told) → ⊥
before_its_clock h = omega (arith, h)
