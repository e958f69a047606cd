-- A net of two places and three transitions, of which one takes a number, one reads a place otherwise, and one takes nothing.
use Rattle.std.proofs.Common.{ℕ, pos, true, List, [], ◌∷◌, None}
use Rattle.cpn_definitions.specs.Value.{PlainValue, int}
use Rattle.cpn_definitions.specs.Colour.{PlainColour, int_shape}
use Rattle.cpn_definitions.specs.Marking.{Marking, token_at}
use Rattle.cpn_definitions.specs.Inscription.{operation, addition, variable_pattern, literal, variable, apply, exprs_from, one}
use Rattle.cpn_definitions.specs.Net.{PlainArc, PlainTransition, PlainNet}
use Rattle.cpn_definitions.specs.Occurrence.{PlainElement}
use Rattle.cpn_definitions.specs.Enabled.{PlainEntry}
use Rattle.cpn_tmset.specs.Changed.{PlainChange}

-- the numbers from 0 to 999, with a time
abbrev pub numbers : PlainColour
numbers = record { shape = int_shape (pos 0) (pos 999); timed = true }

-- an arc from a place: x, which is a binding term; and one with x + 1, which is none
abbrev pub of_x : ℕ → PlainArc
of_x p = record { place = p; colour = numbers; expr = one (variable 0); terms = record { count = 1; pattern = variable_pattern 0 } ∷ [] }

abbrev pub of_next : ℕ → PlainArc
of_next p = record { place = p; colour = numbers; expr = one (apply (operation addition) (exprs_from (variable 0 ∷ literal (int (pos 1)) ∷ []))); terms = [] }

abbrev pub transition : List PlainArc → List ℕ → PlainTransition
transition arcs xs = record { name = []; guard = []; delay = None; inputs = arcs; outputs = []; vars = xs }

-- transition 0 takes x from place 0; transition 1 takes x from place 1, and x + 1 from place 0; transition 2 takes nothing
abbrev pub three_transitions : PlainNet
three_transitions = record {
  places = record { name = []; colour = numbers } ∷ record { name = []; colour = numbers } ∷ [];
  transitions = transition (of_x 0 ∷ []) (0 ∷ []) ∷ transition (of_x 1 ∷ of_next 0 ∷ []) (0 ∷ []) ∷ transition [] [] ∷ [];
  variables = record { name = []; colour = numbers } ∷ [];
  constants = [];
  constructors = [];
  functions = [];
}

abbrev pub number : ℕ → PlainValue
number k = int (pos k)

-- an element of a transition in which x is the number; and that of transition 2
abbrev pub with_x : ℕ → ℕ → PlainElement
with_x t k = record { transition = t; binding = (0, number k) ∷ [] }

abbrev pub of_nothing : PlainElement
of_nothing = record { transition = 2; binding = [] }

abbrev pub at_time : ℕ → PlainElement → PlainEntry
at_time time e = record { earliest = time; element = e }

-- a number on a place
abbrev pub change : ℕ → ℕ → PlainChange
change p k = record { place = p; value = number k }

-- on place 0 a 1 from time 0 on and a 2 from time 5 on; on place 1 a 1 and a 3
abbrev pub four_numbers : Marking
four_numbers = (token_at (number 1) 0 ∷ token_at (number 2) 5 ∷ []) ∷ (token_at (number 1) 0 ∷ token_at (number 3) 0 ∷ []) ∷ []
