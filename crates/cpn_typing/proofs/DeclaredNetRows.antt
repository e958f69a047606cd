-- Rows: what is declared, a net that is made of it, and nets each of which differs in one part.
use Rattle.std.proofs.Common.{ℕ, refl, ap, pos, [], ◌∷◌, length, map, None, codes}
use Rattle.cpn_definitions.specs.Colour.{int_shape}
use Rattle.cpn_definitions.specs.Inscription.{PlainFunction, the_time}
use Rattle.cpn_definitions.specs.Net.{Coloured, PlainNet, no_colour}
use Rattle.cpn_typing.specs.Names.{Name, Declared}
use Rattle.cpn_typing.specs.DeclaresFor.{DeclaresFor}

-- a variable of a name; a function of so many parameters
abbrev unit_variable : Name → Coloured
unit_variable n = record { name = n; colour = no_colour }

abbrev function_of : ℕ → PlainFunction
function_of parameters = record { parameters = parameters; body = the_time }

-- two variables, two enumerations, two unions and two functions
abbrev some : Declared
some = record {
  colours = [];
  names = [];
  variables = unit_variable (codes "x") ∷ unit_variable (codes "xs") ∷ [];
  enumerations = (codes "red" ∷ codes "green" ∷ []) ∷ (codes "small" ∷ []) ∷ [];
  unions = (record { name = codes "c"; argument = None } ∷ record { name = codes "d"; argument = None } ∷ []) ∷ (record { name = codes "o"; argument = None } ∷ []) ∷ [];
  functions = function_of 0 ∷ function_of 1 ∷ [];
}

abbrev its_net : PlainNet
its_net = record {
  places = [];
  transitions = [];
  variables = unit_variable (codes "x") ∷ unit_variable (codes "xs") ∷ [];
  constants = (codes "red" ∷ codes "green" ∷ []) ∷ (codes "small" ∷ []) ∷ [];
  constructors = (codes "c" ∷ codes "d" ∷ []) ∷ (codes "o" ∷ []) ∷ [];
  functions = function_of 0 ∷ function_of 1 ∷ [];
}

declares : DeclaresFor some its_net
declares = record { variables = refl; constants = refl; constructors = refl; functions = refl }

-- variables that have changed their numbers
other_variables : DeclaresFor some (record its_net { variables = unit_variable (codes "xs") ∷ unit_variable (codes "x") ∷ [] }) → ⊥
other_variables h = let same = ap (λ vs. map (λ v. length v.name) vs) h.variables in cc

-- a variable of another colour set
another_colour : DeclaresFor some (record its_net { variables = unit_variable (codes "x") ∷ record { name = codes "xs"; colour = record no_colour { shape = int_shape (pos 0) (pos 1) } } ∷ [] }) → ⊥
another_colour h = let same = ap (λ vs. map (λ v. v.colour.shape) vs) h.variables in cc

-- an enumeration with a constant too few
fewer_constants : DeclaresFor some (record its_net { constants = (codes "red" ∷ []) ∷ (codes "small" ∷ []) ∷ [] }) → ⊥
fewer_constants h = let same = h.constants in cc

-- unions that have changed their numbers
other_constructors : DeclaresFor some (record its_net { constructors = (codes "o" ∷ []) ∷ (codes "c" ∷ codes "d" ∷ []) ∷ [] }) → ⊥
other_constructors h = let same = h.constructors in cc

-- a function with more parameters
another_function : DeclaresFor some (record its_net { functions = function_of 0 ∷ function_of 2 ∷ [] }) → ⊥
another_function h = let same = ap (λ fs. map (λ f. f.parameters) fs) h.functions in cc
