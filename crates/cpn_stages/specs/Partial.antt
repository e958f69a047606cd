-- Partial bindings: of some of the variables of a transition it is not known yet what they are bound to. Source: own choice.
use Rattle.std.specs.Prelude.{◌≡◌, ℕ, ◌==◌, if◌then◌else◌, List, [], ◌∷◌, map, Option, Some, None}
use Rattle.cpn_definitions.specs.Value.{PlainValue}
use Rattle.cpn_definitions.specs.Meaning.{PlainBinding}

-- A partial binding: the number of each variable of a transition, in declaration order, and its value, if it has one.
abbrev pub PlainPartial : Type 0
PlainPartial = List (ℕ × Option PlainValue)

-- the partial binding of variables none of which has a value
abbrev pub unbound : List ℕ → PlainPartial
unbound xs = map (λ x. (x, None)) xs

-- the variables of a partial binding
abbrev pub variables_in : PlainPartial → List ℕ
variables_in b = map (λ pair. pair.0) b

-- the value of a variable, if it has one
abbrev pub value_in : ℕ → PlainPartial → Option PlainValue
value_in x [] = None
value_in x (pair ∷ pairs) = if x == pair.0 then pair.1 else value_in x pairs

-- a value that is there stays
abbrev pub IsKept : Option PlainValue → Option PlainValue → Type 0
IsKept None w = Unit {0}
IsKept (Some v) w = w ≡ Some v

-- Extends: the second partial binding is of the same variables, and keeps each value of the first.
abbrev pub Extends : PlainPartial → PlainPartial → Type 0
Extends [] [] = Unit {0}
Extends (p ∷ ps) (q ∷ qs) = (q.0 ≡ p.0) × IsKept p.1 q.1 × Extends ps qs
Extends b c = ⊥

-- the variable with its value, if it has one
abbrev pub with_value : ℕ → Option PlainValue → PlainBinding → PlainBinding
with_value x None b = b
with_value x (Some v) b = (x, v) ∷ b

-- the binding of the variables that have a value
abbrev pub bound_in : PlainPartial → PlainBinding
bound_in [] = []
bound_in (pair ∷ pairs) = with_value pair.0 pair.1 (bound_in pairs)

-- a binding as a partial binding of its variables, each of which has a value
abbrev pub as_partial : PlainBinding → PlainPartial
as_partial b = map (λ pair. (pair.0, Some pair.1)) b
