-- What the two probes of the program count, of the list of all occurrences that they are told. Source: own choice.
use Rattle.std.specs.Prelude.{ℕ, ◌+◌, ◌==◌, if◌then◌else◌, List, [], ◌∷◌, max}
use Rattle.cpn_definitions.specs.Legal.{PlainOccurrence}

-- Moments: the first of some occurrences, and each that has another time than the one before it.
abbrev pub moments_in : List PlainOccurrence → ℕ
moments_in [] = 0
moments_in (o ∷ []) = 1
moments_in (o ∷ p ∷ os) = (if o.time == p.time then 0 else 1) + moments_in (p ∷ os)

-- how many occurrences of a transition stand in front of all others
abbrev pub in_front : ℕ → List PlainOccurrence → ℕ
in_front t [] = 0
in_front t (o ∷ os) = if t == o.element.transition then 1 + in_front t os else 0

-- Longest stretch: of the stretches of occurrences of one transition that begin at each of some occurrences, the length of the longest; 0 of none.
abbrev pub longest_stretch : List PlainOccurrence → ℕ
longest_stretch [] = 0
longest_stretch (o ∷ os) = max (1 + in_front o.element.transition os) (longest_stretch os)
