-- Which variables are known, as lists of their numbers. Source: own choice.
use Rattle.std.specs.Prelude.{◌≡◌, ◌⊎◌, ℕ, ◌<◌, Bool, true, false, if◌then◌else◌, List, [], ◌∷◌, length, slice_index_or, Option, Some, None}
use Rattle.std.specs.List.{flat_map, remove}
use Rattle.cpn_definitions.specs.Bindable.{pattern_variables, IsSmall}
use Rattle.cpn_definitions.specs.Net.{PlainArc, Coloured, nothing}
use Rattle.cpn_typing.specs.Closure.{Equation, is_known, ready_among}

-- nothing is known but what is listed
abbrev pub unlisted : ℕ → Bool
unlisted x = false

abbrev pub is_listed : List ℕ → ℕ → Bool
is_listed xs x = is_known unlisted xs x

-- the variables of the binding terms that arcs carry
abbrev pub carried_variables : List PlainArc → List ℕ
carried_variables arcs = flat_map (λ arc. flat_map (λ term. pattern_variables term.pattern) arc.terms) arcs

-- the sources of equations
abbrev pub sources_of : List Equation → List ℕ
sources_of qs = flat_map (λ q. q.sources) qs

-- of the variables that are asked for, those of small colour sets are known too, and nothing else is
pub record AddsSmall (variables : List Coloured) (asked old new : List ℕ) : Type 0 where
  pub kept : (x : ℕ) → is_listed old x ≡ true → is_listed new x ≡ true
  pub added : (x : ℕ) → is_listed new x ≡ true → (is_listed old x ≡ true) ⊎ IsSmall (slice_index_or variables x nothing).colour
  pub small : (x : ℕ) → is_listed asked x ≡ true → IsSmall (slice_index_or variables x nothing).colour → is_listed new x ≡ true

-- the index of the first equation that is ready, or none
abbrev pub IsReadyIndex : (ℕ → Bool) → List Equation → Option ℕ → Type 0
IsReadyIndex known qs None = ready_among known qs ≡ None
IsReadyIndex known qs (Some k) = (k < length qs) × ((q : Equation) → q ≡ slice_index_or qs k q → ready_among known qs ≡ Some (q, remove qs k))

-- the first number that is not known
abbrev pub first_not : (ℕ → Bool) → List ℕ → Option ℕ
first_not known [] = None
first_not known (x ∷ xs) = if known x then first_not known xs else Some x
