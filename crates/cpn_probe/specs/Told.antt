-- What probes are told. A probe has states, and its own relation of them: an occurrence that it notes in one state may lead to
-- another. (Own choice.)
use Rattle.std.specs.Prelude.{◌≡◌, ℕ, List, [], ◌∷◌, take}
use Rattle.std.specs.List.{AllZip}
use Rattle.cpn_definitions.specs.Legal.{PlainOccurrence}

-- IsTold: from one state to another, a probe is told the occurrences, each once, in their order.
abbrev pub IsTold : {State : Type 0} → (State → PlainOccurrence → State → Type 0) → State → List PlainOccurrence → State → Type 0
IsTold notes before [] now = now ≡ before
IsTold {State} notes before (o ∷ os) now = (next : State) × notes before o next × IsTold notes next os now

-- IsToldPrefix: it is told the first of them, up to some number.
abbrev pub IsToldPrefix : {State : Type 0} → (State → PlainOccurrence → State → Type 0) → State → List PlainOccurrence → State → Type 0
IsToldPrefix notes before os now = (number : ℕ) × IsTold notes before (take number os) now

-- AreTold: probes are told the same occurrences, each of them all. They are as many after as before, in the same order.
abbrev pub AreTold : {State : Type 0} → (State → PlainOccurrence → State → Type 0) → List State → List PlainOccurrence → List State → Type 0
AreTold notes before os now = AllZip (λ s t. IsTold notes s os t) before now

-- AreToldPrefixes: each of them is told the first ones, up to a number of its own.
abbrev pub AreToldPrefixes : {State : Type 0} → (State → PlainOccurrence → State → Type 0) → List State → List PlainOccurrence → List State → Type 0
AreToldPrefixes notes before os now = AllZip (λ s t. IsToldPrefix notes s os t) before now
