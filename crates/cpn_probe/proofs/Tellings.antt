-- What is told in two parts is told, and what is told is told in parts.
use Rattle.std.proofs.Common.{◌≡◌, ◌∙◌, ℕ, ◌+◌, ◌<◌, List, [], ◌∷◌, ◌++◌, length, map, take, get_or, refl, sym, ap, subst}
use Rattle.std.proofs.lemmas.List.{map_more, take-map}
use Rattle.cpn_definitions.specs.Legal.{PlainOccurrence}
use Rattle.cpn_probe.specs.Told.{IsTold, IsToldPrefix, AreTold}

-- the one part, and then the other
pub told_append : {State : Type 0} (notes : State → PlainOccurrence → State → Type 0) (xs ys : List PlainOccurrence) (a b c : State)
    → IsTold notes a xs b → IsTold notes b ys c → IsTold notes a (xs ++ ys) c
told_append notes [] ys a b c first second = subst (λ s. IsTold notes s ys c) first second
told_append notes (x ∷ xs) ys a b c first second = (first.0, first.1, told_append notes xs ys first.0 b c first.2 second)

-- of both parts, there is a state between them
pub told_parts : {State : Type 0} (notes : State → PlainOccurrence → State → Type 0) (xs ys : List PlainOccurrence) (a c : State)
    → IsTold notes a (xs ++ ys) c → (b : State) × IsTold notes a xs b × IsTold notes b ys c
told_parts notes [] ys a c told = (a, refl, told)
told_parts notes (x ∷ xs) ys a c told =
    let rest = told_parts notes xs ys told.0 c told.2 in (rest.0, (told.0, told.1, rest.1), rest.2)

-- probes that are told the one part, and then the other
pub probes_told_append : {State : Type 0} (notes : State → PlainOccurrence → State → Type 0) (xs ys : List PlainOccurrence) (ss ts us : List State)
    → AreTold notes ss xs ts → AreTold notes ts ys us → AreTold notes ss (xs ++ ys) us
probes_told_append notes xs ys [] [] [] first second = tt
probes_told_append notes xs ys [] [] (u ∷ us) first second = absurd second
probes_told_append notes xs ys [] (t ∷ ts) us first second = absurd first
probes_told_append notes xs ys (s ∷ ss) [] us first second = absurd first
probes_told_append notes xs ys (s ∷ ss) (t ∷ ts) [] first second = absurd second
probes_told_append notes xs ys (s ∷ ss) (t ∷ ts) (u ∷ us) first second =
    (told_append notes xs ys s t u first.0 second.0, probes_told_append notes xs ys ss ts us first.1 second.1)

-- the state of a probe that computes its next state, after some occurrences
abbrev pub state_after : {State : Type 0} → (State → PlainOccurrence → State) → State → List PlainOccurrence → State
state_after next before [] = before
state_after next before (o ∷ os) = state_after next (next before o) os

-- such a probe comes to just that state
pub computed_state : {State : Type 0} (next : State → PlainOccurrence → State) (os : List PlainOccurrence) (before now : State)
    → IsTold (λ s o t. t ≡ next s o) before os now → now ≡ state_after next before os
computed_state next [] before now told = told
computed_state next (o ∷ os) before now told =
    computed_state next os told.0 now told.2 ∙ ap (λ s. state_after next s os) told.1

-- the next occurrence of a list is noted
pub told_more : {State X : Type 0} (notes : State → PlainOccurrence → State → Type 0) (view : X → PlainOccurrence) (xs : List X) (number : ℕ) (x : X) (a b c : State)
    → number < length xs → x ≡ get_or xs number x
    → IsTold notes a (map view (take number xs)) b → notes b (view x) c → IsTold notes a (map view (take (number + 1) xs)) c
told_more notes view xs number x a b c lt is told noted =
    let more : map view (take (number + 1) xs) ≡ map view (take number xs) ++ view x ∷ [] =
    map_more view xs number x lt ∙ ap (λ y. map view (take number xs) ++ view y ∷ []) (sym is) in
    subst (λ os. IsTold notes a os c) (sym more) (told_append notes (map view (take number xs)) (view x ∷ []) a b c told (c, noted, refl))

-- what is told of the first occurrences is a prefix
pub told_prefix : {State X : Type 0} (notes : State → PlainOccurrence → State → Type 0) (view : X → PlainOccurrence) (xs : List X) (number : ℕ) (a b c : State)
    → IsTold notes a (map view (take number xs)) b → c ≡ b → IsToldPrefix notes a (map view xs) c
told_prefix notes view xs number a b c told is =
    (number, subst (λ os. IsTold notes a os c) (sym (take-map view number xs)) (subst (λ s. IsTold notes a (map view (take number xs)) s) (sym is) told))
