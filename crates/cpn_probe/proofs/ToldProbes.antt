-- Probes that are told one after another: the first ones all occurrences, the others none yet.
use Rattle.std.proofs.Common.{◌≡◌, ℕ, zero, suc, List, [], ◌∷◌, length, get_or, set, refl, sym, subst}
use Rattle.std.proofs.Math.Seq.{take-length}
use Rattle.cpn_definitions.specs.Legal.{PlainOccurrence}
use Rattle.cpn_probe.specs.Told.{IsTold, IsToldPrefix, AreTold, AreToldPrefixes}

-- so many of the probes are told all occurrences, and the others are as they were
abbrev pub AreToldUpTo : {State : Type 0} → (State → PlainOccurrence → State → Type 0) → List PlainOccurrence → ℕ → List State → List State → Type 0
AreToldUpTo notes os zero before now = now ≡ before
AreToldUpTo notes os (suc number) [] [] = Unit {0}
AreToldUpTo notes os (suc number) [] (t ∷ ts) = ⊥
AreToldUpTo notes os (suc number) (s ∷ ss) [] = ⊥
AreToldUpTo notes os (suc number) (s ∷ ss) (t ∷ ts) = IsTold notes s os t × AreToldUpTo notes os number ss ts

-- one probe more
pub one_more_told : {State : Type 0} (notes : State → PlainOccurrence → State → Type 0) (os : List PlainOccurrence) (number : ℕ) (before now : List State) (d t : State)
    → AreToldUpTo notes os number before now → IsTold notes (get_or now number d) os t → AreToldUpTo notes os (suc number) before (set now number t)
one_more_told notes os zero before [] d t told one = subst (λ ss. AreToldUpTo notes os 1 ss []) told tt
one_more_told notes os zero before (y ∷ ys) d t told one =
    subst (λ ss. AreToldUpTo notes os 1 ss (t ∷ ys)) told (one, refl)
one_more_told notes os (suc number) [] [] d t told one = tt
one_more_told notes os (suc number) [] (y ∷ ys) d t told one = absurd told
one_more_told notes os (suc number) (x ∷ xs) [] d t told one = absurd told
one_more_told notes os (suc number) (x ∷ xs) (y ∷ ys) d t told one = (told.0, one_more_told notes os number xs ys d t told.1 one)

-- all of them
pub all_told : {State : Type 0} (notes : State → PlainOccurrence → State → Type 0) (os : List PlainOccurrence) (before now : List State)
    → AreToldUpTo notes os (length before) before now → AreTold notes before os now
all_told notes os [] now told = subst (λ ts. AreTold notes [] os ts) (sym told) tt
all_told notes os (x ∷ xs) [] told = told
all_told notes os (x ∷ xs) (y ∷ ys) told = (told.0, all_told notes os xs ys told.1)

-- probes that are as they were have been told a prefix
pub none_told : {State : Type 0} (notes : State → PlainOccurrence → State → Type 0) (os : List PlainOccurrence) (ss : List State)
    → AreToldPrefixes notes ss os ss
none_told notes os [] = tt
none_told notes os (s ∷ ss) = ((0, refl), none_told notes os ss)

-- what is told whole is told a prefix
pub whole_prefix : {State : Type 0} (notes : State → PlainOccurrence → State → Type 0) (os : List PlainOccurrence) (s t : State)
    → IsTold notes s os t → IsToldPrefix notes s os t
whole_prefix notes os s t told = (length os, subst (λ all. IsTold notes s all t) (sym (take-length os)) told)

-- so many are told all, one is told a prefix, and the others none
pub prefixes_told : {State : Type 0} (notes : State → PlainOccurrence → State → Type 0) (os : List PlainOccurrence) (number : ℕ) (before now : List State) (d t : State)
    → AreToldUpTo notes os number before now → IsToldPrefix notes (get_or now number d) os t → AreToldPrefixes notes before os (set now number t)
prefixes_told notes os zero before [] d t told one = subst (λ ss. AreToldPrefixes notes ss os []) told tt
prefixes_told notes os zero before (y ∷ ys) d t told one =
    subst (λ ss. AreToldPrefixes notes ss os (t ∷ ys)) told (one, none_told notes os ys)
prefixes_told notes os (suc number) [] [] d t told one = tt
prefixes_told notes os (suc number) [] (y ∷ ys) d t told one = absurd told
prefixes_told notes os (suc number) (x ∷ xs) [] d t told one = absurd told
prefixes_told notes os (suc number) (x ∷ xs) (y ∷ ys) d t told one =
    (whole_prefix notes os x y told.0, prefixes_told notes os number xs ys d t told.1 one)
