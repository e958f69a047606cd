-- Readings that are told by relations: which readings something may have. Source: own choice.
use Rattle.std.specs.Prelude.{◌≡◌, ℕ, suc, List, [], ◌∷◌, Option, Some, None}
use Rattle.cpn_readings.specs.Reading.{Reading, read, refused, refused_as}

-- one reading and no other
abbrev pub just : {R A : Type 0} → Reading R A → Reading R A → Type 0
just reading r = r ≡ reading

-- a value of which something holds
abbrev pub such_that : {R A : Type 0} → (A → Type 0) → Reading R A → Type 0
such_that {R} {A} Holds r = (x : A) × Holds x × (r ≡ read x)

-- what comes of the value of a reading, or the refusal
abbrev pub After : {R A B : Type 0} → Reading R A → (A → Reading R B → Type 0) → Reading R B → Type 0
After (read x) next r = next x r
After (refused refusal) next r = r ≡ refused refusal

-- the second reading at the value of the first, or the first's refusal
infixl 10 ◌>>=◌
abbrev pub ◌>>=◌ : {R A B : Type 0} → (Reading R A → Type 0) → (A → Reading R B → Type 0) → Reading R B → Type 0
◌>>=◌ {R} {A} first next r = (reading : Reading R A) × first reading × After reading next r

-- the same readings, their refusals seen as of another kind
abbrev pub refused_by : {R S A : Type 0} → (R → S) → (Reading R A → Type 0) → Reading S A → Type 0
refused_by {R} {S} {A} kind Reads r = (reading : Reading R A) × Reads reading × (r ≡ refused_as kind reading)

-- what each item of a list, numbered from a number on, may be read as, in order, or the first refusal
unfoldable pub each_so : {R A B : Type 0} → (ℕ → A → Reading R B → Type 0) → ℕ → List A → Reading R (List B) → Type 0
each_so Reads i [] = just (read [])
each_so Reads i (x ∷ xs) = do
  y ← Reads i x
  ys ← each_so Reads (suc i) xs
  just (read (y ∷ ys))

-- what a refusal says of what is read so: that it may be refused with it; none says nothing
abbrev pub RefusesBy : {R A : Type 0} → (Reading R A → Type 0) → Option R → Type 0
RefusesBy Reads None = Unit {0}
RefusesBy Reads (Some refusal) = Reads (refused refusal)

-- there is one such reading at most
abbrev pub HasOne : {R A : Type 0} → (Reading R A → Type 0) → Type 0
HasOne {R} {A} Reads = (r s : Reading R A) → Reads r → Reads s → r ≡ s
