-- What comes of an inscription: a value, or a fault. Source: our own profile of CPN ML.
use Rattle.std.specs.Prelude.{◌≢◌, Bool, false, Option, Some, None}

-- The faults of an inscription that has no value.
pub data Fault : Type 0 where
  overflow : Fault
  divide_by_zero : Fault
  empty_list : Fault
  no_case : Fault
  not_in_colour : Fault
  bad_coefficient : Fault
  bad_delay : Fault
  too_large : Fault

-- A meaning: a value or a fault; none for an inscription that is not typed.
pub data Outcome (A : Type 0) : Type 0 where
  gives : A → Outcome A
  faults : Fault → Outcome A
  no_meaning : Outcome A

-- there is a meaning: a value or a fault
abbrev pub HasMeaning : {A : Type 0} → Outcome A → Type 0
HasMeaning o = o ≢ no_meaning

-- the second meaning at the value of the first, or the first's fault
infixl 10 ◌>>=◌
abbrev pub ◌>>=◌ : {A B : Type 0} → Outcome A → (A → Outcome B) → Outcome B
(gives x) >>= f = f x
(faults fault) >>= f = faults fault
no_meaning >>= f = no_meaning

-- whether there is a value, and it passes
abbrev pub gives_and : {A : Type 0} → Outcome A → (A → Bool) → Bool
gives_and (gives x) test = test x
gives_and (faults fault) test = false
gives_and no_meaning test = false

-- what is there, if it is
abbrev pub given : {A : Type 0} → Option A → Outcome A
given None = no_meaning
given (Some x) = gives x
