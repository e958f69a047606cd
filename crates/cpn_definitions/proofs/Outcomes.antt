-- What follows from an outcome that gives a value, and from one that has a meaning.
use Rattle.std.proofs.Common.{◌≡◌, Bool, true, refl, ap, ◌∙◌}
use Rattle.cpn_definitions.specs.Outcome.{Fault, Outcome, gives, faults, no_meaning, HasMeaning, ◌>>=◌, gives_and}

-- two values that are given are the same
pub same_given : {A : Type 0} (x y : A) → gives x ≡ gives y → x ≡ y
same_given x y h = cc

-- what gives a value after an outcome comes from a value of the outcome
pub bound_parts : {A B : Type 0} (o : Outcome A) (f : A → Outcome B) (y : B) → (o >>= f) ≡ gives y → (x : A) × (o ≡ gives x) × (f x ≡ gives y)
bound_parts (gives x) f y is = (x, refl, is)
bound_parts (faults fault) f y is = cc
bound_parts no_meaning f y is = cc

-- where there is a value that passes, there is a value
pub gives_and_parts : {A : Type 0} (o : Outcome A) (test : A → Bool) → gives_and o test ≡ true → (x : A) × (o ≡ gives x) × (test x ≡ true)
gives_and_parts (gives x) test h = (x, refl, h)
gives_and_parts (faults fault) test h = cc
gives_and_parts no_meaning test h = cc

-- ---- meanings

-- a value is a meaning, and so is a fault
pub value_means : {A : Type 0} (x : A) → HasMeaning (gives x)
value_means x none = cc

pub fault_means : (A : Type 0) (fault : Fault) → HasMeaning {A = A} (faults fault)
fault_means A fault none = cc

-- where an outcome has a meaning, and what follows has one at each value, both together have one
pub then_means : {A B : Type 0} (o : Outcome A) (f : A → Outcome B) → HasMeaning o → ((x : A) → HasMeaning (f x)) → HasMeaning (o >>= f)
then_means (gives x) f first second = second x
then_means {A} {B} (faults fault) f first second = fault_means B fault
then_means no_meaning f first second = absurd (first refl)

-- what has a meaning has one for its first part, and for its second part at the value of the first
pub first_means : {A B : Type 0} (o : Outcome A) (f : A → Outcome B) → HasMeaning (o >>= f) → HasMeaning o
first_means o f means none = means (ap (λ p. p >>= f) none)

pub second_means : {A B : Type 0} (o : Outcome A) (f : A → Outcome B) (x : A) → o ≡ gives x → HasMeaning (o >>= f) → HasMeaning (f x)
second_means o f x is means none = means (ap (λ p. p >>= f) is ∙ none)
