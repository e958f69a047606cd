-- What the check of an inscription says of its meaning: what is accepted has one, or a fault, in each net of the declarations,
-- under each binding of the variables of a transition at each time. Source: own choice.
use Rattle.std.specs.Prelude.{◌≡◌, ℕ, ℤ, Bool, true, List, [], Contains}
use Rattle.std.specs.List.{AllByRecursion}
use Rattle.cpn_definitions.specs.Value.{PlainValue, boolean, int}
use Rattle.cpn_definitions.specs.Colour.{PlainColour}
use Rattle.cpn_definitions.specs.Inscription.{PlainExpr, ArcInscription, Functions}
use Rattle.cpn_definitions.specs.Outcome.{HasMeaning}
use Rattle.cpn_definitions.specs.Meaning.{PlainBinding, meaning}
use Rattle.cpn_definitions.specs.Terms.{terms_of}
use Rattle.cpn_definitions.specs.Bindable.{variables_of, binding_terms}
use Rattle.cpn_definitions.specs.Net.{BindingTerm, PlainNet}
use Rattle.cpn_definitions.specs.Occurrence.{binds}
use Rattle.cpn_typing.specs.Names.{Declared}
use Rattle.cpn_typing.specs.Law.{Means}
use Rattle.cpn_typing.specs.Multisets.{Side, input, output, initial}
use Rattle.cpn_typing.specs.InscriptionVariables.{inscription_variables}
use Rattle.cpn_typing.specs.AcceptedTransitions.{IsNetOf}
use Rattle.cpn_typing.specs.Consistency.{IsConsistent}

-- each of the variables is one of the transition's
abbrev pub AreOf : List ℕ → List ℕ → Type 0
AreOf vars xs = (x : ℕ) → Contains xs x → Contains vars x

-- a truth value, an integer
abbrev pub IsTruth : PlainValue → Type 0
IsTruth v = (b : Bool) × (v ≡ boolean b)

abbrev pub IsInteger : PlainValue → Type 0
IsInteger v = (z : ℤ) × (v ≡ int z)

-- the inscription of an arc, at a place of any colour set: tokens, or a fault
abbrev pub ArcHasMeaning : Declared → ArcInscription → Type 0
ArcHasMeaning ds m =
    IsConsistent ds → (n : PlainNet) → IsNetOf ds n → (vars : List ℕ) → AreOf vars (inscription_variables m) → (at : PlainColour) (b : PlainBinding) (time : ℕ) →
    binds n vars b ≡ true → HasMeaning (terms_of n.functions m at b time)

-- an initial marking, which reads neither a binding nor the time: tokens, or a fault
abbrev pub InitHasMeaning : Declared → PlainColour → ArcInscription → Type 0
InitHasMeaning ds colour m =
    IsConsistent ds → (funs : Functions) → funs ≡ ds.functions → (b : PlainBinding) (time : ℕ) → HasMeaning (terms_of funs m colour b time)

-- each conjunct of a guard: a truth value, or a fault
abbrev pub GuardHasMeaning : Declared → List PlainExpr → Type 0
GuardHasMeaning ds guard =
    IsConsistent ds → (n : PlainNet) → IsNetOf ds n → (vars : List ℕ) → AllByRecursion (λ e. AreOf vars (variables_of e)) guard → (b : PlainBinding) (time : ℕ) →
    binds n vars b ≡ true → AllByRecursion (λ e. Means IsTruth (meaning n.functions e b time)) guard

-- a delay, and what a monitor measures: an integer, or a fault
abbrev pub IntegerHasMeaning : Declared → PlainExpr → Type 0
IntegerHasMeaning ds e =
    IsConsistent ds → (n : PlainNet) → IsNetOf ds n → (vars : List ℕ) → AreOf vars (variables_of e) → (b : PlainBinding) (time : ℕ) →
    binds n vars b ≡ true → Means IsInteger (meaning n.functions e b time)

-- the binding terms that an inscription carries where it stands: on the input side its own, elsewhere none
abbrev pub terms_on : Side → ArcInscription → List BindingTerm
terms_on input m = binding_terms m
terms_on output m = []
terms_on initial m = []
