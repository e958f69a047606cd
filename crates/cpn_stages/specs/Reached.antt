-- Which partial bindings the stages of a transition reach. Source: own choice.
use Rattle.std.specs.Prelude.{◌≡◌, ℕ, true, ◌↔◌, List, Some, Contains}
use Rattle.std.specs.List.{AllByRecursion}
use Rattle.cpn_definitions.specs.Value.{PlainValue}
use Rattle.cpn_definitions.specs.Colour.{admits}
use Rattle.cpn_definitions.specs.Marking.{PlainToken, Marking, tokens_at}
use Rattle.cpn_definitions.specs.Outcome.{gives}
use Rattle.cpn_definitions.specs.Net.{PlainTransition, PlainNet, variable_at}
use Rattle.cpn_definitions.specs.Meaning.{meaning}
use Rattle.cpn_stages.specs.Partial.{PlainPartial, variables_in, value_in, bound_in}
use Rattle.cpn_stages.specs.Instances.{IsInstance}
use Rattle.cpn_stages.specs.Stages.{Stage, by_term, by_equation, by_size, by_value, variables_at_each}

-- a token of the place has the value
abbrev pub StandsOn : Marking → ℕ → PlainValue → Type 0
StandsOn m place v = (token : PlainToken) × Contains (tokens_at m place) token × (token.value ≡ v)

-- the variable has a value
abbrev pub HasValue : ℕ → PlainPartial → Type 0
HasValue x b = (v : PlainValue) × (value_in x b ≡ Some v)

-- the value is one of the variable's colour set
abbrev pub IsAdmitted : PlainNet → ℕ → PlainValue → Type 0
IsAdmitted n x v = admits (variable_at n x).colour v ≡ true

-- A stage holds of a partial binding: the term is a value that stands on its place; the variable is what its equation gives,
-- which has a value; the variable has a value.
abbrev pub Holds : PlainNet → Marking → PlainPartial → Stage → Type 0
Holds n m b (by_term place p) = (v : PlainValue) × StandsOn m place v × IsInstance b p v
Holds n m b (by_equation x e) = (v : PlainValue) × (value_in x b ≡ Some v) × (meaning n.functions e (bound_in b) 0 ≡ gives v)
Holds n m b (by_size x) = HasValue x b
Holds n m b (by_value place p v) = StandsOn m place v × IsInstance b p v

-- Reached: a partial binding of the transition's variables that gives just those of the stages a value, each one that its
-- colour set admits, and of which each of the stages holds.
pub record IsReached (n : PlainNet) (m : Marking) (t : PlainTransition) (stages : List Stage) (b : PlainPartial) : Type 0 where
  pub of_them : variables_in b ≡ t.vars
  pub just : (x : ℕ) → Contains t.vars x → HasValue x b ↔ Contains (variables_at_each stages) x
  pub admitted : (x : ℕ) (v : PlainValue) → value_in x b ≡ Some v → IsAdmitted n x v
  pub hold : AllByRecursion (Holds n m b) stages
