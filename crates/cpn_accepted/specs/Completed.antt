-- A transition whose variables are listed. Source: own choice.
use Rattle.std.specs.Prelude.{◌≡◌, ℕ, List}
use Rattle.cpn_definitions.specs.Net.{PlainTransition}
use Rattle.cpn_typing.specs.AcceptedTransitions.{HasItsVariables}

-- a transition with these variables
abbrev pub with_variables : PlainTransition → List ℕ → PlainTransition
with_variables t xs = record t { vars = xs }

-- The transition with its variables listed.
pub record IsCompleted (bare t : PlainTransition) : Type 0 where
  pub same : t ≡ with_variables bare t.vars
  pub variables : HasItsVariables t
