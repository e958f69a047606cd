-- Stages in an order in which each equation can be evaluated.
use Rattle.std.specs.Prelude.{ℕ, List, [], ◌∷◌, ◌++◌, Contains}
use Rattle.cpn_definitions.specs.Inscription.{PlainExpr}
use Rattle.cpn_definitions.specs.Net.{PlainTransition}
use Rattle.cpn_definitions.specs.Bindable.{variables_of, IsEquated}
use Rattle.cpn_stages.specs.Stages.{Stage, by_term, by_equation, by_size, by_value, variables_at_each}

-- where an equation is the guard's, and the stages before it give each variable of its inscription a value
pub record IsTimely (t : PlainTransition) (before : List Stage) (x : ℕ) (e : PlainExpr) : Type 0 where
  pub equated : IsEquated t x e
  pub known : (y : ℕ) → Contains (variables_of e) y → Contains (variables_at_each before) y

abbrev pub IsTimelyStage : PlainTransition → List Stage → Stage → Type 0
IsTimelyStage t before (by_term place p) = Unit {0}
IsTimelyStage t before (by_equation x e) = IsTimely t before x e
IsTimelyStage t before (by_size x) = Unit {0}
IsTimelyStage t before (by_value place p v) = Unit {0}

-- Orderly: each equation comes after the stages that give the variables of its inscription a value.
abbrev pub AreOrderly : PlainTransition → List Stage → List Stage → Type 0
AreOrderly t before [] = Unit {0}
AreOrderly t before (stage ∷ stages) = IsTimelyStage t before stage × AreOrderly t (before ++ stage ∷ []) stages
