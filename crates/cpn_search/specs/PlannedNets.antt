-- Nets with the plans of their transitions.
use Rattle.std.specs.Prelude.{◌≡◌, ◌≢◌, ℕ, ◌+◌, List, [], ◌∷◌, length}
use Rattle.std.specs.List.{AllByRecursion}
use Rattle.cpn_definitions.specs.Net.{PlainNet, transition_at}
use Rattle.cpn_stages.specs.Stages.{AreStages}
use Rattle.cpn_search.specs.StageViews.{stages_view, HasAllValues}
use Rattle.cpn_search.specs.declared.plan.Plan.{Plan}
use Rattle.cpn_search.specs.declared.plans.Plans.{Plans}

-- A plan of the transition of a number: its stages, where those of small colour sets hold all values.
pub record IsPlan (n : PlainNet) (t : ℕ) (plan : Plan) : Type 0 where
  pub stages : AreStages n (transition_at n t) (stages_view plan.stages.items)
  pub values : AllByRecursion (HasAllValues n) plan.stages.items

-- plans of the transitions from a number on, one after another
abbrev pub ArePlansFrom : PlainNet → ℕ → List Plan → Type 0
ArePlansFrom n t [] = Unit {0}
ArePlansFrom n t (plan ∷ plans) = IsPlan n t plan × ArePlansFrom n (t + 1) plans

-- plans of the transitions from a number on, one after another, but for one transition, whose plan may be any
abbrev pub ArePlansBut : ℕ → PlainNet → ℕ → List Plan → Type 0
ArePlansBut but n t [] = Unit {0}
ArePlansBut but n t (plan ∷ plans) = (t ≢ but → IsPlan n t plan) × ArePlansBut but n (t + 1) plans

-- Planned: there is a plan for each transition of the net.
pub record IsPlanned (n : PlainNet) (plans : Plans) : Type 0 where
  pub each : length plans.plans.items ≡ length n.transitions
  pub are : ArePlansFrom n 0 plans.plans.items

-- Planned, but for one transition.
pub record IsPlannedBut (but : ℕ) (n : PlainNet) (plans : Plans) : Type 0 where
  pub each : length plans.plans.items ≡ length n.transitions
  pub are : ArePlansBut but n 0 plans.plans.items
