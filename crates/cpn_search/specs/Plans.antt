-- What is known while the stages of a transition are planned.
use Rattle.std.specs.Prelude.{◌≡◌, ℕ, ◌<◌, List, [], ◌∷◌, ◌++◌, map, Option, Some, None, Contains}
use Rattle.std.specs.List.{AllByRecursion}
use Rattle.cpn_definitions.specs.Net.{PlainTransition, PlainNet, variable_at}
use Rattle.cpn_definitions.specs.Bindable.{IsInTerm, IsSmall, AreAll}
use Rattle.cpn_core.specs.Views.{value_view}
use Rattle.cpn_stages.specs.Stages.{Stage, those_without, IsFirstSmall, Further}
use Rattle.cpn_search.specs.declared.plan.Small.{Small}

-- variables of the transition that are left: none of them stands in a binding term
pub record AreLeft (t : PlainTransition) (left : List ℕ) : Type 0 where
  pub listed : (x : ℕ) → Contains left x → Contains t.vars x
  pub in_no_term : (x : ℕ) → IsInTerm t x → Contains left x → ⊥

-- the variables are declared: they are below the number of them
pub record HaveColours (count : ℕ) (left : List ℕ) : Type 0 where
  pub below : (x : ℕ) → Contains left x → x < count

-- the first of the variables that are left whose colour set is small, with all values of it; or none is small
abbrev pub IsFirstWithValues : PlainNet → List ℕ → Option Small → Type 0
IsFirstWithValues n left None = AllByRecursion (λ y. IsSmall (variable_at n y).colour → ⊥) left
IsFirstWithValues n left (Some small) = IsFirstSmall n left small.variable × AreAll (variable_at n small.variable).colour (map value_view small.values.items)

-- the next stage where these variables are left: it gives one of them a value, and the further stages go on behind it
pub record IsNext (n : PlainNet) (t : PlainTransition) (left : List ℕ) (x : ℕ) (stage : Stage) : Type 0 where
  pub is_left : Contains left x
  pub goes_on : (stages : List Stage) → Further n t (those_without (x ∷ []) left) stages → Further n t left (stage ∷ stages)

-- what was planned so far: stages behind those of before, behind which the further stages go on for the variables that are left
pub record ArePlanned (n : PlainNet) (t : PlainTransition) (at_first left : List ℕ) (before stages : List Stage) : Type 0 where
  pub planned : List Stage
  pub are : stages ≡ before ++ planned
  pub go_on : (rest : List Stage) → Further n t left rest → Further n t at_first (planned ++ rest)

-- the further stages for the variables that are left, behind those of before
pub record AreFurther (n : PlainNet) (t : PlainTransition) (left : List ℕ) (before stages : List Stage) : Type 0 where
  pub further : List Stage
  pub are : stages ≡ before ++ further
  pub follow : Further n t left further
