-- Transitions whose inscriptions are accepted, with just their variables; and what this says of their meaning.
-- Source: own choice.
use Rattle.std.specs.Prelude.{◌≡◌, ◌↔◌, ℕ, ◌≤◌, true, nat_lt, List, [], ◌++◌, length, Option, Some, None, Contains}
use Rattle.std.specs.List.{list_all, flat_map, AllByRecursion}
use Rattle.std.specs.Ordering.{nat_cmp}
use Rattle.cpn_definitions.specs.Lists.{Rises}
use Rattle.cpn_definitions.specs.Inscription.{PlainExpr}
use Rattle.cpn_definitions.specs.Outcome.{HasMeaning}
use Rattle.cpn_definitions.specs.Meaning.{PlainBinding, meaning}
use Rattle.cpn_definitions.specs.Terms.{terms_of}
use Rattle.cpn_definitions.specs.Bindable.{variables_of}
use Rattle.cpn_definitions.specs.Net.{PlainArc, PlainTransition, PlainNet}
use Rattle.cpn_definitions.specs.Occurrence.{binds, transition_delay}
use Rattle.cpn_definitions.specs.Times.{last_time}
use Rattle.cpn_trees.specs.Trees.{PlainAst, PlainAsts}
use Rattle.cpn_typing.specs.Names.{Declared, ok}
use Rattle.cpn_typing.specs.Multisets.{Side, input, output, checked_arc}
use Rattle.cpn_typing.specs.GuardsAndDelays.{checked_guard, checked_delay}
use Rattle.cpn_typing.specs.InscriptionVariables.{inscription_variables}

-- ---- variables

abbrev pub delay_variables : Option PlainExpr → List ℕ
delay_variables None = []
delay_variables (Some e) = variables_of e

abbrev pub arcs_variables : List PlainArc → List ℕ
arcs_variables arcs = flat_map (λ arc. inscription_variables arc.expr) arcs

-- the variables of a transition as they stand in its guard, its delay and its arcs
abbrev pub transition_variables : PlainTransition → List ℕ
transition_variables t = flat_map variables_of t.guard ++ (delay_variables t.delay ++ (arcs_variables t.inputs ++ arcs_variables t.outputs))

-- Its variables: just these, each once, in declaration order.
pub record HasItsVariables (t : PlainTransition) : Type 0 where
  pub listed : Rises nat_cmp t.vars
  pub exact : (x : ℕ) → Contains t.vars x ↔ Contains (transition_variables t) x

-- ---- accepted inscriptions

-- an arc whose inscription is what a tree becomes on its side, at its place's colour set
pub record IsAcceptedArc (ds : Declared) (side : Side) (arc : PlainArc) : Type 0 where
  pub tree : PlainAst
  pub is : checked_arc ds side arc.colour tree ≡ ok arc.expr

abbrev pub IsAcceptedDelay : Declared → Option PlainExpr → Type 0
IsAcceptedDelay ds None = Unit {0}
IsAcceptedDelay ds (Some delay) = (tree : PlainAst) × (checked_delay ds tree ≡ ok delay)

-- A transition of accepted inscriptions, with its variables.
pub record IsAcceptedTransition (ds : Declared) (t : PlainTransition) : Type 0 where
  pub variables : HasItsVariables t
  pub guard_tree : PlainAsts
  pub guard : checked_guard ds guard_tree ≡ ok t.guard
  pub delay : IsAcceptedDelay ds t.delay
  pub inputs : AllByRecursion (IsAcceptedArc ds input) t.inputs
  pub outputs : AllByRecursion (IsAcceptedArc ds output) t.outputs

-- A net of what is declared: its functions and its variables are those.
pub record IsNetOf (ds : Declared) (n : PlainNet) : Type 0 where
  pub functions_are : n.functions ≡ ds.functions
  pub variables_are : n.variables ≡ ds.variables

-- ---- meaning

-- an arc's inscription has terms or a fault under each binding at each time
abbrev pub ArcMeans : PlainNet → PlainTransition → PlainArc → Type 0
ArcMeans n t arc = (b : PlainBinding) (time : ℕ) → binds n t.vars b ≡ true → time ≤ last_time → HasMeaning (terms_of n.functions arc.expr arc.colour b time)

-- What a transition's inscriptions mean: its variables are variables of the net, and under each binding of them at each time
-- its guard, its delay and its arcs have a value or a fault.
pub record IsMeaningfulTransition (n : PlainNet) (t : PlainTransition) : Type 0 where
  pub declared : list_all (λ x. nat_lt x (length n.variables)) t.vars ≡ true
  pub guard_means : (b : PlainBinding) → binds n t.vars b ≡ true → AllByRecursion (λ e. HasMeaning (meaning n.functions e b 0)) t.guard
  pub delay_means : (b : PlainBinding) (time : ℕ) → binds n t.vars b ≡ true → time ≤ last_time → HasMeaning (transition_delay n.functions t.delay b time)
  pub inputs_mean : AllByRecursion (ArcMeans n t) t.inputs
  pub outputs_mean : AllByRecursion (ArcMeans n t) t.outputs
