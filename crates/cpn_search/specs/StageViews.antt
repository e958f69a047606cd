-- The plain stages that those of the program stand for.
use Rattle.std.specs.Prelude.{List, map}
use Rattle.cpn_definitions.specs.Bindable.{AreAll}
use Rattle.cpn_definitions.specs.Net.{PlainArc, PlainNet, variable_at}
use Rattle.cpn_core.specs.Views.{value_view}
use Rattle.cpn_stages.specs.Stages.{Stage, by_term, by_equation, by_size}
use Rattle.cpn_search.specs.SharedViews.{term_pattern, equation_inscription}
use Rattle.cpn_search.specs.declared.plan.Stage as program
use Rattle.cpn_search.specs.declared.plan.Stage.TheVariants as stages

abbrev pub stage_view : program.Stage → Stage
stage_view (stages.Term place term) = by_term place (term_pattern term)
stage_view (stages.Equation variable equation) = by_equation variable (equation_inscription equation)
stage_view (stages.Small variable values) = by_size variable

abbrev pub stages_view : List program.Stage → List Stage
stages_view ss = map stage_view ss

-- a stage of a small colour set has all its values
abbrev pub HasAllValues : PlainNet → program.Stage → Type 0
HasAllValues n (stages.Term place term) = Unit {0}
HasAllValues n (stages.Equation variable equation) = Unit {0}
HasAllValues n (stages.Small variable values) = AreAll (variable_at n variable).colour (map value_view values.items)

-- the stages of the binding terms that an arc carries
abbrev pub carried_stages : PlainArc → List Stage
carried_stages arc = map (λ term. by_term arc.place term.pattern) arc.terms
