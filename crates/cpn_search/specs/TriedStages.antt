-- What is tried at the stages of a plan, on the tokens of a marking.
use Rattle.std.specs.Prelude.{ℕ, ◌+◌, ◌<◌, ◌==◌, if◌then◌else◌, List, [], ◌∷◌, ◌++◌, map, take, drop, Option, Some, None, slice_get}
use Rattle.std.specs.Option.{option_and_then}
use Rattle.cpn_definitions.specs.Value.{PlainValue}
use Rattle.cpn_definitions.specs.Marking.{Marking, tokens_at}
use Rattle.cpn_definitions.specs.Inscription.{PlainPattern, variable_pattern}
use Rattle.cpn_core.specs.Views.{value_view}
use Rattle.cpn_stages.specs.Stages.{Stage, by_term, by_equation, by_size, by_value}
use Rattle.cpn_stages.specs.Trials.{Trial, matching, solving}
use Rattle.cpn_search.specs.SharedViews.{term_pattern, equation_inscription}
use Rattle.cpn_search.specs.StageViews.{stage_view, stages_view}
use Rattle.cpn_search.specs.declared.plan.Stage as program
use Rattle.cpn_search.specs.declared.plan.Stage.TheVariants as stages
use Rattle.cpn_tmset.specs.Listed.{values_of}

-- the place of a term is one of so many
abbrev pub IsPlaced : ℕ → Stage → Type 0
IsPlaced k (by_term place p) = place < k
IsPlaced k (by_equation x e) = Unit {0}
IsPlaced k (by_size x) = Unit {0}
IsPlaced k (by_value place p v) = place < k

-- the pattern against the different values on its place; the variable against the inscription; the variable against the values
abbrev pub trial_at : Marking → program.Stage → Trial
trial_at m (stages.Term place term) = matching (term_pattern term) (values_of (tokens_at m place))
trial_at m (stages.Equation variable equation) = solving variable (equation_inscription equation)
trial_at m (stages.Small variable values) = matching (variable_pattern variable) (map value_view values.items)

abbrev pub trials_at : Marking → List program.Stage → List Trial
trials_at m ss = map (trial_at m) ss

-- ---- with a value at a term

-- the pattern of a stage that is a binding term on the place
abbrev pub pattern_on : ℕ → Stage → Option PlainPattern
pattern_on place (by_term q p) = if place == q then Some p else None
pattern_on place stage = None

-- the pattern against the one value, and then what is tried at the other stages
abbrev pub held_first : Marking → PlainValue → List program.Stage → Option PlainPattern → List (List Trial)
held_first m v others None = []
held_first m v others (Some p) = (matching p (v ∷ []) ∷ trials_at m others) ∷ []

abbrev pub held_at : Marking → ℕ → PlainValue → List program.Stage → program.Stage → List program.Stage → List (List Trial)
held_at m place v before stage behind = held_first m v (before ++ behind) (pattern_on place (stage_view stage))

-- what is tried with a value on a place: so for each binding term there behind those before, one after another
abbrev pub held : Marking → ℕ → PlainValue → List program.Stage → List program.Stage → List (List Trial)
held m place v before [] = []
held m place v before (stage ∷ behind) = held_at m place v before stage behind ++ held m place v (before ++ stage ∷ []) behind

-- what is tried with the stage of a number held, if it is such a term
abbrev pub held_number : Marking → ℕ → PlainValue → List program.Stage → ℕ → List (List Trial)
held_number m place v ss number = held_first m v (take number ss ++ drop (number + 1) ss) (option_and_then (pattern_on place) (slice_get (stages_view ss) number))
