-- What a search of a transition tries at each of its stages, and the partial bindings that it comes to.
use Rattle.std.specs.Prelude.{◌≡◌, ℕ, suc, ◌+◌, Bool, true, if◌then◌else◌, List, [], ◌∷◌, map, length, reverse, Option, Some, None}
use Rattle.std.specs.List.{flat_map, list_all}
use Rattle.cpn_definitions.specs.Value.{PlainValue}
use Rattle.cpn_definitions.specs.Colour.{PlainColour, admits}
use Rattle.cpn_definitions.specs.Marking.{Marking}
use Rattle.cpn_definitions.specs.Outcome.{Outcome, gives, faults, no_meaning}
use Rattle.cpn_definitions.specs.Inscription.{PlainPattern, variable_pattern, PlainExpr}
use Rattle.cpn_definitions.specs.Net.{PlainNet, variable_at}
use Rattle.cpn_definitions.specs.Meaning.{meaning}
use Rattle.cpn_stages.specs.Partial.{PlainPartial, bound_in}
use Rattle.cpn_stages.specs.Stages.{Stage, by_term, by_equation, by_size, by_value}
use Rattle.cpn_stages.specs.Reached.{StandsOn, IsAdmitted}
use Rattle.cpn_stages.specs.Work.{AreJust}
use Rattle.cpn_stages.specs.Fitting.{fitted}

-- What is tried at a stage: a pattern against values, one after another; or a variable against the value of an inscription.
pub data Trial : Type 0 where
  matching : PlainPattern → List PlainValue → Trial
  solving : ℕ → PlainExpr → Trial

-- whether the colour set admits the value, if there is one
abbrev pub admits_if : PlainColour → Option PlainValue → Bool
admits_if colour None = true
admits_if colour (Some v) = admits colour v

-- whether the colour set of each variable admits its value
abbrev pub are_admitted : PlainNet → PlainPartial → Bool
are_admitted n b = list_all (λ pair. admits_if (variable_at n pair.0).colour pair.1) b

-- the partial binding, if there is one with admitted values
abbrev pub kept : PlainNet → Option PlainPartial → List PlainPartial
kept n None = []
kept n (Some b) = if are_admitted n b then b ∷ [] else []

-- the partial binding in which a pattern is what an inscription gives; a fault gives nothing
abbrev pub with_outcome : PlainNet → PlainPattern → PlainPartial → Outcome PlainValue → List PlainPartial
with_outcome n p b (gives v) = kept n (fitted p v b)
with_outcome n p b (faults fault) = []
with_outcome n p b no_meaning = []

-- the partial bindings that a trial makes of one
abbrev pub next : PlainNet → Trial → PlainPartial → List PlainPartial
next n (matching p vs) b = flat_map (λ v. kept n (fitted p v b)) vs
next n (solving x e) b = with_outcome n (variable_pattern x) b (meaning n.functions e (bound_in b) 0)

-- those that several trials make of one, one after another, the last ones first
abbrev pub ends : PlainNet → List Trial → PlainPartial → List PlainPartial
ends n [] b = b ∷ []
ends n (trial ∷ trials) b = flat_map (ends n trials) (reverse (next n trial b))

-- how many partial bindings are made on the way
abbrev pub sum_of : List ℕ → ℕ
sum_of [] = 0
sum_of (k ∷ ks) = k + sum_of ks

abbrev pub made : PlainNet → List Trial → PlainPartial → ℕ
made n [] b = 1
made n (trial ∷ trials) b = suc (sum_of (map (made n trials) (next n trial b)))

-- how many tries a trial makes of a partial binding: the values against which it is held, or one
abbrev pub tries_of : Trial → ℕ
tries_of (matching p vs) = length vs
tries_of (solving x e) = 1

-- how many tries are made of a partial binding on the way to its ends: those of the next trial, at each partial binding that it
-- comes to; and one for each end
abbrev pub tried : PlainNet → List Trial → PlainPartial → ℕ
tried n [] b = 1
tried n (trial ∷ trials) b = tries_of trial + sum_of (map (tried n trials) (next n trial b))

-- a trial is that of a stage: the term's pattern against just the values that stand on its place; the equation; the variable
-- against just the values of its colour set; the term's pattern against its one value, which stands on the place
abbrev pub IsTrialOf : PlainNet → Marking → Stage → Trial → Type 0
IsTrialOf n m (by_term place p) (matching q vs) = (q ≡ p) × AreJust (StandsOn m place) vs
IsTrialOf n m (by_equation x e) (solving y f) = (y ≡ x) × (f ≡ e)
IsTrialOf n m (by_size x) (matching q vs) = (q ≡ variable_pattern x) × AreJust (IsAdmitted n x) vs
IsTrialOf n m (by_value place p v) (matching q vs) = (q ≡ p) × (vs ≡ v ∷ []) × StandsOn m place v
IsTrialOf n m stage trial = ⊥

abbrev pub AreTrialsOf : PlainNet → Marking → List Stage → List Trial → Type 0
AreTrialsOf n m [] [] = Unit {0}
AreTrialsOf n m (stage ∷ stages) (trial ∷ trials) = IsTrialOf n m stage trial × AreTrialsOf n m stages trials
AreTrialsOf n m stages trials = ⊥

-- trials of several lists of stages, one for one; what they make of a partial binding, one list after another; and how many tries
-- all of them make
abbrev pub AreTrialsOfEach : PlainNet → Marking → List (List Stage) → List (List Trial) → Type 0
AreTrialsOfEach n m [] [] = Unit {0}
AreTrialsOfEach n m (stages ∷ others) (trials ∷ more) = AreTrialsOf n m stages trials × AreTrialsOfEach n m others more
AreTrialsOfEach n m others more = ⊥

abbrev pub ends_of_each : PlainNet → List (List Trial) → PlainPartial → List PlainPartial
ends_of_each n lists b = flat_map (λ trials. ends n trials b) lists

abbrev pub tried_by_each : PlainNet → List (List Trial) → PlainPartial → ℕ
tried_by_each n lists b = sum_of (map (λ trials. tried n trials b) lists)
