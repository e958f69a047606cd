-- How far a search of a transition has come.
use Rattle.std.specs.Prelude.{◌≡◌, ℕ, ◌≤◌, nat_lt, true, ◌↔◌, List, [], ◌∷◌, ◌++◌, ◌+◌, map, take, drop, length, reverse, Option, MatchOption, Contains}
use Rattle.std.specs.List.{flat_map, list_all, AllByRecursion}
use Rattle.cpn_definitions.specs.Marking.{Marking}
use Rattle.cpn_definitions.specs.Outcome.{HasMeaning}
use Rattle.cpn_definitions.specs.Occurrence.{binds, covered}
use Rattle.cpn_definitions.specs.Net.{PlainTransition, PlainNet, transition_at}
use Rattle.cpn_definitions.specs.Meaning.{PlainBinding, meaning}
use Rattle.cpn_definitions.specs.Enabled.{PlainFound}
use Rattle.cpn_stages.specs.Partial.{PlainPartial, unbound, variables_in, bound_in}
use Rattle.cpn_stages.specs.Stages.{Stage, variables_at_each}
use Rattle.cpn_stages.specs.Orderly.{AreOrderly}
use Rattle.cpn_stages.specs.Reached.{HasValue}
use Rattle.cpn_stages.specs.Work.{AllDiffer}
use Rattle.cpn_stages.specs.Trials.{Trial, matching, solving, are_admitted, next, ends, made, sum_of, tries_of, tried, AreTrialsOf}
use Rattle.cpn_search.specs.Found.{element_of, IsNeverCovered, IsLeastTime, found_of}
use Rattle.cpn_search.specs.TrialViews.{PlainUnderWay, after}

-- Each variable of the partial binding is one of the first so many.
pub record AreDeclared (k : ℕ) (b : PlainPartial) : Type 0 where
  pub all : list_all (λ x. nat_lt x k) (variables_in b) ≡ true

-- The trials of a transition: those of stages that give each of its variables a value, in which each equation comes after its variables; no
-- two of the partial bindings that they make are the same.
pub record AreTrials (n : PlainNet) (m : Marking) (t : ℕ) (trials : List Trial) : Type 0 where
  pub stages : List Stage
  pub orderly : AreOrderly (transition_at n t) [] stages
  pub differ : AllDiffer (ends n trials (unbound (transition_at n t).vars))
  pub given : (x : ℕ) → Contains (transition_at n t).vars x → Contains (variables_at_each stages) x
  pub of_them : AreTrialsOf n m stages trials

-- A partial binding that is under way: of the transition's variables, with admitted values for those of the stages so far.
pub record IsUnderWay (n : PlainNet) (t : PlainTransition) (stages : List Stage) (o : PlainUnderWay) : Type 0 where
  pub within : o.1 ≤ length stages
  pub of_them : variables_in o.0 ≡ t.vars
  pub admitted : are_admitted n o.0 ≡ true
  pub known : (x : ℕ) → Contains (variables_at_each (take o.1 stages)) x → HasValue x o.0

-- what the trials that are left make of those that are under way, the last one first
abbrev pub pending : PlainNet → List Trial → List PlainUnderWay → List PlainPartial
pending n trials ahead = flat_map (λ o. ends n (drop o.1 trials) o.0) (reverse ahead)

-- how many partial bindings are still to be made
abbrev pub still_made : PlainNet → List Trial → List PlainUnderWay → ℕ
still_made n trials ahead = sum_of (map (λ o. made n (drop o.1 trials) o.0) ahead)

-- the tries of the next of the trials that are left, or one for an end
abbrev pub tries_at : List Trial → ℕ
tries_at [] = 1
tries_at (trial ∷ trials) = tries_of trial

-- how many tries are still to be made
abbrev pub still_tried : PlainNet → List Trial → List PlainUnderWay → ℕ
still_tried n trials ahead = sum_of (map (λ o. tried n (drop o.1 trials) o.0) ahead)

-- Found among some bindings of a transition: each of them that is covered at some time, once, with the least such time; and
-- nothing else.
pub record FoundAmong (n : PlainNet) (m : Marking) (t : ℕ) (bindings : List PlainBinding) (found : List PlainFound) : Type 0 where
  pub differ : AllDiffer (map (λ f. f.binding) found)
  pub exact : (x : PlainFound) → Contains found x ↔ (Contains bindings x.binding × IsLeastTime n m (element_of t x.binding) x.earliest)

-- How far a search has come: what has been found is what is found among the bindings that the trials made, and those that are
-- still to be made are pending.
pub record IsSearched (n : PlainNet) (m : Marking) (t : ℕ) (trials : List Trial) (ahead : List PlainUnderWay) (found : List PlainFound) : Type 0 where
  pub visited : List PlainPartial
  pub all : ends n trials (unbound (transition_at n t).vars) ≡ visited ++ pending n trials ahead
  pub among : FoundAmong n m t (map bound_in visited) found

-- each of those that are under way is
abbrev pub AreUnderWay : PlainNet → PlainTransition → List Stage → List PlainUnderWay → Type 0
AreUnderWay n t stages ahead = AllByRecursion (IsUnderWay n t stages) ahead

-- what a partial binding that is an end adds: its binding with the least time at which the transition is covered, if there is one
pub record AddsEnd (n : PlainNet) (m : Marking) (t : ℕ) (b : PlainPartial) (old new : List PlainFound) : Type 0 where
  pub earliest : Option ℕ
  pub least : MatchOption earliest (IsNeverCovered n m (element_of t (bound_in b))) (IsLeastTime n m (element_of t (bound_in b)))
  pub added : new ≡ old ++ found_of (bound_in b) earliest

-- One turn of a search, with a partial binding for which these trials are left: it is an end, or the next trial makes others of it.
abbrev pub IsTurn : PlainNet → Marking → ℕ → List Trial → PlainUnderWay → List PlainUnderWay → List PlainUnderWay → List PlainFound → List PlainFound → Type 0
IsTurn n m t [] o old new found now = (new ≡ old) × AddsEnd n m t o.0 found now
IsTurn n m t (trial ∷ trials) o old new found now = (new ≡ old ++ after (o.1 + 1) (next n trial o.0)) × (now ≡ found)

-- What holds at each turn of a search of a transition, with those that are under way and what was found.
pub record SearchState (n : PlainNet) (m : Marking) (t : ℕ) (trials : List Trial) (ahead : List PlainUnderWay) (found : List PlainFound) : Type 0 where
  pub trials_are : AreTrials n m t trials
  pub under_way : AreUnderWay n (transition_at n t) trials_are.stages ahead
  pub searched : IsSearched n m t trials ahead found

-- All found: what is found among bindings of the transition's variables that have each with which it is covered at some time.
pub record AllFound (n : PlainNet) (m : Marking) (t : ℕ) (found : List PlainFound) : Type 0 where
  pub bindings : List PlainBinding
  pub among : FoundAmong n m t bindings found
  pub bound : AllByRecursion (λ b. binds n (transition_at n t).vars b ≡ true) bindings
  pub complete : (time : ℕ) (b : PlainBinding) → covered n m time (element_of t b) ≡ true → Contains bindings b

-- Found at the ends: what is found among the bindings that the trials make.
pub record FoundAtEnds (n : PlainNet) (m : Marking) (t : ℕ) (trials : List Trial) (found : List PlainFound) : Type 0 where
  pub among : FoundAmong n m t (map bound_in (ends n trials (unbound (transition_at n t).vars))) found
  pub bound : AllByRecursion (λ b. binds n (transition_at n t).vars b ≡ true) (map bound_in (ends n trials (unbound (transition_at n t).vars)))

-- the inscription that a trial evaluates has a meaning
abbrev pub MeansSomething : PlainNet → Trial → PlainPartial → Type 0
MeansSomething n (matching p vs) b = Unit {0}
MeansSomething n (solving x e) b = HasMeaning (meaning n.functions e (bound_in b) 0)
