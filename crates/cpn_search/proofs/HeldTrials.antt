-- What is tried with a value on a place: the trials of the pulled stages of a plan, number by number.
use Rattle.std.proofs.Common.{◌≡◌, ℕ, zero, suc, ◌+◌, ◌<◌, ◌==◌, Bool, true, false, cond, List, [], ◌∷◌, ◌++◌, map, take, drop, length, get_or, Option, Some, None, slice_get, refl, sym, ap, ap₂, ◌∙◌, subst, arith, eqb-true}
use Rattle.std.specs.List.{AllByRecursion}
use Rattle.std.specs.Option.{option_and_then}
use Rattle.std.proofs.lemmas.List.{map-append}
use Rattle.std.proofs.lemmas.Option.{same_Some}
use Rattle.cpn_definitions.specs.Value.{PlainValue}
use Rattle.cpn_definitions.specs.Marking.{Marking, tokens_at, AreSorted}
use Rattle.cpn_definitions.specs.Net.{PlainNet, transition_at}
use Rattle.cpn_definitions.specs.Inscription.{PlainPattern}
use Rattle.cpn_definitions.proofs.RisingLists.{in_from_contains, contains_from_in, each_appended}
use Rattle.cpn_stages.specs.Partial.{PlainPartial, unbound}
use Rattle.cpn_stages.specs.Stages.{Stage, by_term, by_equation, by_size, by_value, variables_at_each, AreStages}
use Rattle.cpn_stages.specs.Reached.{StandsOn}
use Rattle.cpn_stages.specs.Work.{pulled_at, pulled}
use Rattle.cpn_stages.proofs.ApartEnds.{ends_apart}
use Rattle.cpn_search.proofs.DifferentEnds.{apart_differ}
use Rattle.cpn_stages.specs.Trials.{Trial, matching, ends, sum_of, tried, tried_by_each, AreTrialsOf, AreTrialsOfEach}
use Rattle.cpn_stages.proofs.CoveredBindings.{each_is_given}
use Rattle.cpn_stages.proofs.PinnedStages.{IsPulled, pulled_orderly, pulled_have_one, same_variables}
use Rattle.cpn_search.specs.Searches.{AreTrials}
use Rattle.cpn_search.specs.SharedViews.{term_pattern}
use Rattle.cpn_search.specs.declared.plan.Stage as program
use Rattle.cpn_search.specs.declared.plan.Stage.TheVariants as stages
use Rattle.cpn_search.specs.StageViews.{stage_view, stages_view, HasAllValues}
use Rattle.cpn_search.specs.TriedStages.{trials_at, pattern_on, held_first, held_at, held, held_number}
use Rattle.cpn_search.proofs.TriedPlans.{tried_are_of}

-- ---- they are the trials of the pulled stages

of_both : (n : PlainNet) (m : Marking) (xs ys : List (List Stage)) (ts us : List (List Trial)) → AreTrialsOfEach n m xs ts → AreTrialsOfEach n m ys us → AreTrialsOfEach n m (xs ++ ys) (ts ++ us)
of_both n m [] ys [] us first second = second
of_both n m [] ys (t ∷ ts) us first second = absurd first
of_both n m (x ∷ xs) ys [] us first second = absurd first
of_both n m (x ∷ xs) ys (t ∷ ts) us first second = (first.0, of_both n m xs ys ts us first.1 second)

module _ (n : PlainNet) (m : Marking) (place : ℕ) (v : PlainValue) (sorted : (p : ℕ) → AreSorted (tokens_at m p)) (stands : StandsOn m place v) where
  pub others_of : (before behind : List program.Stage) → AllByRecursion (HasAllValues n) before → AllByRecursion (HasAllValues n) behind → AreTrialsOf n m (stages_view before ++ stages_view behind) (trials_at m (before ++ behind))
  others_of before behind first second =
      subst (λ (ss : List Stage). AreTrialsOf n m ss (trials_at m (before ++ behind))) (map-append stage_view before behind) (tried_are_of n m (before ++ behind) sorted (each_appended (HasAllValues n) before behind first second))

  pub held_here : (before : List program.Stage) (stage : program.Stage) (behind : List program.Stage) → AllByRecursion (HasAllValues n) before → AllByRecursion (HasAllValues n) behind
      → AreTrialsOfEach n m (pulled_at place v (stages_view before) (stage_view stage) (stages_view behind)) (held_at m place v before stage behind)
  held_here before (stages.Term q term) behind first second = split (place == q)
    where
      split : (test : Bool) → AreTrialsOfEach n m (cond test ((by_value place (term_pattern term) v ∷ stages_view before ++ stages_view behind) ∷ []) []) (held_first m v (before ++ behind) (cond test (Some (term_pattern term)) None))
      split true = (((refl, refl, stands), others_of before behind first second), tt)
      split false = tt
  held_here before (stages.Equation variable equation) behind first second = tt
  held_here before (stages.Small variable values) behind first second = tt

  held_behind : (before behind : List program.Stage) → AllByRecursion (HasAllValues n) before → AllByRecursion (HasAllValues n) behind → AreTrialsOfEach n m (pulled place v (stages_view before) (stages_view behind)) (held m place v before behind)
  held_behind before [] first second = tt
  held_behind before (stage ∷ behind) first second =
      of_both n m (pulled_at place v (stages_view before) (stage_view stage) (stages_view behind)) (pulled place v (stages_view before ++ stage_view stage ∷ []) (stages_view behind))
      (held_at m place v before stage behind) (held m place v (before ++ stage ∷ []) behind)
      (held_here before stage behind first second.1)
      (subst (λ (ss : List Stage). AreTrialsOfEach n m (pulled place v ss (stages_view behind)) (held m place v (before ++ stage ∷ []) behind)) (map-append stage_view before (stage ∷ []))
      (held_behind (before ++ stage ∷ []) behind (each_appended (HasAllValues n) before (stage ∷ []) first (second.0, tt)) second.1))

  pub held_are_of : (ss : List program.Stage) → AllByRecursion (HasAllValues n) ss → AreTrialsOfEach n m (pulled place v [] (stages_view ss)) (held m place v [] ss)
  held_are_of ss full = held_behind [] ss tt full

-- ---- number by number

-- the stage of a number, those before it and those behind
pub record IsSplit (ss : List program.Stage) (number : ℕ) : Type 0 where
  pub stage : program.Stage
  pub there : drop number ss ≡ stage ∷ drop (number + 1) ss
  pub upto : take (number + 1) ss ≡ take number ss ++ stage ∷ []
  pub viewed : slice_get (stages_view ss) number ≡ Some (stage_view stage)
  pub is_at : (d : program.Stage) → get_or ss number d ≡ stage
  pub whole : ss ≡ take number ss ++ stage ∷ drop (number + 1) ss

pub split_at : (ss : List program.Stage) (number : ℕ) → number < length ss → IsSplit ss number
split_at [] number lt = absurd (omega arith)
split_at (s ∷ ss) zero lt = record { stage = s; there = refl; upto = refl; viewed = refl; is_at = λ d. refl; whole = refl }
split_at (s ∷ ss) (suc number) lt =
    let later = split_at ss number (omega arith) in
    record {
      stage = later.stage;
      there = later.there ∙ ap (λ ys. later.stage ∷ ys) (sym dropped);
      upto = ap (λ (j : ℕ). take j (s ∷ ss)) more ∙ ap (λ ys. s ∷ ys) later.upto;
      viewed = later.viewed;
      is_at = later.is_at;
      whole = ap (λ ys. s ∷ ys) (later.whole ∙ ap (λ ys. take number ss ++ later.stage ∷ ys) (sym dropped));
    }
  where
    more : suc number + 1 ≡ suc (number + 1)
    more = omega arith

    dropped : drop (suc number + 1) (s ∷ ss) ≡ drop (number + 1) ss
    dropped = ap (λ (j : ℕ). drop j (s ∷ ss)) more

pub held_split : (m : Marking) (place : ℕ) (v : PlainValue) (ss : List program.Stage) (number : ℕ) → number < length ss
    → held m place v (take number ss) (drop number ss) ≡ held_number m place v ss number ++ held m place v (take (number + 1) ss) (drop (number + 1) ss)
held_split m place v ss number lt =
    let at = split_at ss number lt in
    ap (held m place v (take number ss)) at.there
    ∙ ap₂ (λ (first later : List (List Trial)). first ++ later)
    (sym (ap (λ (o : Option Stage). held_first m v (take number ss ++ drop (number + 1) ss) (option_and_then (pattern_on place) o)) at.viewed))
    (sym (ap (λ (front : List program.Stage). held m place v front (drop (number + 1) ss)) at.upto))

-- the pattern of a stage of a number
pub pattern_at_number : (place : ℕ) (ss : List program.Stage) (number : ℕ) (s : program.Stage) → number < length ss → s ≡ get_or ss number s → pattern_on place (stage_view s) ≡ option_and_then (pattern_on place) (slice_get (stages_view ss) number)
pattern_at_number place ss number s lt is =
    let at = split_at ss number lt in
    ap (λ (k : program.Stage). pattern_on place (stage_view k)) (is ∙ at.is_at s) ∙ sym (ap (option_and_then (pattern_on place)) at.viewed)

-- a stage with such a pattern is the term
of_pattern : (place : ℕ) (p : PlainPattern) (stage : Stage) → pattern_on place stage ≡ Some p → stage ≡ by_term place p
of_pattern place p (by_term q r) is = split (place == q) refl is
  where
    split : (test : Bool) → (place == q) ≡ test → cond test (Some r) None ≡ Some p → by_term q r ≡ by_term place p
    split true same found = ap₂ by_term (sym (eqb-true place q same)) (same_Some r p found)
    split false same found = cc
of_pattern place p (by_equation x e) is = cc
of_pattern place p (by_size x) is = cc
of_pattern place p (by_value q r v) is = cc

-- what is tried with that stage held
pub held_is_some : (m : Marking) (place : ℕ) (v : PlainValue) (ss : List program.Stage) (number : ℕ) (s : program.Stage) (p : PlainPattern) → number < length ss → s ≡ get_or ss number s → pattern_on place (stage_view s) ≡ Some p
    → held_number m place v ss number ≡ (matching p (v ∷ []) ∷ trials_at m (take number ss ++ drop (number + 1) ss)) ∷ []
held_is_some m place v ss number s p lt is on = ap (held_first m v (take number ss ++ drop (number + 1) ss)) (sym (pattern_at_number place ss number s lt is) ∙ on)

pub held_is_none : (m : Marking) (place : ℕ) (v : PlainValue) (ss : List program.Stage) (number : ℕ) (s : program.Stage) → number < length ss → s ≡ get_or ss number s → pattern_on place (stage_view s) ≡ None → held_number m place v ss number ≡ []
held_is_none m place v ss number s lt is on = ap (held_first m v (take number ss ++ drop (number + 1) ss)) (sym (pattern_at_number place ss number s lt is) ∙ on)

-- the trials, as those of a number
pub held_lists : (m : Marking) (place : ℕ) (v : PlainValue) (ss : List program.Stage) (number : ℕ) (s : program.Stage) (p : PlainPattern) (trials : List Trial) → number < length ss → s ≡ get_or ss number s → pattern_on place (stage_view s) ≡ Some p
    → trials ≡ matching p (v ∷ []) ∷ trials_at m (take number ss ++ drop (number + 1) ss) → trials ∷ [] ≡ held_number m place v ss number
held_lists m place v ss number s p trials lt is on tried = ap (λ (ts : List Trial). ts ∷ []) tried ∙ sym (held_is_some m place v ss number s p lt is on)

-- all is left at the beginning
pub held_start : (m : Marking) (place : ℕ) (v : PlainValue) (ss : List program.Stage) → held m place v (take 0 ss) (drop 0 ss) ≡ held m place v [] ss
held_start m place v [] = refl
held_start m place v (s ∷ ss) = refl

-- nothing is left at the end
pub held_end : (m : Marking) (place : ℕ) (v : PlainValue) (before : List program.Stage) (ss : List program.Stage) (number : ℕ) → length ss ≡ number → held m place v before (drop number ss) ≡ []
held_end m place v before ss number is = ap (held m place v before) (none_behind ss number is)
  where
    none_behind : (xs : List program.Stage) (k : ℕ) → length xs ≡ k → drop k xs ≡ []
    none_behind [] zero e = refl
    none_behind [] (suc k) e = refl
    none_behind (x ∷ xs) zero e = absurd (omega arith)
    none_behind (x ∷ xs) (suc k) e = none_behind xs k (omega arith)

-- ---- how many tries

sum_both : (xs ys : List ℕ) → sum_of (xs ++ ys) ≡ sum_of xs + sum_of ys
sum_both [] ys = omega arith
sum_both (x ∷ xs) ys = let rest = sum_both xs ys in omega (arith, rest)

pub tries_of_both : (n : PlainNet) (xs ys : List (List Trial)) (b : PlainPartial) → tried_by_each n (xs ++ ys) b ≡ tried_by_each n xs b + tried_by_each n ys b
tries_of_both n xs ys b = ap sum_of (map-append (λ (ts : List Trial). tried n ts b) xs ys) ∙ sum_both (map (λ (ts : List Trial). tried n ts b) xs) (map (λ (ts : List Trial). tried n ts b) ys)

-- ---- the trials of a transition

-- the stages of a plan, that of a number pulled to the front
module _ (n : PlainNet) (m : Marking) (t : ℕ) (place : ℕ) (v : PlainValue) (ss : List program.Stage) (number : ℕ) (s : program.Stage) (p : PlainPattern) (trials : List Trial) where
  pub held_trials : ((q : ℕ) → AreSorted (tokens_at m q)) → AllByRecursion (HasAllValues n) ss → AreStages n (transition_at n t) (stages_view ss) → StandsOn m place v → number < length ss → s ≡ get_or ss number s → pattern_on place (stage_view s) ≡ Some p
      → trials ≡ matching p (v ∷ []) ∷ trials_at m (take number ss ++ drop (number + 1) ss) → AreTrials n m t trials
  held_trials sorted full are stands lt is on tried = record {
    stages = by_value place p v ∷ stages_view (take number ss) ++ stages_view (drop (number + 1) ss);
    orderly = pulled_orderly n (transition_at n t) (stages_view ss) are place v _ pulled_here;
    differ = apart_differ (ends n trials (unbound (transition_at n t).vars))
        (ends_apart n m (by_value place p v ∷ stages_view (take number ss) ++ stages_view (drop (number + 1) ss)) trials (unbound (transition_at n t).vars) (pulled_have_one n (transition_at n t) (stages_view ss) are place v _ pulled_here) own_trials);
    given = λ x h. contains_from_in (variables_at_each (by_value place p v ∷ stages_view (take number ss) ++ stages_view (drop (number + 1) ss))) x
        (same_variables n (transition_at n t) (stages_view ss) are place v _ pulled_here x (each_is_given n (transition_at n t) (stages_view ss) are x (in_from_contains (transition_at n t).vars x h)));
    of_them = own_trials;
  }
    where
      taken : (xs : List program.Stage) (k : ℕ) → AllByRecursion (HasAllValues n) xs → AllByRecursion (HasAllValues n) (take k xs)
      taken [] zero all = tt
      taken [] (suc k) all = tt
      taken (x ∷ xs) zero all = tt
      taken (x ∷ xs) (suc k) all = (all.0, taken xs k all.1)

      dropped : (xs : List program.Stage) (k : ℕ) → AllByRecursion (HasAllValues n) xs → AllByRecursion (HasAllValues n) (drop k xs)
      dropped [] zero all = tt
      dropped [] (suc k) all = tt
      dropped (x ∷ xs) zero all = all
      dropped (x ∷ xs) (suc k) all = dropped xs k all.1

      own_trials : AreTrialsOf n m (by_value place p v ∷ stages_view (take number ss) ++ stages_view (drop (number + 1) ss)) trials
      own_trials =
          subst (AreTrialsOf n m (by_value place p v ∷ stages_view (take number ss) ++ stages_view (drop (number + 1) ss))) (sym tried)
          ((refl, refl, stands), others_of n m place v sorted stands (take number ss) (drop (number + 1) ss) (taken ss number full) (dropped ss (number + 1) full))

      at : IsSplit ss number
      at = split_at ss number lt

      viewed : stage_view at.stage ≡ by_term place p
      viewed = of_pattern place p (stage_view at.stage) (ap (λ (k : program.Stage). pattern_on place (stage_view k)) (sym (is ∙ at.is_at s)) ∙ on)

      pulled_here : IsPulled place v (stages_view ss) (by_value place p v ∷ stages_view (take number ss) ++ stages_view (drop (number + 1) ss))
      pulled_here = record {
        front = stages_view (take number ss);
        pattern = p;
        back = stages_view (drop (number + 1) ss);
        were = ap stages_view at.whole ∙ map-append stage_view (take number ss) (at.stage ∷ drop (number + 1) ss) ∙ ap (λ (k : Stage). stages_view (take number ss) ++ k ∷ stages_view (drop (number + 1) ss)) viewed;
        are = refl;
      }
