-- What the trials of the pulled stages make is the number of tries with the value at a term; and there is one such number.
use Rattle.std.proofs.Common.{◌≡◌, ℕ, ◌+◌, List, [], ◌∷◌, refl, ap₂, ◌∙◌, sym, subst, inl, inr, nat_cmp}
use Rattle.cpn_definitions.specs.Value.{PlainValue}
use Rattle.cpn_definitions.specs.Lists.{Rises}
use Rattle.cpn_definitions.specs.Marking.{Marking}
use Rattle.cpn_definitions.specs.Net.{PlainTransition, PlainNet, transition_at}
use Rattle.cpn_definitions.specs.Bindable.{AreClosed}
use Rattle.cpn_definitions.proofs.RisingLists.{IsIn}
use Rattle.cpn_stages.specs.Partial.{unbound}
use Rattle.cpn_stages.specs.Stages.{Stage, AreStages}
use Rattle.cpn_stages.specs.Work.{pulled, AreAllTries, IsPinned}
use Rattle.cpn_stages.specs.Trials.{Trial, tried, tried_by_each, AreTrialsOfEach}
use Rattle.cpn_stages.proofs.OnePlan.{one_plan}
use Rattle.cpn_stages.proofs.CountedTries.{are_tries, one_count}
use Rattle.cpn_stages.proofs.PinnedStages.{IsPulled, pulled_is, pulled_orderly, pulled_have_one}

module _ (n : PlainNet) (m : Marking) (t : ℕ) (closed : AreClosed n.functions) (listed : Rises nat_cmp (transition_at n t).vars) (all : List Stage) (are : AreStages n (transition_at n t) all) (place : ℕ) (v : PlainValue) where
  all_tries : (lists : List (List Stage)) (trials : List (List Trial)) → ((stages : List Stage) → IsIn stages lists → IsPulled place v all stages) → AreTrialsOfEach n m lists trials
      → AreAllTries n m (transition_at n t) lists (tried_by_each n trials (unbound (transition_at n t).vars))
  all_tries [] [] each of_them = refl
  all_tries [] (ts ∷ trials) each of_them = absurd of_them
  all_tries (stages ∷ lists) [] each of_them = absurd of_them
  all_tries (stages ∷ lists) (ts ∷ trials) each of_them = (
    tried n ts (unbound (transition_at n t).vars),
    tried_by_each n trials (unbound (transition_at n t).vars),
    are_tries n m (transition_at n t) closed listed stages ts (pulled_orderly n (transition_at n t) all are place v stages (each stages (inl refl))) (pulled_have_one n (transition_at n t) all are place v stages (each stages (inl refl))) of_them.0,
    all_tries lists trials (λ ss h. each ss (inr h)) of_them.1,
    refl,
  )

  -- what trials of the pulled stages make, from where no variable has a value
  pub pinned_is_tried : (trials : List (List Trial)) → AreTrialsOfEach n m (pulled place v [] all) trials → IsPinned n m t place v (tried_by_each n trials (unbound (transition_at n t).vars))
  pinned_is_tried trials of_them = record {
    stages = all;
    are = are;
    tries = all_tries (pulled place v [] all) trials (λ stages h. pulled_is place v [] all stages h) of_them;
  }

-- ---- one number

one_sum : (n : PlainNet) (m : Marking) (t : PlainTransition) (lists : List (List Stage)) (j k : ℕ) → AreAllTries n m t lists j → AreAllTries n m t lists k → j ≡ k
one_sum n m t [] j k first second = first ∙ sym second
one_sum n m t (stages ∷ lists) j k (own, later, is_own, is_later, is) (own', later', is_own', is_later', is') =
    is ∙ ap₂ (λ a b. a + b) (one_count n m t [] stages own own' is_own is_own') (one_sum n m t lists later later' is_later is_later') ∙ sym is'

-- a transition has one number of tries with a value on a place
pub one_pinned : (n : PlainNet) (m : Marking) (t place : ℕ) (v : PlainValue) (j k : ℕ) → IsPinned n m t place v j → IsPinned n m t place v k → j ≡ k
one_pinned n m t place v j k first second =
    one_sum n m (transition_at n t) (pulled place v [] second.stages) j k
    (subst (λ (stages : List Stage). AreAllTries n m (transition_at n t) (pulled place v [] stages) j) (one_plan n (transition_at n t) first.stages second.stages first.are second.are) first.tries)
    second.tries
