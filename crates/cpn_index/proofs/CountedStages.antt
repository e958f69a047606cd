-- Where a transition has stages, it has a number of tries in each marking: as a whole, and with each value on each place.
use Rattle.std.proofs.Common.{◌≡◌, ◌⊎◌, ℕ, ◌+◌, Bool, true, false, List, [], ◌∷◌, ◌++◌, map, refl, sym, subst, inl, inr, ⊎_elim, arith, nat_cmp}
use Rattle.std.specs.List.{list_any, AllByRecursion}
use Rattle.cpn_definitions.specs.Value.{PlainValue}
use Rattle.cpn_definitions.specs.Order.{same_value}
use Rattle.cpn_definitions.specs.ValueOrder.{same_value_refl, same_value_true}
use Rattle.cpn_definitions.specs.Inscription.{PlainPattern, variable_pattern}
use Rattle.cpn_definitions.specs.Lists.{Rises}
use Rattle.cpn_definitions.specs.Marking.{PlainToken, Marking, tokens_at}
use Rattle.cpn_definitions.specs.Net.{BindingTerm, PlainTransition, PlainNet, transition_at}
use Rattle.cpn_definitions.specs.Bindable.{binding_terms, AreClosed}
use Rattle.cpn_definitions.proofs.RisingLists.{IsIn, in_from_contains, contains_from_in, in_append_left, in_append_right, in_append_cases, some_passes, one_that_passes, each_in, of_one_in, each_appended, each_flat}
use Rattle.cpn_stages.specs.Partial.{unbound}
use Rattle.cpn_stages.specs.Stages.{Stage, by_term, by_equation, by_size, by_value, terms_at, term_stages, those_without, Further, none_left, next_equation, next_small, AreStages}
use Rattle.cpn_stages.specs.Reached.{StandsOn, Holds, IsReached}
use Rattle.cpn_stages.specs.Work.{AreSoMany, IsTries, AreTries, IsFull, pulled, AreAllTries, IsPinned}
use Rattle.cpn_stages.specs.Trials.{Trial, matching, solving, tried, IsTrialOf, AreTrialsOf}
use Rattle.cpn_stages.proofs.ApartEnds.{stages_have_one}
use Rattle.cpn_stages.proofs.OrderlyStages.{stages_are_orderly}
use Rattle.cpn_stages.proofs.CountedTries.{are_tries, full_is_tried}
use Rattle.cpn_stages.proofs.PinnedStages.{IsPulled, pulled_is, pulled_orderly, pulled_have_one}
use Rattle.cpn_stages.proofs.StandingValues.{values_on, just_standing, just_admitted}

-- a number with a property
pub record HasNumber (Has : ℕ → Type 0) : Type 0 where
  pub number : ℕ
  pub has : Has number

-- ---- the trials of stages

record HasTrial (n : PlainNet) (m : Marking) (stage : Stage) : Type 0 where
  trial : Trial
  is : IsTrialOf n m stage trial

record HaveTrials (n : PlainNet) (m : Marking) (stages : List Stage) : Type 0 where
  trials : List Trial
  of_them : AreTrialsOf n m stages trials

-- a value stands on a place, or it does not
stands_or_not : (m : Marking) (place : ℕ) (v : PlainValue) → StandsOn m place v ⊎ (StandsOn m place v → ⊥)
stands_or_not m place v = split (list_any (λ token. same_value token.value v) (tokens_at m place)) refl
  where
    split : (test : Bool) → list_any (λ (token : PlainToken). same_value token.value v) (tokens_at m place) ≡ test → StandsOn m place v ⊎ (StandsOn m place v → ⊥)
    split true is =
        let one = one_that_passes (λ (token : PlainToken). same_value token.value v) (tokens_at m place) is in
        inl (one.0, contains_from_in (tokens_at m place) one.0 one.1, same_value_true one.0.value v one.2)
    split false is = inr (λ stands. it_does (some_passes (λ (token : PlainToken). same_value token.value v) (tokens_at m place) stands.0 (in_from_contains (tokens_at m place) stands.0 stands.1)
        (subst (λ (w : PlainValue). same_value stands.0.value w ≡ true) stands.2 (same_value_refl stands.0.value))))
      where
        it_does : list_any (λ (token : PlainToken). same_value token.value v) (tokens_at m place) ≡ true → ⊥
        it_does passes = cc

module _ (n : PlainNet) (m : Marking) where
  terms_have : (place : ℕ) (terms : List BindingTerm) → AllByRecursion (HasTrial n m) (map (λ (term : BindingTerm). by_term place term.pattern) terms)
  terms_have place [] = tt
  terms_have place (term ∷ terms) = (record { trial = matching term.pattern (values_on m place); is = (refl, just_standing m place) }, terms_have place terms)

  further_have : (t : PlainTransition) (left : List ℕ) (stages : List Stage) → Further n t left stages → AllByRecursion (HasTrial n m) stages
  further_have t [] [] none_left = tt
  further_have t (x ∷ left) [] d = elim d [ ]
  further_have t left (by_term place p ∷ stages) d = elim d [ ]
  further_have t left (by_value place p v ∷ stages) d = elim d [ ]
  further_have t left (by_equation x e ∷ stages) (next_equation left' x' e' stages' found further) =
      (record { trial = solving x e; is = (refl, refl) }, further_have t (those_without (x ∷ []) left) stages further)
  further_have t left (by_size x ∷ stages) (next_small left' x' stages' none first further) =
      (record { trial = matching (variable_pattern x) first.small.0; is = (refl, just_admitted n x first.small.0 first.small.1) }, further_have t (those_without (x ∷ []) left) stages further)

  stages_have : (t : PlainTransition) (stages : List Stage) → AreStages n t stages → AllByRecursion (HasTrial n m) stages
  stages_have t stages are =
      subst (AllByRecursion (HasTrial n m)) (sym are.are)
      (each_appended (HasTrial n m) (term_stages t) are.further
      (each_flat (HasTrial n m) terms_at t.inputs (each_in (λ arc. AllByRecursion (HasTrial n m) (terms_at arc)) t.inputs (λ arc h. terms_have arc.place (binding_terms arc.expr))))
      (further_have t _ are.further are.follow))

  trials_from : (stages : List Stage) → AllByRecursion (HasTrial n m) stages → HaveTrials n m stages
  trials_from [] each = record { trials = []; of_them = tt }
  trials_from (stage ∷ stages) each = let rest = trials_from stages each.1 in record { trials = each.0.trial ∷ rest.trials; of_them = (each.0.is, rest.of_them) }

  -- ---- as a whole

  pub some_full : (t : ℕ) (stages : List Stage) → AreClosed n.functions → Rises nat_cmp (transition_at n t).vars → AreStages n (transition_at n t) stages → HasNumber (IsFull n m t)
  some_full t stages closed listed are =
      let its = trials_from stages (stages_have (transition_at n t) stages are) in
      record { number = tried n its.trials (unbound (transition_at n t).vars); has = full_is_tried n m t stages its.trials closed listed are its.of_them }

  -- ---- with a value on a place

  -- each of the stages has a number of tries
  each_tries : (t : PlainTransition) (done stages : List Stage) (k : ℕ) → AreTries n m t done stages k → AllByRecursion (λ stage. HasNumber (IsTries n m stage)) stages
  each_tries t done [] k tries = tt
  each_tries t done (stage ∷ stages) k (reached, own, later, many, is_own, is_later, is) = (record { number = own; has = is_own }, each_tries t (done ++ stage ∷ []) stages later is_later)

  -- where the value does not stand there, nothing is reached
  none_reached : (t : PlainTransition) (done : List Stage) (place : ℕ) (p : PlainPattern) (v : PlainValue) → (StandsOn m place v → ⊥) → IsIn (by_value place p v) done → AreSoMany (IsReached n m t done) 0
  none_reached t done place p v absent h = ([], record { differ = tt; all = λ b. (λ is. absurd (absent (of_one_in (Holds n m b) done (by_value place p v) is.hold h).0), λ g. absurd (in_from_contains [] b g)) }, refl)

  none_tried : (t : PlainTransition) (done stages : List Stage) (place : ℕ) (p : PlainPattern) (v : PlainValue) → (StandsOn m place v → ⊥) → IsIn (by_value place p v) done → AllByRecursion (λ stage. HasNumber (IsTries n m stage)) stages
      → AreTries n m t done stages 0
  none_tried t done [] place p v absent h each = none_reached t done place p v absent h
  none_tried t done (stage ∷ stages) place p v absent h each = (
    0,
    each.0.number,
    0,
    none_reached t done place p v absent h,
    each.0.has,
    none_tried t (done ++ stage ∷ []) stages place p v absent (in_append_left done (stage ∷ []) (by_value place p v) h) each.1,
    omega arith,
  )

  some_of_each : (t : PlainTransition) (lists : List (List Stage)) → ((stages : List Stage) → IsIn stages lists → HasNumber (AreTries n m t [] stages)) → HasNumber (AreAllTries n m t lists)
  some_of_each t [] each = record { number = 0; has = refl }
  some_of_each t (stages ∷ lists) each =
      let own = each stages (inl refl) in
      let later = some_of_each t lists (λ ss h. each ss (inr h)) in
      record { number = own.number + later.number; has = (own.number, later.number, own.has, later.has, refl) }

  module _ (t : ℕ) (all : List Stage) (closed : AreClosed n.functions) (listed : Rises nat_cmp (transition_at n t).vars) (are : AreStages n (transition_at n t) all) (place : ℕ) (v : PlainValue) where
    -- what holds of each stage holds of each that is not pulled
    others : (P : Stage → Type 0) (stages : List Stage) (is : IsPulled place v all stages) → AllByRecursion P all → AllByRecursion P (is.front ++ is.back)
    others P stages is each = each_in P (is.front ++ is.back) (λ s h. of_one_in P all s each (subst (IsIn s) (sym is.were)
        (⊎_elim (λ g. in_append_left is.front (by_term place is.pattern ∷ is.back) s g) (λ g. in_append_right is.front (by_term place is.pattern ∷ is.back) s (inr g)) (in_append_cases is.front is.back s h))))

    where_it_stands : (stages : List Stage) → IsPulled place v all stages → StandsOn m place v → HasNumber (AreTries n m (transition_at n t) [] stages)
    where_it_stands stages is stands =
        let its = trials_from stages (subst (AllByRecursion (HasTrial n m)) (sym is.are) (record { trial = matching is.pattern (v ∷ []); is = (refl, refl, stands) }, others (HasTrial n m) stages is (stages_have (transition_at n t) all are))) in
        record {
          number = tried n its.trials (unbound (transition_at n t).vars);
          has = are_tries n m (transition_at n t) closed listed stages its.trials (pulled_orderly n (transition_at n t) all are place v stages is) (pulled_have_one n (transition_at n t) all are place v stages is) its.of_them;
        }

    where_it_does_not : (stages : List Stage) → IsPulled place v all stages → (StandsOn m place v → ⊥) → HasNumber (AreTries n m (transition_at n t) [] stages)
    where_it_does_not stages is absent =
        let its = trials_from all (stages_have (transition_at n t) all are) in
        let tries = are_tries n m (transition_at n t) closed listed all its.trials (stages_are_orderly n (transition_at n t) all are) (stages_have_one n (transition_at n t) all are) its.of_them in
        let each = each_tries (transition_at n t) [] all (tried n its.trials (unbound (transition_at n t).vars)) tries in
        let first : AreTries n m (transition_at n t) [] [] 1 = are_tries n m (transition_at n t) closed listed [] [] tt tt tt in
        record {
          number = 1;
          has = subst (λ ss. AreTries n m (transition_at n t) [] ss 1) (sym is.are)
              (1, 1, 0, first, refl, none_tried (transition_at n t) (by_value place is.pattern v ∷ []) (is.front ++ is.back) place is.pattern v absent (inl refl) (others (λ s. HasNumber (IsTries n m s)) stages is each), refl);
        }

    pub some_pinned : HasNumber (IsPinned n m t place v)
    some_pinned =
        let each = some_of_each (transition_at n t) (pulled place v [] all) (λ ss h. let is = pulled_is place v [] all ss h in ⊎_elim (λ stands. where_it_stands ss is stands) (λ absent. where_it_does_not ss is absent) (stands_or_not m place v)) in
        record { number = each.number; has = record { stages = all; are = are; tries = each.has } }
