-- Each turn of a search keeps what holds of it, and once nothing is under way, all is found.
use Rattle.std.proofs.Common.{◌≡◌, ℕ, zero, suc, ◌+◌, ◌<◌, true, List, [], ◌∷◌, ◌++◌, map, drop, refl, sym, ap, ◌∙◌, subst, inl, arith, add-one, append_assoc, append-nil, nat_cmp}
use Rattle.std.specs.List.{AllByRecursion}
use Rattle.std.proofs.lemmas.List.{map-append}
use Rattle.cpn_definitions.specs.Lists.{Rises}
use Rattle.cpn_definitions.specs.Marking.{Marking}
use Rattle.cpn_definitions.specs.Net.{PlainTransition, PlainNet, transition_at}
use Rattle.cpn_definitions.specs.Bindable.{AreClosed}
use Rattle.cpn_definitions.specs.Occurrence.{binds}
use Rattle.cpn_definitions.specs.Enabled.{PlainFound}
use Rattle.cpn_definitions.proofs.RisingLists.{IsIn, in_from_contains, contains_from_in, in_append_left, in_append_right, in_map, in_map_from, each_in, each_appended, of_one_in, each_mapped}
use Rattle.cpn_stages.specs.Partial.{unbound, bound_in, as_partial}
use Rattle.cpn_stages.specs.Stages.{Stage, variables_at_each, AreStages}
use Rattle.cpn_definitions.specs.Sound.{IsSolvable}
use Rattle.cpn_stages.specs.Trials.{Trial, matching, solving, next, ends, tries_of, AreTrialsOf}
use Rattle.cpn_stages.proofs.OrderlyStages.{stages_are_orderly}
use Rattle.cpn_stages.proofs.WholeBindings.{whole_again}
use Rattle.cpn_stages.specs.Work.{AllDiffer}
use Rattle.cpn_stages.proofs.ApartEnds.{ends_apart, stages_have_one}
use Rattle.cpn_stages.proofs.TransitionEnds.{unbound_variables, unbound_admitted, each_end_whole_of, covered_is_end}
use Rattle.cpn_stages.proofs.CoveredBindings.{bound_again, each_is_given}
use Rattle.cpn_search.specs.Found.{element_of}
use Rattle.cpn_search.specs.TrialViews.{PlainUnderWay, after}
use Rattle.cpn_search.specs.Searches.{AreTrials, IsUnderWay, pending, still_made, tries_at, still_tried, FoundAmong, AddsEnd, IsTurn, SearchState, AllFound, FoundAtEnds, MeansSomething}
use Rattle.cpn_search.proofs.SearchStates.{pending_end, pending_next, fewer_at_end, fewer_next, tries_end, tries_next, next_under_way, solving_means}
use Rattle.cpn_search.proofs.DifferentEnds.{apart_differ, none_of_front}
use Rattle.cpn_search.proofs.FoundBindings.{among_none, among_more}

-- ---- the beginning

pub state_begins : (n : PlainNet) (m : Marking) (t : ℕ) (trials : List Trial) → AreTrials n m t trials → SearchState n m t trials ((unbound (transition_at n t).vars, 0) ∷ []) []
state_begins n m t trials are = record {
  trials_are = are;
  under_way = (record { within = omega arith; of_them = unbound_variables (transition_at n t).vars; admitted = unbound_admitted n (transition_at n t).vars; known = λ x h. absurd (in_from_contains [] x h) }, tt);
  searched = record { visited = []; all = sym (append-nil (ends n trials (unbound (transition_at n t).vars))); among = among_none n m t };
}

-- ---- what is known at a turn

module _ (n : PlainNet) (m : Marking) (t : ℕ) (trials : List Trial) (front : List PlainUnderWay) (o : PlainUnderWay) (found : List PlainFound) (state : SearchState n m t trials (front ++ o ∷ []) found) where
  abbrev tr : PlainTransition
  tr = transition_at n t

  abbrev stages : List Stage
  stages = state.trials_are.stages

  given_at : (x : ℕ) → IsIn x tr.vars → IsIn x (variables_at_each stages)
  given_at x h = in_from_contains (variables_at_each stages) x (state.trials_are.given x (contains_from_in tr.vars x h))

  last_in : {A : Type 0} (xs : List A) (x : A) → IsIn x (xs ++ x ∷ [])
  last_in xs x = in_append_right xs (x ∷ []) x (inl refl)

  pub own_state : IsUnderWay n tr stages o
  own_state = of_one_in (IsUnderWay n tr stages) (front ++ o ∷ []) o state.under_way (last_in front o)

  each_of_front : (P : PlainUnderWay → Type 0) (xs ys : List PlainUnderWay) → AllByRecursion P (xs ++ ys) → AllByRecursion P xs
  each_of_front P [] ys all = tt
  each_of_front P (x ∷ xs) ys all = (all.0, each_of_front P xs ys all.1)

  -- the trial that comes next evaluates something that has a meaning
  pub next_means : IsSolvable n tr → (trial : Trial) (rest : List Trial) → drop o.1 trials ≡ trial ∷ rest → MeansSomething n trial o.0
  next_means solvable (matching p vs) rest here = tt
  next_means solvable (solving x e) rest here = solving_means n m tr stages trials rest x e o.0 o.1 solvable state.trials_are.orderly state.trials_are.of_them here own_state

  -- where no trial is left, it is an end
  own_end : drop o.1 trials ≡ [] → IsIn o.0 (ends n trials (unbound tr.vars))
  own_end none_left =
      let there : pending n trials (front ++ o ∷ []) ≡ o.0 ∷ pending n trials front = pending_end n trials front o.0 o.1 none_left in
      subst (IsIn o.0) (sym (state.searched.all ∙ ap (λ bs. state.searched.visited ++ bs) there)) (in_append_right state.searched.visited (o.0 ∷ pending n trials front) o.0 (inl refl))

  pub end_binds : Rises nat_cmp tr.vars → drop o.1 trials ≡ [] → binds n tr.vars (bound_in o.0) ≡ true
  end_binds listed none_left = (each_end_whole_of n m tr stages trials listed given_at state.trials_are.of_them o.0 (own_end none_left)).1

  -- ---- after the turn

  -- the binding of an end is none of those before
  end_is_new : Rises nat_cmp tr.vars → drop o.1 trials ≡ [] → IsIn (bound_in o.0) (map bound_in state.searched.visited) → ⊥
  end_is_new listed none_left h =
      let all : ends n trials (unbound tr.vars) ≡ state.searched.visited ++ o.0 ∷ pending n trials front = state.searched.all ∙ ap (λ bs. state.searched.visited ++ bs) (pending_end n trials front o.0 o.1 none_left) in
      let differ : AllDiffer (state.searched.visited ++ o.0 ∷ pending n trials front) = subst AllDiffer all state.trials_are.differ in
      let one = in_map_from bound_in state.searched.visited (bound_in o.0) h in
      let whole = (each_end_whole_of n m tr stages trials listed given_at state.trials_are.of_them one.0 (subst (IsIn one.0) (sym all) (in_append_left state.searched.visited (o.0 ∷ pending n trials front) one.0 one.1))).0 in
      let own = (each_end_whole_of n m tr stages trials listed given_at state.trials_are.of_them o.0 (own_end none_left)).0 in
      let same : one.0 ≡ o.0 = sym (whole_again one.0 whole) ∙ ap as_partial one.2 ∙ whole_again o.0 own in
      none_of_front state.searched.visited o.0 (pending n trials front) differ (subst (λ c. IsIn c state.searched.visited) same one.1)

  turned_end : Rises nat_cmp tr.vars → (now : List PlainFound) → drop o.1 trials ≡ [] → AddsEnd n m t o.0 found now → SearchState n m t trials front now
  turned_end listed now none_left adds = record {
    trials_are = state.trials_are;
    under_way = each_of_front (IsUnderWay n tr stages) front (o ∷ []) state.under_way;
    searched = record {
      visited = state.searched.visited ++ o.0 ∷ [];
      all = state.searched.all ∙ ap (λ bs. state.searched.visited ++ bs) (pending_end n trials front o.0 o.1 none_left) ∙ sym (append_assoc state.searched.visited (o.0 ∷ []) (pending n trials front));
      among = subst (λ bs. FoundAmong n m t bs now) (sym (map-append bound_in state.searched.visited (o.0 ∷ [])))
          (among_more n m t (map bound_in state.searched.visited) found now (bound_in o.0) adds.earliest state.searched.among (end_is_new listed none_left) adds.least adds.added);
    };
  }

  dropped_next : {A : Type 0} (xs rest : List A) (x : A) (k : ℕ) → drop k xs ≡ x ∷ rest → drop (suc k) xs ≡ rest
  dropped_next [] rest x zero is = cc
  dropped_next [] rest x (suc k) is = cc
  dropped_next (y ∷ xs) rest x zero is = tail_same y x xs rest is
    where
      tail_same : {A : Type 0} (y x : A) (ys xs : List A) → y ∷ ys ≡ x ∷ xs → ys ≡ xs
      tail_same y x ys xs h = cc
  dropped_next (y ∷ xs) rest x (suc k) is = dropped_next xs rest x k is

  next_dropped : (trial : Trial) (rest : List Trial) → drop o.1 trials ≡ trial ∷ rest → drop (o.1 + 1) trials ≡ rest
  next_dropped trial rest here = rw add-one (dropped_next trials rest trial o.1 here)

  turned_next : (trial : Trial) (rest : List Trial) → drop o.1 trials ≡ trial ∷ rest → SearchState n m t trials (front ++ after (o.1 + 1) (next n trial o.0)) found
  turned_next trial rest here = record {
    trials_are = state.trials_are;
    under_way = each_appended (IsUnderWay n tr stages) front (after (o.1 + 1) (next n trial o.0)) (each_of_front (IsUnderWay n tr stages) front (o ∷ []) state.under_way)
        (next_under_way n m tr stages trials rest trial o.0 o.1 state.trials_are.of_them here own_state);
    searched = record {
      visited = state.searched.visited;
      all = state.searched.all ∙ ap (λ bs. state.searched.visited ++ bs) (sym (pending_next n trials rest trial front o.0 o.1 here (next_dropped trial rest here)));
      among = state.searched.among;
    };
  }

  -- a turn keeps what holds
  pub state_turned : Rises nat_cmp tr.vars → (left : List Trial) → drop o.1 trials ≡ left → (new : List PlainUnderWay) (now : List PlainFound) → IsTurn n m t left o front new found now → SearchState n m t trials new now
  state_turned listed [] is new now turn = subst (λ xs. SearchState n m t trials xs now) (sym turn.0) (turned_end listed now is turn.1)
  state_turned listed (trial ∷ rest) is new now turn = subst (λ fs. SearchState n m t trials new fs) (sym turn.1) (subst (λ xs. SearchState n m t trials xs found) (sym turn.0) (turned_next trial rest is))

  -- and leaves fewer partial bindings to be made
  pub fewer_turned : (left : List Trial) → drop o.1 trials ≡ left → (new : List PlainUnderWay) (now : List PlainFound) → IsTurn n m t left o front new found now → still_made n trials new < still_made n trials (front ++ o ∷ [])
  fewer_turned [] is new now turn = subst (λ xs. still_made n trials xs < still_made n trials (front ++ o ∷ [])) (sym turn.0) (fewer_at_end n trials front o.0 o.1 is)
  fewer_turned (trial ∷ rest) is new now turn =
      subst (λ xs. still_made n trials xs < still_made n trials (front ++ o ∷ [])) (sym turn.0) (fewer_next n trials rest trial front o.0 o.1 is (next_dropped trial rest is))

  -- and makes so many tries of those that were to be made
  pub tries_turned : (left : List Trial) → drop o.1 trials ≡ left → (new : List PlainUnderWay) (now : List PlainFound) → IsTurn n m t left o front new found now → still_tried n trials (front ++ o ∷ []) ≡ tries_at left + still_tried n trials new
  tries_turned [] is new now turn = tries_end n trials front o.0 o.1 is ∙ ap (λ os. 1 + still_tried n trials os) (sym turn.0)
  tries_turned (trial ∷ rest) is new now turn = tries_next n trials rest trial front o.0 o.1 is (next_dropped trial rest is) ∙ ap (λ os. tries_of trial + still_tried n trials os) (sym turn.0)

-- ---- the end

-- once nothing is under way, all is found at the ends
pub state_ends : (n : PlainNet) (m : Marking) (t : ℕ) (trials : List Trial) (found : List PlainFound) → Rises nat_cmp (transition_at n t).vars → SearchState n m t trials [] found → FoundAtEnds n m t trials found
state_ends n m t trials found listed state = record {
  among = subst (λ bs. FoundAmong n m t (map bound_in bs) found) (sym all) state.searched.among;
  bound = each_mapped (λ b. binds n (transition_at n t).vars b ≡ true) bound_in (ends n trials (unbound (transition_at n t).vars))
      (each_in (λ c. binds n (transition_at n t).vars (bound_in c) ≡ true) (ends n trials (unbound (transition_at n t).vars)) (λ c h. (each_end_whole_of n m (transition_at n t) state.trials_are.stages trials listed given state.trials_are.of_them c h).1));
}
  where
    all : ends n trials (unbound (transition_at n t).vars) ≡ state.searched.visited
    all = state.searched.all ∙ append-nil state.searched.visited

    given : (x : ℕ) → IsIn x (transition_at n t).vars → IsIn x (variables_at_each state.trials_are.stages)
    given x h = in_from_contains (variables_at_each state.trials_are.stages) x (state.trials_are.given x (contains_from_in (transition_at n t).vars x h))

-- ---- of all stages

-- the trials of the stages of a transition are its trials
pub trials_of_all : (n : PlainNet) (m : Marking) (t : ℕ) (stages : List Stage) (trials : List Trial) → AreStages n (transition_at n t) stages → AreTrialsOf n m stages trials → AreTrials n m t trials
trials_of_all n m t stages trials are of_them = record {
  stages = stages;
  orderly = stages_are_orderly n (transition_at n t) stages are;
  differ = apart_differ (ends n trials (unbound (transition_at n t).vars)) (ends_apart n m stages trials (unbound (transition_at n t).vars) (stages_have_one n (transition_at n t) stages are) of_them);
  given = λ x h. contains_from_in (variables_at_each stages) x (each_is_given n (transition_at n t) stages are x (in_from_contains (transition_at n t).vars x h));
  of_them = of_them;
}

-- what is found at their ends is all that is found
pub all_found_at : (n : PlainNet) (m : Marking) (t : ℕ) (stages : List Stage) (trials : List Trial) (found : List PlainFound) → AreClosed n.functions → Rises nat_cmp (transition_at n t).vars → AreStages n (transition_at n t) stages → AreTrialsOf n m stages trials → FoundAtEnds n m t trials found → AllFound n m t found
all_found_at n m t stages trials found closed listed are of_them is = record {
  bindings = map bound_in (ends n trials (unbound (transition_at n t).vars));
  among = is.among;
  bound = is.bound;
  complete = λ time b covered_it.
      let there : IsIn (as_partial b) (ends n trials (unbound (transition_at n t).vars)) = covered_is_end n m time (element_of t b) stages trials closed listed are of_them covered_it in
      contains_from_in (map bound_in (ends n trials (unbound (transition_at n t).vars))) b (subst (λ c. IsIn c (map bound_in (ends n trials (unbound (transition_at n t).vars)))) (bound_again b) (in_map bound_in (ends n trials (unbound (transition_at n t).vars)) (as_partial b) there));
}
