-- What the trials of pulled stages make: just the bindings in which the term has the value, of those that the stages reach.
use Rattle.std.proofs.Common.{◌≡◌, ℕ, true, List, [], ◌∷◌, ◌++◌, refl, sym, ap, subst, inl, inr, ⊎_elim, nat_cmp}
use Rattle.std.specs.List.{AllByRecursion}
use Rattle.cpn_definitions.specs.Value.{PlainValue}
use Rattle.cpn_definitions.specs.Lists.{Rises}
use Rattle.cpn_definitions.specs.Marking.{Marking}
use Rattle.cpn_definitions.specs.Inscription.{PlainPattern}
use Rattle.cpn_definitions.specs.Net.{BindingTerm, PlainArc, PlainTransition, PlainNet, transition_at}
use Rattle.cpn_definitions.specs.Bindable.{binding_terms, AreClosed}
use Rattle.cpn_definitions.specs.Occurrence.{PlainElement, covered}
use Rattle.cpn_definitions.proofs.RisingLists.{IsIn, in_from_contains, contains_from_in, in_append_right, in_append_cases, in_map_from, in_flat_map, in_flat_from}
use Rattle.cpn_stages.specs.Partial.{PlainPartial, unbound, bound_in, as_partial}
use Rattle.cpn_stages.specs.Instances.{IsInstance}
use Rattle.cpn_stages.specs.Stages.{Stage, by_term, by_equation, by_size, by_value, terms_at, term_stages, those_without, variables_at_each, Further, next_equation, next_small, AreStages}
use Rattle.cpn_stages.specs.Reached.{Holds, IsReached}
use Rattle.cpn_stages.specs.Work.{AreJust, pulled}
use Rattle.cpn_stages.specs.Trials.{Trial, ends, ends_of_each, AreTrialsOf, AreTrialsOfEach}
use Rattle.cpn_stages.specs.TermsWith.{HasTermWith}
use Rattle.cpn_stages.proofs.CoveredBindings.{each_is_given}
use Rattle.cpn_stages.proofs.WholeBindings.{IsWhole, whole_from, whole_again}
use Rattle.cpn_stages.proofs.ReachedEnds.{ends_are_reached}
use Rattle.cpn_stages.proofs.PinnedStages.{IsPulled, pulled_is, same_variables, pulled_orderly, pulled_have_one, with_is_reached}

-- no further stage is a term
no_term_further : (n : PlainNet) (t : PlainTransition) (left : List ℕ) (stages : List Stage) (place : ℕ) (p : PlainPattern) → Further n t left stages → IsIn (by_term place p) stages → ⊥
no_term_further n t left [] place p d h = h
no_term_further n t left (by_term q r ∷ stages) place p d h = elim d [ ]
no_term_further n t left (by_value q r v ∷ stages) place p d h = elim d [ ]
no_term_further n t left (by_equation x e ∷ stages) place p (next_equation left' x' e' stages' found further) (inl same) = cc
no_term_further n t left (by_equation x e ∷ stages) place p (next_equation left' x' e' stages' found further) (inr h) = no_term_further n t (those_without (x ∷ []) left) stages place p further h
no_term_further n t left (by_size x ∷ stages) place p (next_small left' x' stages' none small further) (inl same) = cc
no_term_further n t left (by_size x ∷ stages) place p (next_small left' x' stages' none small further) (inr h) = no_term_further n t (those_without (x ∷ []) left) stages place p further h

abbrev pub place_of : ℕ → Stage → ℕ
place_of k (by_term place p) = place
place_of k stage = k

abbrev pattern_of : PlainPattern → Stage → PlainPattern
pattern_of q (by_term place p) = p
pattern_of q stage = q

-- the term that was pulled is a binding term of the transition, on the place
pub pulled_term : (n : PlainNet) (t : PlainTransition) (all : List Stage) (place : ℕ) (v : PlainValue) (stages : List Stage) → AreStages n t all → (is : IsPulled place v all stages)
    → (arc : PlainArc) × IsIn arc t.inputs × ((term : BindingTerm) × IsIn term (binding_terms arc.expr) × (by_term arc.place term.pattern ≡ by_term place is.pattern))
pulled_term n t all place v stages are is =
    let here : IsIn (by_term place is.pattern) (term_stages t ++ are.further) = subst (IsIn (by_term place is.pattern)) are.are (subst (IsIn (by_term place is.pattern)) (sym is.were) (in_append_right is.front (by_term place is.pattern ∷ is.back) (by_term place is.pattern) (inl refl))) in
    let term : IsIn (by_term place is.pattern) (term_stages t) = ⊎_elim (λ g. g) (λ g. absurd (no_term_further n t _ are.further place is.pattern are.follow g)) (in_append_cases (term_stages t) are.further (by_term place is.pattern) here) in
    let arc = in_flat_from terms_at t.inputs (by_term place is.pattern) term in
    let one = in_map_from (λ (k : BindingTerm). by_term arc.0.place k.pattern) (binding_terms arc.0.expr) (by_term place is.pattern) arc.2 in
    (arc.0, arc.1, one)

module _ (n : PlainNet) (m : Marking) (t : PlainTransition) (all : List Stage) (listed : Rises nat_cmp t.vars) (are : AreStages n t all) (place : ℕ) (v : PlainValue) (stages : List Stage) (is : IsPulled place v all stages) where
  -- what pulled stages reach gives each variable a value
  pub pulled_whole : (b : PlainPartial) → IsReached n m t stages b → IsWhole b
  pulled_whole b reached =
      whole_from b (subst (Rises nat_cmp) (sym reached.of_them) listed)
      (λ x h. let of_t : IsIn x t.vars = subst (IsIn x) reached.of_them h in
      (reached.just x (contains_from_in t.vars x of_t)).1 (contains_from_in (variables_at_each stages) x (same_variables n t all are place v stages is x (each_is_given n t all are x of_t))))

  -- and in it the term has the value
  pub pulled_with : (b : PlainPartial) → IsReached n m t stages b → HasTermWith t place v (bound_in b)
  pulled_with b reached =
      let of_term = pulled_term n t all place v stages are is in
      let arc : PlainArc = of_term.0 in
      let one = of_term.2 in
      let has : IsInstance b is.pattern v = (subst (AllByRecursion (Holds n m b)) is.are reached.hold).0.1 in
      record {
        arc = arc;
        is_input = contains_from_in t.inputs arc of_term.1;
        from_it = ap (place_of place) one.2;
        term = one.0;
        is_term = contains_from_in (binding_terms arc.expr) one.0 one.1;
        has_value = subst (λ c. IsInstance c one.0.pattern v) (sym (whole_again b (pulled_whole b reached))) (subst (λ q. IsInstance b q v) (sym (ap (pattern_of is.pattern) one.2)) has);
      }

  pub pulled_ends : (trials : List Trial) → AreClosed n.functions → AreTrialsOf n m stages trials → AreJust (IsReached n m t stages) (ends n trials (unbound t.vars))
  pulled_ends trials closed of_them = ends_are_reached n m t stages trials closed listed (pulled_orderly n t all are place v stages is) of_them (pulled_have_one n t all are place v stages is)

-- ---- of all the pulled stages

-- where a list of trials stands
record HasTrials (n : PlainNet) (m : Marking) (lists : List (List Stage)) (trials : List (List Trial)) (stages : List Stage) (own : List Trial) : Type 0 where
  listed : IsIn stages lists
  tried : IsIn own trials
  of_them : AreTrialsOf n m stages own

trials_at : (n : PlainNet) (m : Marking) (lists : List (List Stage)) (trials : List (List Trial)) (stages : List Stage) → AreTrialsOfEach n m lists trials → IsIn stages lists → (own : List Trial) × HasTrials n m lists trials stages own
trials_at n m [] trials stages of_each h = absurd h
trials_at n m (ss ∷ lists) [] stages of_each h = absurd of_each
trials_at n m (ss ∷ lists) (ts ∷ trials) stages of_each (inl e) = (ts, record { listed = inl e; tried = inl refl; of_them = subst (λ (k : List Stage). AreTrialsOf n m k ts) e of_each.0 })
trials_at n m (ss ∷ lists) (ts ∷ trials) stages of_each (inr h) =
    let later = trials_at n m lists trials stages of_each.1 h in
    (later.0, record { listed = inr later.1.listed; tried = inr later.1.tried; of_them = later.1.of_them })

stages_at : (n : PlainNet) (m : Marking) (lists : List (List Stage)) (trials : List (List Trial)) (own : List Trial) → AreTrialsOfEach n m lists trials → IsIn own trials → (stages : List Stage) × HasTrials n m lists trials stages own
stages_at n m [] [] own of_each h = absurd h
stages_at n m [] (ts ∷ trials) own of_each h = absurd of_each
stages_at n m (ss ∷ lists) [] own of_each h = absurd h
stages_at n m (ss ∷ lists) (ts ∷ trials) own of_each (inl e) = (ss, record { listed = inl refl; tried = inl e; of_them = subst (λ (k : List Trial). AreTrialsOf n m ss k) e of_each.0 })
stages_at n m (ss ∷ lists) (ts ∷ trials) own of_each (inr h) =
    let later = stages_at n m lists trials own of_each.1 h in
    (later.0, record { listed = inr later.1.listed; tried = inr later.1.tried; of_them = later.1.of_them })

-- each end of their trials is a binding in which a binding term on the place has the value
pub each_end_with
    : (n : PlainNet) (m : Marking) (t : PlainTransition) (all : List Stage) (place : ℕ) (v : PlainValue) (trials : List (List Trial)) → AreClosed n.functions → Rises nat_cmp t.vars → AreStages n t all
    → AreTrialsOfEach n m (pulled place v [] all) trials → (c : PlainPartial) → IsIn c (ends_of_each n trials (unbound t.vars)) → HasTermWith t place v (bound_in c)
each_end_with n m t all place v trials closed listed are of_each c h =
    let own = in_flat_from (λ ts. ends n ts (unbound t.vars)) trials c h in
    let at = stages_at n m (pulled place v [] all) trials own.0 of_each own.1 in
    let is = pulled_is place v [] all at.0 at.1.listed in
    pulled_with n m t all listed are place v at.0 is c (((pulled_ends n m t all listed are place v at.0 is own.0 closed at.1.of_them).all c).1 (contains_from_in (ends n own.0 (unbound t.vars)) c own.2))

-- and each binding with which the transition is covered, and in which one has the value, is one of them
pub with_is_end
    : (n : PlainNet) (m : Marking) (time place : ℕ) (v : PlainValue) (e : PlainElement) (all : List Stage) (trials : List (List Trial)) → AreClosed n.functions → Rises nat_cmp (transition_at n e.transition).vars → AreStages n (transition_at n e.transition) all
    → AreTrialsOfEach n m (pulled place v [] all) trials → covered n m time e ≡ true → HasTermWith (transition_at n e.transition) place v e.binding → IsIn (as_partial e.binding) (ends_of_each n trials (unbound (transition_at n e.transition).vars))
with_is_end n m time place v e all trials closed listed are of_each covered_it with_it =
    let by = with_is_reached n m time place v e all are covered_it with_it in
    let at = trials_at n m (pulled place v [] all) trials by.stages of_each by.is_in in
    let is = pulled_is place v [] all by.stages by.is_in in
    in_flat_map (λ ts. ends n ts (unbound (transition_at n e.transition).vars)) trials at.0 (as_partial e.binding) at.1.tried
    (in_from_contains (ends n at.0 (unbound (transition_at n e.transition).vars)) (as_partial e.binding)
    (((pulled_ends n m (transition_at n e.transition) all listed are place v by.stages is at.0 closed at.1.of_them).all (as_partial e.binding)).0 by.reached))
