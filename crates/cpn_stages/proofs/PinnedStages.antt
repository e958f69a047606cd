-- The stages with one binding term pulled to the front and held to a value: they are orderly, and reach just the bindings in which the
-- term has the value.
use Rattle.std.proofs.Common.{◌≡◌, ◌⊎◌, ℕ, ◌==◌, Bool, true, false, cond, List, [], ◌∷◌, ◌++◌, refl, sym, ◌∙◌, subst, inl, inr, ⊎_elim, append_assoc, eqb-true}
use Rattle.std.specs.List.{AllByRecursion}
use Rattle.std.proofs.lemmas.Grind.{flat_map-append}
use Rattle.cpn_definitions.specs.Value.{PlainValue}
use Rattle.cpn_definitions.specs.Marking.{Marking}
use Rattle.cpn_definitions.specs.Inscription.{PlainPattern}
use Rattle.cpn_definitions.specs.Net.{BindingTerm, PlainTransition, PlainNet, transition_at}
use Rattle.cpn_definitions.specs.Meaning.{PlainBinding}
use Rattle.cpn_definitions.specs.Bindable.{binding_terms}
use Rattle.cpn_definitions.specs.Occurrence.{PlainElement, needs_of, are_covered, threshold_in, covered}
use Rattle.cpn_definitions.proofs.NumberTests.{equals_itself}
use Rattle.cpn_definitions.proofs.Outcomes.{gives_and_parts}
use Rattle.cpn_definitions.proofs.RisingLists.{IsIn, in_from_contains, contains_from_in, in_append_left, in_append_right, in_append_cases, in_map, in_flat_map, of_one_in}
use Rattle.cpn_stages.specs.Partial.{PlainPartial, as_partial}
use Rattle.cpn_stages.specs.Instances.{IsInstance}
use Rattle.cpn_stages.specs.Stages.{Stage, by_term, by_equation, by_size, by_value, variables_at, variables_at_each, terms_at, term_stages, AreStages}
use Rattle.cpn_stages.specs.Reached.{StandsOn, Holds, IsReached}
use Rattle.cpn_stages.specs.Work.{pulled_at, pulled}
use Rattle.cpn_stages.specs.Orderly.{IsTimelyStage, AreOrderly}
use Rattle.cpn_stages.specs.TermsWith.{HasTermWith}
use Rattle.cpn_stages.proofs.OrderlyStages.{stages_are_orderly}
use Rattle.cpn_stages.proofs.CoveredBindings.{covered_parts, covered_is_reached}
use Rattle.cpn_stages.proofs.TermTokens.{needs_have, need_stands}
use Rattle.cpn_stages.proofs.ApartEnds.{HasOneValue, one_value, terms_have_one, stages_have_one}

-- ---- which stages are pulled

-- the stages, of which a binding term on the place was pulled to the front
pub record IsPulled (place : ℕ) (v : PlainValue) (all stages : List Stage) : Type 0 where
  pub front : List Stage
  pub pattern : PlainPattern
  pub back : List Stage
  pub were : all ≡ front ++ by_term place pattern ∷ back
  pub are : stages ≡ by_value place pattern v ∷ front ++ back

pulled_here : (place : ℕ) (v : PlainValue) (before : List Stage) (stage : Stage) (behind stages : List Stage) → IsIn stages (pulled_at place v before stage behind) → IsPulled place v (before ++ stage ∷ behind) stages
pulled_here place v before (by_term q p) behind stages h = split (place == q) refl h
  where
    split : (test : Bool) → (place == q) ≡ test → IsIn stages (cond test ((by_value place p v ∷ before ++ behind) ∷ []) []) → IsPulled place v (before ++ by_term q p ∷ behind) stages
    split true is (inl e) = record {
      front = before;
      pattern = p;
      back = behind;
      were = subst (λ (k : ℕ). before ++ by_term q p ∷ behind ≡ before ++ by_term k p ∷ behind) (sym (eqb-true place q is)) refl;
      are = sym e;
    }
    split true is (inr g) = absurd g
    split false is g = absurd g
pulled_here place v before (by_equation x e) behind stages h = absurd h
pulled_here place v before (by_size x) behind stages h = absurd h
pulled_here place v before (by_value q p w) behind stages h = absurd h

pub pulled_is : (place : ℕ) (v : PlainValue) (before behind stages : List Stage) → IsIn stages (pulled place v before behind) → IsPulled place v (before ++ behind) stages
pulled_is place v before [] stages h = absurd h
pulled_is place v before (stage ∷ behind) stages h =
    ⊎_elim (λ here. pulled_here place v before stage behind stages here)
    (λ there. subst (λ all. IsPulled place v all stages) (append_assoc before (stage ∷ []) behind) (pulled_is place v (before ++ stage ∷ []) behind stages there))
    (in_append_cases (pulled_at place v before stage behind) (pulled place v (before ++ stage ∷ []) behind) stages h)

-- each binding term on the place is pulled
pulled_has : (place : ℕ) (v : PlainValue) (p : PlainPattern) (before behind : List Stage) → IsIn (by_term place p) behind
    → (stages : List Stage) × IsIn stages (pulled place v before behind) × (is : IsPulled place v (before ++ behind) stages) × (is.pattern ≡ p)
pulled_has place v p before [] h = absurd h
pulled_has place v p before (stage ∷ behind) (inl e) =
    subst (λ (s : Stage). (stages : List Stage) × IsIn stages (pulled place v before (s ∷ behind)) × (is : IsPulled place v (before ++ s ∷ behind) stages) × (is.pattern ≡ p)) (sym e) (
      by_value place p v ∷ before ++ behind,
      in_append_left (pulled_at place v before (by_term place p) behind) (pulled place v (before ++ by_term place p ∷ []) behind) (by_value place p v ∷ before ++ behind)
          (subst (λ test. IsIn (by_value place p v ∷ before ++ behind) (cond test ((by_value place p v ∷ before ++ behind) ∷ []) [])) (sym (equals_itself place)) (inl refl)),
      record { front = before; pattern = p; back = behind; were = refl; are = refl },
      refl,
    )
pulled_has place v p before (stage ∷ behind) (inr h) =
    let later = pulled_has place v p (before ++ stage ∷ []) behind h in (
      later.0,
      in_append_right (pulled_at place v before stage behind) (pulled place v (before ++ stage ∷ []) behind) later.0 later.1,
      record { front = later.2.front; pattern = later.2.pattern; back = later.2.back; were = sym (append_assoc before (stage ∷ []) behind) ∙ later.2.were; are = later.2.are },
      later.3,
    )

-- ---- they are orderly

variables_both : (xs ys : List Stage) → variables_at_each (xs ++ ys) ≡ variables_at_each xs ++ variables_at_each ys
variables_both xs ys = flat_map-append variables_at xs ys

-- each variable of the first stages is one of the second
abbrev AreAmong : List Stage → List Stage → Type 0
AreAmong xs ys = (y : ℕ) → IsIn y (variables_at_each xs) → IsIn y (variables_at_each ys)

among_behind : (xs ys : List Stage) (stage : Stage) → AreAmong xs ys → AreAmong (xs ++ stage ∷ []) (ys ++ stage ∷ [])
among_behind xs ys stage all y h =
    subst (IsIn y) (sym (variables_both ys (stage ∷ [])))
    (⊎_elim (λ g. in_append_left (variables_at_each ys) (variables_at_each (stage ∷ [])) y (all y g)) (λ g. in_append_right (variables_at_each ys) (variables_at_each (stage ∷ [])) y g)
    (in_append_cases (variables_at_each xs) (variables_at_each (stage ∷ [])) y (subst (IsIn y) (variables_both xs (stage ∷ [])) h)))

timely_among : (t : PlainTransition) (xs ys : List Stage) (stage : Stage) → AreAmong xs ys → IsTimelyStage t xs stage → IsTimelyStage t ys stage
timely_among t xs ys (by_term place p) all is = tt
timely_among t xs ys (by_equation x e) all is = record { equated = is.equated; known = λ y h. contains_from_in (variables_at_each ys) y (all y (in_from_contains (variables_at_each xs) y (is.known y h))) }
timely_among t xs ys (by_size x) all is = tt
timely_among t xs ys (by_value place p v) all is = tt

orderly_among : (t : PlainTransition) (xs ys stages : List Stage) → AreAmong xs ys → AreOrderly t xs stages → AreOrderly t ys stages
orderly_among t xs ys [] all are = tt
orderly_among t xs ys (stage ∷ stages) all are = (timely_among t xs ys stage all are.0, orderly_among t (xs ++ stage ∷ []) (ys ++ stage ∷ []) stages (among_behind xs ys stage all) are.1)

-- stages without one whose variables have a value already
orderly_without : (t : PlainTransition) (xs ys front back : List Stage) (stage : Stage) → AreAmong xs ys → AreAmong (stage ∷ []) ys → AreOrderly t xs (front ++ stage ∷ back) → AreOrderly t ys (front ++ back)
orderly_without t xs ys [] back stage all own are = orderly_among t (xs ++ stage ∷ []) ys back both are.1
  where
    both : AreAmong (xs ++ stage ∷ []) ys
    both y h = ⊎_elim (λ g. all y g) (λ g. own y g) (in_append_cases (variables_at_each xs) (variables_at_each (stage ∷ [])) y (subst (IsIn y) (variables_both xs (stage ∷ [])) h))
orderly_without t xs ys (first ∷ front) back stage all own are = (
  timely_among t xs ys first all are.0,
  orderly_without t (xs ++ first ∷ []) (ys ++ first ∷ []) front back stage (among_behind xs ys first all)
      (λ y h. subst (IsIn y) (sym (variables_both ys (first ∷ []))) (in_append_left (variables_at_each ys) (variables_at_each (first ∷ [])) y (own y h))) are.1,
)

each_without : {A : Type 0} (P : A → Type 0) (front back : List A) (x : A) → AllByRecursion P (front ++ x ∷ back) → P x × AllByRecursion P (front ++ back)
each_without P [] back x all = all
each_without P (y ∷ front) back x all = let rest = each_without P front back x all.1 in (rest.0, (all.0, rest.1))

module _ (n : PlainNet) (t : PlainTransition) (all : List Stage) (are : AreStages n t all) (place : ℕ) (v : PlainValue) where
  pub pulled_orderly : (stages : List Stage) → IsPulled place v all stages → AreOrderly t [] stages
  pulled_orderly stages is =
      subst (AreOrderly t []) (sym is.are) (
        tt,
        orderly_without t [] (by_value place is.pattern v ∷ []) is.front is.back (by_term place is.pattern) (λ y h. absurd h) (λ y h. h)
            (subst (AreOrderly t []) is.were (stages_are_orderly n t all are)),
      )

  pub pulled_have_one : (stages : List Stage) → IsPulled place v all stages → AllByRecursion HasOneValue stages
  pulled_have_one stages is =
      subst (AllByRecursion HasOneValue) (sym is.are) (each_without HasOneValue is.front is.back (by_term place is.pattern) (subst (AllByRecursion HasOneValue) is.were (stages_have_one n t all are)))

  pub same_variables : (stages : List Stage) (is : IsPulled place v all stages) (x : ℕ) → IsIn x (variables_at_each all) → IsIn x (variables_at_each stages)
  same_variables stages is x h =
      subst (λ ss. IsIn x (variables_at_each ss)) (sym is.are) (moved (in_append_cases (variables_at_each is.front) (variables_at_each (by_term place is.pattern ∷ is.back)) x
      (subst (IsIn x) (variables_both is.front (by_term place is.pattern ∷ is.back)) (subst (λ ss. IsIn x (variables_at_each ss)) is.were h))))
    where
      both : IsIn x (variables_at_each is.front) ⊎ IsIn x (variables_at_each is.back) → IsIn x (variables_at_each (is.front ++ is.back))
      both g = subst (IsIn x) (sym (variables_both is.front is.back)) (⊎_elim (λ k. in_append_left (variables_at_each is.front) (variables_at_each is.back) x k) (λ k. in_append_right (variables_at_each is.front) (variables_at_each is.back) x k) g)

      moved : IsIn x (variables_at_each is.front) ⊎ IsIn x (variables_at_each (by_term place is.pattern ∷ is.back)) → IsIn x (variables_at_each (by_value place is.pattern v ∷ is.front ++ is.back))
      moved (inl g) = in_append_right (variables_at (by_value place is.pattern v)) (variables_at_each (is.front ++ is.back)) x (both (inl g))
      moved (inr g) =
          ⊎_elim (λ k. in_append_left (variables_at (by_value place is.pattern v)) (variables_at_each (is.front ++ is.back)) x k) (λ k. in_append_right (variables_at (by_value place is.pattern v)) (variables_at_each (is.front ++ is.back)) x (both (inr k)))
          (in_append_cases (variables_at (by_term place is.pattern)) (variables_at_each is.back) x g)

  from_variables : (stages : List Stage) (is : IsPulled place v all stages) (x : ℕ) → IsIn x (variables_at_each stages) → IsIn x (variables_at_each all)
  from_variables stages is x h =
      subst (λ ss. IsIn x (variables_at_each ss)) (sym is.were) (subst (IsIn x) (sym (variables_both is.front (by_term place is.pattern ∷ is.back)))
      (moved (in_append_cases (variables_at (by_value place is.pattern v)) (variables_at_each (is.front ++ is.back)) x (subst (λ ss. IsIn x (variables_at_each ss)) is.are h))))
    where
      moved : IsIn x (variables_at (by_value place is.pattern v)) ⊎ IsIn x (variables_at_each (is.front ++ is.back)) → IsIn x (variables_at_each is.front ++ variables_at_each (by_term place is.pattern ∷ is.back))
      moved (inl g) = in_append_right (variables_at_each is.front) (variables_at_each (by_term place is.pattern ∷ is.back)) x (in_append_left (variables_at (by_term place is.pattern)) (variables_at_each is.back) x g)
      moved (inr g) =
          ⊎_elim (λ k. in_append_left (variables_at_each is.front) (variables_at_each (by_term place is.pattern ∷ is.back)) x k)
          (λ k. in_append_right (variables_at_each is.front) (variables_at_each (by_term place is.pattern ∷ is.back)) x (in_append_right (variables_at (by_term place is.pattern)) (variables_at_each is.back) x k))
          (in_append_cases (variables_at_each is.front) (variables_at_each is.back) x (subst (IsIn x) (variables_both is.front is.back) g))

  -- what all the stages reach, with the value at the term, the pulled ones reach
  pub pulled_reach : (m : Marking) (stages : List Stage) (b : PlainPartial) (is : IsPulled place v all stages) → StandsOn m place v → IsInstance b is.pattern v → IsReached n m t all b → IsReached n m t stages b
  pulled_reach m stages b is stands has reached = record {
    of_them = reached.of_them;
    just = λ x listed. (
      λ h. contains_from_in (variables_at_each stages) x (same_variables stages is x (in_from_contains (variables_at_each all) x ((reached.just x listed).0 h))),
      λ h. (reached.just x listed).1 (contains_from_in (variables_at_each all) x (from_variables stages is x (in_from_contains (variables_at_each stages) x h))),
    );
    admitted = reached.admitted;
    hold = subst (AllByRecursion (Holds n m b)) (sym is.are) ((stands, has), (each_without (Holds n m b) is.front is.back (by_term place is.pattern) (subst (AllByRecursion (Holds n m b)) is.were reached.hold)).1);
  }

-- ---- a covered binding with the value

with_stage : (t : PlainTransition) (place : ℕ) (v : PlainValue) (b : PlainBinding) (is : HasTermWith t place v b) → IsIn (by_term place is.term.pattern) (term_stages t)
with_stage t place v b is =
    subst (λ (k : ℕ). IsIn (by_term k is.term.pattern) (term_stages t)) is.from_it
    (in_flat_map terms_at t.inputs is.arc (by_term is.arc.place is.term.pattern) (in_from_contains t.inputs is.arc is.is_input)
    (in_map (λ (term : BindingTerm). by_term is.arc.place term.pattern) (binding_terms is.arc.expr) is.term (in_from_contains (binding_terms is.arc.expr) is.term is.is_term)))

-- the value of such a term stands on the place
pub with_stands : (n : PlainNet) (m : Marking) (time place : ℕ) (v : PlainValue) (e : PlainElement) → covered n m time e ≡ true → HasTermWith (transition_at n e.transition) place v e.binding → StandsOn m place v
with_stands n m time place v e is with_it =
    let t : PlainTransition = transition_at n e.transition in
    let b : PlainPartial = as_partial e.binding in
    let parts = covered_parts n m time e is in
    let needs = gives_and_parts (needs_of n e) (are_covered (threshold_in n time) m) parts.needs_covered in
    let need = needs_have n e with_it.arc with_it.term needs.0 (in_from_contains t.inputs with_it.arc with_it.is_input) (in_from_contains (binding_terms with_it.arc.expr) with_it.term with_it.is_term) needs.1 in
    let one : HasOneValue (by_term place with_it.term.pattern) = of_one_in HasOneValue (term_stages t) (by_term place with_it.term.pattern) (terms_have_one t) (with_stage t place v e.binding with_it) in
    let same : need.need.value ≡ v = one_value b with_it.term.pattern need.need.value v one need.is_instance with_it.has_value in
    subst (λ w. StandsOn m place w) same (subst (λ (k : ℕ). StandsOn m k need.need.value) (need.on_it ∙ with_it.from_it) (need_stands (threshold_in n time) m needs.0 need.need needs.2 need.is_in))

-- Reached by one of the lists of stages.
pub record IsReachedBy (n : PlainNet) (m : Marking) (t : PlainTransition) (lists : List (List Stage)) (b : PlainPartial) : Type 0 where
  pub stages : List Stage
  pub is_in : IsIn stages lists
  pub reached : IsReached n m t stages b

-- Each binding with which a transition is covered, and in which a binding term on the place has the value, is reached by stages with the
-- value at the front.
pub with_is_reached
    : (n : PlainNet) (m : Marking) (time place : ℕ) (v : PlainValue) (e : PlainElement) (all : List Stage) → AreStages n (transition_at n e.transition) all
    → covered n m time e ≡ true → HasTermWith (transition_at n e.transition) place v e.binding → IsReachedBy n m (transition_at n e.transition) (pulled place v [] all) (as_partial e.binding)
with_is_reached n m time place v e all are is with_it =
    let t : PlainTransition = transition_at n e.transition in
    let there : IsIn (by_term place with_it.term.pattern) all = subst (IsIn (by_term place with_it.term.pattern)) (sym are.are) (in_append_left (term_stages t) are.further (by_term place with_it.term.pattern) (with_stage t place v e.binding with_it)) in
    let has = pulled_has place v with_it.term.pattern [] all there in
    record {
      stages = has.0;
      is_in = has.1;
      reached = pulled_reach n t all are place v m has.0 (as_partial e.binding) has.2 (with_stands n m time place v e is with_it)
          (subst (λ p. IsInstance (as_partial e.binding) p v) (sym has.3) with_it.has_value) (covered_is_reached n m time e all are is);
    }
