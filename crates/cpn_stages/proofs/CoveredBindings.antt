-- The stages of a transition give each of its variables a value, and reach each binding with which it is covered.
use Rattle.std.proofs.Common.{◌≡◌, ◌⊎◌, ℕ, ◌==◌, Bool, true, false, cond, ◌&&◌, nat_lt, length, List, [], ◌∷◌, Some, refl, sym, ap, ap₂, ◌∙◌, subst, inl, inr, ⊎_elim, eqb-true}
use Rattle.std.specs.List.{AllByRecursion}
use Rattle.std.proofs.lemmas.Bool.{and_parts}
use Rattle.std.proofs.lemmas.Grind.{flat_map-append}
use Rattle.cpn_definitions.specs.Value.{PlainValue}
use Rattle.cpn_definitions.specs.Colour.{admits}
use Rattle.cpn_definitions.specs.Marking.{Marking}
use Rattle.cpn_definitions.specs.Outcome.{gives, gives_and}
use Rattle.cpn_definitions.specs.Inscription.{PlainExpr}
use Rattle.cpn_definitions.specs.Net.{BindingTerm, PlainArc, PlainTransition, PlainNet, variable_at, transition_at}
use Rattle.cpn_definitions.specs.Meaning.{PlainBinding, meaning}
use Rattle.cpn_definitions.specs.Bindable.{binding_terms}
use Rattle.cpn_definitions.specs.Occurrence.{PlainElement, needs_of, are_covered, threshold_in, binds, guard_holds, may_occur, covered}
use Rattle.cpn_definitions.proofs.RisingLists.{IsIn, in_from_contains, contains_from_in, in_append_left, in_append_right, in_map_from, each_in, each_appended, in_flat_from}
use Rattle.cpn_definitions.proofs.NumberTests.{equals_itself}
use Rattle.cpn_stages.specs.Partial.{PlainPartial, variables_in, value_in, bound_in, as_partial}
use Rattle.cpn_stages.specs.Stages.{Stage, by_term, by_equation, by_size, by_value, variables_at, variables_at_each, terms_at, term_stages, those_without, equations_in, first_solving, IsFirstSmall, Further, none_left, next_equation, next_small, AreStages}
use Rattle.cpn_stages.specs.Reached.{HasValue, IsAdmitted, Holds, IsReached}
use Rattle.cpn_stages.proofs.Numbers.{from_without, left_or_other}
use Rattle.cpn_stages.proofs.Guards.{part_in, found_is}
use Rattle.cpn_stages.proofs.PatternValues.{value_as_partial}
use Rattle.cpn_stages.proofs.TermTokens.{term_stands}
use Rattle.cpn_stages.proofs.TrueGuards.{guard_part_true, equation_gives}

-- ---- each variable is given a value

one_left : (x y : ℕ) (left : List ℕ) → IsIn y left → IsIn y (those_without (x ∷ []) left) ⊎ (x ≡ y)
one_left x y left h = ⊎_elim (λ there. inl there) (λ here. inr (of_one here)) (left_or_other (x ∷ []) left y h)
  where
    of_one : IsIn y (x ∷ []) → x ≡ y
    of_one (inl e) = e
    of_one (inr h) = absurd h

left_given : (n : PlainNet) (t : PlainTransition) (left : List ℕ) (stages : List Stage) → Further n t left stages → (y : ℕ) → IsIn y left → IsIn y (variables_at_each stages)
left_given n t [] [] none_left y h = absurd h
left_given n t (x ∷ left) [] d y h = elim d [ ]
left_given n t left (by_term place p ∷ stages) d y h = elim d [ ]
left_given n t left (by_value place p v ∷ stages) d y h = elim d [ ]
left_given n t left (by_equation x e ∷ stages) (next_equation left' x' e' stages' found further) y h =
    ⊎_elim (λ there. inr (left_given n t (those_without (x ∷ []) left) stages further y there)) (λ here. inl here) (one_left x y left h)
left_given n t left (by_size x ∷ stages) (next_small left' x' stages' none small further) y h =
    ⊎_elim (λ there. inr (left_given n t (those_without (x ∷ []) left) stages further y there)) (λ here. inl here) (one_left x y left h)

-- each variable of the transition is given a value by one of the stages
pub each_is_given : (n : PlainNet) (t : PlainTransition) (stages : List Stage) → AreStages n t stages → (x : ℕ) → IsIn x t.vars → IsIn x (variables_at_each stages)
each_is_given n t stages are x h =
    subst (IsIn x) (sym (ap variables_at_each are.are ∙ flat_map-append variables_at (term_stages t) are.further))
    (⊎_elim (λ left. in_append_right (variables_at_each (term_stages t)) (variables_at_each are.further) x (left_given n t _ are.further are.follow x left))
    (λ of_term. in_append_left (variables_at_each (term_stages t)) (variables_at_each are.further) x of_term)
    (left_or_other (variables_at_each (term_stages t)) t.vars x h))

-- ---- a binding as a partial one

pub bound_again : (b : PlainBinding) → bound_in (as_partial b) ≡ b
bound_again [] = refl
bound_again (pair ∷ b) = ap (λ rest. pair ∷ rest) (bound_again b)

binds_parts : (n : PlainNet) (x : ℕ) (xs : List ℕ) (pair : ℕ × PlainValue) (b : PlainBinding) → binds n (x ∷ xs) (pair ∷ b) ≡ true → (x ≡ pair.0) × (admits (variable_at n x).colour pair.1 ≡ true) × (binds n xs b ≡ true)
binds_parts n x xs pair b is =
    let all = and_parts ((x == pair.0) && admits (variable_at n x).colour pair.1) (binds n xs b) is in
    let front = and_parts (x == pair.0) (admits (variable_at n x).colour pair.1) all.0 in
    (eqb-true x pair.0 front.0, front.1, all.1)

pub variables_bound : (n : PlainNet) (xs : List ℕ) (b : PlainBinding) → binds n xs b ≡ true → variables_in (as_partial b) ≡ xs
variables_bound n [] [] is = refl
variables_bound n [] (pair ∷ b) is = cc
variables_bound n (x ∷ xs) [] is = cc
variables_bound n (x ∷ xs) (pair ∷ b) is = let parts = binds_parts n x xs pair b is in ap₂ (λ (y : ℕ) ys. y ∷ ys) (sym parts.0) (variables_bound n xs b parts.2)

-- each of the variables has a value
each_has_value : (n : PlainNet) (xs : List ℕ) (b : PlainBinding) (x : ℕ) → binds n xs b ≡ true → IsIn x xs → HasValue x (as_partial b)
each_has_value n [] b x is h = absurd h
each_has_value n (y ∷ xs) [] x is h = cc
each_has_value n (y ∷ xs) (pair ∷ b) x is h = split (x == pair.0) refl (λ there. each_has_value n xs b x (binds_parts n y xs pair b is).2 there) h
  where
    same : y ≡ pair.0
    same = (binds_parts n y xs pair b is).0

    split : (b' : Bool) → (x == pair.0) ≡ b' → (IsIn x xs → HasValue x (as_partial b)) → (y ≡ x) ⊎ IsIn x xs → (v : PlainValue) × (cond b' (Some pair.1) (value_in x (as_partial b)) ≡ Some v)
    split true test rest h = (pair.1, refl)
    split false test rest (inl e) = absurd (apart (subst (λ z. (z == pair.0) ≡ false) (sym e ∙ same) test))
      where
        apart : (pair.0 == pair.0) ≡ false → ⊥
        apart h = clash (equals_itself pair.0) h
          where
            clash : (pair.0 == pair.0) ≡ true → (pair.0 == pair.0) ≡ false → ⊥
            clash h g = cc
    split false test rest (inr there) = rest there

-- each value is one that the colour set of its variable admits
each_admitted : (n : PlainNet) (xs : List ℕ) (b : PlainBinding) (x : ℕ) (v : PlainValue) → binds n xs b ≡ true → value_in x (as_partial b) ≡ Some v → IsAdmitted n x v
each_admitted n [] [] x v is h = cc
each_admitted n [] (pair ∷ b) x v is h = cc
each_admitted n (y ∷ xs) [] x v is h = cc
each_admitted n (y ∷ xs) (pair ∷ b) x v is h = split (x == pair.0) refl (λ later. each_admitted n xs b x v (binds_parts n y xs pair b is).2 later) h
  where
    parts : (y ≡ pair.0) × (admits (variable_at n y).colour pair.1 ≡ true) × (binds n xs b ≡ true)
    parts = binds_parts n y xs pair b is

    some_same : Some pair.1 ≡ Some v → pair.1 ≡ v
    some_same e = cc

    split : (b' : Bool) → (x == pair.0) ≡ b' → (value_in x (as_partial b) ≡ Some v → IsAdmitted n x v) → cond b' (Some pair.1) (value_in x (as_partial b)) ≡ Some v → IsAdmitted n x v
    split true test rest h = subst (λ w. admits (variable_at n x).colour w ≡ true) (some_same h) (subst (λ z. admits (variable_at n z).colour pair.1 ≡ true) (parts.0 ∙ sym (eqb-true x pair.0 test)) parts.1)
    split false test rest h = rest h

-- ---- the stages hold of a covered binding

-- What is known of a covered element: its binding binds the transition's variables, the guard is true, and its needs are
-- covered.
pub record IsCoveredBy (n : PlainNet) (m : Marking) (time : ℕ) (e : PlainElement) : Type 0 where
  pub in_range : nat_lt e.transition (length n.transitions) ≡ true
  pub binds_them : binds n (transition_at n e.transition).vars e.binding ≡ true
  pub guarded : guard_holds n.functions (transition_at n e.transition).guard e.binding ≡ true
  pub needs_covered : gives_and (needs_of n e) (are_covered (threshold_in n time) m) ≡ true

pub covered_parts : (n : PlainNet) (m : Marking) (time : ℕ) (e : PlainElement) → covered n m time e ≡ true → IsCoveredBy n m time e
unfolding covered
covered_parts n m time e is =
    let all = and_parts (may_occur n e) (gives_and (needs_of n e) (are_covered (threshold_in n time) m)) is in
    let may = and_parts (nat_lt e.transition (length n.transitions) && binds n (transition_at n e.transition).vars e.binding) (guard_holds n.functions (transition_at n e.transition).guard e.binding) all.0 in
    let front = and_parts (nat_lt e.transition (length n.transitions)) (binds n (transition_at n e.transition).vars e.binding) may.0 in
    record { in_range = front.0; binds_them = front.1; guarded = may.1; needs_covered = all.1 }

module _ (n : PlainNet) (m : Marking) (time : ℕ) (e : PlainElement) (is : IsCoveredBy n m time e) where
  abbrev t : PlainTransition
  t = transition_at n e.transition

  abbrev c : PlainPartial
  c = as_partial e.binding

  terms_hold : AllByRecursion (Holds n m c) (term_stages t)
  terms_hold = each_in (Holds n m c) (term_stages t) (λ stage h. of_stage stage (in_flat_from terms_at t.inputs stage h))
    where
      of_term : (arc : PlainArc) → IsIn arc t.inputs → (term : BindingTerm) → IsIn term (binding_terms arc.expr) → Holds n m c (by_term arc.place term.pattern)
      of_term arc h term of_arc = term_stands n m time e arc term is.needs_covered h of_arc

      of_stage : (stage : Stage) → (arc : PlainArc) × IsIn arc t.inputs × IsIn stage (terms_at arc) → Holds n m c stage
      of_stage stage of_arc =
          let term = in_map_from (λ (k : BindingTerm). by_term of_arc.0.place k.pattern) (binding_terms of_arc.0.expr) stage of_arc.2 in
          subst (Holds n m c) term.2 (of_term of_arc.0 of_arc.1 term.0 term.1)

  equation_holds : (left : List ℕ) (x : ℕ) (f : PlainExpr) → first_solving t left (equations_in t) ≡ Some (x, f) → Holds n m c (by_equation x f)
  equation_holds left x f found =
      let one = (found_is t left x f found).equated in
      let values = equation_gives n.functions e.binding x f one.part (guard_part_true n.functions t e.binding one.part is.guarded (part_in t x f one)) one.is_equation in
      (values.0, value_as_partial x e.binding ∙ values.1, subst (λ b. meaning n.functions f b 0 ≡ gives values.0) (sym (bound_again e.binding)) values.2)

  small_is_left : (left : List ℕ) (x : ℕ) → IsFirstSmall n left x → IsIn x left
  small_is_left left x small = subst (IsIn x) (sym small.stands) (in_append_right small.before (x ∷ small.behind) x (inl refl))

  further_hold : (left : List ℕ) (stages : List Stage) → Further n t left stages → ((x : ℕ) → IsIn x left → IsIn x t.vars) → AllByRecursion (Holds n m c) stages
  further_hold [] [] none_left listed = tt
  further_hold (x ∷ left) [] d listed = elim d [ ]
  further_hold left (by_term place p ∷ stages) d listed = elim d [ ]
  further_hold left (by_value place p v ∷ stages) d listed = elim d [ ]
  further_hold left (by_equation x f ∷ stages) (next_equation left' x' f' stages' found further) listed =
      (equation_holds left x f found, further_hold (those_without (x ∷ []) left) stages further (λ y h. listed y (from_without (x ∷ []) left y h).0))
  further_hold left (by_size x ∷ stages) (next_small left' x' stages' none small further) listed = (
    each_has_value n t.vars e.binding x is.binds_them (listed x (small_is_left left x small)),
    further_hold (those_without (x ∷ []) left) stages further (λ y h. listed y (from_without (x ∷ []) left y h).0),
  )

  -- the binding of a covered element is reached by the stages of its transition
  pub reached_if_covered : (stages : List Stage) → AreStages n t stages → IsReached n m t stages c
  reached_if_covered stages are = record {
    of_them = variables_bound n t.vars e.binding is.binds_them;
    just = λ x h. (
      λ _. contains_from_in (variables_at_each stages) x (each_is_given n t stages are x (in_from_contains t.vars x h)),
      λ _. each_has_value n t.vars e.binding x is.binds_them (in_from_contains t.vars x h),
    );
    admitted = λ x v h. each_admitted n t.vars e.binding x v is.binds_them h;
    hold = subst (AllByRecursion (Holds n m c)) (sym are.are)
        (each_appended (Holds n m c) (term_stages t) are.further terms_hold
        (further_hold (those_without (variables_at_each (term_stages t)) t.vars) are.further are.follow (λ y h. (from_without (variables_at_each (term_stages t)) t.vars y h).0)));
  }

-- Each binding with which a transition is covered at some time is reached by its stages.
pub covered_is_reached : (n : PlainNet) (m : Marking) (time : ℕ) (e : PlainElement) (stages : List Stage) → AreStages n (transition_at n e.transition) stages → covered n m time e ≡ true → IsReached n m (transition_at n e.transition) stages (as_partial e.binding)
covered_is_reached n m time e stages are is = reached_if_covered n m time e (covered_parts n m time e is) stages are
