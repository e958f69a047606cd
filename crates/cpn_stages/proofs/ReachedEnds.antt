-- What the trials of orderly stages make, from where no variable has a value, is just what the stages reach.
use Rattle.std.proofs.Common.{◌≡◌, ℕ, ◌==◌, Bool, true, false, cond, ◌&&◌, List, [], ◌∷◌, ◌++◌, reverse, Option, Some, None, refl, sym, ap, ap₂, ◌∙◌, subst, inl, inr, ⊎_elim, append_assoc, Less, nat_cmp, eqb-true}
use Rattle.std.specs.List.{AllByRecursion}
use Rattle.cpn_definitions.specs.Value.{PlainValue}
use Rattle.cpn_definitions.specs.Lists.{Rises}
use Rattle.cpn_definitions.specs.Marking.{Marking}
use Rattle.cpn_definitions.specs.Outcome.{gives}
use Rattle.cpn_definitions.specs.Inscription.{variable_pattern, PlainExpr}
use Rattle.cpn_definitions.specs.Net.{PlainTransition, PlainNet, variable_at}
use Rattle.cpn_definitions.specs.Meaning.{meaning}
use Rattle.cpn_definitions.specs.Bindable.{variables_of, AreClosed}
use Rattle.cpn_definitions.proofs.NumberTests.{equals_itself}
use Rattle.cpn_definitions.proofs.RisingLists.{IsIn, in_from_contains, contains_from_in, in_flat_map, of_one_in, in_flat_from}
use Rattle.cpn_stages.specs.Partial.{PlainPartial, unbound, variables_in, value_in, IsKept, Extends, bound_in}
use Rattle.cpn_stages.specs.Instances.{IsInstance}
use Rattle.cpn_stages.specs.Stages.{Stage, by_term, by_equation, by_size, by_value, variables_at_each}
use Rattle.cpn_stages.specs.Reached.{HasValue, IsAdmitted, Holds, IsReached}
use Rattle.cpn_stages.specs.Work.{AllDiffer, AreJust}
use Rattle.cpn_stages.specs.Orderly.{AreOrderly}
use Rattle.cpn_stages.specs.Trials.{Trial, matching, solving, admits_if, are_admitted, next, ends, IsTrialOf, AreTrialsOf}
use Rattle.cpn_stages.proofs.Partials.{extends_itself, extends_further, extends_variables, value_stays}
use Rattle.cpn_stages.proofs.Instances.{instance_stays}
use Rattle.cpn_stages.proofs.Ends.{in_reverse, from_reverse, admitted_value, made_of_matching, made_of_outcome, end_is}
use Rattle.cpn_stages.proofs.AllEnds.{same_below, AreKnown, step, known_next}
use Rattle.cpn_stages.proofs.ApartEnds.{AreApart, AllApart, HasOneValue, ends_extend, ends_apart}
use Rattle.cpn_stages.proofs.WholeBindings.{higher_differs}
use Rattle.cpn_stages.proofs.TransitionEnds.{unbound_variables, unbound_admitted}
use Rattle.cpn_stages.proofs.OwnValues.{ends_only}

-- ---- a stage holds of what its trial makes, and of what extends that

-- the variables of an equation have a value
abbrev AreKnownAt : Stage → PlainPartial → Type 0
AreKnownAt (by_equation x e) b = (y : ℕ) → IsIn y (variables_of e) → HasValue y b
AreKnownAt stage b = Unit {0}

known_at : (t : PlainTransition) (before stages : List Stage) (stage : Stage) (b : PlainPartial) → AreOrderly t before (stage ∷ stages) → AreKnown before b → AreKnownAt stage b
known_at t before stages (by_term place p) b orderly known = tt
known_at t before stages (by_equation x e) b orderly known = λ y h. known y (in_from_contains (variables_at_each before) y (orderly.0.known y (contains_from_in (variables_of e) y h)))
known_at t before stages (by_size x) b orderly known = tt
known_at t before stages (by_value place p v) b orderly known = tt

of_one_value : {v w : PlainValue} → IsIn w (v ∷ []) → v ≡ w
of_one_value (inl e) = e
of_one_value (inr h) = absurd h

-- at a partial binding that extends what the trial made
next_holds : (n : PlainNet) (m : Marking) (stage : Stage) (trial : Trial) (b c d : PlainPartial) → AreClosed n.functions → AreKnownAt stage b → IsTrialOf n m stage trial → IsIn c (next n trial b) → Extends c d → Holds n m d stage
next_holds n m (by_term place p) (matching q vs) b c d closed known of_it h ext =
    let made = made_of_matching n q vs b c h in
    (made.0, (of_it.1.all made.0).1 (contains_from_in vs made.0 made.1), subst (λ r. IsInstance d r made.0) of_it.0 (instance_stays c d q made.0 ext made.2.matches.makes.is_instance))
next_holds n m (by_term place p) (solving x e) b c d closed known of_it h ext = absurd of_it
next_holds n m (by_equation x e) (matching q vs) b c d closed known of_it h ext = absurd of_it
next_holds n m (by_equation x e) (solving y f) b c d closed known of_it h ext =
    let made = made_of_outcome n (variable_pattern y) b c (meaning n.functions f (bound_in b) 0) h in
    let below : Extends b d = extends_further b c d made.2.matches.makes.extends ext in
    let here : value_in y d ≡ Some made.0 = value_stays y made.0 c d ext made.2.matches.makes.is_instance in (
      made.0,
      subst (λ (k : ℕ). value_in k d ≡ Some made.0) of_it.0 here,
      sym (same_below n e b d closed below known) ∙ subst (λ (k : PlainExpr). meaning n.functions k (bound_in b) 0 ≡ gives made.0) of_it.1 made.1,
    )
next_holds n m (by_size x) (matching q vs) b c d closed known of_it h ext =
    let made = made_of_matching n q vs b c h in
    (made.0, subst (λ r. IsInstance d r made.0) of_it.0 (instance_stays c d q made.0 ext made.2.matches.makes.is_instance))
next_holds n m (by_size x) (solving y f) b c d closed known of_it h ext = absurd of_it
next_holds n m (by_value place p v) (matching q vs) b c d closed known of_it h ext =
    let made = made_of_matching n q vs b c h in
    let same : v ≡ made.0 = of_one_value (subst (IsIn made.0) of_it.1 made.1) in
    (of_it.2, subst (λ w. IsInstance d p w) (sym same) (subst (λ r. IsInstance d r made.0) of_it.0 (instance_stays c d q made.0 ext made.2.matches.makes.is_instance)))
next_holds n m (by_value place p v) (solving y f) b c d closed known of_it h ext = absurd of_it

ends_hold
    : (n : PlainNet) (m : Marking) (t : PlainTransition) (before stages : List Stage) (trials : List Trial) (b c : PlainPartial)
    → AreClosed n.functions → AreKnown before b → AreOrderly t before stages → AreTrialsOf n m stages trials → IsIn c (ends n trials b) → AllByRecursion (Holds n m c) stages
ends_hold n m t before [] [] b c closed known orderly of_them h = tt
ends_hold n m t before [] (trial ∷ trials) b c closed known orderly of_them h = absurd of_them
ends_hold n m t before (stage ∷ stages) [] b c closed known orderly of_them h = absurd of_them
ends_hold n m t before (stage ∷ stages) (trial ∷ trials) b c closed known orderly of_them h =
    let one = in_flat_from (ends n trials) (reverse (next n trial b)) c h in
    let made = from_reverse (next n trial b) one.0 one.1 in (
      next_holds n m stage trial b one.0 c closed (known_at t before stages stage b orderly known) of_them.0 made (ends_extend n trials one.0 c one.2),
      ends_hold n m t (before ++ stage ∷ []) stages trials one.0 c closed (known_next n m before stage trial b one.0 known of_them.0 made) orderly.1 of_them.1 one.2,
    )

-- ---- what extends a partial binding without a further value is the same

has_variable : (c : PlainPartial) (x : ℕ) → HasValue x c → IsIn x (variables_in c)
has_variable [] x h = let e : None ≡ Some h.0 = h.1 in cc
has_variable (q ∷ c) x h = split (x == q.0) refl (λ (g : HasValue x c). has_variable c x g) h.1
  where
    split : (test : Bool) → (x == q.0) ≡ test → (HasValue x c → IsIn x (variables_in c)) → cond test q.1 (value_in x c) ≡ Some h.0 → IsIn x (variables_in (q ∷ c))
    split true is rest has = inl (sym (eqb-true x q.0 is))
    split false is rest has = inr (rest (h.0, has))

behind : (q : ℕ × Option PlainValue) (c : PlainPartial) (x : ℕ) → (x == q.0) ≡ false → HasValue x (q ∷ c) → HasValue x c
behind q c x is h = (h.0, subst (λ test. cond test q.1 (value_in x c) ≡ Some h.0) is h.1)

ahead_of : (q : ℕ × Option PlainValue) (c : PlainPartial) (x : ℕ) → (x == q.0) ≡ false → HasValue x c → HasValue x (q ∷ c)
ahead_of q c x is h = (h.0, subst (λ test. cond test q.1 (value_in x c) ≡ Some h.0) (sym is) h.1)

no_further : (b c : PlainPartial) → Extends b c → Rises nat_cmp (variables_in c) → ((x : ℕ) → HasValue x c → HasValue x b) → b ≡ c
no_further [] [] ext rise all = refl
no_further [] (q ∷ c) ext rise all = absurd ext
no_further (p ∷ b) [] ext rise all = absurd ext
no_further (p ∷ b) (q ∷ c) ext rise all =
    ap₂ (λ (pair : ℕ × Option PlainValue) (rest : PlainPartial). pair ∷ rest) (ap₂ (λ (x : ℕ) (o : Option PlainValue). (x, o)) (sym ext.0) (own p.1 q.1 refl refl ext.1)) (no_further b c ext.2 rise.1 rest)
  where
    own : (o new : Option PlainValue) → p.1 ≡ o → q.1 ≡ new → IsKept o new → o ≡ new
    own (Some v) new was is kept = sym kept
    own None None was is kept = refl
    own None (Some w) was is kept = nothing (all q.0 (w, subst (λ test. cond test q.1 (value_in q.0 c) ≡ Some w) (sym (equals_itself q.0)) is))
      where
        nothing : HasValue q.0 (p ∷ b) → None ≡ Some w
        nothing h = none (sym was ∙ subst (λ test. cond test p.1 (value_in q.0 b) ≡ Some h.0) (subst (λ (y : ℕ). (q.0 == y) ≡ true) ext.0 (equals_itself q.0)) h.1)
          where
            none : None ≡ Some h.0 → None ≡ Some w
            none e = cc

    rest : (x : ℕ) → HasValue x c → HasValue x b
    rest x h =
        let other : (x == q.0) ≡ false = higher_differs q.0 x (of_one_in (λ y. nat_cmp q.0 y ≡ Less) (variables_in c) x rise.0 (has_variable c x h)) in
        behind p b x (subst (λ (y : ℕ). (x == y) ≡ false) ext.0 other) (all x (ahead_of q c x other h))

-- ---- each that is reached is an end

all_admitted : (n : PlainNet) (c : PlainPartial) → Rises nat_cmp (variables_in c) → ((x : ℕ) (v : PlainValue) → value_in x c ≡ Some v → IsAdmitted n x v) → are_admitted n c ≡ true
all_admitted n [] rise each = refl
all_admitted n (q ∷ c) rise each = ap₂ (λ a b. a && b) (own q.1 refl) (all_admitted n c rise.1 rest)
  where
    own : (o : Option PlainValue) → q.1 ≡ o → admits_if (variable_at n q.0).colour o ≡ true
    own None is = refl
    own (Some v) is = each q.0 v (subst (λ test. cond test q.1 (value_in q.0 c) ≡ Some v) (sym (equals_itself q.0)) is)

    rest : (x : ℕ) (v : PlainValue) → value_in x c ≡ Some v → IsAdmitted n x v
    rest x v h =
        let other : (x == q.0) ≡ false = higher_differs q.0 x (of_one_in (λ y. nat_cmp q.0 y ≡ Less) (variables_in c) x rise.0 (has_variable c x (v, h))) in
        each x v (subst (λ test. cond test q.1 (value_in x c) ≡ Some v) (sym other) h)

reached_is_end
    : (n : PlainNet) (m : Marking) (t : PlainTransition) (before stages : List Stage) (trials : List Trial) (b c : PlainPartial)
    → AreClosed n.functions → are_admitted n c ≡ true → Rises nat_cmp (variables_in c) → ((x : ℕ) → HasValue x c → IsIn x (variables_at_each (before ++ stages)))
    → Extends b c → AreKnown before b → AreOrderly t before stages → AreTrialsOf n m stages trials → AllByRecursion (Holds n m c) stages → IsIn c (ends n trials b)
reached_is_end n m t before [] [] b c closed admitted rise given ext known orderly of_them holds =
    inl (no_further b c ext rise (λ x h. known x (subst (λ ss. IsIn x (variables_at_each ss)) (append_none before) (given x h))))
  where
    append_none : (xs : List Stage) → xs ++ [] ≡ xs
    append_none [] = refl
    append_none (x ∷ xs) = ap (λ ys. x ∷ ys) (append_none xs)
reached_is_end n m t before [] (trial ∷ trials) b c closed admitted rise given ext known orderly of_them holds = absurd of_them
reached_is_end n m t before (stage ∷ stages) [] b c closed admitted rise given ext known orderly of_them holds = absurd of_them
reached_is_end n m t before (stage ∷ stages) (trial ∷ trials) b c closed admitted rise given ext known orderly of_them holds =
    let first = step n m t before stages stage trial b c closed admitted ext known orderly of_them.0 holds.0 in
    in_flat_map (ends n trials) (reverse (next n trial b)) first.through c (in_reverse (next n trial b) first.through first.is_next)
    (reached_is_end n m t (before ++ stage ∷ []) stages trials first.through c closed admitted rise
    (λ x h. subst (λ ss. IsIn x (variables_at_each ss)) (sym (append_assoc before (stage ∷ []) stages)) (given x h))
    first.below (known_next n m before stage trial b first.through known of_them.0 first.is_next) orderly.1 of_them.1 holds.1)

-- ---- both

unbound_extended : (c : PlainPartial) → Extends (unbound (variables_in c)) c
unbound_extended [] = tt
unbound_extended (q ∷ c) = (refl, tt, unbound_extended c)

never_unbound : (xs : List ℕ) (x : ℕ) → HasValue x (unbound xs) → ⊥
never_unbound [] x h = let e : None ≡ Some h.0 = h.1 in cc
never_unbound (y ∷ xs) x h = split (x == y) (λ (g : HasValue x (unbound xs)). never_unbound xs x g) h.1
  where
    split : (test : Bool) → (HasValue x (unbound xs) → ⊥) → cond test None (value_in x (unbound xs)) ≡ Some h.0 → ⊥
    split true rest e = cc
    split false rest e = rest (h.0, e)

apart_differ : (bs : List PlainPartial) → AllApart bs → AllDiffer bs
apart_differ [] apart = tt
apart_differ (b ∷ bs) apart = ((λ h. of_one_in (AreApart b) bs b apart.0 (in_from_contains bs b h) b (extends_itself b) (extends_itself b)), apart_differ bs apart.1)

module _ (n : PlainNet) (m : Marking) (t : PlainTransition) (stages : List Stage) (trials : List Trial) (closed : AreClosed n.functions) (listed : Rises nat_cmp t.vars) (orderly : AreOrderly t [] stages) (of_them : AreTrialsOf n m stages trials) where
  end_is_reached : (c : PlainPartial) → IsIn c (ends n trials (unbound t.vars)) → IsReached n m t stages c
  end_is_reached c h =
      let is = end_is n m stages trials (unbound t.vars) c of_them (unbound_admitted n t.vars) h in
      record {
        of_them = extends_variables (unbound t.vars) c is.extends ∙ unbound_variables t.vars;
        just = λ x of_t. (
          λ has. contains_from_in (variables_at_each stages) x (⊎_elim (λ g. absurd (never_unbound t.vars x g)) (λ g. g) (ends_only n m stages trials (unbound t.vars) c of_them h x has)),
          λ g. is.has x (in_from_contains (variables_at_each stages) x g),
        );
        admitted = λ x v g. admitted_value n c x v is.admitted g;
        hold = ends_hold n m t [] stages trials (unbound t.vars) c closed (λ x g. absurd g) orderly of_them h;
      }

  is_end : (c : PlainPartial) → IsReached n m t stages c → IsIn c (ends n trials (unbound t.vars))
  is_end c reached =
      let rise : Rises nat_cmp (variables_in c) = subst (Rises nat_cmp) (sym reached.of_them) listed in
      reached_is_end n m t [] stages trials (unbound t.vars) c closed (all_admitted n c rise reached.admitted) rise
      (λ x h. in_from_contains (variables_at_each stages) x ((reached.just x (contains_from_in t.vars x (subst (IsIn x) reached.of_them (has_variable c x h)))).0 h))
      (subst (λ xs. Extends (unbound xs) c) reached.of_them (unbound_extended c)) (λ x g. absurd g) orderly of_them reached.hold

  -- what the trials make is just what the stages reach, each once
  pub ends_are_reached : AllByRecursion HasOneValue stages → AreJust (IsReached n m t stages) (ends n trials (unbound t.vars))
  ends_are_reached have = record {
    differ = apart_differ (ends n trials (unbound t.vars)) (ends_apart n m stages trials (unbound t.vars) have of_them);
    all = λ c. (λ reached. contains_from_in (ends n trials (unbound t.vars)) c (is_end c reached), λ h. end_is_reached c (in_from_contains (ends n trials (unbound t.vars)) c h));
  }
