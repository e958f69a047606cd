-- Each binding of which all the stages hold is an end of their trials.
use Rattle.std.proofs.Common.{◌≡◌, ℕ, true, List, [], ◌∷◌, ◌++◌, reverse, Option, Some, None, refl, sym, ◌∙◌, subst, inl, ⊎_elim, append_assoc, append-nil, nat_cmp}
use Rattle.std.specs.List.{AllByRecursion}
use Rattle.std.proofs.lemmas.Grind.{flat_map-append}
use Rattle.cpn_definitions.specs.Value.{PlainValue}
use Rattle.cpn_definitions.specs.Lists.{Rises}
use Rattle.cpn_definitions.specs.Marking.{Marking}
use Rattle.cpn_definitions.specs.Outcome.{gives}
use Rattle.cpn_definitions.specs.Inscription.{PlainPattern, variable_pattern, PlainExpr}
use Rattle.cpn_definitions.specs.Net.{PlainTransition, PlainNet}
use Rattle.cpn_definitions.specs.Meaning.{meaning}
use Rattle.cpn_definitions.specs.Bindable.{variables_of, AreClosed}
use Rattle.cpn_definitions.proofs.OwnVariables.{own_variables}
use Rattle.cpn_definitions.proofs.RisingLists.{IsIn, in_from_contains, contains_from_in, in_append_cases, in_flat_map}
use Rattle.cpn_stages.specs.Partial.{PlainPartial, variables_in, value_in, Extends, bound_in}
use Rattle.cpn_stages.specs.Instances.{IsInstance, Makes}
use Rattle.cpn_stages.specs.Stages.{Stage, by_term, by_equation, by_size, by_value, variables_at, variables_at_each}
use Rattle.cpn_stages.specs.Reached.{HasValue, Holds}
use Rattle.cpn_stages.specs.Orderly.{AreOrderly}
use Rattle.cpn_stages.specs.Fitting.{fitted}
use Rattle.cpn_stages.specs.Trials.{Trial, matching, solving, are_admitted, kept, with_outcome, next, ends, IsTrialOf, AreTrialsOf}
use Rattle.cpn_stages.proofs.Partials.{extends_variables, value_stays}
use Rattle.cpn_stages.proofs.FittedMatches.{fitted_matches, not_fitted}
use Rattle.cpn_stages.proofs.Ends.{in_reverse, admitted_below, admitted_value, is_kept, next_is}
use Rattle.cpn_stages.proofs.WholeBindings.{bound_has, whole_from, whole_extended}

-- ---- one trial

-- on the way to a partial binding that makes the pattern a value there is a match
record IsOnTheWay (n : PlainNet) (p : PlainPattern) (v : PlainValue) (b c : PlainPartial) : Type 0 where
  pub through : PlainPartial
  is_kept : IsIn through (kept n (fitted p v b))
  pub below : Extends through c

on_the_way : (n : PlainNet) (p : PlainPattern) (v : PlainValue) (b c : PlainPartial) → are_admitted n c ≡ true → Makes b p v c → IsOnTheWay n p v b c
on_the_way n p v b c admitted makes = split (fitted p v b) refl
  where
    split : (o : Option PlainPartial) → fitted p v b ≡ o → IsOnTheWay n p v b c
    split (Some d) is =
        let below : Extends d c = (fitted_matches b d p v is).least c makes in
        record { through = d; is_kept = is_kept n (fitted p v b) d is (admitted_below n d c below admitted); below = below }
    split None is = absurd (not_fitted b p v is c makes)

-- what is made on the way to a partial binding of which the stage holds
pub record IsStep (n : PlainNet) (trial : Trial) (b c : PlainPartial) : Type 0 where
  pub through : PlainPartial
  pub is_next : IsIn through (next n trial b)
  pub below : Extends through c

by_matching : (n : PlainNet) (p : PlainPattern) (vs : List PlainValue) (v : PlainValue) (b c : PlainPartial) → IsIn v vs → are_admitted n c ≡ true → Makes b p v c → IsStep n (matching p vs) b c
by_matching n p vs v b c h admitted makes =
    let way = on_the_way n p v b c admitted makes in
    record { through = way.through; is_next = in_flat_map (λ w. kept n (fitted p w b)) vs v way.through h way.is_kept; below = way.below }

-- an inscription whose variables have a value means the same below
pub same_below : (n : PlainNet) (e : PlainExpr) (b c : PlainPartial) → AreClosed n.functions → Extends b c → ((y : ℕ) → IsIn y (variables_of e) → HasValue y b) → meaning n.functions e (bound_in b) 0 ≡ meaning n.functions e (bound_in c) 0
same_below n e b c closed ext has =
    own_variables n.functions e (bound_in b) (bound_in c) 0 closed
    (λ y h. let v = has y h in bound_has y b v.0 v.1 ∙ sym (bound_has y c v.0 (value_stays y v.0 b c ext v.1)))

by_solving : (n : PlainNet) (x : ℕ) (e : PlainExpr) (v : PlainValue) (b c : PlainPartial) → AreClosed n.functions → are_admitted n c ≡ true → Extends b c → ((y : ℕ) → IsIn y (variables_of e) → HasValue y b) → value_in x c ≡ Some v → meaning n.functions e (bound_in c) 0 ≡ gives v → IsStep n (solving x e) b c
by_solving n x e v b c closed admitted ext has value means =
    let way = on_the_way n (variable_pattern x) v b c admitted (record { extends = ext; is_instance = value }) in
    let same : meaning n.functions e (bound_in b) 0 ≡ gives v = same_below n e b c closed ext has ∙ means in
    record { through = way.through; is_next = subst (λ o. IsIn way.through (with_outcome n (variable_pattern x) b o)) (sym same) way.is_kept; below = way.below }

-- what is known ahead of a stage
abbrev pub AreKnown : List Stage → PlainPartial → Type 0
AreKnown before b = (x : ℕ) → IsIn x (variables_at_each before) → HasValue x b

pub step : (n : PlainNet) (m : Marking) (t : PlainTransition) (before stages : List Stage) (stage : Stage) (trial : Trial) (b c : PlainPartial)
    → AreClosed n.functions → are_admitted n c ≡ true → Extends b c → AreKnown before b → AreOrderly t before (stage ∷ stages) → IsTrialOf n m stage trial → Holds n m c stage → IsStep n trial b c
step n m t before stages (by_term place p) (matching q vs) b c closed admitted ext known orderly of_it holds =
    by_matching n q vs holds.0 b c (in_from_contains vs holds.0 ((of_it.1.all holds.0).0 holds.1)) admitted (record { extends = ext; is_instance = subst (λ r. IsInstance c r holds.0) (sym of_it.0) holds.2 })
step n m t before stages (by_term place p) (solving y f) b c closed admitted ext known orderly of_it holds = absurd of_it
step n m t before stages (by_equation x e) (matching q vs) b c closed admitted ext known orderly of_it holds = absurd of_it
step n m t before stages (by_equation x e) (solving y f) b c closed admitted ext known orderly of_it holds =
    by_solving n y f holds.0 b c closed admitted ext
    (λ z h. known z (in_from_contains (variables_at_each before) z (orderly.0.known z (contains_from_in (variables_of e) z (subst (λ (k : PlainExpr). IsIn z (variables_of k)) of_it.1 h)))))
    (subst (λ (k : ℕ). value_in k c ≡ Some holds.0) (sym of_it.0) holds.1) (subst (λ (k : PlainExpr). meaning n.functions k (bound_in c) 0 ≡ gives holds.0) (sym of_it.1) holds.2)
step n m t before stages (by_size x) (matching q vs) b c closed admitted ext known orderly of_it holds =
    by_matching n q vs holds.0 b c (in_from_contains vs holds.0 ((of_it.1.all holds.0).0 (admitted_value n c x holds.0 admitted holds.1))) admitted
    (record { extends = ext; is_instance = subst (λ r. IsInstance c r holds.0) (sym of_it.0) holds.1 })
step n m t before stages (by_size x) (solving y f) b c closed admitted ext known orderly of_it holds = absurd of_it
step n m t before stages (by_value place p v) (matching q vs) b c closed admitted ext known orderly of_it holds =
    by_matching n q vs v b c (subst (IsIn v) (sym of_it.1) (inl refl)) admitted (record { extends = ext; is_instance = subst (λ r. IsInstance c r v) (sym of_it.0) holds.1 })
step n m t before stages (by_value place p v) (solving y f) b c closed admitted ext known orderly of_it holds = absurd of_it

pub known_next : (n : PlainNet) (m : Marking) (before : List Stage) (stage : Stage) (trial : Trial) (b d : PlainPartial) → AreKnown before b → IsTrialOf n m stage trial → IsIn d (next n trial b) → AreKnown (before ++ stage ∷ []) d
known_next n m before stage trial b d known of_it h x g =
    let is = next_is n m stage trial b d of_it h in
    ⊎_elim (λ old. let v = known x old in (v.0, value_stays x v.0 b d is.extends v.1)) (λ new. is.has x (own new)) (in_append_cases (variables_at_each before) (variables_at_each (stage ∷ [])) x (subst (IsIn x) (flat_map-append variables_at before (stage ∷ [])) g))
  where
    own : IsIn x (variables_at_each (stage ∷ [])) → IsIn x (variables_at stage)
    own new = ⊎_elim (λ k. k) (λ k. absurd k) (in_append_cases (variables_at stage) [] x new)

-- ---- all trials

-- each variable is given a value by some stage
abbrev AllAreGiven : List Stage → List ℕ → Type 0
AllAreGiven stages xs = (x : ℕ) → IsIn x xs → IsIn x (variables_at_each stages)

pub in_ends
    : (n : PlainNet) (m : Marking) (t : PlainTransition) (before stages : List Stage) (trials : List Trial) (b c : PlainPartial)
    → AreClosed n.functions → are_admitted n c ≡ true → Rises nat_cmp (variables_in c) → AllAreGiven (before ++ stages) (variables_in c)
    → Extends b c → AreKnown before b → AreOrderly t before stages → AreTrialsOf n m stages trials → AllByRecursion (Holds n m c) stages
    → IsIn c (ends n trials b)
in_ends n m t before [] [] b c closed admitted rise given ext known orderly of_them holds = inl (whole_extended b c (whole_from b (subst (Rises nat_cmp) same rise) has) ext)
  where
    same : variables_in c ≡ variables_in b
    same = extends_variables b c ext

    has : (x : ℕ) → IsIn x (variables_in b) → HasValue x b
    has x h = known x (subst (λ ss. IsIn x (variables_at_each ss)) (append-nil before) (given x (subst (IsIn x) (sym same) h)))
in_ends n m t before [] (trial ∷ trials) b c closed admitted rise given ext known orderly of_them holds = absurd of_them
in_ends n m t before (stage ∷ stages) [] b c closed admitted rise given ext known orderly of_them holds = absurd of_them
in_ends n m t before (stage ∷ stages) (trial ∷ trials) b c closed admitted rise given ext known orderly of_them holds =
    let first = step n m t before stages stage trial b c closed admitted ext known orderly of_them.0 holds.0 in
    in_flat_map (ends n trials) (reverse (next n trial b)) first.through c (in_reverse (next n trial b) first.through first.is_next)
    (in_ends n m t (before ++ stage ∷ []) stages trials first.through c closed admitted rise
    (subst (λ ss. AllAreGiven ss (variables_in c)) (sym (append_assoc before (stage ∷ []) stages)) given)
    first.below (known_next n m before stage trial b first.through known of_them.0 first.is_next) orderly.1 of_them.1 holds.1)
