-- The ends of the trials of a transition, from where none of its variables has a value: each is a binding of its variables, no two
-- are the same, and each binding with which the transition is covered is one of them.
use Rattle.std.proofs.Common.{◌≡◌, ℕ, ◌==◌, true, ◌&&◌, List, [], ◌∷◌, refl, sym, ap, ◌∙◌, subst, nat_cmp, eqb-true}
use Rattle.std.proofs.lemmas.Bool.{and_parts}
use Rattle.cpn_definitions.specs.Colour.{admits}
use Rattle.cpn_definitions.specs.Lists.{Rises}
use Rattle.cpn_definitions.specs.Marking.{Marking}
use Rattle.cpn_definitions.specs.Outcome.{HasMeaning}
use Rattle.cpn_definitions.specs.Inscription.{PlainExpr}
use Rattle.cpn_definitions.specs.Net.{PlainTransition, PlainNet, variable_at, transition_at}
use Rattle.cpn_definitions.specs.Meaning.{PlainBinding, meaning}
use Rattle.cpn_definitions.specs.Bindable.{AreClosed}
use Rattle.cpn_definitions.specs.Occurrence.{PlainElement, binds, covered}
use Rattle.cpn_definitions.proofs.RisingLists.{IsIn, in_from_contains, contains_from_in}
use Rattle.cpn_stages.specs.Partial.{PlainPartial, unbound, variables_in, Extends, bound_in, as_partial}
use Rattle.cpn_stages.specs.Stages.{Stage, variables_at_each, AreStages}
use Rattle.cpn_stages.specs.Reached.{HasValue}
use Rattle.cpn_definitions.specs.Sound.{IsSolvable}
use Rattle.cpn_stages.specs.Orderly.{IsTimely}
use Rattle.cpn_stages.specs.Trials.{Trial, are_admitted, ends, AreTrialsOf}
use Rattle.cpn_stages.proofs.Partials.{extends_variables}
use Rattle.cpn_stages.proofs.CoveredBindings.{each_is_given, covered_parts, covered_is_reached}
use Rattle.cpn_stages.proofs.OrderlyStages.{stages_are_orderly}
use Rattle.cpn_stages.proofs.WholeBindings.{IsWhole, whole_from, whole_binds, known_variables, known_bound, known_is}
use Rattle.cpn_stages.proofs.Ends.{end_is}
use Rattle.cpn_stages.proofs.AllEnds.{in_ends}
use Rattle.cpn_stages.proofs.ApartEnds.{AllApart, stages_have_one, ends_apart}

-- ---- where nothing is bound

pub unbound_variables : (xs : List ℕ) → variables_in (unbound xs) ≡ xs
unbound_variables [] = refl
unbound_variables (x ∷ xs) = ap (λ (ys : List ℕ). x ∷ ys) (unbound_variables xs)

pub unbound_admitted : (n : PlainNet) (xs : List ℕ) → are_admitted n (unbound xs) ≡ true
unbound_admitted n [] = refl
unbound_admitted n (x ∷ xs) = unbound_admitted n xs

binding_extends : (n : PlainNet) (xs : List ℕ) (b : PlainBinding) → binds n xs b ≡ true → Extends (unbound xs) (as_partial b)
binding_extends n [] [] is = tt
binding_extends n [] (pair ∷ b) is = cc
binding_extends n (x ∷ xs) [] is = cc
binding_extends n (x ∷ xs) (pair ∷ b) is =
    let all = and_parts ((x == pair.0) && admits (variable_at n x).colour pair.1) (binds n xs b) is in
    let front = and_parts (x == pair.0) (admits (variable_at n x).colour pair.1) all.0 in
    (sym (eqb-true x pair.0 front.0), tt, binding_extends n xs b all.1)

binding_admitted : (n : PlainNet) (xs : List ℕ) (b : PlainBinding) → binds n xs b ≡ true → are_admitted n (as_partial b) ≡ true
binding_admitted n [] [] is = refl
binding_admitted n [] (pair ∷ b) is = cc
binding_admitted n (x ∷ xs) [] is = cc
binding_admitted n (x ∷ xs) (pair ∷ b) is =
    let all = and_parts ((x == pair.0) && admits (variable_at n x).colour pair.1) (binds n xs b) is in
    let front = and_parts (x == pair.0) (admits (variable_at n x).colour pair.1) all.0 in
    let own : admits (variable_at n pair.0).colour pair.1 ≡ true = subst (λ (y : ℕ). admits (variable_at n y).colour pair.1 ≡ true) (eqb-true x pair.0 front.0) front.1 in
    rw (own, binding_admitted n xs b all.1) refl

-- ---- what the inscription of an equation means

pub equation_means : (n : PlainNet) (t : PlainTransition) (before : List Stage) (b : PlainPartial) (x : ℕ) (e : PlainExpr)
    → IsSolvable n t → IsTimely t before x e → are_admitted n b ≡ true → ((y : ℕ) → IsIn y (variables_at_each before) → HasValue y b) → HasMeaning (meaning n.functions e (bound_in b) 0)
equation_means n t before b x e solvable timely admitted known =
    solvable.equations_mean x e timely.equated (known_variables b) (bound_in b) (known_bound n b admitted)
    (λ y h. contains_from_in (known_variables b) y (known_is b y (known y (in_from_contains (variables_at_each before) y (timely.known y h)))))

-- ---- the ends

module _ (n : PlainNet) (m : Marking) (t : PlainTransition) (stages : List Stage) (trials : List Trial) (listed : Rises nat_cmp t.vars) (are : AreStages n t stages) (of_them : AreTrialsOf n m stages trials) where
  -- each is whole, and binds the transition's variables
  pub each_end_whole : (c : PlainPartial) → IsIn c (ends n trials (unbound t.vars)) → IsWhole c × (binds n t.vars (bound_in c) ≡ true)
  each_end_whole c h =
      let is = end_is n m stages trials (unbound t.vars) c of_them (unbound_admitted n t.vars) h in
      let same : variables_in c ≡ t.vars = extends_variables (unbound t.vars) c is.extends ∙ unbound_variables t.vars in
      let whole : IsWhole c = whole_from c (subst (Rises nat_cmp) (sym same) listed) (λ x g. is.has x (each_is_given n t stages are x (subst (IsIn x) same g))) in
      (whole, subst (λ xs. binds n xs (bound_in c) ≡ true) same (whole_binds n c whole is.admitted))

  pub all_ends_apart : AllApart (ends n trials (unbound t.vars))
  all_ends_apart = ends_apart n m stages trials (unbound t.vars) (stages_have_one n t stages are) of_them

-- the same of any stages that give each variable a value
pub each_end_whole_of
    : (n : PlainNet) (m : Marking) (t : PlainTransition) (stages : List Stage) (trials : List Trial) → Rises nat_cmp t.vars → ((x : ℕ) → IsIn x t.vars → IsIn x (variables_at_each stages)) → AreTrialsOf n m stages trials
    → (c : PlainPartial) → IsIn c (ends n trials (unbound t.vars)) → IsWhole c × (binds n t.vars (bound_in c) ≡ true)
each_end_whole_of n m t stages trials listed given of_them c h =
    let is = end_is n m stages trials (unbound t.vars) c of_them (unbound_admitted n t.vars) h in
    let same : variables_in c ≡ t.vars = extends_variables (unbound t.vars) c is.extends ∙ unbound_variables t.vars in
    let whole : IsWhole c = whole_from c (subst (Rises nat_cmp) (sym same) listed) (λ x g. is.has x (given x (subst (IsIn x) same g))) in
    (whole, subst (λ xs. binds n xs (bound_in c) ≡ true) same (whole_binds n c whole is.admitted))

-- each binding with which it is covered is one of them
pub covered_is_end
    : (n : PlainNet) (m : Marking) (time : ℕ) (e : PlainElement) (stages : List Stage) (trials : List Trial)
    → AreClosed n.functions → Rises nat_cmp (transition_at n e.transition).vars → AreStages n (transition_at n e.transition) stages → AreTrialsOf n m stages trials
    → covered n m time e ≡ true → IsIn (as_partial e.binding) (ends n trials (unbound (transition_at n e.transition).vars))
covered_is_end n m time e stages trials closed listed are of_them is =
    let t : PlainTransition = transition_at n e.transition in
    let reached = covered_is_reached n m time e stages are is in
    let bound : binds n t.vars e.binding ≡ true = (covered_parts n m time e is).binds_them in
    in_ends n m t [] stages trials (unbound t.vars) (as_partial e.binding) closed (binding_admitted n t.vars e.binding bound)
    (subst (Rises nat_cmp) (sym reached.of_them) listed)
    (λ x h. each_is_given n t stages are x (subst (IsIn x) reached.of_them h))
    (binding_extends n t.vars e.binding bound) (λ x h. absurd h) (stages_are_orderly n t stages are) of_them reached.hold
