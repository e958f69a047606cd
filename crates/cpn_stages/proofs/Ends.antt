-- What trials make of a partial binding: each end extends it, gives the variables of all stages values that their colour sets
-- admit, and no two have an extension in common; and each binding of which all the stages hold is one of them.
use Rattle.std.proofs.Common.{◌≡◌, ◌⊎◌, ℕ, ◌==◌, Bool, true, false, cond, if◌then◌else◌, List, [], ◌∷◌, reverse, Option, Some, None, refl, sym, ap, subst, inl, inr, ⊎_elim, eqb-true}
use Rattle.std.proofs.lemmas.Bool.{and_parts}
use Rattle.std.proofs.lemmas.Grind.{reverse_onto}
use Rattle.cpn_definitions.specs.Value.{PlainValue, PlainValues, tuple, bare, applied, list, none, more}
use Rattle.cpn_definitions.specs.Colour.{admits}
use Rattle.cpn_definitions.specs.Marking.{Marking}
use Rattle.cpn_definitions.specs.Outcome.{Outcome, gives, faults, no_meaning}
use Rattle.cpn_definitions.specs.Inscription.{PlainPattern, any_pattern, variable_pattern, literal_pattern, tuple_pattern, list_pattern, cons_pattern, bare_pattern, applied_pattern, PlainPatterns, no_patterns, more_patterns}
use Rattle.cpn_definitions.specs.Net.{PlainNet, variable_at}
use Rattle.cpn_definitions.specs.Meaning.{meaning}
use Rattle.cpn_definitions.specs.Bindable.{pattern_variables, patterns_variables}
use Rattle.cpn_definitions.proofs.RisingLists.{IsIn, in_append_left, in_append_right, in_append_cases, in_flat_from}
use Rattle.cpn_stages.specs.Partial.{PlainPartial, value_in, IsKept, Extends, bound_in}
use Rattle.cpn_stages.specs.Instances.{IsInstance, AreInstances, Matches}
use Rattle.cpn_stages.specs.Stages.{Stage, by_term, by_equation, by_size, by_value, variables_at, variables_at_each}
use Rattle.cpn_stages.specs.Reached.{HasValue, IsAdmitted}
use Rattle.cpn_stages.specs.Fitting.{fitted}
use Rattle.cpn_stages.specs.Trials.{Trial, matching, solving, admits_if, are_admitted, kept, with_outcome, next, ends, IsTrialOf, AreTrialsOf}
use Rattle.cpn_stages.proofs.Partials.{extends_itself, extends_further, value_stays}
use Rattle.cpn_stages.proofs.FittedMatches.{fitted_matches}

-- ---- lists backwards

pub in_reverse : {X : Type 0} (xs : List X) (x : X) → IsIn x xs → IsIn x (reverse xs)
in_reverse [] x h = absurd h
in_reverse (y ∷ xs) x (inl e) = subst (IsIn x) (sym (reverse_onto xs y [])) (in_append_right (reverse xs) (y ∷ []) x (inl e))
in_reverse (y ∷ xs) x (inr h) = subst (IsIn x) (sym (reverse_onto xs y [])) (in_append_left (reverse xs) (y ∷ []) x (in_reverse xs x h))

pub from_reverse : {X : Type 0} (xs : List X) (x : X) → IsIn x (reverse xs) → IsIn x xs
from_reverse [] x h = absurd h
from_reverse (y ∷ xs) x h = split (in_append_cases (reverse xs) (y ∷ []) x (subst (IsIn x) (reverse_onto xs y []) h)) (λ g. from_reverse xs x g)
  where
    split : IsIn x (reverse xs) ⊎ IsIn x (y ∷ []) → (IsIn x (reverse xs) → IsIn x xs) → IsIn x (y ∷ xs)
    split (inl g) rest = inr (rest g)
    split (inr (inl e)) rest = inl e
    split (inr (inr g)) rest = absurd g

-- ---- what is admitted

-- what an admitted partial binding extends is admitted
pub admitted_below : (n : PlainNet) (b c : PlainPartial) → Extends b c → are_admitted n c ≡ true → are_admitted n b ≡ true
admitted_below n [] c is h = refl
admitted_below n (p ∷ b) [] is h = absurd is
admitted_below n (p ∷ b) (q ∷ c) is h =
    let parts = and_parts (admits_if (variable_at n q.0).colour q.1) (are_admitted n c) h in
    rw (first p.1 is.1 parts.0, admitted_below n b c is.2 parts.1) refl
  where
    first : (o : Option PlainValue) → IsKept o q.1 → admits_if (variable_at n q.0).colour q.1 ≡ true → admits_if (variable_at n p.0).colour o ≡ true
    first None kept' h = refl
    first (Some v) kept' h = subst (λ (x : ℕ). admits (variable_at n x).colour v ≡ true) is.0 (subst (λ o. admits_if (variable_at n q.0).colour o ≡ true) kept' h)

-- the value of a variable is admitted
pub admitted_value : (n : PlainNet) (b : PlainPartial) (x : ℕ) (v : PlainValue) → are_admitted n b ≡ true → value_in x b ≡ Some v → IsAdmitted n x v
admitted_value n [] x v h is = cc
admitted_value n (p ∷ b) x v h is = split (x == p.0) refl is (λ g. admitted_value n b x v (and_parts (admits_if (variable_at n p.0).colour p.1) (are_admitted n b) h).1 g)
  where
    split : (test : Bool) → (x == p.0) ≡ test → cond test p.1 (value_in x b) ≡ Some v → (value_in x b ≡ Some v → IsAdmitted n x v) → IsAdmitted n x v
    split true same is rest =
        let own = (and_parts (admits_if (variable_at n p.0).colour p.1) (are_admitted n b) h).0 in
        subst (λ (y : ℕ). IsAdmitted n y v) (sym (eqb-true x p.0 same)) (subst (λ o. admits_if (variable_at n p.0).colour o ≡ true) is own)
    split false other is rest = rest is

-- ---- what a trial makes

-- what is kept of a partial binding that may be there
record IsKeptOf (n : PlainNet) (o : Option PlainPartial) (c : PlainPartial) : Type 0 where
  is : o ≡ Some c
  admitted : are_admitted n c ≡ true

kept_is : (n : PlainNet) (o : Option PlainPartial) (c : PlainPartial) → IsIn c (kept n o) → IsKeptOf n o c
kept_is n None c h = absurd h
kept_is n (Some b) c h = split (are_admitted n b) refl h
  where
    split : (test : Bool) → are_admitted n b ≡ test → IsIn c (if test then b ∷ [] else []) → IsKeptOf n (Some b) c
    split true yes' (inl e) = record { is = ap Some e; admitted = subst (λ d. are_admitted n d ≡ true) e yes' }
    split true yes' (inr h) = absurd h
    split false no' h = absurd h

pub is_kept : (n : PlainNet) (o : Option PlainPartial) (c : PlainPartial) → o ≡ Some c → are_admitted n c ≡ true → IsIn c (kept n o)
is_kept n o c is admitted = subst (λ p. IsIn c (kept n p)) (sym is) (rw admitted (inl refl))

-- each of the patterns' variables has a value where the pattern is one
mutual
  instance_has : (b : PlainPartial) (p : PlainPattern) (v : PlainValue) (x : ℕ) → IsInstance b p v → IsIn x (pattern_variables p) → HasValue x b
  instance_has b any_pattern v x is h = absurd h
  instance_has b (variable_pattern y) v x is (inl e) = (v, subst (λ (z : ℕ). value_in z b ≡ Some v) e is)
  instance_has b (variable_pattern y) v x is (inr h) = absurd h
  instance_has b (literal_pattern w) v x is h = absurd h
  instance_has b (tuple_pattern ps) (tuple vs) x is h = instances_have b ps vs x is h
  instance_has b (list_pattern ps) (list vs) x is h = instances_have b ps vs x is h
  instance_has b (cons_pattern p q) (list (more v vs)) x is h = ⊎_elim (λ g. instance_has b p v x is.0 g) (λ g. instance_has b q (list vs) x is.1 g) (in_append_cases (pattern_variables p) (pattern_variables q) x h)
  instance_has b (bare_pattern k) (bare j) x is h = absurd h
  instance_has b (applied_pattern k p) (applied j v) x is h = instance_has b p v x is.1 h
  instance_has b p v x is h = absurd is

  instances_have : (b : PlainPartial) (ps : PlainPatterns) (vs : PlainValues) (x : ℕ) → AreInstances b ps vs → IsIn x (patterns_variables ps) → HasValue x b
  instances_have b no_patterns none x is h = absurd h
  instances_have b (more_patterns p ps) (more v vs) x is h = ⊎_elim (λ g. instance_has b p v x is.0 g) (λ g. instances_have b ps vs x is.1 g) (in_append_cases (pattern_variables p) (patterns_variables ps) x h)
  instances_have b ps vs x is h = absurd is

-- What is known of a partial binding that a trial makes of another: it extends it, the pattern of the trial is a value there,
-- and its values are admitted.
pub record IsMade (n : PlainNet) (p : PlainPattern) (b c : PlainPartial) (v : PlainValue) : Type 0 where
  pub matches : Matches b p v c
  pub admitted : are_admitted n c ≡ true

made_of_kept : (n : PlainNet) (p : PlainPattern) (b c : PlainPartial) (v : PlainValue) → IsIn c (kept n (fitted p v b)) → IsMade n p b c v
made_of_kept n p b c v h = let is = kept_is n (fitted p v b) c h in record { matches = fitted_matches b c p v is.is; admitted = is.admitted }

pub made_of_matching : (n : PlainNet) (p : PlainPattern) (vs : List PlainValue) (b c : PlainPartial) → IsIn c (next n (matching p vs) b) → (v : PlainValue) × IsIn v vs × IsMade n p b c v
made_of_matching n p vs b c h = let one = in_flat_from (λ v. kept n (fitted p v b)) vs c h in (one.0, one.1, made_of_kept n p b c one.0 one.2)

pub made_of_outcome : (n : PlainNet) (p : PlainPattern) (b c : PlainPartial) (o : Outcome PlainValue) → IsIn c (with_outcome n p b o) → (v : PlainValue) × (o ≡ gives v) × IsMade n p b c v
made_of_outcome n p b c (gives v) h = (v, refl, made_of_kept n p b c v h)
made_of_outcome n p b c (faults fault) h = absurd h
made_of_outcome n p b c no_meaning h = absurd h

-- of a stage: it gives the variables of the stage a value
pub record IsNext (n : PlainNet) (stage : Stage) (b c : PlainPartial) : Type 0 where
  pub extends : Extends b c
  pub admitted : are_admitted n c ≡ true
  pub has : (x : ℕ) → IsIn x (variables_at stage) → HasValue x c

pub next_is : (n : PlainNet) (m : Marking) (stage : Stage) (trial : Trial) (b c : PlainPartial) → IsTrialOf n m stage trial → IsIn c (next n trial b) → IsNext n stage b c
next_is n m (by_term place p) (matching q vs) b c of_it h =
    let made = made_of_matching n q vs b c h in
    record { extends = made.2.matches.makes.extends; admitted = made.2.admitted; has = λ x g. instance_has c q made.0 x made.2.matches.makes.is_instance (subst (λ r. IsIn x (pattern_variables r)) (sym of_it.0) g) }
next_is n m (by_term place p) (solving x e) b c of_it h = absurd of_it
next_is n m (by_equation x e) (matching q vs) b c of_it h = absurd of_it
next_is n m (by_equation x e) (solving y f) b c of_it h =
    let made = made_of_outcome n (variable_pattern y) b c (meaning n.functions f (bound_in b) 0) h in
    record { extends = made.2.matches.makes.extends; admitted = made.2.admitted; has = λ z g. instance_has c (variable_pattern y) made.0 z made.2.matches.makes.is_instance (subst (λ (k : ℕ). IsIn z (k ∷ [])) (sym of_it.0) g) }
next_is n m (by_size x) (matching q vs) b c of_it h =
    let made = made_of_matching n q vs b c h in
    record { extends = made.2.matches.makes.extends; admitted = made.2.admitted; has = λ z g. instance_has c q made.0 z made.2.matches.makes.is_instance (subst (λ r. IsIn z (pattern_variables r)) (sym of_it.0) g) }
next_is n m (by_size x) (solving y f) b c of_it h = absurd of_it
next_is n m (by_value place p v) (matching q vs) b c of_it h =
    let made = made_of_matching n q vs b c h in
    record { extends = made.2.matches.makes.extends; admitted = made.2.admitted; has = λ x g. instance_has c q made.0 x made.2.matches.makes.is_instance (subst (λ r. IsIn x (pattern_variables r)) (sym of_it.0) g) }
next_is n m (by_value place p v) (solving y f) b c of_it h = absurd of_it

-- ---- what all trials make

pub record IsEnd (n : PlainNet) (stages : List Stage) (b c : PlainPartial) : Type 0 where
  pub extends : Extends b c
  pub admitted : are_admitted n c ≡ true
  pub has : (x : ℕ) → IsIn x (variables_at_each stages) → HasValue x c

pub end_is : (n : PlainNet) (m : Marking) (stages : List Stage) (trials : List Trial) (b c : PlainPartial) → AreTrialsOf n m stages trials → are_admitted n b ≡ true → IsIn c (ends n trials b) → IsEnd n stages b c
end_is n m [] [] b c of_them admitted (inl e) = record { extends = subst (Extends b) e (extends_itself b); admitted = subst (λ d. are_admitted n d ≡ true) e admitted; has = λ x g. absurd g }
end_is n m [] [] b c of_them admitted (inr h) = absurd h
end_is n m [] (trial ∷ trials) b c of_them admitted h = absurd of_them
end_is n m (stage ∷ stages) [] b c of_them admitted h = absurd of_them
end_is n m (stage ∷ stages) (trial ∷ trials) b c of_them admitted h =
    let one = in_flat_from (ends n trials) (reverse (next n trial b)) c h in
    let first = next_is n m stage trial b one.0 of_them.0 (from_reverse (next n trial b) one.0 one.1) in
    let rest = end_is n m stages trials one.0 c of_them.1 first.admitted one.2 in
    record {
      extends = extends_further b one.0 c first.extends rest.extends;
      admitted = rest.admitted;
      has = λ x g. ⊎_elim (λ here. let v = first.has x here in (v.0, value_stays x v.0 one.0 c rest.extends v.1)) (λ there. rest.has x there) (in_append_cases (variables_at stage) (variables_at_each stages) x g);
    }
