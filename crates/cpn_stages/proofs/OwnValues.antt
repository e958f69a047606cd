-- A trial gives a value to no variable but those of its stage.
use Rattle.std.proofs.Common.{◌≡◌, ◌⊎◌, ℕ, ◌==◌, Bool, true, false, cond, if◌then◌else◌, List, [], ◌∷◌, ◌++◌, reverse, Option, Some, None, refl, sym, ◌∙◌, subst, inl, inr, ⊎_elim, eqb-true}
use Rattle.std.specs.Option.{option_map}
use Rattle.cpn_definitions.specs.Value.{PlainValue, PlainValues, tuple, bare, applied, list, none, more}
use Rattle.cpn_definitions.specs.Order.{same_value}
use Rattle.cpn_definitions.specs.Marking.{Marking}
use Rattle.cpn_definitions.specs.Inscription.{PlainPattern, any_pattern, variable_pattern, literal_pattern, tuple_pattern, list_pattern, cons_pattern, bare_pattern, applied_pattern, PlainPatterns, no_patterns, more_patterns}
use Rattle.cpn_definitions.specs.Net.{PlainNet}
use Rattle.cpn_definitions.specs.Meaning.{meaning}
use Rattle.cpn_definitions.specs.Bindable.{pattern_variables, patterns_variables}
use Rattle.cpn_definitions.proofs.ListItems.{made_of}
use Rattle.cpn_definitions.proofs.RisingLists.{IsIn, in_append_left, in_append_right, in_flat_from}
use Rattle.cpn_stages.specs.Partial.{PlainPartial, value_in, bound_in}
use Rattle.cpn_stages.specs.Stages.{Stage, by_term, by_equation, by_size, by_value, variables_at, variables_at_each}
use Rattle.cpn_stages.specs.Reached.{HasValue}
use Rattle.cpn_stages.specs.Fitting.{agreed, held, fitted, fitted_each}
use Rattle.cpn_stages.specs.Trials.{Trial, matching, solving, next, ends, IsTrialOf, AreTrialsOf}
use Rattle.cpn_stages.proofs.PatternValues.{then_parts}
use Rattle.cpn_stages.proofs.FittedMatches.{match_is_fitted}
use Rattle.cpn_stages.proofs.Ends.{from_reverse, made_of_matching, made_of_outcome}

-- a variable that has a value in the second partial binding has one in the first, or is one of these
abbrev pub HasOnly : List ℕ → PlainPartial → PlainPartial → Type 0
HasOnly xs b c = (y : ℕ) → HasValue y c → HasValue y b ⊎ IsIn y xs

has_behind : (pair : ℕ × Option PlainValue) (b : PlainPartial) (y : ℕ) (o : Option PlainValue) → pair.1 ≡ o → HasValue y ((pair.0, o) ∷ b) → HasValue y (pair ∷ b)
has_behind pair b y o is h = (h.0, subst (λ p. cond (y == pair.0) p (value_in y b) ≡ Some h.0) (sym is) h.1)

agreed_only : (x : ℕ) (v : PlainValue) (pair : ℕ × Option PlainValue) (b : PlainPartial) (o new : Option PlainValue) → pair.1 ≡ o → x ≡ pair.0 → agreed o v ≡ Some new → HasOnly (x ∷ []) (pair ∷ b) ((pair.0, new) ∷ b)
agreed_only x v pair b None new is same found y h = split (y == pair.0) refl h.1
  where
    split : (test : Bool) → (y == pair.0) ≡ test → cond test new (value_in y b) ≡ Some h.0 → HasValue y (pair ∷ b) ⊎ IsIn y (x ∷ [])
    split true at has = inr (inl (same ∙ sym (eqb-true y pair.0 at)))
    split false at has = inl (h.0, subst (λ t. cond t pair.1 (value_in y b) ≡ Some h.0) (sym at) has)
agreed_only x v pair b (Some w) new is same found y h = split (same_value w v) found
  where
    some_same : Some w ≡ new → pair.1 ≡ new
    some_same e = is ∙ e

    split : (test : Bool) → cond test (Some (Some w)) None ≡ Some new → HasValue y (pair ∷ b) ⊎ IsIn y (x ∷ [])
    split true found = inl (has_behind pair b y new (some_same (inner found)) h)
      where
        inner : Some (Some w) ≡ Some new → Some w ≡ new
        inner e = cc
    split false found = cc

held_only : (x : ℕ) (v : PlainValue) (b c : PlainPartial) → held x v b ≡ Some c → HasOnly (x ∷ []) b c
held_only x v [] c is = cc
held_only x v (pair ∷ b) c is = split (x == pair.0) refl (λ d. held_only x v b d) is
  where
    split : (test : Bool) → (x == pair.0) ≡ test → ((d : PlainPartial) → held x v b ≡ Some d → HasOnly (x ∷ []) b d) → (if test then option_map (λ (value : Option PlainValue). (pair.0, value) ∷ b) (agreed pair.1 v) else option_map (λ rest. pair ∷ rest) (held x v b)) ≡ Some c → HasOnly (x ∷ []) (pair ∷ b) c
    split true at rest found =
        let parts = made_of (λ (value : Option PlainValue). (pair.0, value) ∷ b) (agreed pair.1 v) c found in
        subst (HasOnly (x ∷ []) (pair ∷ b)) parts.2 (agreed_only x v pair b pair.1 parts.0 refl (eqb-true x pair.0 at) parts.1)
    split false at rest found =
        let parts = made_of (λ (d : PlainPartial). pair ∷ d) (held x v b) c found in
        subst (HasOnly (x ∷ []) (pair ∷ b)) parts.2 (later parts.0 (rest parts.0 parts.1))
      where
        later : (d : PlainPartial) → HasOnly (x ∷ []) b d → HasOnly (x ∷ []) (pair ∷ b) (pair ∷ d)
        later d only y h = of_test (y == pair.0) refl h.1
          where
            of_test : (t : Bool) → (y == pair.0) ≡ t → cond t pair.1 (value_in y d) ≡ Some h.0 → HasValue y (pair ∷ b) ⊎ IsIn y (x ∷ [])
            of_test true at' has = inl (h.0, subst (λ t. cond t pair.1 (value_in y b) ≡ Some h.0) (sym at') has)
            of_test false at' has = ⊎_elim (λ g. inl (g.0, subst (λ t. cond t pair.1 (value_in y b) ≡ Some g.0) (sym at') g.1)) (λ g. inr g) (only y (h.0, has))

only_itself : (xs : List ℕ) (b c : PlainPartial) → Some b ≡ Some c → HasOnly xs b c
only_itself xs b c is y h = inl (subst (HasValue y) (sym (some_same is)) h)
  where
    some_same : Some b ≡ Some c → b ≡ c
    some_same e = cc

only_tested : (xs : List ℕ) (test : Bool) (b c : PlainPartial) → (if test then Some b else None) ≡ Some c → HasOnly xs b c
only_tested xs true b c is = only_itself xs b c is
only_tested xs false b c is = cc

only_both : (xs ys : List ℕ) (b c d : PlainPartial) → HasOnly xs b c → HasOnly ys c d → HasOnly (xs ++ ys) b d
only_both xs ys b c d first second y h =
    ⊎_elim (λ g. ⊎_elim (λ k. inl k) (λ k. inr (in_append_left xs ys y k)) (first y g)) (λ g. inr (in_append_right xs ys y g)) (second y h)

mutual
  fitted_only : (p : PlainPattern) (v : PlainValue) (b c : PlainPartial) → fitted p v b ≡ Some c → HasOnly (pattern_variables p) b c
  fitted_only any_pattern v b c is = only_itself [] b c is
  fitted_only (variable_pattern x) v b c is = held_only x v b c is
  fitted_only (literal_pattern w) v b c is = only_tested [] (same_value w v) b c is
  fitted_only (tuple_pattern ps) (tuple vs) b c is = each_only ps vs b c is
  fitted_only (list_pattern ps) (list vs) b c is = each_only ps vs b c is
  fitted_only (cons_pattern p q) (list (more v vs)) b c is =
      let parts = then_parts (fitted q (list vs)) (fitted p v b) c is in
      only_both (pattern_variables p) (pattern_variables q) b parts.0 c (fitted_only p v b parts.0 parts.1) (fitted_only q (list vs) parts.0 c parts.2)
  fitted_only (bare_pattern k) (bare j) b c is = only_tested [] (k == j) b c is
  fitted_only (applied_pattern k p) (applied j v) b c is = of_test (k == j) (λ h. fitted_only p v b c h) is
    where
      of_test : (test : Bool) → (fitted p v b ≡ Some c → HasOnly (pattern_variables p) b c) → (if test then fitted p v b else None) ≡ Some c → HasOnly (pattern_variables p) b c
      of_test true rest h = rest h
      of_test false rest h = cc
  fitted_only p v b c is = cc

  each_only : (ps : PlainPatterns) (vs : PlainValues) (b c : PlainPartial) → fitted_each ps vs b ≡ Some c → HasOnly (patterns_variables ps) b c
  each_only no_patterns none b c is = only_itself [] b c is
  each_only (more_patterns p ps) (more v vs) b c is =
      let parts = then_parts (fitted_each ps vs) (fitted p v b) c is in
      only_both (pattern_variables p) (patterns_variables ps) b parts.0 c (fitted_only p v b parts.0 parts.1) (each_only ps vs parts.0 c parts.2)
  each_only ps vs b c is = cc

-- ---- of trials

matching_only : (n : PlainNet) (p : PlainPattern) (vs : List PlainValue) (b c : PlainPartial) → IsIn c (next n (matching p vs) b) → HasOnly (pattern_variables p) b c
matching_only n p vs b c h = let made = made_of_matching n p vs b c h in fitted_only p made.0 b c (match_is_fitted b c p made.0 made.2.matches)

next_only : (n : PlainNet) (m : Marking) (stage : Stage) (trial : Trial) (b c : PlainPartial) → IsTrialOf n m stage trial → IsIn c (next n trial b) → HasOnly (variables_at stage) b c
next_only n m (by_term place p) (matching q vs) b c of_it h = subst (λ (r : PlainPattern). HasOnly (pattern_variables r) b c) of_it.0 (matching_only n q vs b c h)
next_only n m (by_term place p) (solving x e) b c of_it h = absurd of_it
next_only n m (by_equation x e) (matching q vs) b c of_it h = absurd of_it
next_only n m (by_equation x e) (solving y f) b c of_it h =
    let made = made_of_outcome n (variable_pattern y) b c (meaning n.functions f (bound_in b) 0) h in
    subst (λ (k : ℕ). HasOnly (k ∷ []) b c) of_it.0 (fitted_only (variable_pattern y) made.0 b c (match_is_fitted b c (variable_pattern y) made.0 made.2.matches))
next_only n m (by_size x) (matching q vs) b c of_it h = subst (λ (r : PlainPattern). HasOnly (pattern_variables r) b c) of_it.0 (matching_only n q vs b c h)
next_only n m (by_size x) (solving y f) b c of_it h = absurd of_it
next_only n m (by_value place p v) (matching q vs) b c of_it h = subst (λ (r : PlainPattern). HasOnly (pattern_variables r) b c) of_it.0 (matching_only n q vs b c h)
next_only n m (by_value place p v) (solving y f) b c of_it h = absurd of_it

-- and so do the trials of several stages
pub ends_only : (n : PlainNet) (m : Marking) (stages : List Stage) (trials : List Trial) (b c : PlainPartial) → AreTrialsOf n m stages trials → IsIn c (ends n trials b) → HasOnly (variables_at_each stages) b c
ends_only n m [] [] b c of_them (inl e) y h = inl (subst (HasValue y) (sym e) h)
ends_only n m [] [] b c of_them (inr g) y h = absurd g
ends_only n m [] (trial ∷ trials) b c of_them g y h = absurd of_them
ends_only n m (stage ∷ stages) [] b c of_them g y h = absurd of_them
ends_only n m (stage ∷ stages) (trial ∷ trials) b c of_them g y h =
    let one = in_flat_from (ends n trials) (reverse (next n trial b)) c g in
    only_both (variables_at stage) (variables_at_each stages) b one.0 c (next_only n m stage trial b one.0 of_them.0 (from_reverse (next n trial b) one.0 one.1)) (ends_only n m stages trials one.0 c of_them.1 one.2) y h
