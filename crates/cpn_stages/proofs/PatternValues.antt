-- An inscription that is read as a pattern has, under a binding, just the value that the pattern is there.
use Rattle.std.proofs.Common.{◌≡◌, ℕ, ◌==◌, Bool, true, false, cond, List, [], ◌∷◌, Option, Some, None, refl, sym, ap, ◌∙◌, subst, nat_le}
use Rattle.std.specs.Option.{option_map, option_and_then}
use Rattle.cpn_definitions.specs.Value.{PlainValue, tuple, bare, applied, list, more, to_list, from_list, nodes_of}
use Rattle.cpn_definitions.specs.Outcome.{Outcome, gives, faults, ◌>>=◌, given, too_large}
use Rattle.cpn_definitions.specs.Inscription.{operation, cons, tupling, listing, constructing, PlainPattern, literal_pattern, variable_pattern, tuple_pattern, list_pattern, cons_pattern, bare_pattern, applied_pattern, PlainPatterns, no_patterns, more_patterns, PlainExpr, literal, variable, apply, PlainExprs, no_exprs, more_exprs}
use Rattle.cpn_definitions.specs.Operations.{most_nodes, sized, consed, operated}
use Rattle.cpn_definitions.specs.Meaning.{PlainBinding, bound_value, Setting, constructed, done_with, with_first, meant, meant_each}
use Rattle.cpn_definitions.specs.Bindable.{constructor_pattern, list_of_two, pattern_of, patterns_of}
use Rattle.cpn_definitions.proofs.Outcomes.{same_given, bound_parts}
use Rattle.cpn_definitions.proofs.ListItems.{made_of}
use Rattle.cpn_definitions.proofs.ValueRows.{from_list_to_list}
use Rattle.cpn_stages.specs.Partial.{PlainPartial, value_in, as_partial}
use Rattle.cpn_stages.specs.Instances.{IsInstance, AreInstances}

-- ---- what is there of something that may be missing

pub then_parts : {A B : Type 0} (f : A → Option B) (o : Option A) (y : B) → option_and_then f o ≡ Some y → (x : A) × (o ≡ Some x) × (f x ≡ Some y)
then_parts f None y h = cc
then_parts f (Some x) y h = (x, refl, h)

-- ---- values

sized_is : (v w : PlainValue) → sized v ≡ gives w → v ≡ w
sized_is v w is = split (nat_le (nodes_of v) most_nodes) is
  where
    split : (b : Bool) → cond b (gives v) (faults too_large) ≡ gives w → v ≡ w
    split true h = same_given v w h
    split false h = cc

given_is : (o : Option PlainValue) (v : PlainValue) → given o ≡ gives v → o ≡ Some v
given_is None v h = cc
given_is (Some w) v h = ap Some (same_given w v h)

-- a binding gives a variable the same value as a partial binding
pub value_as_partial : (x : ℕ) (b : PlainBinding) → value_in x (as_partial b) ≡ bound_value x b
value_as_partial x [] = refl
value_as_partial x (pair ∷ b) = ap (cond (x == pair.0) (Some pair.1)) (value_as_partial x b)

-- ---- the values of forms

-- one value, and those behind it
first_and_rest : (o : Outcome PlainValue) (p : Outcome (List PlainValue)) (vs : List PlainValue) → (o >>= (λ v. p >>= with_first v)) ≡ gives vs
    → (v : PlainValue) × (rest : List PlainValue) × (o ≡ gives v) × (p ≡ gives rest) × (v ∷ rest ≡ vs)
first_and_rest o p vs is =
    let first = bound_parts o (λ v. p >>= with_first v) vs is in
    let second = bound_parts p (with_first first.0) vs first.2 in
    (first.0, second.0, first.1, second.1, same_given (first.0 ∷ second.0) vs second.2)

-- the first and the second of patterns are those of values
two_are : (b : PlainPartial) (p q : PlainPattern) (vs : List PlainValue) (v : PlainValue) → AreInstances b (more_patterns p (more_patterns q no_patterns)) (from_list vs) → operated cons vs ≡ gives v → IsInstance b (cons_pattern p q) v
two_are b p q [] v are is = absurd are
two_are b p q (x ∷ []) v are is = absurd are.1
two_are b p q (x ∷ y ∷ []) v are is = of_items y are.1.0 is
  where
    of_items : (y : PlainValue) → IsInstance b q y → consed x y ≡ gives v → IsInstance b (cons_pattern p q) v
    of_items (list vs) here is =
        let made : list (more x (from_list (to_list vs))) ≡ v = sized_is (list (from_list (x ∷ to_list vs))) v is in
        subst (IsInstance b (cons_pattern p q)) made (are.0, subst (λ ws. IsInstance b q (list ws)) (sym (from_list_to_list vs)) here)
    of_items y here is = cc
two_are b p q (x ∷ y ∷ z ∷ vs) v are is = absurd are.1.1

cons_is : (b : PlainPartial) (ps : PlainPatterns) (p : PlainPattern) (vs : List PlainValue) (v : PlainValue) → list_of_two ps ≡ Some p → AreInstances b ps (from_list vs) → operated cons vs ≡ gives v → IsInstance b p v
cons_is b no_patterns p vs v form are is = cc
cons_is b (more_patterns q no_patterns) p vs v form are is = cc
cons_is b (more_patterns q (more_patterns r no_patterns)) p vs v form are is = subst (λ k. IsInstance b k v) (of_form form) (two_are b q r vs v are is)
  where
    of_form : Some (cons_pattern q r) ≡ Some p → cons_pattern q r ≡ p
    of_form h = cc
cons_is b (more_patterns q (more_patterns r (more_patterns s ps))) p vs v form are is = cc

constructor_is : (b : PlainPartial) (k : ℕ) (ps : PlainPatterns) (p : PlainPattern) (vs : List PlainValue) (v : PlainValue) → constructor_pattern k ps ≡ Some p → AreInstances b ps (from_list vs) → constructed k vs ≡ gives v → IsInstance b p v
constructor_is b k no_patterns p [] v form are is = subst (λ q. IsInstance b q v) (of_form form) (subst (IsInstance b (bare_pattern k)) (same_given (bare k) v is) refl)
  where
    of_form : Some (bare_pattern k) ≡ Some p → bare_pattern k ≡ p
    of_form h = cc
constructor_is b k no_patterns p (w ∷ vs) v form are is = absurd are
constructor_is b k (more_patterns q no_patterns) p [] v form are is = absurd are
constructor_is b k (more_patterns q no_patterns) p (w ∷ []) v form are is = subst (λ r. IsInstance b r v) (of_form form) (subst (IsInstance b (applied_pattern k q)) (sized_is (applied k w) v is) (refl, are.0))
  where
    of_form : Some (applied_pattern k q) ≡ Some p → applied_pattern k q ≡ p
    of_form h = cc
constructor_is b k (more_patterns q no_patterns) p (w ∷ x ∷ vs) v form are is = absurd are.1
constructor_is b k (more_patterns q (more_patterns r ps)) p vs v form are is = cc

mutual
  -- the value is what the pattern is
  pub pattern_is : (e : PlainExpr) (p : PlainPattern) (s : Setting) (locals : List PlainValue) (v : PlainValue) → pattern_of e ≡ Some p → meant e s locals ≡ gives v → IsInstance (as_partial s.binding) p v
  pattern_is (literal w) p s locals v form is = subst (λ q. IsInstance (as_partial s.binding) q v) (of_form form) (same_given w v is)
    where
      of_form : Some (literal_pattern w) ≡ Some p → literal_pattern w ≡ p
      of_form h = cc
  pattern_is (variable x) p s locals v form is = subst (λ q. IsInstance (as_partial s.binding) q v) (of_form form) (value_as_partial x s.binding ∙ given_is (bound_value x s.binding) v is)
    where
      of_form : Some (variable_pattern x) ≡ Some p → variable_pattern x ≡ p
      of_form h = cc
  pattern_is (apply tupling es) p s locals v form is =
      let read = made_of tuple_pattern (patterns_of es) p form in
      let parts = bound_parts (meant_each es s locals) (done_with tupling s.calls) v is in
      let made : tuple (from_list parts.0) ≡ v = sized_is (tuple (from_list parts.0)) v parts.2 in
      subst (λ q. IsInstance (as_partial s.binding) q v) read.2 (subst (IsInstance (as_partial s.binding) (tuple_pattern read.0)) made (patterns_are es read.0 s locals parts.0 read.1 parts.1))
  pattern_is (apply listing es) p s locals v form is =
      let read = made_of list_pattern (patterns_of es) p form in
      let parts = bound_parts (meant_each es s locals) (done_with listing s.calls) v is in
      let made : list (from_list parts.0) ≡ v = sized_is (list (from_list parts.0)) v parts.2 in
      subst (λ q. IsInstance (as_partial s.binding) q v) read.2 (subst (IsInstance (as_partial s.binding) (list_pattern read.0)) made (patterns_are es read.0 s locals parts.0 read.1 parts.1))
  pattern_is (apply (constructing k) es) p s locals v form is =
      let read = then_parts (constructor_pattern k) (patterns_of es) p form in
      let parts = bound_parts (meant_each es s locals) (done_with (constructing k) s.calls) v is in
      constructor_is (as_partial s.binding) k read.0 p parts.0 v read.2 (patterns_are es read.0 s locals parts.0 read.1 parts.1) parts.2
  pattern_is (apply (operation cons) es) p s locals v form is =
      let read = then_parts list_of_two (patterns_of es) p form in
      let parts = bound_parts (meant_each es s locals) (done_with (operation cons) s.calls) v is in
      cons_is (as_partial s.binding) read.0 p parts.0 v read.2 (patterns_are es read.0 s locals parts.0 read.1 parts.1) parts.2
  pattern_is e p s locals v form is = cc

  pub patterns_are : (es : PlainExprs) (ps : PlainPatterns) (s : Setting) (locals : List PlainValue) (vs : List PlainValue) → patterns_of es ≡ Some ps → meant_each es s locals ≡ gives vs → AreInstances (as_partial s.binding) ps (from_list vs)
  patterns_are no_exprs ps s locals vs form is =
      subst (λ qs. AreInstances (as_partial s.binding) qs (from_list vs)) (of_form form) (subst (λ ws. AreInstances (as_partial s.binding) no_patterns (from_list ws)) (same_given [] vs is) tt)
    where
      of_form : Some no_patterns ≡ Some ps → no_patterns ≡ ps
      of_form h = cc
  patterns_are (more_exprs e es) ps s locals vs form is =
      let first = then_parts (λ p. option_map (more_patterns p) (patterns_of es)) (pattern_of e) ps form in
      let rest = made_of (more_patterns first.0) (patterns_of es) ps first.2 in
      let values = first_and_rest (meant e s locals) (meant_each es s locals) vs is in
      subst (λ qs. AreInstances (as_partial s.binding) qs (from_list vs)) rest.2
      (subst (λ ws. AreInstances (as_partial s.binding) (more_patterns first.0 rest.0) (from_list ws)) values.4
      (pattern_is e first.0 s locals values.0 first.1 values.2, patterns_are es rest.0 s locals values.1 rest.1 values.3))
