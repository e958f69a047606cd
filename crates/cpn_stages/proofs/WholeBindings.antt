-- Partial bindings in which each variable has a value: as bindings.
use Rattle.std.proofs.Common.{◌≡◌, ℕ, ◌==◌, Bool, true, false, cond, List, [], ◌∷◌, map, Option, Some, None, refl, sym, ap, ap₂, ◌∙◌, subst, inl, inr, arith, Less, nat_cmp, eqb-true}
use Rattle.std.specs.List.{AllByRecursion}
use Rattle.std.proofs.lemmas.Bool.{and_parts}
use Rattle.std.proofs.lemmas.Bool.Decides.{nat_tests}
use Rattle.cpn_definitions.specs.Value.{PlainValue}
use Rattle.cpn_definitions.specs.Lists.{Rises}
use Rattle.cpn_definitions.specs.Net.{PlainNet, variable_at}
use Rattle.cpn_definitions.specs.Meaning.{bound_value}
use Rattle.cpn_definitions.specs.Occurrence.{binds}
use Rattle.cpn_definitions.proofs.RisingLists.{IsIn, of_one_in}
use Rattle.cpn_definitions.proofs.NumberTests.{equals_itself}
use Rattle.cpn_stages.specs.Partial.{PlainPartial, variables_in, value_in, IsKept, Extends, with_value, bound_in, as_partial}
use Rattle.cpn_stages.specs.Reached.{HasValue}
use Rattle.cpn_stages.specs.Trials.{admits_if, are_admitted}

-- a variable that has a value in a partial binding is bound to it in the binding
pub bound_has : (x : ℕ) (b : PlainPartial) (v : PlainValue) → value_in x b ≡ Some v → bound_value x (bound_in b) ≡ Some v
bound_has x [] v is = cc
bound_has x (p ∷ b) v is = split (x == p.0) refl is (λ g. bound_has x b v g)
  where
    own : (o : Option PlainValue) → p.1 ≡ o → (x == p.0) ≡ true → o ≡ Some v → bound_value x (with_value p.0 o (bound_in b)) ≡ Some v
    own None was same h = cc
    own (Some w) was same h = rw same h

    later : (o : Option PlainValue) → (x == p.0) ≡ false → bound_value x (bound_in b) ≡ Some v → bound_value x (with_value p.0 o (bound_in b)) ≡ Some v
    later None other h = h
    later (Some w) other h = rw other h

    split : (test : Bool) → (x == p.0) ≡ test → cond test p.1 (value_in x b) ≡ Some v → (value_in x b ≡ Some v → bound_value x (bound_in b) ≡ Some v) → bound_value x (with_value p.0 p.1 (bound_in b)) ≡ Some v
    split true same h rest = own p.1 refl same h
    split false other h rest = later p.1 other (rest h)

-- each of the pairs has a value
abbrev pub IsWhole : PlainPartial → Type 0
IsWhole b = AllByRecursion (λ (pair : ℕ × Option PlainValue). (v : PlainValue) × (pair.1 ≡ Some v)) b

pub higher_differs : (x y : ℕ) → nat_cmp x y ≡ Less → (y == x) ≡ false
higher_differs x y h = grind (arith, nat_tests)

-- where each of the variables, which are listed once, has a value, each of the pairs has
pub whole_from : (b : PlainPartial) → Rises nat_cmp (variables_in b) → ((x : ℕ) → IsIn x (variables_in b) → HasValue x b) → IsWhole b
whole_from [] rise has = tt
whole_from (p ∷ b) rise has = (first (has p.0 (inl refl)), whole_from b rise.1 (λ x h. rest x h (has x (inr h))))
  where
    first : HasValue p.0 (p ∷ b) → (v : PlainValue) × (p.1 ≡ Some v)
    first h = (h.0, subst (λ (test : Bool). cond test p.1 (value_in p.0 b) ≡ Some h.0) (equals_itself p.0) h.1)

    rest : (x : ℕ) → IsIn x (variables_in b) → HasValue x (p ∷ b) → HasValue x b
    rest x h has = (has.0, subst (λ (test : Bool). cond test p.1 (value_in x b) ≡ Some has.0) (higher_differs p.0 x (of_one_in (λ y. nat_cmp p.0 y ≡ Less) (variables_in b) x rise.0 h)) has.1)

-- nothing but itself extends a whole one
pub whole_extended : (b c : PlainPartial) → IsWhole b → Extends b c → b ≡ c
whole_extended [] [] whole is = refl
whole_extended [] (q ∷ c) whole is = absurd is
whole_extended (p ∷ b) [] whole is = absurd is
whole_extended (p ∷ b) (q ∷ c) whole is =
    ap₂ (λ (pair : ℕ × Option PlainValue) (rest : PlainPartial). pair ∷ rest)
    (ap₂ (λ (x : ℕ) (o : Option PlainValue). (x, o)) (sym is.0) (same p.1 whole.0.0 whole.0.1 is.1)) (whole_extended b c whole.1 is.2)
  where
    same : (o : Option PlainValue) (v : PlainValue) → o ≡ Some v → IsKept o q.1 → o ≡ q.1
    same None v h is = cc
    same (Some w) v h is = sym is

-- as a binding and back it is the same
pub whole_again : (b : PlainPartial) → IsWhole b → as_partial (bound_in b) ≡ b
whole_again [] whole = refl
whole_again (p ∷ b) whole =
    ap (λ o. as_partial (with_value p.0 o (bound_in b))) whole.0.1
    ∙ ap₂ (λ (pair : ℕ × Option PlainValue) (rest : PlainPartial). pair ∷ rest) (ap (λ (o : Option PlainValue). (p.0, o)) (sym whole.0.1)) (whole_again b whole.1)

-- with admitted values it binds its variables
pub whole_binds : (n : PlainNet) (b : PlainPartial) → IsWhole b → are_admitted n b ≡ true → binds n (variables_in b) (bound_in b) ≡ true
whole_binds n [] whole admitted = refl
whole_binds n (p ∷ b) whole admitted =
    let parts = and_parts (admits_if (variable_at n p.0).colour p.1) (are_admitted n b) admitted in
    let value = subst (λ o. admits_if (variable_at n p.0).colour o ≡ true) whole.0.1 parts.0 in
    subst (λ o. binds n (p.0 ∷ variables_in b) (with_value p.0 o (bound_in b)) ≡ true) (sym whole.0.1)
    (rw (equals_itself p.0, value, whole_binds n b whole.1 parts.1) refl)

-- the variables that have a value, in order
abbrev pub known_variables : PlainPartial → List ℕ
known_variables b = map (λ pair. pair.0) (bound_in b)

-- they are bound, with admitted values
pub known_bound : (n : PlainNet) (b : PlainPartial) → are_admitted n b ≡ true → binds n (known_variables b) (bound_in b) ≡ true
known_bound n [] admitted = refl
known_bound n (p ∷ b) admitted = split p.1 (and_parts (admits_if (variable_at n p.0).colour p.1) (are_admitted n b) admitted).0 (known_bound n b (and_parts (admits_if (variable_at n p.0).colour p.1) (are_admitted n b) admitted).1)
  where
    split : (o : Option PlainValue) → admits_if (variable_at n p.0).colour o ≡ true → binds n (known_variables b) (bound_in b) ≡ true → binds n (map (λ (pair : ℕ × PlainValue). pair.0) (with_value p.0 o (bound_in b))) (with_value p.0 o (bound_in b)) ≡ true
    split None own rest = rest
    split (Some v) own rest = rw (equals_itself p.0, own, rest) refl

-- each that has a value is among them
pub known_is : (b : PlainPartial) (x : ℕ) → HasValue x b → IsIn x (known_variables b)
known_is [] x has = cc
known_is (p ∷ b) x has = split (x == p.0) refl has.1 (λ g. known_is b x (has.0, g))
  where
    own : (o : Option PlainValue) → o ≡ Some has.0 → x ≡ p.0 → IsIn x (map (λ (pair : ℕ × PlainValue). pair.0) (with_value p.0 o (bound_in b)))
    own None h same = cc
    own (Some v) h same = inl (sym same)

    later : (o : Option PlainValue) → IsIn x (known_variables b) → IsIn x (map (λ (pair : ℕ × PlainValue). pair.0) (with_value p.0 o (bound_in b)))
    later None h = h
    later (Some v) h = inr h

    split : (test : Bool) → (x == p.0) ≡ test → cond test p.1 (value_in x b) ≡ Some has.0 → (value_in x b ≡ Some has.0 → IsIn x (known_variables b)) → IsIn x (map (λ (pair : ℕ × PlainValue). pair.0) (with_value p.0 p.1 (bound_in b)))
    split true same h rest = own p.1 h (eqb-true x p.0 same)
    split false other h rest = later p.1 (rest h)
