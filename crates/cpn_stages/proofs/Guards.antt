-- The equations of a guard: they are what the guard makes a variable equal to; and the first that gives a variable that is left a
-- value, or that none does.
use Rattle.std.proofs.Common.{◌≡◌, ◌⊎◌, ℕ, Bool, true, false, cond, ◌&&◌, List, [], ◌∷◌, Some, None, refl, sym, ap, ◌∙◌, subst, inl, inr}
use Rattle.std.proofs.lemmas.Bool.{and_parts}
use Rattle.cpn_definitions.specs.Inscription.{operation, equality, PlainExpr, variable, apply, no_exprs, more_exprs}
use Rattle.cpn_definitions.specs.Net.{PlainTransition}
use Rattle.cpn_definitions.specs.Bindable.{conjuncts_of, equation, IsEquated}
use Rattle.cpn_definitions.proofs.RisingLists.{IsIn, in_from_contains, contains_from_in, in_flat_map, in_append_left, in_append_right, in_append_cases, in_flat_from}
use Rattle.cpn_stages.specs.Stages.{is_among, is_bound, Equation, equation_between, equations_at, parts_of, equations_in, solves, first_solving}

-- ---- what the guard makes a variable equal to is one of its equations

-- the part of an equation is one of the guard's
pub part_in : (t : PlainTransition) (x : ℕ) (e : PlainExpr) (is : IsEquated t x e) → IsIn is.part (parts_of t)
part_in t x e is = in_flat_map conjuncts_of t.guard is.conjunct is.part (in_from_contains t.guard is.conjunct is.is_conjunct) (in_from_contains (conjuncts_of is.conjunct) is.part is.is_part)

pub equation_listed : (t : PlainTransition) (x : ℕ) (e : PlainExpr) → IsEquated t x e → IsIn (x, e) (equations_in t)
equation_listed t x e is = in_flat_map equations_at (parts_of t) is.part (x, e) (part_in t x e is) (split is.is_equation)
  where
    split : (is.part ≡ equation (variable x) e) ⊎ (is.part ≡ equation e (variable x)) → IsIn (x, e) (equations_at is.part)
    split (inl first) = subst (λ (k : PlainExpr). IsIn (x, e) (equations_at k)) (sym first) (in_append_left (equation_between (variable x) e) (equation_between e (variable x)) (x, e) (inl refl))
    split (inr second) = subst (λ (k : PlainExpr). IsIn (x, e) (equations_at k)) (sym second) (in_append_right (equation_between e (variable x)) (equation_between (variable x) e) (x, e) (inl refl))

-- ---- an equation of the guard is what it makes a variable equal to

lone_side : (f g : PlainExpr) (x : ℕ) (e : PlainExpr) → IsIn (x, e) (equation_between f g) → (f ≡ variable x) × (g ≡ e)
lone_side (variable y) g x e (inl same) = (ap (λ (q : Equation). variable q.0) same, ap (λ (q : Equation). q.1) same)
lone_side (variable y) g x e (inr h) = absurd h
lone_side f g x e h = absurd h

equation_same : (f g f' g' : PlainExpr) → f ≡ f' → g ≡ g' → equation f g ≡ equation f' g'
equation_same f g f' g' first second = ap (λ h. equation h g) first ∙ ap (λ h. equation f' h) second

of_part : (part : PlainExpr) (x : ℕ) (e : PlainExpr) → IsIn (x, e) (equations_at part) → (part ≡ equation (variable x) e) ⊎ (part ≡ equation e (variable x))
of_part (apply (operation equality) (more_exprs f (more_exprs g no_exprs))) x e h = split (in_append_cases (equation_between f g) (equation_between g f) (x, e) h)
  where
    split : IsIn (x, e) (equation_between f g) ⊎ IsIn (x, e) (equation_between g f) → (equation f g ≡ equation (variable x) e) ⊎ (equation f g ≡ equation e (variable x))
    split (inl one) = let is = lone_side f g x e one in inl (equation_same f g (variable x) e is.0 is.1)
    split (inr other) = let is = lone_side g f x e other in inr (equation_same f g e (variable x) is.1 is.0)
of_part part x e h = absurd h

pub equation_is : (t : PlainTransition) (x : ℕ) (e : PlainExpr) → IsIn (x, e) (equations_in t) → IsEquated t x e
equation_is t x e h =
    let part = in_flat_from equations_at (parts_of t) (x, e) h in
    let conjunct = in_flat_from conjuncts_of t.guard part.0 part.1 in
    record {
      conjunct = conjunct.0;
      is_conjunct = contains_from_in t.guard conjunct.0 conjunct.1;
      part = part.0;
      is_part = contains_from_in (conjuncts_of conjunct.0) part.0 conjunct.2;
      is_equation = of_part part.0 x e part.2;
    }

-- ---- the first that gives a variable that is left a value

none_solves : (t : PlainTransition) (left : List ℕ) (qs : List Equation) (q : Equation) → first_solving t left qs ≡ None → IsIn q qs → solves t left q ≡ false
none_solves t left [] q none h = absurd h
none_solves t left (p ∷ qs) q none h = split (solves t left p) refl none h (λ rest g. none_solves t left qs q rest g)
  where
    split : (b : Bool) → solves t left p ≡ b → cond b (Some p) (first_solving t left qs) ≡ None → (p ≡ q) ⊎ IsIn q qs → (first_solving t left qs ≡ None → IsIn q qs → solves t left q ≡ false) → solves t left q ≡ false
    split true is rest h later = cc
    split false is rest (inl e) later = subst (λ (k : Equation). solves t left k ≡ false) e is
    split false is rest (inr g) later = later rest g

second_false : (b c : Bool) → b ≡ true → (b && c) ≡ false → c ≡ false
second_false true c is h = h
second_false false c is h = cc

-- where none does, what a variable that is left is equal to is not bound
pub not_bound : (t : PlainTransition) (left : List ℕ) (x : ℕ) (e : PlainExpr) → IsEquated t x e → is_among left x ≡ true → first_solving t left (equations_in t) ≡ None → is_bound t left e ≡ false
not_bound t left x e is among none = second_false (is_among left x) (is_bound t left e) among (none_solves t left (equations_in t) (x, e) none (equation_listed t x e is))

-- An equation that is found: the guard makes the variable equal to the inscription, the variable is left, and the inscription
-- is bound.
pub record IsFound (t : PlainTransition) (left : List ℕ) (x : ℕ) (e : PlainExpr) : Type 0 where
  pub equated : IsEquated t x e
  pub is_left : is_among left x ≡ true
  pub bound : is_bound t left e ≡ true

first_is_one : (t : PlainTransition) (left : List ℕ) (qs : List Equation) (q : Equation) → first_solving t left qs ≡ Some q → IsIn q qs × (solves t left q ≡ true)
first_is_one t left [] q h = cc
first_is_one t left (p ∷ qs) q h = split (solves t left p) refl h (λ rest. first_is_one t left qs q rest)
  where
    some_same : Some p ≡ Some q → p ≡ q
    some_same e = cc

    split : (b : Bool) → solves t left p ≡ b → cond b (Some p) (first_solving t left qs) ≡ Some q → (first_solving t left qs ≡ Some q → IsIn q qs × (solves t left q ≡ true)) → IsIn q (p ∷ qs) × (solves t left q ≡ true)
    split true is here later = (inl (some_same here), subst (λ (k : Equation). solves t left k ≡ true) (some_same here) is)
    split false is rest later = let found = later rest in (inr found.0, found.1)

pub found_is : (t : PlainTransition) (left : List ℕ) (x : ℕ) (e : PlainExpr) → first_solving t left (equations_in t) ≡ Some (x, e) → IsFound t left x e
found_is t left x e h =
    let one = first_is_one t left (equations_in t) (x, e) h in
    let parts = and_parts (is_among left x) (is_bound t left e) one.1 in
    record { equated = equation_is t x e one.0; is_left = parts.0; bound = parts.1 }
