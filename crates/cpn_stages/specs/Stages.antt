-- The stages in which the values of a transition's variables are found, one after another: its binding terms, equations of its
-- guard, variables of small colour sets. Source: own choice.
use Rattle.std.specs.Prelude.{◌≡◌, ℕ, ◌==◌, Bool, not, ◌&&◌, if◌then◌else◌, List, [], ◌∷◌, ◌++◌, map, Option, Some, None}
use Rattle.std.specs.List.{filter, flat_map, list_all, list_any, AllByRecursion}
use Rattle.cpn_definitions.specs.Value.{PlainValue}
use Rattle.cpn_definitions.specs.Inscription.{operation, equality, PlainPattern, PlainExpr, variable, apply, no_exprs, more_exprs}
use Rattle.cpn_definitions.specs.Net.{PlainArc, PlainTransition, PlainNet, variable_at}
use Rattle.cpn_definitions.specs.Bindable.{binding_terms, pattern_variables, variables_of, conjuncts_of, IsSmall}

-- A stage: a binding term of an input arc from a place; a variable and the inscription that the guard makes it equal to; a
-- variable of a small colour set; or a binding term that is held to one value.
pub data Stage : Type 0 where
  by_term : ℕ → PlainPattern → Stage
  by_equation : ℕ → PlainExpr → Stage
  by_size : ℕ → Stage
  by_value : ℕ → PlainPattern → PlainValue → Stage

-- the variables to which a stage gives values
abbrev pub variables_at : Stage → List ℕ
variables_at (by_term place p) = pattern_variables p
variables_at (by_equation x e) = x ∷ []
variables_at (by_size x) = x ∷ []
variables_at (by_value place p v) = pattern_variables p

-- the variables to which stages give values
abbrev pub variables_at_each : List Stage → List ℕ
variables_at_each stages = flat_map variables_at stages

-- the first stages: the binding terms, in the order of the input arcs and their texts
abbrev pub terms_at : PlainArc → List Stage
terms_at arc = map (λ term. by_term arc.place term.pattern) (binding_terms arc.expr)

abbrev pub term_stages : PlainTransition → List Stage
term_stages t = flat_map terms_at t.inputs

-- whether the variable is one of them
abbrev pub is_among : List ℕ → ℕ → Bool
is_among xs x = list_any (λ y. x == y) xs

-- those of the variables that are none of the others, in their order
abbrev pub those_without : List ℕ → List ℕ → List ℕ
those_without others xs = filter (λ x. not (is_among others x)) xs

-- whether each variable of an inscription has a value: it is none of those that are left, and one of the transition's
abbrev pub is_bound : PlainTransition → List ℕ → PlainExpr → Bool
is_bound t left e = list_all (λ x. is_among t.vars x && not (is_among left x)) (variables_of e)

-- the parts of a guard: its conjuncts, split where `andalso` stands at their root
abbrev pub parts_of : PlainTransition → List PlainExpr
parts_of t = flat_map conjuncts_of t.guard

-- An equation: a variable, and the inscription that it is equal to.
abbrev pub Equation : Type 0
Equation = ℕ × PlainExpr

-- that of a lone variable on one side of an equality and what stands on the other
abbrev pub equation_between : PlainExpr → PlainExpr → List Equation
equation_between (variable x) e = (x, e) ∷ []
equation_between f e = []

-- those of an equality, one way round and then the other
abbrev pub equations_at : PlainExpr → List Equation
equations_at (apply (operation equality) (more_exprs e (more_exprs f no_exprs))) = equation_between e f ++ equation_between f e
equations_at part = []

-- the equations of a guard
abbrev pub equations_in : PlainTransition → List Equation
equations_in t = flat_map equations_at (parts_of t)

-- whether an equation gives one of the variables that are left a value
abbrev pub solves : PlainTransition → List ℕ → Equation → Bool
solves t left q = is_among left q.0 && is_bound t left q.1

-- the first of several that does
abbrev pub first_solving : PlainTransition → List ℕ → List Equation → Option Equation
first_solving t left [] = None
first_solving t left (q ∷ qs) = if solves t left q then Some q else first_solving t left qs

-- the first variable, in declaration order, whose colour set is small
pub record IsFirstSmall (n : PlainNet) (xs : List ℕ) (x : ℕ) : Type 0 where
  pub before : List ℕ
  pub behind : List ℕ
  pub stands : xs ≡ before ++ x ∷ behind
  pub not_before : AllByRecursion (λ y. IsSmall (variable_at n y).colour → ⊥) before
  pub small : IsSmall (variable_at n x).colour

-- The further stages, where these variables are left: the first equation of the guard that gives one of them a value, or,
-- where there is none, the first of them whose colour set is small; until none is left.
pub data Further (n : PlainNet) (t : PlainTransition) : List ℕ → List Stage → Type 0 where
  none_left : Further n t [] []
  next_equation : (left : List ℕ) (x : ℕ) (e : PlainExpr) (stages : List Stage) → first_solving t left (equations_in t) ≡ Some (x, e)
      → Further n t (those_without (x ∷ []) left) stages → Further n t left (by_equation x e ∷ stages)
  next_small : (left : List ℕ) (x : ℕ) (stages : List Stage) → first_solving t left (equations_in t) ≡ None → IsFirstSmall n left x
      → Further n t (those_without (x ∷ []) left) stages → Further n t left (by_size x ∷ stages)

-- The stages of a transition: its binding terms, and the further stages for the variables that are in none of them.
pub record AreStages (n : PlainNet) (t : PlainTransition) (stages : List Stage) : Type 0 where
  pub further : List Stage
  pub are : stages ≡ term_stages t ++ further
  pub follow : Further n t (those_without (variables_at_each (term_stages t)) t.vars) further
