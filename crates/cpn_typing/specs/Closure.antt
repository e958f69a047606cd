-- Which variables are bindable, found step by step: what stands for the least set, in a finite number of steps. The variables
-- that are known at first are those of the binding terms and those of small colour sets; then, as long as a guard's equation
-- between a variable and an inscription has all of the inscription's variables known, its variable is known too.
-- Source: own choice.
use Rattle.std.specs.Prelude.{ℕ, zero, suc, ◌==◌, Bool, ◌||◌, if◌then◌else◌, nat_le, List, [], ◌∷◌, ◌++◌, length, Option, Some, None}
use Rattle.std.specs.List.{list_all, list_any, flat_map}
use Rattle.cpn_definitions.specs.Inscription.{operation, equality, PlainExpr, variable, apply, no_exprs, more_exprs}
use Rattle.cpn_definitions.specs.Net.{BindingTerm, PlainTransition, PlainNet, variable_at}
use Rattle.cpn_definitions.specs.Bindable.{binding_terms, pattern_variables, variables_of, conjuncts_of}
use Rattle.cpn_typing.specs.Names.{too_many, variables, not_bindable, Checked, ok, refused}
use Rattle.cpn_typing.specs.BindableRule.{most_variables}

-- ---- what is known at first

-- whether a variable stands in a binding term of an input arc
abbrev pub stands_in_term : ℕ → BindingTerm → Bool
stands_in_term x term = list_any (λ y. y == x) (pattern_variables term.pattern)

abbrev pub stands_in_terms : PlainTransition → ℕ → Bool
stands_in_terms t x = list_any (λ arc. list_any (stands_in_term x) (binding_terms arc.expr)) t.inputs

-- ---- equations

-- An equation of a guard: a variable, and the variables of the inscription that it is equal to.
pub record Equation : Type 0 where
  pub target : ℕ
  pub sources : List ℕ

abbrev pub equation_with : PlainExpr → PlainExpr → List Equation
equation_with (variable x) e = record { target = x; sources = variables_of e } ∷ []
equation_with f e = []

-- both ways round
abbrev pub equations_of_part : PlainExpr → List Equation
equations_of_part (apply (operation equality) (more_exprs e (more_exprs f no_exprs))) = equation_with e f ++ equation_with f e
equations_of_part e = []

abbrev pub equations_of : List PlainExpr → List Equation
equations_of guard = flat_map (λ conjunct. flat_map equations_of_part (conjuncts_of conjunct)) guard

-- what is known: what is so at first, and what was found
abbrev pub is_known : (ℕ → Bool) → List ℕ → ℕ → Bool
is_known first found x = first x || list_any (λ y. x == y) found

-- the first equation whose sources are all known, and the others
abbrev pub with_other : Equation → Option (Equation × List Equation) → Option (Equation × List Equation)
with_other q None = None
with_other q (Some pair) = Some (pair.0, q ∷ pair.1)

abbrev pub ready_among : (ℕ → Bool) → List Equation → Option (Equation × List Equation)
ready_among known [] = None
ready_among known (q ∷ qs) = if list_all known q.sources then Some (q, qs) else with_other q (ready_among known qs)

-- what is found with the equation that is ready, or what was found where none is
abbrev pub stepped : Option (Equation × List Equation) → List ℕ → (List ℕ → List Equation → List ℕ) → List ℕ
stepped None found go_on = found
stepped (Some pair) found go_on = go_on (pair.0.target ∷ found) pair.1

-- what is found in so many steps
abbrev pub found_in : ℕ → (ℕ → Bool) → List ℕ → List Equation → List ℕ
found_in zero first found qs = found
found_in (suc k) first found qs = stepped (ready_among (is_known first found) qs) found (λ now others. found_in k first now others)

-- Found: a step for each equation is enough.
abbrev pub is_found : (ℕ → Bool) → List PlainExpr → ℕ → Bool
is_found first guard x = is_known first (found_in (length (equations_of guard)) first [] (equations_of guard)) x

-- the first of several variables that is not found
abbrev pub first_unfound : (ℕ → Bool) → List PlainExpr → List ℕ → Option ℕ
first_unfound first guard [] = None
first_unfound first guard (x ∷ xs) = if is_found first guard x then first_unfound first guard xs else Some x

-- the answer for one of them, or for none
abbrev pub answer_for : PlainNet → Option ℕ → Checked (Unit {0})
answer_for n None = ok tt
answer_for n (Some x) = refused (not_bindable (variable_at n x).name)

-- The answer for the variables of a transition: too many of them, else the first that is not found.
abbrev pub answered : (ℕ → Bool) → PlainNet → PlainTransition → Checked (Unit {0})
answered first n t = if nat_le (length t.vars) most_variables then answer_for n (first_unfound first t.guard t.vars) else refused (too_many variables)
