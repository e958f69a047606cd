-- The equations of a guard as the program has them.
use Rattle.std.specs.Prelude.{◌≡◌, ℕ, ◌+◌, Bool, true, false, List, map, length, Option, Some, None, slice_get}
use Rattle.std.specs.List.{flat_map}
use Rattle.cpn_definitions.specs.Inscription.{Operation, equality, PlainExpr}
use Rattle.cpn_definitions.specs.Bindable.{variables_of, conjuncts_of}
use Rattle.cpn_core.specs.Inscriptions.{expr_view}
use Rattle.cpn_typing.specs.Closure as closure
use Rattle.cpn_stages.specs.Stages as stages
use Rattle.cpn_core.specs.declared.inscriptions.Guard.{Guard}
use Rattle.cpn_bindable.specs.declared.equations.Equation.{Equation}

-- whether the operation is `=`
abbrev pub is_equality : Operation → Bool
is_equality equality = true
is_equality o = false

-- with the variables of its inscription
abbrev pub equation_view : Equation → closure.Equation
equation_view q = record { target = q.variable; sources = q.sources.items }

abbrev pub equations_view : List Equation → List closure.Equation
equations_view = map equation_view

-- with its inscription
abbrev pub equation_pair : Equation → stages.Equation
equation_pair q = (q.variable, expr_view q.inscription.now)

-- its sources are the variables of its inscription, as they stand in it
abbrev pub HasItsSources : Equation → Type 0
HasItsSources q = q.sources.items ≡ variables_of (expr_view q.inscription.now)

-- ---- the equations of a guard by their numbers

-- the equations of a guard, in their order
abbrev pub equations_in_guard : Guard → List stages.Equation
equations_in_guard guard = flat_map stages.equations_at (flat_map conjuncts_of (map expr_view guard.conjuncts.items))

-- the inscriptions of equations
abbrev pub inscriptions_of : List stages.Equation → List PlainExpr
inscriptions_of qs = map (λ (q : stages.Equation). q.1) qs

-- What is reached in a row, where so many are to be passed: the next one then; or none, where the row is too short, and so many are
-- still to be passed behind it.
abbrev pub IsReached : List PlainExpr → ℕ → ℕ → Option PlainExpr → Type 0
IsReached row passed left None = passed ≡ length row + left
IsReached row passed left (Some e) = slice_get row passed ≡ Some e
