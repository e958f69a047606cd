-- The rules of a transition's guard and delay, and of what a monitor measures. In none of them `@+`, `@` or a multiset may
-- stand; `time` stands in delays alone. Source: own choice, after CPN ML.
use Rattle.std.specs.Prelude.{List, [], ◌∷◌, Some}
use Rattle.cpn_definitions.specs.Inscription.{PlainExpr}
use Rattle.cpn_trees.specs.Trees.{PlainAst, PlainAsts, no_ast, more_asts}
use Rattle.cpn_typing.specs.Types.{bool_type, int_type}
use Rattle.cpn_typing.specs.Names.{Declared, Checked, ok, ◌>>=◌}
use Rattle.cpn_typing.specs.Contexts.{in_guard, in_delay, in_monitor}
use Rattle.cpn_typing.specs.Expressions.{typed}

-- A guard: each of its conjuncts is a truth value.
abbrev pub checked_guard : Declared → PlainAsts → Checked (List PlainExpr)
checked_guard ds no_ast = ok []
checked_guard ds (more_asts a rest) =
    typed ds in_guard a [] (Some bool_type) >>= λ first. checked_guard ds rest >>= λ others. ok (first.expr ∷ others)

-- A delay, behind its `@+` where that is written: an integer.
abbrev pub checked_delay : Declared → PlainAst → Checked PlainExpr
checked_delay ds a = typed ds in_delay a [] (Some int_type) >>= λ delay. ok delay.expr

-- What a monitor measures: an integer over the variables of a transition.
abbrev pub checked_value : Declared → PlainAst → Checked PlainExpr
checked_value ds a = typed ds in_monitor a [] (Some int_type) >>= λ value. ok value.expr
