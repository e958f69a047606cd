-- Inscriptions over variables. Source: own choice.
use Rattle.std.specs.Prelude.{ℕ, Bool, not, ◌==◌, List, Option, Some, None}
use Rattle.std.specs.List.{find, list_any}
use Rattle.cpn_definitions.specs.Bindable.{variables_of}
use Rattle.cpn_definitions.specs.Inscription.{PlainExpr}
use Rattle.cpn_trees.specs.Trees.{PlainAst}
use Rattle.cpn_typing.specs.Consistency.{variable_numbered}
use Rattle.cpn_typing.specs.GuardsAndDelays.{checked_value}
use Rattle.cpn_typing.specs.Names.{Declared, unknown, Checked, ok, refused, ◌>>=◌}

-- whether a variable is one of these
abbrev pub is_among : List ℕ → ℕ → Bool
is_among vars x = list_any (λ y. y == x) vars

-- the first of variables that is none of these
abbrev pub first_outside : List ℕ → List ℕ → Option ℕ
first_outside vars xs = find (λ x. not (is_among vars x)) xs

-- an inscription, unless there is a variable by whose name it is refused
abbrev pub unless_outside : Declared → PlainExpr → Option ℕ → Checked PlainExpr
unless_outside ds e None = ok e
unless_outside ds e (Some x) = refused (unknown (variable_numbered ds x).name)

-- An inscription over variables: one that has others is refused by the first of these, as they stand in it.
abbrev pub over : Declared → List ℕ → PlainExpr → Checked PlainExpr
over ds vars e = unless_outside ds e (first_outside vars (variables_of e))

-- What a monitor measures over the variables of a transition: the rules of its text come first, and then the variables.
abbrev pub value_over : Declared → List ℕ → PlainAst → Checked PlainExpr
value_over ds vars tree = checked_value ds tree >>= over ds vars
