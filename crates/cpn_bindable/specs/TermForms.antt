-- What a binding term asks of an operation and of a coefficient. Source: own choice.
use Rattle.std.specs.Prelude.{ℕ, pos, Bool, true, false}
use Rattle.cpn_definitions.specs.Value.{int}
use Rattle.cpn_definitions.specs.Inscription.{Operation, cons, PlainExpr, literal}

-- whether the operation is `::`
abbrev pub is_cons : Operation → Bool
is_cons cons = true
is_cons o = false

-- the number that is written as a literal, from 0; else 0
abbrev pub literal_count : PlainExpr → ℕ
literal_count (literal (int (pos k))) = k
literal_count e = 0
