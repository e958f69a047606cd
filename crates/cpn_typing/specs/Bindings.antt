-- Several values of a `let` around its body, the first one outermost.
use Rattle.std.specs.Prelude.{List, [], ◌∷◌}
use Rattle.cpn_definitions.specs.Inscription.{PlainExpr, bind}

abbrev pub bind_all : List PlainExpr → PlainExpr → PlainExpr
bind_all [] body = body
bind_all (value ∷ values) body = bind value (bind_all values body)
