-- One more value of a `let` around what is there.
use Rattle.std.proofs.Common.{◌≡◌, List, [], ◌∷◌, ◌++◌, refl, ap}
use Rattle.cpn_definitions.specs.Inscription.{PlainExpr, bind}
use Rattle.cpn_typing.specs.Bindings.{bind_all}

pub bind_more : (es : List PlainExpr) (e body : PlainExpr) → bind_all (es ++ e ∷ []) body ≡ bind_all es (bind e body)
bind_more [] e body = refl
bind_more (x ∷ es) e body = ap (bind x) (bind_more es e body)
