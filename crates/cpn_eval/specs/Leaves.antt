-- What is given for operands among the locals of a machine.
use Rattle.std.specs.Prelude.{ℕ, List, [], ◌∷◌}
use Rattle.cpn_definitions.specs.Value.{PlainValue}
use Rattle.cpn_definitions.specs.Outcome.{Outcome, ◌>>=◌}
use Rattle.cpn_definitions.specs.Inscription.{Operation, PlainExpr}
use Rattle.cpn_eval.specs.declared.frames.World.{World}
use Rattle.cpn_eval.specs.declared.frames.Machine.{Machine}
use Rattle.cpn_eval.specs.Frames.{meant_at, locals_of, local_beside}

abbrev pub one_given : World → Machine → PlainExpr → (List PlainValue → Outcome PlainValue) → Outcome PlainValue
one_given world m e f = meant_at world m.visible (locals_of m) e >>= (λ v. f (v ∷ []))

abbrev pub two_given : World → Machine → PlainExpr → PlainExpr → (List PlainValue → Outcome PlainValue) → Outcome PlainValue
two_given world m e d f = meant_at world m.visible (locals_of m) e >>= (λ v. meant_at world m.visible (locals_of m) d >>= (λ w. f (v ∷ w ∷ [])))

-- the same of a second operand beside the value of the first
abbrev pub second_given : World → ℕ → List PlainValue → PlainValue → PlainExpr → (List PlainValue → Outcome PlainValue) → Outcome PlainValue
second_given world n locals v e f = meant_at world n locals e >>= (λ w. f (v ∷ w ∷ []))

-- the same of a second operand beside a local
abbrev pub local_given : World → Machine → Operation → ℕ → PlainExpr → Outcome PlainValue
local_given world m o k e = meant_at world m.visible (locals_of m) e >>= local_beside o k (locals_of m)
