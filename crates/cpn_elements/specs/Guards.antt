-- When a guard can be asked.
use Rattle.std.specs.Prelude.{List}
use Rattle.std.specs.List.{AllByRecursion}
use Rattle.cpn_definitions.specs.Inscription.{PlainExpr, Functions}
use Rattle.cpn_definitions.specs.Outcome.{HasMeaning}
use Rattle.cpn_definitions.specs.Meaning.{PlainBinding, meaning}

-- each conjunct of the guard has a meaning under the binding
abbrev pub GuardHasMeaning : Functions → List PlainExpr → PlainBinding → Type 0
GuardHasMeaning funs guard b = AllByRecursion (λ e. HasMeaning (meaning funs e b 0)) guard
