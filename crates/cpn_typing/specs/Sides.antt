-- Both sides of the equations that a guard's conjunct is made of. Source: own choice.
use Rattle.cpn_definitions.specs.Inscription.{equality, operation, PlainExpr, apply, conjunction, more_exprs, no_exprs}

-- where `andalso` splits an inscription into equations and others, both sides of each equation have the property
abbrev pub SidesHave : (PlainExpr → Type 0) → PlainExpr → Type 0
SidesHave P (conjunction e f) = SidesHave P e × SidesHave P f
SidesHave P (apply (operation equality) (more_exprs e (more_exprs f no_exprs))) = P e × P f
SidesHave P e = Unit {0}
