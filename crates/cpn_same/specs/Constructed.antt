-- Constructors, without or with their argument.
use Rattle.std.specs.Prelude.{ℕ, Option, Some, None, Box}
use Rattle.std.specs.declared.alloc.Global.{Global}
use Rattle.cpn_definitions.specs.Inscription.{PlainPattern, PlainExpr, bare_pattern, applied_pattern, apply, constructing, no_exprs, more_exprs}
use Rattle.cpn_core.specs.declared.inscriptions.Pat.{Pat}
use Rattle.cpn_core.specs.declared.inscriptions.Expr.{Expr}
use Rattle.cpn_core.specs.Inscriptions.{pattern_view, expr_view}

abbrev pub constructed_pattern : ℕ → Option (Box Pat Global) → PlainPattern
constructed_pattern k None = bare_pattern k
constructed_pattern k (Some p) = applied_pattern k (pattern_view p.value)

abbrev pub constructed_expr : ℕ → Option (Box Expr Global) → PlainExpr
constructed_expr k None = apply (constructing k) no_exprs
constructed_expr k (Some e) = apply (constructing k) (more_exprs (expr_view e.value) no_exprs)
