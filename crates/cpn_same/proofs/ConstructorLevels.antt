-- A constructor with its argument or without, one level down.
use Rattle.std.proofs.Common.{◌≡◌, ℕ, Option, Some, None, Box, Global, rules}
use Rattle.cpn_core.specs.declared.inscriptions.Pat.{Pat}
use Rattle.cpn_core.specs.declared.inscriptions.Pat as pattern
use Rattle.cpn_core.specs.declared.inscriptions.Pat.TheViews as pats
use Rattle.cpn_core.specs.declared.inscriptions.Expr.{Expr}
use Rattle.cpn_core.specs.declared.inscriptions.Expr.TheViews as exprs
use Rattle.cpn_core.specs.Inscriptions.{pattern_view, expr_view}
use Rattle.cpn_same.specs.Constructed.{constructed_pattern, constructed_expr}
use Rattle.cpn_core.proofs.InscriptionLevels.{view_con_pattern, view_bare, view_applied}

pub view_pattern : (k : ℕ) (argument : Option (Box Pat Global)) → pattern_view (pats.Con k argument) ≡ constructed_pattern k argument
view_pattern k None = search (rules, pattern.the_lemmas)
view_pattern k (Some p) = view_con_pattern k p

pub view_expr : (k : ℕ) (argument : Option (Box Expr Global)) → expr_view (exprs.Con k argument) ≡ constructed_expr k argument
view_expr k None = view_bare k
view_expr k (Some e) = view_applied k e
