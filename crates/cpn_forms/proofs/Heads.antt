-- A list with an item put in front.
use Rattle.std.proofs.Common.{◌≡◌, List, [], ◌∷◌, ◌++◌, take, drop, map, refl, ap}
use Rattle.std.specs.List.{insert}
use Rattle.cpn_definitions.specs.Inscription.{more_exprs}
use Rattle.cpn_core.specs.Inscriptions.{expr_view, exprs_view}
use Rattle.cpn_core.specs.declared.inscriptions.Expr.{Expr}

pub exprs_headed : (es : List Expr) (e : Expr) → exprs_view (insert es 0 e) ≡ more_exprs (expr_view e) (exprs_view es)
exprs_headed [] e = refl
exprs_headed (x ∷ es) e = refl
