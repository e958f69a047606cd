-- The first of several inscriptions, and the others.
use Rattle.std.proofs.Common.{◌≡◌, take, ◌-◌, ◌≤◌, List, [], ◌∷◌, length, get_or, drop, refl, arith}
use Rattle.std.proofs.lemmas.List.{take_all}
use Rattle.cpn_definitions.specs.Inscription.{more_exprs}
use Rattle.cpn_core.specs.declared.inscriptions.Expr.{Expr}
use Rattle.cpn_core.specs.Inscriptions.{expr_view, exprs_view}

pub first_part : (es : List Expr) (e : Expr) → 1 ≤ length es → e ≡ get_or es 0 e → exprs_view es ≡ more_exprs (expr_view e) (exprs_view (take (length es - 1) (drop 1 es)))
first_part [] e h is = absurd (omega arith)
first_part (d ∷ es) e h is = let all : take (length (d ∷ es) - 1) es ≡ es = take_all (length (d ∷ es) - 1) es (omega arith) in rw (is, all) refl
