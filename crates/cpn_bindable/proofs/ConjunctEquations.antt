-- The equations of the conjuncts of an inscription, and of several.
use Rattle.std.proofs.Common.{◌≡◌, List, ◌∷◌, ◌++◌, map, Box, Global}
use Rattle.std.specs.List.{flat_map}
use Rattle.std.proofs.lemmas.Grind.{flat_map-append}
use Rattle.cpn_definitions.specs.Inscription.{PlainExpr}
use Rattle.cpn_definitions.specs.Bindable.{conjuncts_of}
use Rattle.cpn_core.specs.declared.inscriptions.Expr.{Expr}
use Rattle.cpn_core.specs.declared.inscriptions.Expr.TheViews as exprs
use Rattle.cpn_core.specs.Inscriptions.{expr_view}
use Rattle.cpn_core.proofs.InscriptionLevels.{view_and}

pub of_both : {A : Type 0} (each : PlainExpr → List A) (e f g : Expr) (first second : Box Expr Global) → e ≡ exprs.And first second → f ≡ first.value → g ≡ second.value
    → flat_map each (conjuncts_of (expr_view e)) ≡ flat_map each (conjuncts_of (expr_view f)) ++ flat_map each (conjuncts_of (expr_view g))
of_both each e f g first second is one two = rw (is, view_and first second, one, two) (flat_map-append each (conjuncts_of (expr_view first.value)) (conjuncts_of (expr_view second.value)))

pub of_front : {A : Type 0} (each : PlainExpr → List A) (e : Expr) (rest : List Expr)
    → flat_map each (flat_map conjuncts_of (map expr_view (e ∷ rest))) ≡ flat_map each (conjuncts_of (expr_view e)) ++ flat_map each (flat_map conjuncts_of (map expr_view rest))
of_front each e rest = flat_map-append each (conjuncts_of (expr_view e)) (flat_map conjuncts_of (map expr_view rest))
