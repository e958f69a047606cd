-- Which inscriptions make equations.
use Rattle.std.proofs.Common.{◌≡◌, List, [], ◌∷◌, length, refl}
use Rattle.cpn_definitions.specs.Inscription.{operation, equality, apply}
use Rattle.cpn_core.specs.declared.inscriptions.Expr.{Expr}
use Rattle.cpn_core.specs.Inscriptions.{exprs_view}
use Rattle.cpn_typing.specs.Closure.{equations_of_part}
use Rattle.cpn_stages.specs.Stages.{equations_at}

-- other than two parts make none
pub not_both : (es : List Expr) → (length es ≡ 2 → ⊥) → equations_of_part (apply (operation equality) (exprs_view es)) ≡ []
not_both [] h = refl
not_both (e ∷ []) h = refl
not_both (e ∷ f ∷ []) h = absurd (h refl)
not_both (e ∷ f ∷ g ∷ es) h = refl

pub not_at_both : (es : List Expr) → (length es ≡ 2 → ⊥) → equations_at (apply (operation equality) (exprs_view es)) ≡ []
not_at_both [] h = refl
not_at_both (e ∷ []) h = refl
not_at_both (e ∷ f ∷ []) h = absurd (h refl)
not_at_both (e ∷ f ∷ g ∷ es) h = refl
