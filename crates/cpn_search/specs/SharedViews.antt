-- The patterns and inscriptions that what a plan shares with its net stands for.
use Rattle.std.specs.Prelude.{ℕ, zero, suc, List, [], ◌∷◌, map}
use Rattle.cpn_definitions.specs.Inscription.{PlainPattern, any_pattern, PlainExpr, the_time}
use Rattle.cpn_definitions.specs.Net.{BindingTerm}
use Rattle.cpn_core.specs.Inscriptions.{term_view}
use Rattle.cpn_stages.specs.Stages.{Equation}
use Rattle.cpn_bindable.specs.Equations.{equations_in_guard}
use Rattle.cpn_search.specs.declared.shared.SharedTerm.{SharedTerm}
use Rattle.cpn_search.specs.declared.shared.SharedEquation.{SharedEquation}

-- the pattern of the binding term of a number; past the last one any pattern
abbrev pub pattern_at : List BindingTerm → ℕ → PlainPattern
pattern_at [] k = any_pattern
pattern_at (term ∷ terms) zero = term.pattern
pattern_at (term ∷ terms) (suc k) = pattern_at terms k

abbrev pub term_pattern : SharedTerm → PlainPattern
term_pattern term = pattern_at (map term_view term.inscription.value.terms.items) term.number

-- the inscription of the equation of a number; past the last one the time
abbrev pub inscription_at : List Equation → ℕ → PlainExpr
inscription_at [] k = the_time
inscription_at (q ∷ qs) zero = q.1
inscription_at (q ∷ qs) (suc k) = inscription_at qs k

abbrev pub equation_inscription : SharedEquation → PlainExpr
equation_inscription equation = inscription_at (equations_in_guard equation.guard.value) equation.number
