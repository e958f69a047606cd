-- Which inscriptions are read as patterns, and which are binding terms.
use Rattle.std.proofs.Common.{◌≡◌, ℕ, zero, suc, ◌==◌, pos, negsuc, false, cond, List, [], ◌∷◌, length, get_or, Option, Some, None, Box, Global, refl, sym, ap, ◌∙◌, arith}
use Rattle.std.specs.List.{remove}
use Rattle.std.specs.Option.{option_map, option_and_then}
use Rattle.std.proofs.lemmas.Bool.Decides.{nat_tests}
use Rattle.cpn_definitions.specs.Value.{int}
use Rattle.cpn_definitions.specs.Inscription.{Operation, operation, cons, PlainPattern, cons_pattern, applied_pattern, no_patterns, more_patterns, PlainExpr, PlainExprs, literal, apply, times}
use Rattle.cpn_definitions.specs.Bindable.{constructor_pattern, list_of_two, pattern_of, patterns_of, term_with, binding_term}
use Rattle.cpn_core.specs.declared.inscriptions.Pat.{Pat}
use Rattle.cpn_core.specs.declared.inscriptions.Expr.{Expr}
use Rattle.cpn_core.specs.declared.inscriptions.Expr.TheViews as exprs
use Rattle.cpn_core.specs.Inscriptions.{pattern_view, patterns_view, expr_view}
use Rattle.cpn_core.proofs.InscriptionLevels.{view_applied}
use Rattle.cpn_bindable.specs.TermForms.{is_cons, literal_count}

pub pattern_of_operation : (o : Operation) (es : PlainExprs) → pattern_of (apply (operation o) es) ≡ cond (is_cons o) (option_and_then list_of_two (patterns_of es)) None
pattern_of_operation cons es = refl
pattern_of_operation o es = refl

pub counted_term : (k e : PlainExpr) → binding_term (times k e) ≡ cond (literal_count k == 0) [] (term_with (literal_count k) (pattern_of e))
counted_term (literal (int (pos zero))) e = refl
counted_term (literal (int (pos (suc k)))) e = let more : (suc k == 0) ≡ false = grind (arith, nat_tests) in rw more refl
counted_term (literal (int (negsuc k))) e = refl
counted_term (literal v) e = refl
counted_term k e = refl

-- ---- of a constructor with its argument

pub read_applied : (e f : Expr) (k : ℕ) (b : Box Expr Global) → e ≡ exprs.Con k (Some b) → f ≡ b.value → pattern_of (expr_view e) ≡ option_map (applied_pattern k) (pattern_of (expr_view f))
read_applied e f k b is same =
    ap (λ x. pattern_of (expr_view x)) is ∙ ap pattern_of (view_applied k b) ∙ split (pattern_of (expr_view b.value)) ∙ ap (λ x. option_map (applied_pattern k) (pattern_of (expr_view x))) (sym same)
  where
    split : (o : Option PlainPattern) → option_and_then (constructor_pattern k) (option_and_then (λ p. option_map (more_patterns p) (Some no_patterns)) o) ≡ option_map (applied_pattern k) o
    split None = refl
    split (Some p) = refl

-- ---- of two patterns

pub not_two : (ps : List Pat) → (length ps ≡ 2 → ⊥) → list_of_two (patterns_view ps) ≡ None
not_two [] h = refl
not_two (p ∷ []) h = refl
not_two (p ∷ q ∷ []) h = absurd (h refl)
not_two (p ∷ q ∷ r ∷ ps) h = refl

pub just_two : (ps : List Pat) (head tail : Pat) (rest : List Pat) → length ps ≡ 2 → tail ≡ get_or ps 1 tail → rest ≡ remove ps 1 → head ≡ get_or rest 0 head → list_of_two (patterns_view ps) ≡ Some (cons_pattern (pattern_view head) (pattern_view tail))
just_two [] head tail rest two at left first = absurd (omega arith)
just_two (p ∷ []) head tail rest two at left first = absurd (omega arith)
just_two (p ∷ q ∷ []) head tail rest two at left first = let one : head ≡ p = first ∙ ap (λ xs. get_or xs 0 head) left in rw (one, at) refl
just_two (p ∷ q ∷ r ∷ ps) head tail rest two at left first = absurd (omega arith)
