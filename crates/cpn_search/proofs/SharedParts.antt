-- Patterns and inscriptions by their numbers.
use Rattle.std.proofs.Common.{◌≡◌, ℕ, zero, suc, ◌+◌, ◌<◌, ◌≤◌, List, [], ◌∷◌, ◌++◌, map, take, length, Some, get_or, slice_get, refl, sym, ap, ◌∙◌, arith, append_assoc}
use Rattle.std.proofs.lemmas.List.{map-append, length-map}
use Rattle.cpn_definitions.specs.Inscription.{PlainExpr}
use Rattle.cpn_definitions.specs.Net.{BindingTerm}
use Rattle.cpn_core.specs.Inscriptions.{pattern_view, term_view}
use Rattle.cpn_core.specs.declared.inscriptions.BindingTerm as program
use Rattle.cpn_core.specs.declared.nets.PlaceArc.{PlaceArc}
use Rattle.cpn_core.specs.Nets.{arc_view}
use Rattle.cpn_bindable.specs.Equations.{inscriptions_of}
use Rattle.cpn_stages.specs.Stages.{Stage, by_term, Equation}
use Rattle.cpn_search.specs.SharedViews.{pattern_at, term_pattern, inscription_at}
use Rattle.cpn_search.specs.StageViews.{stage_view, stages_view, carried_stages}
use Rattle.cpn_search.specs.declared.plan.Stage as stage
use Rattle.cpn_search.specs.declared.plan.Stage.TheVariants as stages
use Rattle.cpn_search.specs.declared.shared.SharedTerm.{SharedTerm}

-- the pattern of the term that stands at a number
pub pattern_is : (terms : List program.BindingTerm) (k : ℕ) (term : program.BindingTerm) → k < length terms → term ≡ get_or terms k term → pattern_at (map term_view terms) k ≡ pattern_view term.pattern
pattern_is [] k term lt is = absurd (omega arith)
pattern_is (x ∷ terms) zero term lt is = ap (λ (y : program.BindingTerm). pattern_view y.pattern) (sym is)
pattern_is (x ∷ terms) (suc k) term lt is = pattern_is terms k term (omega arith) is

-- the inscription that stands at a number
pub inscription_is : (qs : List Equation) (k : ℕ) (e : PlainExpr) → slice_get (inscriptions_of qs) k ≡ Some e → inscription_at qs k ≡ e
inscription_is [] k e is = cc
inscription_is (q ∷ qs) zero e is = same q.1 e is
  where
    same : (f e : PlainExpr) → Some f ≡ Some e → f ≡ e
    same f e is = cc
inscription_is (q ∷ qs) (suc k) e is = inscription_is qs k e is

-- of an equation of a row
pub inscription_among : (qs : List Equation) (k : ℕ) (q : Equation) → slice_get qs k ≡ Some q → inscription_at qs k ≡ q.1
inscription_among [] k q is = cc
inscription_among (r ∷ qs) zero q is = same r q is
  where
    same : (r q : Equation) → Some r ≡ Some q → r.1 ≡ q.1
    same r q is = cc
inscription_among (r ∷ qs) (suc k) q is = inscription_among qs k q is

-- the stages of one term more
pub terms_taken
    : (place : ℕ) (terms : List BindingTerm) (i : ℕ)
    → i < length terms
    → take (i + 1) (map (λ (term : BindingTerm). by_term place term.pattern) terms) ≡ take i (map (λ (term : BindingTerm). by_term place term.pattern) terms) ++ by_term place (pattern_at terms i) ∷ []
terms_taken place [] i lt = absurd (omega arith)
terms_taken place (term ∷ terms) zero lt = refl
terms_taken place (term ∷ terms) (suc i) lt =
    let more : suc i + 1 ≡ suc (i + 1) = omega arith in
    ap (λ (j : ℕ). take j (map (λ (term' : BindingTerm). by_term place term'.pattern) (term ∷ terms))) more ∙ ap (λ (ss : List Stage). by_term place term.pattern ∷ ss) (terms_taken place terms i (omega arith))

-- the stage of one term more of an arc
pub term_pushed
    : (arc : PlaceArc) (before : List Stage) (ss new : List stage.Stage) (i : ℕ) (term : SharedTerm)
    → i < length arc.inscription.value.terms.items
    → stages_view ss ≡ before ++ take i (carried_stages (arc_view arc))
    → term_pattern term ≡ pattern_at (map term_view arc.inscription.value.terms.items) i
    → new ≡ ss ++ stages.Term arc.place term ∷ []
    → stages_view new ≡ before ++ take (i + 1) (carried_stages (arc_view arc))
term_pushed arc before ss new i term lt so_far fits is =
    let terms = map term_view arc.inscription.value.terms.items in
    let long = length-map arc.inscription.value.terms.items term_view in
    ap stages_view is ∙ map-append stage_view ss (stages.Term arc.place term ∷ [])
    ∙ ap (λ (xs : List Stage). xs ++ by_term arc.place (term_pattern term) ∷ []) so_far
    ∙ append_assoc before (take i (carried_stages (arc_view arc))) (by_term arc.place (term_pattern term) ∷ [])
    ∙ ap (λ p. before ++ (take i (carried_stages (arc_view arc)) ++ by_term arc.place p ∷ [])) fits
    ∙ ap (λ (xs : List Stage). before ++ xs) (sym (terms_taken arc.place terms i (omega (arith, lt, long))))

pub taken_whole : {A : Type 0} (xs : List A) (k : ℕ) → length xs ≤ k → take k xs ≡ xs
taken_whole [] zero le = refl
taken_whole [] (suc k) le = refl
taken_whole (x ∷ xs) zero le = absurd (omega arith)
taken_whole (x ∷ xs) (suc k) le = ap (λ ys. x ∷ ys) (taken_whole xs k (omega arith))
