-- The stages of a transition are orderly.
use Rattle.std.proofs.Common.{◌≡◌, ℕ, Bool, true, false, not, ◌&&◌, List, [], ◌∷◌, ◌++◌, map, Some, refl, sym, subst, inl, inr, ⊎_elim, append_assoc, append-nil}
use Rattle.std.specs.List.{flat_map}
use Rattle.std.proofs.lemmas.Bool.{and_parts, not-true}
use Rattle.std.proofs.lemmas.Grind.{flat_map-append}
use Rattle.cpn_definitions.specs.Inscription.{PlainExpr}
use Rattle.cpn_definitions.specs.Net.{BindingTerm, PlainArc, PlainTransition, PlainNet}
use Rattle.cpn_definitions.specs.Bindable.{binding_terms, variables_of}
use Rattle.cpn_definitions.proofs.RisingLists.{IsIn, in_from_contains, contains_from_in, in_append_left, in_append_right, passes_at}
use Rattle.cpn_definitions.proofs.TruthValues.{not_both}
use Rattle.cpn_stages.specs.Stages.{Stage, by_term, by_equation, by_size, by_value, variables_at, variables_at_each, terms_at, term_stages, is_among, those_without, equations_in, first_solving, Further, none_left, next_equation, next_small, AreStages}
use Rattle.cpn_stages.specs.Orderly.{IsTimely, AreOrderly}
use Rattle.cpn_stages.proofs.Numbers.{in_from_among, among_from_in, left_or_other}
use Rattle.cpn_stages.proofs.Guards.{found_is}

-- which stages are terms
abbrev AreTerms : List Stage → Type 0
AreTerms [] = Unit {0}
AreTerms (by_term place p ∷ stages) = AreTerms stages
AreTerms (by_equation x e ∷ stages) = ⊥
AreTerms (by_size x ∷ stages) = ⊥
AreTerms (by_value place p v ∷ stages) = AreTerms stages

terms_of_arc : (place : ℕ) (terms : List BindingTerm) → AreTerms (map (λ (term : BindingTerm). by_term place term.pattern) terms)
terms_of_arc place [] = tt
terms_of_arc place (term ∷ terms) = terms_of_arc place terms

terms_both : (xs ys : List Stage) → AreTerms xs → AreTerms ys → AreTerms (xs ++ ys)
terms_both [] ys first second = second
terms_both (by_term place p ∷ xs) ys first second = terms_both xs ys first second
terms_both (by_equation x e ∷ xs) ys first second = absurd first
terms_both (by_size x ∷ xs) ys first second = absurd first
terms_both (by_value place p v ∷ xs) ys first second = terms_both xs ys first second

all_terms : (arcs : List PlainArc) → AreTerms (flat_map terms_at arcs)
all_terms [] = tt
all_terms (arc ∷ arcs) = terms_both (terms_at arc) (flat_map terms_at arcs) (terms_of_arc arc.place (binding_terms arc.expr)) (all_terms arcs)

-- terms, and then stages that are orderly behind them
behind_terms : (t : PlainTransition) (before terms stages : List Stage) → AreTerms terms → AreOrderly t (before ++ terms) stages → AreOrderly t before (terms ++ stages)
behind_terms t before [] stages are is = subst (λ (bs : List Stage). AreOrderly t bs stages) (append-nil before) is
behind_terms t before (by_term place p ∷ terms) stages are is =
    (tt, behind_terms t (before ++ by_term place p ∷ []) terms stages are (subst (λ (bs : List Stage). AreOrderly t bs stages) (sym (append_assoc before (by_term place p ∷ []) terms)) is))
behind_terms t before (by_equation x e ∷ terms) stages are is = absurd are
behind_terms t before (by_size x ∷ terms) stages are is = absurd are
behind_terms t before (by_value place p v ∷ terms) stages are is =
    (tt, behind_terms t (before ++ by_value place p v ∷ []) terms stages are (subst (λ (bs : List Stage). AreOrderly t bs stages) (sym (append_assoc before (by_value place p v ∷ []) terms)) is))

-- the variables that are not left have a value
abbrev AreKnown : PlainTransition → List Stage → List ℕ → Type 0
AreKnown t before left = (y : ℕ) → IsIn y t.vars → is_among left y ≡ false → IsIn y (variables_at_each before)

variable_last : (before : List Stage) (stage : Stage) (y : ℕ) → IsIn y (variables_at_each before) → IsIn y (variables_at_each (before ++ stage ∷ []))
variable_last before stage y h = subst (IsIn y) (sym (flat_map-append variables_at before (stage ∷ []))) (in_append_left (variables_at_each before) (variables_at_each (stage ∷ [])) y h)

own_variable : (before : List Stage) (stage : Stage) (x : ℕ) → IsIn x (variables_at stage) → IsIn x (variables_at_each (before ++ stage ∷ []))
own_variable before stage x h = subst (IsIn x) (sym (flat_map-append variables_at before (stage ∷ []))) (in_append_right (variables_at_each before) (variables_at_each (stage ∷ [])) x (in_append_left (variables_at stage) [] x h))

known_next : (t : PlainTransition) (before : List Stage) (left : List ℕ) (stage : Stage) (x : ℕ) → IsIn x (variables_at stage) → AreKnown t before left → AreKnown t (before ++ stage ∷ []) (those_without (x ∷ []) left)
known_next t before left stage x own known y listed out = split (is_among left y) refl
  where
    of_one : IsIn y (x ∷ []) → IsIn y (variables_at_each (before ++ stage ∷ []))
    of_one (inl e) = subst (λ (z : ℕ). IsIn z (variables_at_each (before ++ stage ∷ []))) e (own_variable before stage x own)
    of_one (inr h) = absurd h

    clash : is_among (those_without (x ∷ []) left) y ≡ true → ⊥
    clash h = not_both (is_among (those_without (x ∷ []) left) y) h out

    split : (b : Bool) → is_among left y ≡ b → IsIn y (variables_at_each (before ++ stage ∷ []))
    split true is = ⊎_elim (λ there. absurd (clash (among_from_in (those_without (x ∷ []) left) y there))) of_one (left_or_other (x ∷ []) left y (in_from_among left y is))
    split false is = variable_last before stage y (known y listed is)

timely : (t : PlainTransition) (before : List Stage) (left : List ℕ) (x : ℕ) (e : PlainExpr) → AreKnown t before left → first_solving t left (equations_in t) ≡ Some (x, e) → IsTimely t before x e
timely t before left x e known found =
    let one = found_is t left x e found in
    record {
      equated = one.equated;
      known = λ y h.
          let both = and_parts (is_among t.vars y) (not (is_among left y)) (passes_at (λ z. is_among t.vars z && not (is_among left z)) (variables_of e) y one.bound (in_from_contains (variables_of e) y h)) in
          contains_from_in (variables_at_each before) y (known y (in_from_among t.vars y both.0) (not-true (is_among left y) both.1));
    }

further_orderly : (n : PlainNet) (t : PlainTransition) (before : List Stage) (left : List ℕ) (stages : List Stage) → AreKnown t before left → Further n t left stages → AreOrderly t before stages
further_orderly n t before [] [] known none_left = tt
further_orderly n t before (x ∷ left) [] known d = elim d [ ]
further_orderly n t before left (by_term place p ∷ stages) known d = elim d [ ]
further_orderly n t before left (by_value place p v ∷ stages) known d = elim d [ ]
further_orderly n t before left (by_equation x e ∷ stages) known (next_equation left' x' e' stages' found further) =
    (timely t before left x e known found, further_orderly n t (before ++ by_equation x e ∷ []) (those_without (x ∷ []) left) stages (known_next t before left (by_equation x e) x (inl refl) known) further)
further_orderly n t before left (by_size x ∷ stages) known (next_small left' x' stages' none small further) =
    (tt, further_orderly n t (before ++ by_size x ∷ []) (those_without (x ∷ []) left) stages (known_next t before left (by_size x) x (inl refl) known) further)

pub stages_are_orderly : (n : PlainNet) (t : PlainTransition) (stages : List Stage) → AreStages n t stages → AreOrderly t [] stages
stages_are_orderly n t stages are =
    subst (AreOrderly t []) (sym are.are)
    (behind_terms t [] (term_stages t) are.further (all_terms t.inputs)
    (further_orderly n t (term_stages t) (those_without (variables_at_each (term_stages t)) t.vars) are.further first_known are.follow))
  where
    first_known : AreKnown t (term_stages t) (those_without (variables_at_each (term_stages t)) t.vars)
    first_known y listed out = ⊎_elim (λ left. absurd (not_both (is_among (those_without (variables_at_each (term_stages t)) t.vars) y) (among_from_in (those_without (variables_at_each (term_stages t)) t.vars) y left) out)) (λ h. h) (left_or_other (variables_at_each (term_stages t)) t.vars y listed)
