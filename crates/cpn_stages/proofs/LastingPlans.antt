-- The further stages of a sound transition last until no variable is left: as long as one is, the guard gives one of those that are
-- left a value, or one of them has a small colour set.
use Rattle.std.proofs.Common.{◌≡◌, ◌⊎◌, ℕ, suc, ◌<◌, ◌≤◌, Bool, false, not, List, [], ◌∷◌, ◌++◌, length, None, refl, sym, ap, ◌∙◌, subst, inl, inr, ⊎_elim, arith}
use Rattle.std.specs.List.{filter, flat_map, AllByRecursion}
use Rattle.std.proofs.lemmas.Bool.{cond_both}
use Rattle.cpn_definitions.specs.Inscription.{PlainExpr, conjunction}
use Rattle.cpn_definitions.specs.Net.{BindingTerm, PlainTransition, PlainNet, variable_at}
use Rattle.cpn_definitions.specs.Bindable.{binding_terms, pattern_variables, variables_of, conjuncts_of, IsInTerm, IsEquated, IsSmall}
use Rattle.cpn_definitions.specs.Sound.{IsSoundTransition}
use Rattle.cpn_definitions.proofs.RisingLists.{IsIn, in_from_contains, contains_from_in, in_append_left, in_append_right, in_append_cases, in_flat_map, in_map, of_one_in}
use Rattle.cpn_stages.specs.Stages.{by_term, variables_at, variables_at_each, terms_at, term_stages, is_among, those_without, equations_in, first_solving}
use Rattle.cpn_definitions.specs.Sound.{IsSolvable}
use Rattle.cpn_definitions.proofs.TruthValues.{not_both}
use Rattle.cpn_stages.proofs.Numbers.{among_from_in, from_without}
use Rattle.cpn_stages.proofs.NeverStuck.{small_from}

-- ---- what a variable of a guard is equal to has variables of the guard alone

in_conjunct : (conjunct part : PlainExpr) (x : ℕ) → IsIn part (conjuncts_of conjunct) → IsIn x (variables_of part) → IsIn x (variables_of conjunct)
in_conjunct (conjunction e f) part x h is = split (in_append_cases (conjuncts_of e) (conjuncts_of f) part h) (λ g. in_conjunct e part x g is) (λ g. in_conjunct f part x g is)
  where
    split : IsIn part (conjuncts_of e) ⊎ IsIn part (conjuncts_of f) → (IsIn part (conjuncts_of e) → IsIn x (variables_of e)) → (IsIn part (conjuncts_of f) → IsIn x (variables_of f)) → IsIn x (variables_of e ++ variables_of f)
    split (inl g) first second = in_append_left (variables_of e) (variables_of f) x (first g)
    split (inr g) first second = in_append_right (variables_of e) (variables_of f) x (second g)
in_conjunct conjunct part x (inl same) is = subst (λ (k : PlainExpr). IsIn x (variables_of k)) (sym same) is
in_conjunct conjunct part x (inr h) is = absurd h

in_equation : (t : PlainTransition) (x : ℕ) (e : PlainExpr) (is : IsEquated t x e) (y : ℕ) → IsIn y (variables_of e) → IsIn y (variables_of is.part)
in_equation t x e is y h =
    ⊎_elim
    (λ first. subst (λ (k : PlainExpr). IsIn y (variables_of k)) (sym first) (inr (in_append_left (variables_of e) [] y h)))
    (λ second. subst (λ (k : PlainExpr). IsIn y (variables_of k)) (sym second) (in_append_left (variables_of e) (x ∷ []) y h))
    is.is_equation

pub equated_listed : (n : PlainNet) (t : PlainTransition) → IsSolvable n t → (x : ℕ) (e : PlainExpr) → IsEquated t x e → (y : ℕ) → IsIn y (variables_of e) → IsIn y t.vars
equated_listed n t solvable x e is y h =
    let here : IsIn y (variables_of is.conjunct) = in_conjunct is.conjunct is.part y (in_from_contains (conjuncts_of is.conjunct) is.part is.is_part) (in_equation t x e is y h) in
    let of_guard : IsIn y (flat_map variables_of t.guard) = in_flat_map variables_of t.guard is.conjunct y (in_from_contains t.guard is.conjunct is.is_conjunct) here in
    in_from_contains t.vars y (solvable.guard_listed y (contains_from_in (flat_map variables_of t.guard) y of_guard))

-- ---- the stages last

-- where no equation gives one of the variables that are left a value, not all of them have large colour sets
pub never_stuck
    : (n : PlainNet) (t : PlainTransition) (left : List ℕ)
    → IsSoundTransition n t
    → ((x : ℕ) → IsIn x left → IsIn x t.vars)
    → ((x : ℕ) → IsInTerm t x → IsIn x left → ⊥)
    → first_solving t left (equations_in t) ≡ None
    → AllByRecursion (λ y. IsSmall (variable_at n y).colour → ⊥) left
    → (x : ℕ) → IsIn x left → ⊥
never_stuck n t left sound listed no_term unsolved large x h =
    let one = small_from n t left (equated_listed n t sound.guard_solvable) no_term unsolved x (sound.bindable x (contains_from_in t.vars x (listed x h))) h in
    of_one_in (λ y. IsSmall (variable_at n y).colour → ⊥) left one.0 large one.1 one.2

-- ---- the variables that are left

-- those that stand in no binding term are in none
pub none_in_terms : (t : PlainTransition) (x : ℕ) → IsInTerm t x → IsIn x (those_without (variables_at_each (term_stages t)) t.vars) → ⊥
none_in_terms t x is h =
    let there : IsIn x (variables_at_each (term_stages t)) =
    in_flat_map variables_at (term_stages t) (by_term is.arc.place is.term.pattern) x
    (in_flat_map terms_at t.inputs is.arc (by_term is.arc.place is.term.pattern) (in_from_contains t.inputs is.arc is.is_input) (in_map (λ (term : BindingTerm). by_term is.arc.place term.pattern) (binding_terms is.arc.expr) is.term (in_from_contains (binding_terms is.arc.expr) is.term is.is_term)))
    (in_from_contains (pattern_variables is.term.pattern) x is.is_in) in
    not_both (is_among (variables_at_each (term_stages t)) x) (among_from_in (variables_at_each (term_stages t)) x there) (from_without (variables_at_each (term_stages t)) t.vars x h).1

filtered_no_more : (p : ℕ → Bool) (xs : List ℕ) → length (filter p xs) ≤ length xs
filtered_no_more p [] = omega arith
filtered_no_more p (x ∷ xs) =
    let rest : length (filter p xs) ≤ length xs = filtered_no_more p xs in
    cond_both (p x) (x ∷ filter p xs) (filter p xs) (λ ys. length ys ≤ suc (length xs)) (λ _. omega (arith, rest)) (λ _. omega (arith, rest))

filtered_fewer : (p : ℕ → Bool) (xs : List ℕ) (x : ℕ) → IsIn x xs → p x ≡ false → length (filter p xs) < length xs
filtered_fewer p [] x h out = absurd h
filtered_fewer p (y ∷ xs) x (inl same) out =
    let rest : length (filter p xs) ≤ length xs = filtered_no_more p xs in
    let here : p y ≡ false = ap p same ∙ out in
    rw here (omega (arith, rest))
filtered_fewer p (y ∷ xs) x (inr h) out =
    let rest : length (filter p xs) < length xs = filtered_fewer p xs x h out in
    cond_both (p y) (y ∷ filter p xs) (filter p xs) (λ ys. length ys < suc (length xs)) (λ _. omega (arith, rest)) (λ _. omega (arith, rest))

-- without one of them there are fewer
pub fewer_without : (xs : List ℕ) (x : ℕ) → IsIn x xs → length (those_without (x ∷ []) xs) < length xs
fewer_without xs x h = filtered_fewer (λ y. not (is_among (x ∷ []) y)) xs x h (ap not (among_from_in (x ∷ []) x (inl refl)))
