-- What is known once the variables of small colour sets are known too.
use Rattle.std.proofs.Common.{◌≡◌, ℕ, zero, suc, ◌+◌, ◌<◌, ◌≤◌, ◌==◌, Bool, true, false, ◌||◌, List, [], ◌∷◌, ◌++◌, map, length, get_or, take, slice_index_or, refl, sym, ap, ◌∙◌, subst, inl, inr, ◌⊎◌, ⊎_elim, arith, eqb-true}
use Rattle.std.proofs.lemmas.Bool.{or_cases}
use Rattle.std.proofs.lemmas.List.{take_more, map-append, append-nil}
use Rattle.std.proofs.lemmas.Grind.{flat_map-append}
use Rattle.cpn_definitions.specs.Bindable.{IsSmall}
use Rattle.cpn_definitions.specs.Net.{Coloured, nothing}
use Rattle.cpn_definitions.proofs.SmallColours.{unit_is_small}
use Rattle.cpn_core.specs.declared.nets.Variable.{Variable}
use Rattle.cpn_core.specs.Nets.{variable_view}
use Rattle.cpn_bindable.specs.declared.equations.Equation.{Equation}
use Rattle.cpn_bindable.specs.Equations.{equation_view, equations_view}
use Rattle.cpn_bindable.specs.Known.{is_listed, sources_of, AddsSmall}

-- ---- listed in a join

listed_join : (xs ys : List ℕ) (x : ℕ) → is_listed (xs ++ ys) x ≡ (is_listed xs x || is_listed ys x)
listed_join [] ys x = refl
listed_join (z ∷ zs) ys x = ap (λ b. (x == z) || b) (listed_join zs ys x) ∙ grouped (x == z) (is_listed zs x) (is_listed ys x)
  where
    grouped : (a b c : Bool) → (a || (b || c)) ≡ ((a || b) || c)
    grouped true b c = refl
    grouped false b c = refl

alone : (x y : ℕ) → is_listed (x ∷ []) y ≡ true → y ≡ x
alone x y h = split (y == x) refl h
  where
    split : (b : Bool) → (y == x) ≡ b → (b || false) ≡ true → y ≡ x
    split true same g = eqb-true y x same
    split false same g = cc

-- ---- steps

pub adds_both : (vs : List Coloured) (xs ys a b c : List ℕ) → AddsSmall vs xs a b → AddsSmall vs ys b c → AddsSmall vs (xs ++ ys) a c
adds_both vs xs ys a b c first second = record {
  kept = λ x h. second.kept x (first.kept x h);
  added = λ x h. ⊎_elim (λ g. first.added x g) (λ s. inr s) (second.added x h);
  small = λ x h s. ⊎_elim (λ g. second.kept x (first.small x g s)) (λ g. second.small x g s) (or_cases (is_listed xs x) (is_listed ys x) (sym (listed_join xs ys x) ∙ h));
}

-- ---- in the loops

pub adds_sources : (vs : List Coloured) (es : List Equation) (i : ℕ) (e : Equation) (a b c : List ℕ) → i < length es → e ≡ get_or es i e → AddsSmall vs (sources_of (equations_view (take i es))) a b → AddsSmall vs e.sources.items b c → AddsSmall vs (sources_of (equations_view (take (i + 1) es))) a c
adds_sources vs es i e a b c lt at first second = subst (λ ys. AddsSmall vs ys a c) (sym sources) (adds_both vs (sources_of (equations_view (take i es))) e.sources.items a b c first second)
  where
    longer : take (i + 1) es ≡ take i es ++ e ∷ []
    longer = rw (take_more es i e lt, ← at) refl

    sources : sources_of (equations_view (take (i + 1) es)) ≡ sources_of (equations_view (take i es)) ++ e.sources.items
    sources = ap (λ xs. sources_of (equations_view xs)) longer ∙ ap sources_of (map-append equation_view (take i es) (e ∷ [])) ∙ flat_map-append (λ q. q.sources) (equations_view (take i es)) (equation_view e ∷ []) ∙ ap (λ xs. sources_of (equations_view (take i es)) ++ xs) (append-nil e.sources.items)

-- ---- the variable of a number

-- it is there, or its colour set counts as small
pub there_or_small : (vs : List Variable) (k : ℕ) → (k < length vs) ⊎ IsSmall (slice_index_or (map variable_view vs) k nothing).colour
there_or_small [] k = inr unit_is_small
there_or_small (v ∷ vs) zero = inl (omega arith)
there_or_small (v ∷ vs) (suc k) = ⊎_elim (λ (lt : k < length vs). inl (omega (arith, lt))) (λ small. inr small) (there_or_small vs k)

pub past_is_small : (vs : List Variable) (k : ℕ) → length vs ≤ k → IsSmall (slice_index_or (map variable_view vs) k nothing).colour
past_is_small [] k le = unit_is_small
past_is_small (v ∷ vs) zero le = absurd (omega arith)
past_is_small (v ∷ vs) (suc k) le = past_is_small vs k (omega arith)
