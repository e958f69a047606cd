-- What is found from what is known at first is bindable, and the first that is not found is the answer.
use Rattle.std.proofs.Common.{◌≡◌, ◌↔◌, ℕ, ◌<◌, Bool, true, false, cond, List, [], ◌∷◌, ◌++◌, length, map, slice_index_or, Option, Some, None, refl, sym, ap, ◌∙◌, subst, inl, inr, ⊎_elim}
use Rattle.std.specs.Prelude.{IfSome}
use Rattle.std.specs.List.{flat_map, AllByRecursion}
use Rattle.std.proofs.lemmas.List.{length-map}
use Rattle.cpn_definitions.specs.Net.{PlainArc, Coloured, PlainTransition, PlainNet, variable_at, nothing}
use Rattle.cpn_definitions.specs.Bindable.{binding_terms, pattern_variables, IsInTerm, IsSmall, IsBindable, by_size}
use Rattle.cpn_definitions.proofs.RisingLists.{IsIn, in_from_contains, contains_from_in, in_append_left, in_append_right, in_flat_map, of_one_in, in_flat_from}
use Rattle.cpn_core.specs.Nets.{variable_view}
use Rattle.cpn_core.specs.declared.nets.Variable.{Variable}
use Rattle.cpn_typing.specs.BindableRule.{FirstIs}
use Rattle.cpn_typing.specs.Closure.{equations_of, found_in}
use Rattle.cpn_typing.proofs.LeastBindable.{IsStart, listed_in, in_listed, found_from_start}
use Rattle.cpn_typing.proofs.BindableAnswers.{one_more}
use Rattle.cpn_bindable.specs.declared.equations.Equation.{Equation as Pair}
use Rattle.cpn_bindable.specs.Equations.{equation_view, equations_view}
use Rattle.cpn_bindable.specs.Transitions.{CarriesItsTerms}
use Rattle.cpn_bindable.specs.Known.{unlisted, is_listed, carried_variables, sources_of, AddsSmall, first_not}
use Rattle.cpn_bindable.proofs.SmallAdded.{there_or_small}

-- ---- what is known at first

abbrev carried_by : PlainArc → List ℕ
carried_by arc = flat_map (λ term. pattern_variables term.pattern) arc.terms

-- the variables that input arcs carry are those that stand in their terms
in_terms : (t : PlainTransition) → AllByRecursion CarriesItsTerms t.inputs → (x : ℕ) → IsIn x (carried_variables t.inputs) → IsInTerm t x
in_terms t carry x h =
    let arc = in_flat_from carried_by t.inputs x h in
    let term = in_flat_from (λ term. pattern_variables term.pattern) arc.0.terms x arc.2 in
    record {
      arc = arc.0;
      is_input = contains_from_in t.inputs arc.0 arc.1;
      term = term.0;
      is_term = contains_from_in (binding_terms arc.0.expr) term.0 (subst (IsIn term.0) (of_one_in CarriesItsTerms t.inputs arc.0 carry arc.1) term.1);
      is_in = contains_from_in (pattern_variables term.0.pattern) x term.2;
    }

of_terms : (t : PlainTransition) → AllByRecursion CarriesItsTerms t.inputs → (x : ℕ) → IsInTerm t x → IsIn x (carried_variables t.inputs)
of_terms t carry x h =
    let input = in_from_contains t.inputs h.arc h.is_input in
    in_flat_map carried_by t.inputs h.arc x input
    (in_flat_map (λ term. pattern_variables term.pattern) h.arc.terms h.term x
    (subst (IsIn h.term) (sym (of_one_in CarriesItsTerms t.inputs h.arc carry input)) (in_from_contains (binding_terms h.arc.expr) h.term h.is_term))
    (in_from_contains (pattern_variables h.term.pattern) x h.is_in))

started : (n : PlainNet) (t : PlainTransition) (vs : List Coloured) (start : List ℕ) → n.variables ≡ vs → AllByRecursion CarriesItsTerms t.inputs
    → AddsSmall vs (t.vars ++ sources_of (equations_of t.guard)) (carried_variables t.inputs) start → IsStart n t (t.vars ++ sources_of (equations_of t.guard)) start
started n t vs start own carry adds = record {
  reason = λ x h. ⊎_elim (λ g. inl (in_terms t carry x (listed_in x (carried_variables t.inputs) g))) (λ s. inr (back x s)) (adds.added x (in_listed x start h));
  in_terms = λ x h. listed_in x start (adds.kept x (in_listed x (carried_variables t.inputs) (of_terms t carry x h)));
  small = λ x h s. listed_in x start (adds.small x (in_listed x (t.vars ++ sources_of (equations_of t.guard)) h) (there x s));
  reads = λ q h x g. in_append_right t.vars (sources_of (equations_of t.guard)) x (in_flat_map (λ p. p.sources) (equations_of t.guard) q x h g);
}
  where
    back : (x : ℕ) → IsSmall (slice_index_or vs x nothing).colour → IsSmall (variable_at n x).colour
    back x s = subst (λ ws. IsSmall (slice_index_or ws x nothing).colour) (sym own) s

    there : (x : ℕ) → IsSmall (variable_at n x).colour → IsSmall (slice_index_or vs x nothing).colour
    there x s = subst (λ ws. IsSmall (slice_index_or ws x nothing).colour) own s

-- ---- the first that is not found

first_is : (n : PlainNet) (t : PlainTransition) (known : ℕ → Bool) (xs : List ℕ) → ((x : ℕ) → IsIn x xs → (known x ≡ true) ↔ IsBindable n t x) → FirstIs n t xs (first_not known xs)
first_is n t known [] told = tt
first_is n t known (x ∷ xs) told = split (known x) refl (first_is n t known xs (λ y h. told y (inr h)))
  where
    split : (b : Bool) → known x ≡ b → FirstIs n t xs (first_not known xs) → FirstIs n t (x ∷ xs) (cond b (first_not known xs) (Some x))
    split true e rest = one_more n t x xs (first_not known xs) ((told x (inl refl)).0 e) rest
    split false e rest = record { before = []; behind = xs; stands = refl; bindable_before = tt; not_bindable = λ h. let there : known x ≡ true = (told x (inl refl)).1 h in cc }

-- The first that is not bindable is there.
abbrev net_of : List Variable → PlainNet
net_of vs = record { places = []; transitions = []; variables = map variable_view vs; constants = []; constructors = []; functions = [] }

pub first_there : (vs : List Variable) (t : PlainTransition) (xs : List ℕ) (o : Option ℕ) → ((n : PlainNet) → n.variables ≡ map variable_view vs → FirstIs n t xs o) → IfSome o (λ x. x < length vs)
first_there vs t xs None first = tt
first_there vs t xs (Some x) first = ⊎_elim (λ (lt : x < length vs). lt) (λ small. absurd ((first (net_of vs) refl).not_bindable (by_size x small))) (there_or_small vs x)

-- ---- the answer

pub checked : (n : PlainNet) (t : PlainTransition) (vs : List Coloured) (start found fs xs : List ℕ) (es ps : List Pair) (o : Option ℕ) → n.variables ≡ vs → AllByRecursion CarriesItsTerms t.inputs
    → equations_view es ≡ equations_of t.guard → ps ≡ es → AddsSmall vs (t.vars ++ sources_of (equations_view ps)) (carried_variables t.inputs) start
    → ((x : ℕ) → is_listed found x ≡ is_listed (found_in (length es) unlisted start (equations_view es)) x) → fs ≡ found → xs ≡ t.vars → o ≡ first_not (is_listed fs) xs
    → FirstIs n t t.vars o
checked n t vs start found fs xs es ps o own carry guard same adds all fs_are xs_are answer =
    subst (FirstIs n t t.vars) (sym is) (first_is n t (is_listed found) t.vars told)
  where
    is : o ≡ first_not (is_listed found) t.vars
    is = answer ∙ ap (λ zs. first_not (is_listed zs) xs) fs_are ∙ ap (first_not (is_listed found)) xs_are

    begun : AddsSmall vs (t.vars ++ sources_of (equations_of t.guard)) (carried_variables t.inputs) start
    begun = subst (λ qs. AddsSmall vs (t.vars ++ sources_of qs) (carried_variables t.inputs) start) (ap equations_view same ∙ guard) adds

    as_many : (x : ℕ) → is_listed found x ≡ is_listed (found_in (length (equations_of t.guard)) unlisted start (equations_of t.guard)) x
    as_many x = all x ∙ ap (λ k. is_listed (found_in k unlisted start (equations_view es)) x) (sym (length-map es equation_view)) ∙ ap (λ qs. is_listed (found_in (length qs) unlisted start qs) x) guard

    told : (x : ℕ) → IsIn x t.vars → (is_listed found x ≡ true) ↔ IsBindable n t x
    told x h =
        let law = found_from_start n t (t.vars ++ sources_of (equations_of t.guard)) start (started n t vs start own carry begun) x (in_append_left t.vars (sources_of (equations_of t.guard)) x h) in
        (λ g. law.0 (sym (as_many x) ∙ g), λ b. as_many x ∙ law.1 b)
