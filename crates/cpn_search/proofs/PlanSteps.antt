-- How the stages of a transition are planned.
use Rattle.std.proofs.Common.{◌≡◌, ℕ, zero, suc, ◌+◌, ◌<◌, ◌==◌, true, ◌||◌, nat_lt, List, [], ◌∷◌, ◌++◌, map, length, get_or, take, drop, Some, None, Contains, refl, sym, ap, ◌∙◌, subst, inl, arith, append_assoc, append-nil, ltb-true}
use Rattle.std.specs.List.{flat_map, list_any, AllByRecursion}
use Rattle.std.proofs.lemmas.List.{map-append, length-map}
use Rattle.std.proofs.lemmas.Grind.{flat_map-append}
use Rattle.cpn_definitions.specs.Inscription.{PlainExpr}
use Rattle.cpn_definitions.specs.Net.{BindingTerm, PlainArc, PlainTransition, PlainNet, variable_at, transition_at}
use Rattle.cpn_definitions.specs.Bindable.{pattern_variables, IsSmall}
use Rattle.cpn_definitions.specs.Sound.{IsSound, IsSoundTransition, IsSoundInput}
use Rattle.cpn_definitions.proofs.RisingLists.{IsIn, in_from_contains, contains_from_in, in_append_right, passes_at, each_appended}
use Rattle.cpn_definitions.proofs.SoundElements.{sound_transition}
use Rattle.cpn_definitions.proofs.NumberTests.{equals_either_way}
use Rattle.cpn_core.specs.declared.nets.Net.{Net}
use Rattle.cpn_core.specs.declared.nets.Transition.{Transition}
use Rattle.cpn_core.specs.Nets.{transition_view, net_view}
use Rattle.cpn_bindable.specs.Known.{carried_variables}
use Rattle.cpn_stages.specs.Stages.{Stage, by_term, by_equation, by_size, by_value, variables_at, variables_at_each, terms_at, term_stages, is_among, those_without, equations_in, first_solving, IsFirstSmall, Further, none_left, next_equation, next_small, AreStages}
use Rattle.cpn_stages.proofs.Numbers.{in_from_among, from_without}
use Rattle.cpn_stages.proofs.Guards.{found_is}
use Rattle.cpn_stages.proofs.LastingPlans.{never_stuck, none_in_terms, fewer_without}
use Rattle.cpn_search.specs.declared.plan.Stage as program
use Rattle.cpn_search.specs.declared.plan.Stage.TheVariants as stages
use Rattle.cpn_search.specs.StageViews.{stage_view, stages_view, carried_stages, HasAllValues}
use Rattle.cpn_search.specs.Plans.{AreLeft, HaveColours, IsNext, ArePlanned, AreFurther}
use Rattle.cpn_search.proofs.KnownTransitions.{transition_is, in_range}

pub flipped : (xs : List ℕ) (x : ℕ) → list_any (λ y. y == x) xs ≡ is_among xs x
flipped [] x = refl
flipped (y ∷ ys) x = rw (equals_either_way x y) (ap (λ b. (x == y) || b) (flipped ys x))

-- ---- the first variable of a small colour set

around : (xs : List ℕ) (i x : ℕ) → i < length xs → x ≡ get_or xs i x → xs ≡ take i xs ++ x ∷ drop (i + 1) xs
around [] i x lt at = absurd (omega arith)
around (y ∷ xs) zero x lt at = ap (λ (z : ℕ). z ∷ xs) (sym at)
around (y ∷ xs) (suc i) x lt at = ap (λ (zs : List ℕ). y ∷ zs) (around xs i x (omega arith) at ∙ ap (λ (rest : List ℕ). take i xs ++ x ∷ rest) (deeper i))
  where
    deeper : (k : ℕ) → drop (k + 1) xs ≡ drop (suc k + 1) (y ∷ xs)
    deeper k = let more : suc k + 1 ≡ suc (k + 1) = omega arith in ap (λ (j : ℕ). drop j (y ∷ xs)) (sym more)

itself : (xs : List ℕ) (i : ℕ) → i < length xs → get_or xs i 0 ≡ get_or xs i (get_or xs i 0)
itself [] i lt = absurd (omega arith)
itself (x ∷ xs) zero lt = refl
itself (x ∷ xs) (suc i) lt = itself xs i (omega arith)

pub one_of_left : (left : List ℕ) (i count : ℕ) → HaveColours count left → i < length left → get_or left i 0 < count
one_of_left left i count are lt = are.below (get_or left i 0) (i, lt, sym (itself left i lt))

pub first_is
    : (n : PlainNet) (left : List ℕ) (i : ℕ)
    → i < length left
    → AllByRecursion (λ y. IsSmall (variable_at n y).colour → ⊥) (take i left)
    → IsSmall (variable_at n (get_or left i 0)).colour
    → IsFirstSmall n left (get_or left i 0)
first_is n left i lt large small = record {
  before = take i left;
  behind = drop (i + 1) left;
  stands = around left i (get_or left i 0) lt (itself left i lt);
  not_before = large;
  small = small;
}

-- ---- the next stage

pub colours_of_left : (n : Net) (t : PlainTransition) (left : List ℕ) → IsSoundTransition (net_view n) t → AreLeft t left → HaveColours (length n.variables.items) left
colours_of_left n t left sound are = record {
  below = λ x h.
      let here : nat_lt x (length (net_view n).variables) ≡ true = passes_at (λ y. nat_lt y (length (net_view n).variables)) t.vars x sound.declared (in_from_contains t.vars x (are.listed x h)) in
      ltb-true x (length n.variables.items) (subst (λ (k : ℕ). nat_lt x k ≡ true) (length-map n.variables.items _) here);
}

pub not_stuck
    : (n : PlainNet) (t : PlainTransition) (left : List ℕ)
    → IsSoundTransition n t → AreLeft t left → 0 < length left
    → first_solving t left (equations_in t) ≡ None
    → AllByRecursion (λ y. IsSmall (variable_at n y).colour → ⊥) left
    → ⊥
not_stuck n t [] sound are some unsolved large = omega arith
not_stuck n t (x ∷ left) sound are some unsolved large =
    never_stuck n t (x ∷ left) sound (λ y h. in_from_contains t.vars y (are.listed y (contains_from_in (x ∷ left) y h))) (λ y is h. are.in_no_term y is (contains_from_in (x ∷ left) y h)) unsolved large x (inl refl)

pub small_is_next
    : (n : PlainNet) (t : PlainTransition) (left : List ℕ) (x : ℕ)
    → first_solving t left (equations_in t) ≡ None
    → IsFirstSmall n left x
    → IsNext n t left x (by_size x)
small_is_next n t left x unsolved first = record {
  is_left = contains_from_in left x (subst (IsIn x) (sym first.stands) (in_append_right first.before (x ∷ first.behind) x (inl refl)));
  goes_on = λ stages further. next_small left x stages unsolved first further;
}

pub equation_is_next
    : (n : PlainNet) (t : PlainTransition) (left : List ℕ) (x : ℕ) (e : PlainExpr)
    → first_solving t left (equations_in t) ≡ Some (x, e)
    → IsNext n t left x (by_equation x e)
equation_is_next n t left x e found = record {
  is_left = contains_from_in left x (in_from_among left x (found_is t left x e found).is_left);
  goes_on = λ stages further. next_equation left x e stages found further;
}

-- ---- the further stages

pub none_planned : (n : PlainNet) (t : PlainTransition) (left : List ℕ) (before : List Stage) → ArePlanned n t left left before before
none_planned n t left before = record { planned = []; are = sym (append-nil before); go_on = λ rest h. h }

pub one_more_planned
    : (n : PlainNet) (t : PlainTransition) (at_first left : List ℕ) (before stages : List Stage) (x : ℕ) (stage : Stage)
    → ArePlanned n t at_first left before stages
    → IsNext n t left x stage
    → ArePlanned n t at_first (those_without (x ∷ []) left) before (stages ++ stage ∷ [])
one_more_planned n t at_first left before stages x stage so_far next = record {
  planned = so_far.planned ++ stage ∷ [];
  are = ap (λ (ss : List Stage). ss ++ stage ∷ []) so_far.are ∙ append_assoc before so_far.planned (stage ∷ []);
  go_on = λ rest h. subst (Further n t at_first) (sym (append_assoc so_far.planned (stage ∷ []) rest)) (so_far.go_on (stage ∷ rest) (next.goes_on rest h));
}

pub fewer_left : (n : PlainNet) (t : PlainTransition) (left : List ℕ) (x : ℕ) (stage : Stage) → IsNext n t left x stage → length (those_without (x ∷ []) left) < length left
fewer_left n t left x stage next = fewer_without left x (in_from_contains left x next.is_left)

pub still_left : (t : PlainTransition) (left : List ℕ) (x : ℕ) → AreLeft t left → AreLeft t (those_without (x ∷ []) left)
still_left t left x are = record {
  listed = λ y h. are.listed y (was_left y h);
  in_no_term = λ y is h. are.in_no_term y is (was_left y h);
}
  where
    was_left : (y : ℕ) → Contains (those_without (x ∷ []) left) y → Contains left y
    was_left y h = contains_from_in left y (from_without (x ∷ []) left y (in_from_contains (those_without (x ∷ []) left) y h)).0

-- in the program's stages
pub planned_on
    : (n : PlainNet) (t : PlainTransition) (at_first left now : List ℕ) (before : List Stage) (ss later : List program.Stage) (x : ℕ) (s : program.Stage)
    → ArePlanned n t at_first left before (stages_view ss)
    → IsNext n t left x (stage_view s)
    → later ≡ ss ++ s ∷ []
    → now ≡ those_without (x ∷ []) left
    → ArePlanned n t at_first now before (stages_view later)
planned_on n t at_first left now before ss later x s so_far next longer fewer =
    subst (λ (xs : List ℕ). ArePlanned n t at_first xs before (stages_view later)) (sym fewer)
    (subst (ArePlanned n t at_first (those_without (x ∷ []) left) before) (sym (ap stages_view longer ∙ map-append stage_view ss (s ∷ [])))
    (one_more_planned n t at_first left before (stages_view ss) x (stage_view s) so_far next))

pub left_on : (t : PlainTransition) (left now : List ℕ) (x : ℕ) → AreLeft t left → now ≡ those_without (x ∷ []) left → AreLeft t now
left_on t left now x are fewer = subst (AreLeft t) (sym fewer) (still_left t left x are)

pub values_on
    : (n : PlainNet) (ss later : List program.Stage) (s : program.Stage)
    → AllByRecursion (HasAllValues n) ss → HasAllValues n s → later ≡ ss ++ s ∷ []
    → AllByRecursion (HasAllValues n) later
values_on n ss later s before here longer = subst (AllByRecursion (HasAllValues n)) (sym longer) (each_appended (HasAllValues n) ss (s ∷ []) before (here, tt))

pub fewer_on
    : (n : PlainNet) (t : PlainTransition) (left now : List ℕ) (x : ℕ) (s : program.Stage)
    → IsNext n t left x (stage_view s) → now ≡ those_without (x ∷ []) left
    → length now < length left
fewer_on n t left now x s next fewer = subst (λ (xs : List ℕ). length xs < length left) (sym fewer) (fewer_left n t left x (stage_view s) next)

pub none_at_all : (left : List ℕ) → (0 < length left → ⊥) → left ≡ []
none_at_all [] h = refl
none_at_all (x ∷ left) h = absurd (h (omega arith))

pub all_planned : (n : PlainNet) (t : PlainTransition) (at_first : List ℕ) (left : List ℕ) (before stages : List Stage) → ArePlanned n t at_first left before stages → left ≡ [] → AreFurther n t at_first before stages
all_planned n t at_first left before stages so_far none = record {
  further = so_far.planned;
  are = so_far.are;
  follow = subst (Further n t at_first) (append-nil so_far.planned) (so_far.go_on [] (subst (λ (xs : List ℕ). Further n t xs []) (sym none) none_left));
}

-- ---- the binding terms

-- input arcs of a sound transition carry the binding terms of their inscriptions
carried_at : (n : PlainNet) (t : PlainTransition) (arc : PlainArc) → IsSoundInput n t arc → carried_stages arc ≡ terms_at arc
carried_at n t arc sound = ap (map (λ (term : BindingTerm). by_term arc.place term.pattern)) sound.terms_are

carried_by : (n : PlainNet) (t : PlainTransition) (arcs : List PlainArc) → AllByRecursion (IsSoundInput n t) arcs → flat_map carried_stages arcs ≡ flat_map terms_at arcs
carried_by n t [] sound = refl
carried_by n t (arc ∷ arcs) sound = rw (carried_at n t arc sound.0, carried_by n t arcs sound.1) refl

pub terms_carried : (n : PlainNet) (t : PlainTransition) → IsSoundTransition n t → flat_map carried_stages t.inputs ≡ term_stages t
terms_carried n t sound = carried_by n t t.inputs sound.inputs_sound

variables_of_terms : (place : ℕ) (terms : List BindingTerm) → flat_map (λ term. pattern_variables term.pattern) terms ≡ variables_at_each (map (λ (term : BindingTerm). by_term place term.pattern) terms)
variables_of_terms place [] = refl
variables_of_terms place (term ∷ terms) = ap (λ (xs : List ℕ). pattern_variables term.pattern ++ xs) (variables_of_terms place terms)

variables_carried : (arcs : List PlainArc) → carried_variables arcs ≡ variables_at_each (flat_map carried_stages arcs)
variables_carried [] = refl
variables_carried (arc ∷ arcs) = rw (flat_map-append variables_at (carried_stages arc) (flat_map carried_stages arcs), variables_of_terms arc.place arc.terms, variables_carried arcs) refl

pub terms_bind : (n : PlainNet) (t : PlainTransition) → IsSoundTransition n t → carried_variables t.inputs ≡ variables_at_each (term_stages t)
terms_bind n t sound = variables_carried t.inputs ∙ ap variables_at_each (terms_carried n t sound)

-- the variables that are left at first
left_by_all : (t : PlainTransition) → AreLeft t (those_without (variables_at_each (term_stages t)) t.vars)
left_by_all t = record {
  listed = λ x h. contains_from_in t.vars x (from_without (variables_at_each (term_stages t)) t.vars x (in_from_contains _ x h)).0;
  in_no_term = λ x is h. none_in_terms t x is (in_from_contains _ x h);
}

pub left_at_first : (n : PlainNet) (t : PlainTransition) (left : List ℕ) → IsSoundTransition n t → left ≡ those_without (carried_variables t.inputs) t.vars → AreLeft t left
left_at_first n t left sound are = subst (AreLeft t) (sym (are ∙ ap (λ (xs : List ℕ). those_without xs t.vars) (terms_bind n t sound))) (left_by_all t)

-- a stage of a binding term has no values of its own
abbrev IsTerm : Stage → Type 0
IsTerm (by_term place p) = Unit {0}
IsTerm (by_equation x e) = ⊥
IsTerm (by_size x) = ⊥
IsTerm (by_value place p v) = Unit {0}

terms_at_place : (place : ℕ) (terms : List BindingTerm) → AllByRecursion IsTerm (map (λ (term : BindingTerm). by_term place term.pattern) terms)
terms_at_place place [] = tt
terms_at_place place (term ∷ terms) = (tt, terms_at_place place terms)

carried_are_terms : (arcs : List PlainArc) → AllByRecursion IsTerm (flat_map carried_stages arcs)
carried_are_terms [] = tt
carried_are_terms (arc ∷ arcs) = each_appended IsTerm (carried_stages arc) (flat_map carried_stages arcs) (terms_at_place arc.place arc.terms) (carried_are_terms arcs)

term_has_all : (n : PlainNet) (s : program.Stage) → IsTerm (stage_view s) → HasAllValues n s
term_has_all n (stages.Term place term) is = tt
term_has_all n (stages.Equation variable equation) is = tt
term_has_all n (stages.Small variable values) is = absurd is

terms_have_all : (n : PlainNet) (ss : List program.Stage) → AllByRecursion IsTerm (stages_view ss) → AllByRecursion (HasAllValues n) ss
terms_have_all n [] are = tt
terms_have_all n (s ∷ ss) are = (term_has_all n s are.0, terms_have_all n ss are.1)

pub carried_have_all : (n : PlainNet) (arcs : List PlainArc) (ss : List program.Stage) → stages_view ss ≡ flat_map carried_stages arcs → AllByRecursion (HasAllValues n) ss
carried_have_all n arcs ss same = terms_have_all n ss (subst (AllByRecursion IsTerm) (sym same) (carried_are_terms arcs))

pub stages_of
    : (n : PlainNet) (t : PlainTransition) (left : List ℕ) (before stages : List Stage)
    → IsSoundTransition n t
    → before ≡ flat_map carried_stages t.inputs
    → left ≡ those_without (carried_variables t.inputs) t.vars
    → AreFurther n t left before stages
    → AreStages n t stages
stages_of n t left before stages sound first left_are further = record {
  further = further.further;
  are = further.are ∙ ap (λ (ss : List Stage). ss ++ further.further) (first ∙ terms_carried n t sound);
  follow = subst (λ (xs : List ℕ). Further n t xs further.further) (left_are ∙ ap (λ (xs : List ℕ). those_without xs t.vars) (terms_bind n t sound)) further.follow;
}

-- ---- the transition of a number

pub sound_at : (n : Net) (t : ℕ) (tr : Transition) → IsSound (net_view n) → t < length n.transitions.items → tr ≡ get_or n.transitions.items t tr → IsSoundTransition (net_view n) (transition_view tr)
sound_at n t tr sound lt is = subst (IsSoundTransition (net_view n)) (transition_is n t tr lt is) (sound_transition (net_view n) t sound (in_range n t lt))

pub stages_at : (n : Net) (t : ℕ) (tr : Transition) (stages : List Stage) → t < length n.transitions.items → tr ≡ get_or n.transitions.items t tr → AreStages (net_view n) (transition_view tr) stages → AreStages (net_view n) (transition_at (net_view n) t) stages
stages_at n t tr stages lt is are = subst (λ (k : PlainTransition). AreStages (net_view n) k stages) (sym (transition_is n t tr lt is)) are
