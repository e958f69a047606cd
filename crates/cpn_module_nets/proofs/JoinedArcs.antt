-- The arcs of a net joined to their transitions, arc by arc.
use Rattle.std.proofs.Common.{◌≡◌, ℕ, zero, suc, ◌+◌, ◌<◌, ◌≤◌, ◌==◌, Bool, true, false, cond, List, [], ◌∷◌, ◌++◌, length, get_or, set, map, refl, sym, ap, ◌∙◌, append_assoc, arith, eqb-true, eq-eqb}
use Rattle.std.specs.Prelude.{Option, Some, None, Result, Ok, Err, IfOk}
use Rattle.std.proofs.lemmas.List.{append-nil, get_or-map, map-set, length-map}
use Rattle.cpn_core.specs.Nets.{transition_view}
use Rattle.cpn_core.specs.declared.nets.Transition.{Transition}
use Rattle.cpn_definitions.specs.Net.{PlainTransition, no_transition}
use Rattle.cpn_module_nets.specs.Accepted.{Sides, is_at, with_first, inputs_of, outputs_of, joined_from}
use Rattle.cpn_module_nets.specs.Joining.{joined_with}
use Rattle.cpn_module.specs.declared.hierarchy.Node.TheVariants as nodes

-- ---- arcs of one transition

first_more : {A : Type 0} (o : Option A) (xs ys : List A) → with_first o (xs ++ ys) ≡ with_first o xs ++ ys
first_more None xs ys = refl
first_more (Some x) xs ys = refl

more_case : {A : Type 0} (b : Bool) (o : Option A) (xs ys : List A) → cond b (with_first o (xs ++ ys)) (xs ++ ys) ≡ cond b (with_first o xs) xs ++ ys
more_case true o xs ys = first_more o xs ys
more_case false o xs ys = refl

inputs_more : (t : ℕ) (arcs more : List Sides) → inputs_of t (arcs ++ more) ≡ inputs_of t arcs ++ inputs_of t more
inputs_more t [] more = refl
inputs_more t (arc ∷ arcs) more = rw (inputs_more t arcs more) (more_case (is_at t arc.node) arc.input (inputs_of t arcs) (inputs_of t more))

outputs_more : (t : ℕ) (arcs more : List Sides) → outputs_of t (arcs ++ more) ≡ outputs_of t arcs ++ outputs_of t more
outputs_more t [] more = refl
outputs_more t (arc ∷ arcs) more = rw (outputs_more t arcs more) (more_case (is_at t arc.node) arc.output (outputs_of t arcs) (outputs_of t more))

-- ---- transitions

-- arcs in two parts
pub joined_twice : (t : ℕ) (xs : List PlainTransition) (arcs more : List Sides) → joined_from t (joined_from t xs arcs) more ≡ joined_from t xs (arcs ++ more)
joined_twice t [] arcs more = refl
joined_twice t (x ∷ xs) arcs more =
    rw (inputs_more t arcs more, outputs_more t arcs more, ← (append_assoc x.inputs (inputs_of t arcs) (inputs_of t more)), ← (append_assoc x.outputs (outputs_of t arcs) (outputs_of t more)), joined_twice (suc t) xs arcs more) refl

-- there are as many transitions as before
pub joined_long : (t : ℕ) (xs : List PlainTransition) (arcs : List Sides) → length (joined_from t xs arcs) ≡ length xs
joined_long t [] arcs = refl
joined_long t (x ∷ xs) arcs = ap suc (joined_long (suc t) xs arcs)

-- no arc
pub joined_nothing : (t : ℕ) (xs : List PlainTransition) → joined_from t xs [] ≡ xs
joined_nothing t [] = refl
joined_nothing t (x ∷ xs) = rw (append-nil x.inputs, append-nil x.outputs, joined_nothing (suc t) xs) refl

module _ (arc : Sides) where
  -- where an arc is not the transition's, the transition stays
  skipped : (t : ℕ) (x : PlainTransition) (xs rest : List PlainTransition) → is_at t arc.node ≡ false → joined_from (suc t) xs (arc ∷ []) ≡ rest → joined_from t (x ∷ xs) (arc ∷ []) ≡ x ∷ rest
  skipped t x xs rest apart h = rw (apart, append-nil x.inputs, append-nil x.outputs, h) refl

  -- an arc at a substitution transition
  pub joined_elsewhere : (i : ℕ) → arc.node ≡ nodes.Substitution i → (t : ℕ) (xs : List PlainTransition) → joined_from t xs (arc ∷ []) ≡ xs
  joined_elsewhere i is t [] = refl
  joined_elsewhere i is t (x ∷ xs) = skipped t x xs xs (ap (is_at t) is) (joined_elsewhere i is (suc t) xs)

  module _ (number : ℕ) (is : arc.node ≡ nodes.Transition number) where
    not_at : (t : ℕ) → (t ≡ number → ⊥) → is_at t arc.node ≡ false
    not_at t differs = ap (is_at t) is ∙ by (t == number) refl
      where
        by : (b : Bool) → (t == number) ≡ b → (t == number) ≡ false
        by true e = absurd (differs (eqb-true t number e))
        by false e = e

    -- an arc of a transition before all of these
    joined_before : (t : ℕ) (xs : List PlainTransition) → number < t → joined_from t xs (arc ∷ []) ≡ xs
    joined_before t [] low = refl
    joined_before t (x ∷ xs) low = skipped t x xs xs (not_at t (λ e. omega arith)) (joined_before (suc t) xs (omega arith))

    -- an arc of one of the transitions
    pub joined_at : (t i : ℕ) (xs : List PlainTransition) (d : PlainTransition) → number ≡ t + i → i < length xs → joined_from t xs (arc ∷ []) ≡ set xs i (joined_with (get_or xs i d) arc)
    joined_at t i [] d at lt = absurd (omega arith)
    joined_at t zero (x ∷ xs) d at lt =
        let same : is_at t arc.node ≡ true = ap (is_at t) is ∙ eq-eqb t number (omega arith) in
        rw (same, joined_before (suc t) xs (omega arith)) refl
    joined_at t (suc i) (x ∷ xs) d at lt = skipped t x xs (set xs i (joined_with (get_or xs i d) arc)) (not_at t (λ e. omega arith)) (joined_at (suc t) i xs d (omega arith) (omega arith))

-- ---- the transitions of the program

-- what follows from what an answer says
pub if_answered : {X E : Type 0} {P Q : Type 0} (answer : Result X E) → (P → Q) → IfOk answer (λ _. P) → IfOk answer (λ _. Q)
if_answered (Ok x) f h = f h
if_answered (Err e) f h = tt

module _ (transitions : List Transition) (arc : Sides) (number : ℕ) (is : arc.node ≡ nodes.Transition number) where
  -- an arc of one of them
  pub joined_among : (before new : Transition) → number < length transitions → before ≡ get_or transitions number before → transition_view new ≡ joined_with (transition_view before) arc → map transition_view (set transitions number new) ≡ joined_from 0 (map transition_view transitions) (arc ∷ [])
  joined_among before new lt at h =
      map-set transition_view transitions number new
      ∙ ap (λ x. set (map transition_view transitions) number x) (h ∙ ap (λ x. joined_with (transition_view x) arc) at ∙ ap (λ x. joined_with x arc) (sym (get_or-map transition_view transitions number before no_transition lt)))
      ∙ sym (joined_at arc number is 0 number (map transition_view transitions) no_transition (omega arith) (simp length-map lt))
