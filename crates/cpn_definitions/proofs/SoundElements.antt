-- In a sound net what an element needs and what it makes have a meaning, a value or a fault, where its binding binds the
-- variables of its transition.
use Rattle.std.proofs.Common.{◌≡◌, ℕ, zero, suc, ◌≤◌, true, nat_lt, List, [], ◌∷◌, ◌++◌, length, slice_index_or, refl, inl, inr, arith}
use Rattle.std.specs.List.{AllByRecursion}
use Rattle.std.proofs.lemmas.Bool.{and_parts}
use Rattle.std.proofs.lemmas.Bool.Decides.{nat_tests}
use Rattle.cpn_definitions.specs.Lists.{in_order}
use Rattle.cpn_definitions.specs.Net.{PlainArc, PlainTransition, PlainNet, no_transition, transition_at}
use Rattle.cpn_definitions.specs.Outcome.{Outcome, gives, HasMeaning, ◌>>=◌}
use Rattle.cpn_definitions.specs.Terms.{terms_of}
use Rattle.cpn_definitions.specs.Occurrence.{gather, PlainElement, needed_cmp, made_cmp, binds, needed_by, needs_of, transition_delay, made_by, outputs_of}
use Rattle.cpn_definitions.specs.Sound.{IsSound, IsSoundArc, IsSoundInput, IsSoundTransition}
use Rattle.cpn_definitions.specs.Times.{last_time}
use Rattle.cpn_definitions.proofs.LegalSequences.{IsBound}
use Rattle.cpn_definitions.proofs.Outcomes.{value_means, then_means}
use Rattle.cpn_definitions.proofs.RisingLists.{IsIn, each_implied, of_one_in}

-- the transition of a number of the net is one of its transitions
pub transition_in : (ts : List PlainTransition) (t : ℕ) → nat_lt t (length ts) ≡ true → IsIn (slice_index_or ts t no_transition) ts
transition_in [] t lt = absurd (below t lt)
  where
    below : (t : ℕ) → nat_lt t 0 ≡ true → ⊥
    below t lt = grind (arith, nat_tests)
transition_in (x ∷ ts) zero lt = inl refl
transition_in (x ∷ ts) (suc t) lt = inr (transition_in ts t (shorter t (length ts) lt))
  where
    shorter : (t k : ℕ) → nat_lt (suc t) (suc k) ≡ true → nat_lt t k ≡ true
    shorter t k lt = grind (arith, nat_tests)

-- so it is sound
pub sound_transition : (n : PlainNet) (t : ℕ) → IsSound n → nat_lt t (length n.transitions) ≡ true → IsSoundTransition n (transition_at n t)
sound_transition n t sound lt = of_one_in (IsSoundTransition n) n.transitions (transition_at n t) sound.transitions_sound (transition_in n.transitions t lt)

-- what arcs give has a meaning, where what each of them gives has one
pub gather_means : {A : Type 0} (f : PlainArc → Outcome (List A)) (arcs : List PlainArc) → AllByRecursion (λ arc. HasMeaning (f arc)) arcs → HasMeaning (gather f arcs)
gather_means f [] each = value_means []
gather_means f (arc ∷ arcs) each =
    then_means (f arc) (λ xs. gather f arcs >>= (λ ys. gives (xs ++ ys))) each.0
    (λ xs. then_means (gather f arcs) (λ ys. gives (xs ++ ys)) (gather_means f arcs each.1) (λ ys. value_means (xs ++ ys)))

-- so have the needs
pub needs_mean : (n : PlainNet) (e : PlainElement) → IsSound n → IsBound n e → HasMeaning (needs_of n e)
unfolding needs_of
needs_mean n e sound bound =
    let t : PlainTransition = transition_at n e.transition in
    let parts = and_parts (nat_lt e.transition (length n.transitions)) (binds n t.vars e.binding) bound in
    then_means (gather (needed_by n.functions e.binding) t.inputs) _
    (gather_means (needed_by n.functions e.binding) t.inputs (each_implied (IsSoundInput n t) (λ arc. HasMeaning (needed_by n.functions e.binding arc)) t.inputs (λ arc ok. arc_means t parts.1 arc ok) (sound_transition n e.transition sound parts.0).inputs_sound))
    (λ needs. value_means (in_order needed_cmp needs))
  where
    arc_means : (t : PlainTransition) → binds n t.vars e.binding ≡ true → (arc : PlainArc) → IsSoundInput n t arc → HasMeaning (needed_by n.functions e.binding arc)
    arc_means t is arc ok = then_means (terms_of n.functions arc.expr arc.colour e.binding 0) _ (ok.sound.means e.binding 0 is (omega arith)) (λ terms. value_means _)

-- and the outputs
pub outputs_mean : (n : PlainNet) (e : PlainElement) (time : ℕ) → IsSound n → IsBound n e → time ≤ last_time → HasMeaning (outputs_of n e time)
unfolding outputs_of
outputs_mean n e time sound bound soon =
    let t : PlainTransition = transition_at n e.transition in
    let parts = and_parts (nat_lt e.transition (length n.transitions)) (binds n t.vars e.binding) bound in
    let sound_t : IsSoundTransition n t = sound_transition n e.transition sound parts.0 in
    then_means (transition_delay n.functions t.delay e.binding time) _ (sound_t.delay_means e.binding time parts.1 soon)
    (λ delay. then_means (gather (made_by n e.binding time delay) t.outputs) _
    (gather_means (made_by n e.binding time delay) t.outputs (each_implied (IsSoundArc n t) (λ arc. HasMeaning (made_by n e.binding time delay arc)) t.outputs (λ arc ok. arc_means t parts.1 delay arc ok) sound_t.outputs_sound))
    (λ made. value_means (in_order made_cmp made)))
  where
    arc_means : (t : PlainTransition) → binds n t.vars e.binding ≡ true → (delay : ℕ) (arc : PlainArc) → IsSoundArc n t arc → HasMeaning (made_by n e.binding time delay arc)
    arc_means t is delay arc ok = then_means (terms_of n.functions arc.expr arc.colour e.binding time) _ (ok.means e.binding time is soon) (λ terms. value_means _)
