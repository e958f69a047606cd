-- What a search knows of a transition of a sound net, and of a marking of the net's places.
use Rattle.std.proofs.Common.{◌≡◌, ℕ, zero, suc, ◌<◌, true, false, nat_lt, List, [], ◌∷◌, map, length, get_or, slice_index_or, refl, sym, ap, ◌∙◌, subst, arith, lt-ltb}
use Rattle.std.proofs.lemmas.List.{length-map}
use Rattle.cpn_definitions.specs.Marking.{Marking}
use Rattle.cpn_definitions.specs.Net.{PlainTransition, no_transition, transition_at}
use Rattle.cpn_definitions.specs.Outcome.{HasMeaning}
use Rattle.cpn_definitions.specs.Meaning.{PlainBinding}
use Rattle.cpn_definitions.specs.Occurrence.{binds, guard_holds, may_occur, needs_of}
use Rattle.cpn_definitions.specs.Sound.{IsSound}
use Rattle.cpn_definitions.proofs.SoundElements.{sound_transition, needs_mean}
use Rattle.cpn_core.specs.declared.nets.Net.{Net}
use Rattle.cpn_core.specs.declared.nets.Transition.{Transition}
use Rattle.cpn_core.specs.Nets.{transition_view, net_view}
use Rattle.cpn_elements.specs.Guards.{GuardHasMeaning}
use Rattle.cpn_search.specs.Found.{element_of, IsNeverCovered}
use Rattle.cpn_search.proofs.LeastTimes.{never_by_guard}

-- ---- the transition of a number

transition_among : (ts : List Transition) (t : ℕ) (tr : Transition) → t < length ts → slice_index_or (map transition_view ts) t no_transition ≡ transition_view (get_or ts t tr)
transition_among [] t tr lt = absurd (omega arith)
transition_among (x ∷ ts) zero tr lt = refl
transition_among (x ∷ ts) (suc t) tr lt = transition_among ts t tr (omega arith)

-- a transition of the net is the one of its number
pub transition_is : (n : Net) (t : ℕ) (tr : Transition) → t < length n.transitions.items → tr ≡ get_or n.transitions.items t tr → transition_at (net_view n) t ≡ transition_view tr
transition_is n t tr lt is = transition_among n.transitions.items t tr lt ∙ sym (ap transition_view is)

-- a number of a transition is below the number of transitions
pub in_range : (n : Net) (t : ℕ) → t < length n.transitions.items → nat_lt t (length (net_view n).transitions) ≡ true
in_range n t lt = ap (nat_lt t) (length-map n.transitions.items transition_view) ∙ lt-ltb t (length n.transitions.items) lt

-- ---- what may be asked

-- the guard of a transition of a sound net has a meaning under each binding of the transition's variables
pub guard_means
    : (n : Net) (t : ℕ) (tr : Transition) (b : PlainBinding)
    → IsSound (net_view n) → t < length n.transitions.items → tr ≡ get_or n.transitions.items t tr → binds (net_view n) (transition_at (net_view n) t).vars b ≡ true
    → GuardHasMeaning (net_view n).functions (transition_view tr).guard b
guard_means n t tr b sound lt is bound =
    subst (λ (k : PlainTransition). GuardHasMeaning (net_view n).functions k.guard b) (transition_is n t tr lt is) ((sound_transition (net_view n) t sound (in_range n t lt)).guard_means b bound)

-- and so have the needs
pub needs_have_meaning
    : (n : Net) (t : ℕ) (b : PlainBinding)
    → IsSound (net_view n) → t < length n.transitions.items → binds (net_view n) (transition_at (net_view n) t).vars b ≡ true
    → HasMeaning (needs_of (net_view n) (element_of t b))
needs_have_meaning n t b sound lt bound = needs_mean (net_view n) (element_of t b) sound (rw (in_range n t lt, bound) refl)

-- an element of a transition of the net whose guard is true may occur
pub may
    : (n : Net) (t : ℕ) (tr : Transition) (b : PlainBinding)
    → t < length n.transitions.items → tr ≡ get_or n.transitions.items t tr → binds (net_view n) (transition_at (net_view n) t).vars b ≡ true
    → true ≡ guard_holds (net_view n).functions (transition_view tr).guard b
    → may_occur (net_view n) (element_of t b) ≡ true
may n t tr b lt is bound guarded =
    let its : guard_holds (net_view n).functions (transition_at (net_view n) t).guard b ≡ true = ap (λ (k : PlainTransition). guard_holds (net_view n).functions k.guard b) (transition_is n t tr lt is) ∙ sym guarded in
    rw (in_range n t lt, bound, its) refl

-- one whose guard is not true is never covered
pub never_guarded
    : (n : Net) (m : Marking) (t : ℕ) (tr : Transition) (b : PlainBinding)
    → t < length n.transitions.items → tr ≡ get_or n.transitions.items t tr
    → false ≡ guard_holds (net_view n).functions (transition_view tr).guard b
    → IsNeverCovered (net_view n) m (element_of t b)
never_guarded n m t tr b lt is fails =
    never_by_guard (net_view n) m t b (ap (λ (k : PlainTransition). guard_holds (net_view n).functions k.guard b) (transition_is n t tr lt is) ∙ sym fails)
