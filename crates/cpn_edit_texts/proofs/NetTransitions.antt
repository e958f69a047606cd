-- A transition of the program's net, and what is asked of it.
use Rattle.std.proofs.Common.{◌≡◌, ◌<◌, ℕ, zero, suc, List, [], ◌∷◌, length, map, get_or, refl, sym, ap, ◌∙◌, subst, arith}
use Rattle.std.specs.List.{AllByRecursion}
use Rattle.std.proofs.lemmas.List.{get_or-map}
use Rattle.cpn_core.specs.Nets.{net_view, transition_view}
use Rattle.cpn_core.specs.declared.nets.Net.{Net}
use Rattle.cpn_core.specs.declared.nets.Transition.{Transition}
use Rattle.cpn_definitions.specs.Bindable.{binding_terms}
use Rattle.cpn_definitions.specs.Inscription.{PlainExpr}
use Rattle.cpn_definitions.specs.Net.{PlainArc, PlainTransition, PlainNet, no_transition, transition_at}
use Rattle.cpn_definitions.specs.Sound.{IsSoundInput, IsSoundTransition, IsSound}
use Rattle.cpn_definitions.proofs.RisingLists.{each_implied}
use Rattle.cpn_accepted.specs.Completed.{IsCompleted}
use Rattle.cpn_monitor.specs.Monitors.{PlainMonitor, PlainMeasure, counts, sizes, values, stops_by_count, stops_by_size}
use Rattle.cpn_monitor_texts.specs.Accepted.{IsAcceptedMeasure, AreAcceptedMonitors}
use Rattle.cpn_monitor_texts.proofs.ValuesOver.{over_parts, variables_declared}
use Rattle.cpn_typing.specs.AcceptedTransitions.{HasItsVariables}
use Rattle.cpn_typing.specs.Consistency.{IsConsistent}
use Rattle.cpn_typing.specs.Names.{Declared}
use Rattle.cpn_edit_texts.specs.Edits.{with_guard}
use Rattle.cpn_edit_texts.specs.Measured.{IsDeclared}

-- the transition at an index, as it is seen
pub its_transition : (net : Net) (t : ℕ) (transition : Transition) → t < length net.transitions.items → transition ≡ get_or net.transitions.items t transition → transition_view transition ≡ transition_at (net_view net) t
its_transition net t transition lt at = sym (get_or-map transition_view net.transitions.items t transition no_transition lt ∙ ap transition_view (sym at))

item_of : {A : Type 0} (P : A → Type 0) (d : A) (xs : List A) (i : ℕ) → i < length xs → AllByRecursion P xs → P (get_or xs i d)
item_of P d [] i lt all = absurd (omega arith)
item_of P d (x ∷ xs) zero lt all = all.0
item_of P d (x ∷ xs) (suc i) lt all = item_of P d xs i (omega arith) all.1

-- what holds of all items as they are seen holds of each
pub item_seen : {X Y : Type 0} (P : Y → Type 0) (view : X → Y) (xs : List X) (i : ℕ) (x : X) → i < length xs → x ≡ get_or xs i x → AllByRecursion P (map view xs) → P (view x)
item_seen P view [] i x lt is all = absurd (omega arith)
item_seen P view (y ∷ xs) zero x lt is all = subst (λ z. P (view z)) (sym is) all.0
item_seen P view (y ∷ xs) (suc i) x lt is all = item_seen P view xs i x (omega arith) is all.1

-- the input arcs of a transition of a sound net carry their terms
pub terms_carried : (n : PlainNet) (t : ℕ) → IsSound n → t < length n.transitions → AllByRecursion (λ (arc : PlainArc). arc.terms ≡ binding_terms arc.expr) (transition_at n t).inputs
terms_carried n t sound lt =
    let its = item_of (IsSoundTransition n) no_transition n.transitions t lt sound.transitions_sound in
    each_implied (IsSoundInput n (transition_at n t)) (λ (arc : PlainArc). arc.terms ≡ binding_terms arc.expr) (transition_at n t).inputs (λ arc is. is.terms_are) its.inputs_sound

-- a transition that has all of another but its guard and its variables
pub completed_is
    : (old : PlainTransition) (conjuncts : List PlainExpr) (t : PlainTransition)
    → t.name ≡ old.name → t.guard ≡ conjuncts → t.delay ≡ old.delay → t.inputs ≡ old.inputs → t.outputs ≡ old.outputs
    → HasItsVariables t
    → IsCompleted (with_guard old conjuncts) t
completed_is old conjuncts t name guard delay inputs outputs its = record { same = rw (← name, ← guard, ← delay, ← inputs, ← outputs) refl; variables = its }

-- the variables of what accepted monitors measure are declared
measure_declared : (ds : Declared) → IsConsistent ds → (n : PlainNet) (m : PlainMeasure) → IsAcceptedMeasure ds n m → IsDeclared ds m
measure_declared ds good n (counts t) is = tt
measure_declared ds good n (sizes p) is = tt
measure_declared ds good n (values t e) is = variables_declared ds good is.1.0 e (over_parts ds (transition_at n t).vars is.1.0 e is.1.1).accepted
measure_declared ds good n (stops_by_count t number) is = tt
measure_declared ds good n (stops_by_size p bound number) is = tt

pub monitors_declared : (ds : Declared) → IsConsistent ds → (n : PlainNet) (ms : List PlainMonitor) → AreAcceptedMonitors ds n ms → AllByRecursion (λ (m : PlainMonitor). IsDeclared ds m.measure) ms
monitors_declared ds good n ms all = each_implied (λ (m : PlainMonitor). IsAcceptedMeasure ds n m.measure) (λ (m : PlainMonitor). IsDeclared ds m.measure) ms (λ m. measure_declared ds good n m.measure) all
