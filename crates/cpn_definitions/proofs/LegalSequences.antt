-- In a sound net a legal sequence leads from a marking of the places to a marking of the places, and each element that
-- occurs in it has a binding of its transition's variables.
use Rattle.std.proofs.Common.{◌≡◌, ℕ, Bool, true, false, ◌&&◌, cond, nat_lt, List, [], ◌∷◌, length, Some, None, Option, refl, sym, subst}
use Rattle.std.specs.List.{AllByRecursion}
use Rattle.std.proofs.lemmas.Bool.{and_parts}
use Rattle.cpn_definitions.specs.Marking.{Marking}
use Rattle.cpn_definitions.specs.Net.{PlainNet, transition_at}
use Rattle.cpn_definitions.specs.Outcome.{Outcome, gives, faults, no_meaning}
use Rattle.cpn_definitions.specs.Occurrence.{PlainElement, Needed, Made, threshold_in, binds, guard_holds, may_occur, needs_of, covered, outputs_of, subtract, add_made, exchanged, after}
use Rattle.cpn_definitions.specs.Legal.{TimedElement, Legal}
use Rattle.cpn_definitions.specs.Sound.{IsSound, IsMarking}
use Rattle.cpn_definitions.proofs.Markings.{occurred_marking}

-- what occurs takes needs and adds outputs
exchanged_parts : (latest : Needed → ℕ) (m : Marking) (o : Outcome (List Needed)) (p : Outcome (List Made)) (next : Marking) → exchanged latest m o p ≡ Some next → (needs : List Needed) × (outputs : List Made) × (p ≡ gives outputs) × (add_made outputs (subtract latest needs m) ≡ next)
exchanged_parts latest m (gives needs) (gives outputs) next is = (needs, outputs, refl, (let same : add_made outputs (subtract latest needs m) ≡ next = cc in same))
exchanged_parts latest m (gives needs) (faults fault) next is = cc
exchanged_parts latest m (gives needs) no_meaning next is = cc
exchanged_parts latest m (faults fault) p next is = cc
exchanged_parts latest m no_meaning p next is = cc

passed : {A : Type 0} (b : Bool) (o : Option A) (y : A) → cond b o None ≡ Some y → o ≡ Some y
passed true o y is = is
passed false o y is = cc

pub after_marking : (n : PlainNet) (m : Marking) (time : ℕ) (e : PlainElement) (next : Marking) → IsSound n → IsMarking n.places m → after n m time e ≡ Some next → IsMarking n.places next
unfolding after
after_marking n m time e next sound marking is =
    let parts = exchanged_parts (threshold_in n time) m (needs_of n e) (outputs_of n e time) next (passed (covered n m time e) _ next is) in
    subst (IsMarking n.places) parts.3 (occurred_marking n (threshold_in n time) parts.0 e time parts.1 m sound parts.2 marking)

pub legal_marking : (n : PlainNet) (m : Marking) (clock : ℕ) (os : List TimedElement) (last : Marking) (end : ℕ) → IsSound n → IsMarking n.places m → Legal n m clock os last end → IsMarking n.places last
legal_marking n m clock [] last end sound marking legal = subst (IsMarking n.places) (sym legal.0) marking
legal_marking n m clock (o ∷ os) last end sound marking legal =
    legal_marking n legal.2.0 o.time os last end sound (after_marking n m o.time o.element legal.2.0 sound marking legal.2.1) legal.2.2

-- the element's transition is one of the net, and its binding gives each of the variables an admitted value
abbrev pub IsBound : PlainNet → PlainElement → Type 0
IsBound n e = (nat_lt e.transition (length n.transitions) && binds n (transition_at n e.transition).vars e.binding) ≡ true

pub covered_is_bound : (n : PlainNet) (m : Marking) (time : ℕ) (e : PlainElement) → covered n m time e ≡ true → IsBound n e
unfolding covered
covered_is_bound n m time e is =
    (and_parts (nat_lt e.transition (length n.transitions) && binds n (transition_at n e.transition).vars e.binding) (guard_holds n.functions (transition_at n e.transition).guard e.binding) (and_parts (may_occur n e) _ is).0).0

pub legal_bound : (n : PlainNet) (m : Marking) (clock : ℕ) (os : List TimedElement) (last : Marking) (end : ℕ) → Legal n m clock os last end → AllByRecursion (λ (o : TimedElement). IsBound n o.element) os
legal_bound n m clock [] last end legal = tt
legal_bound n m clock (o ∷ os) last end legal = (covered_is_bound n m o.time o.element legal.1, legal_bound n legal.2.0 o.time os last end legal.2.2)
