-- A touched element has a told value at a binding term, or its transition reads the place of one otherwise.
use Rattle.std.proofs.Common.{◌≡◌, ◌<◌, ◌⊎◌, ℕ, true, nat_lt, List, length, ⊎_elim, inl, inr, ltb-true}
use Rattle.std.proofs.lemmas.Bool.{and_parts}
use Rattle.cpn_definitions.specs.Value.{PlainValue}
use Rattle.cpn_definitions.specs.Marking.{Marking}
use Rattle.cpn_definitions.specs.Net.{PlainTransition, PlainNet, transition_at}
use Rattle.cpn_definitions.specs.Occurrence.{PlainElement, Needed, needs_of, covered}
use Rattle.cpn_definitions.proofs.LegalSequences.{covered_is_bound}
use Rattle.cpn_definitions.proofs.Outcomes.{gives_and_parts}
use Rattle.cpn_definitions.proofs.RisingLists.{one_that_passes}
use Rattle.cpn_tmset.specs.Changed.{PlainChange, is_told}
use Rattle.cpn_stages.specs.TermsWith.{HasTermWith}
use Rattle.cpn_stages.proofs.NeededTerms.{need_is_found}
use Rattle.cpn_index.specs.Touched.{touches, is_touched, ReadsToldOtherwise}

-- Where an element is found: in what its transition reads otherwise, or at a told value of a binding term.
pub record HasTermTold (t : PlainTransition) (told : List PlainChange) (e : PlainElement) : Type 0 where
  pub place : ℕ
  pub value : PlainValue
  pub is_told_there : is_told place value told ≡ true
  pub has : HasTermWith t place value e.binding

pub touched_is_found : (n : PlainNet) (told : List PlainChange) (e : PlainElement) → is_touched n told e ≡ true → ReadsToldOtherwise (transition_at n e.transition) told ⊎ HasTermTold (transition_at n e.transition) told e
touched_is_found n told e is =
    let needs = gives_and_parts (needs_of n e) (touches told) is in
    let one = one_that_passes (λ (need : Needed). is_told need.place need.value told) needs.0 needs.2 in
    ⊎_elim (λ other. inl (record { place = one.0.place; value = one.0.value; is_told_there = one.2; reads = other }))
    (λ has. inr (record { place = one.0.place; value = one.0.value; is_told_there = one.2; has = has })) (need_is_found n e needs.0 one.0 needs.1 one.1)

-- the transition of a covered element is one of the net
pub of_the_net : (n : PlainNet) (m : Marking) (time : ℕ) (e : PlainElement) → covered n m time e ≡ true → e.transition < length n.transitions
of_the_net n m time e is = ltb-true e.transition (length n.transitions) (and_parts (nat_lt e.transition (length n.transitions)) _ (covered_is_bound n m time e is)).0
