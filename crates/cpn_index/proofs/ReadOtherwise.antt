-- The transitions that are listed for the places of what is told are those that read one of these places otherwise.
use Rattle.std.proofs.Common.{◌≡◌, ℕ, zero, suc, ◌<◌, ◌==◌, true, List, [], ◌∷◌, length, Vec, Global, Contains, refl, sym, ap, inl, subst, arith, eqb-true}
use Rattle.std.proofs.lemmas.Bool.{and_parts, and_from, lt-ltb}
use Rattle.std.proofs.lemmas.Cmp.{tied_itself}
use Rattle.std.specs.Ordering.{is_eq, nat_cmp}
use Rattle.cpn_definitions.specs.Lists.{Rises}
use Rattle.cpn_definitions.specs.Value.{PlainValue}
use Rattle.cpn_definitions.specs.Order.{same_value}
use Rattle.cpn_definitions.specs.ValueOrder.{value_cmp_total}
use Rattle.cpn_definitions.specs.Net.{PlainArc, PlainNet, transition_at}
use Rattle.cpn_definitions.specs.Sound.{IsSound, IsSoundInput}
use Rattle.cpn_definitions.proofs.NumberTests.{equals_itself}
use Rattle.cpn_definitions.proofs.RisingLists.{IsIn, in_from_contains, contains_from_in, of_one_in, some_passes, one_that_passes}
use Rattle.cpn_definitions.proofs.SoundElements.{sound_transition}
use Rattle.cpn_tmset.specs.Changed.{PlainChange, is_change, is_told}
use Rattle.cpn_stages.specs.Reading.{HasTermOn}
use Rattle.cpn_index.specs.Touched.{ReadsToldOtherwise}
use Rattle.cpn_index.specs.Readers.{numbers_at, is_one_of, is_read, AreReaders}
use Rattle.cpn_index.specs.declared.readers.Readers.{Readers}

-- the place of an input arc is one of the net
input_known : (n : PlainNet) (t : ℕ) (arc : PlainArc) → IsSound n → t < length n.transitions → Contains (transition_at n t).inputs arc → arc.place < length n.places
input_known n t arc sound lt input =
    (of_one_in (IsSoundInput n (transition_at n t)) (transition_at n t).inputs arc (sound_transition n t sound (lt-ltb t (length n.transitions) lt)).inputs_sound (in_from_contains (transition_at n t).inputs arc input)).sound.place_known

-- each transition that has a term on the place is listed there
pub term_listed : (n : PlainNet) (r : Readers) (place t : ℕ) → IsSound n → AreReaders n r → t < length n.transitions → HasTermOn (transition_at n t) place → IsIn t (numbers_at r.with_term.items place)
term_listed n r place t sound are lt has =
    let known : place < length n.places = subst (λ (p : ℕ). p < length n.places) has.from_it (input_known n t has.arc sound lt has.is_input) in
    in_from_contains (numbers_at r.with_term.items place) t ((are.with_term.exact place known t).1 (lt, has))

-- what is told is one of what is told
one_told : (p : ℕ) (v : PlainValue) (told : List PlainChange) → is_told p v told ≡ true → (change : PlainChange) × IsIn change told × (p ≡ change.place)
one_told p v told is =
    let one = one_that_passes (is_change p v) told is in
    (one.0, one.1, eqb-true p one.0.place (and_parts (p == one.0.place) (same_value v one.0.value) one.2).0)

one_of : (t : ℕ) (ts : List ℕ) → IsIn t ts → is_one_of ts t ≡ true
one_of t ts h = some_passes (λ number. t == number) ts t h (equals_itself t)

of_one : (t : ℕ) (ts : List ℕ) → is_one_of ts t ≡ true → IsIn t ts
of_one t ts is =
    let one = one_that_passes (λ number. t == number) ts is in
    subst (λ (k : ℕ). IsIn k ts) (sym (eqb-true t one.0 one.2)) one.1

-- each transition that reads such a place otherwise is listed
pub otherwise_listed : (n : PlainNet) (r : Readers) (told : List PlainChange) (t : ℕ) → IsSound n → AreReaders n r → t < length n.transitions → ReadsToldOtherwise (transition_at n t) told → is_read r.otherwise.items told t ≡ true
otherwise_listed n r told t sound are lt reads =
    let one = one_told reads.place reads.value told reads.is_told_there in
    let known : reads.place < length n.places = subst (λ (p : ℕ). p < length n.places) reads.reads.from_it (input_known n t reads.reads.arc sound lt reads.reads.is_input) in
    let here : IsIn t (numbers_at r.otherwise.items reads.place) = in_from_contains (numbers_at r.otherwise.items reads.place) t ((are.otherwise.exact reads.place known t).1 (lt, reads.reads)) in
    some_passes (λ change. is_one_of (numbers_at r.otherwise.items change.place) t) told one.0 one.1 (one_of t (numbers_at r.otherwise.items one.0.place) (subst (λ (p : ℕ). IsIn t (numbers_at r.otherwise.items p)) one.2 here))

-- a place that has a list is one of the net
listed_known : (n : PlainNet) (lists : List (Vec ℕ Global)) (p t : ℕ) → length lists ≡ length n.places → IsIn t (numbers_at lists p) → p < length n.places
listed_known n lists p t many h = subst (λ (k : ℕ). p < k) many (within lists p h)
  where
    within : (ls : List (Vec ℕ Global)) (p : ℕ) → IsIn t (numbers_at ls p) → p < length ls
    within [] p h = absurd h
    within (l ∷ ls) zero h = omega arith
    within (l ∷ ls) (suc p) h = let rest = within ls p h in omega (arith, rest)

-- and each that is listed is one of the net, and reads such a place otherwise
pub listed_otherwise : (n : PlainNet) (r : Readers) (told : List PlainChange) (t : ℕ) → AreReaders n r → is_read r.otherwise.items told t ≡ true → (t < length n.transitions) × ReadsToldOtherwise (transition_at n t) told
listed_otherwise n r told t are is =
    let one = one_that_passes (λ change. is_one_of (numbers_at r.otherwise.items change.place) t) told is in
    let here = of_one t (numbers_at r.otherwise.items one.0.place) one.2 in
    let its = (are.otherwise.exact one.0.place (listed_known n r.otherwise.items one.0.place t are.otherwise.as_many here) t).0 (contains_from_in (numbers_at r.otherwise.items one.0.place) t here) in
    (its.0, record { place = one.0.place; value = one.0.value; is_told_there = some_passes (is_change one.0.place one.0.value) told one.0 one.1 (change_itself one.0); reads = its.1 })
  where
    change_itself : (change : PlainChange) → is_change change.place change.value change ≡ true
    change_itself change = and_from _ _ (equals_itself change.place) (ap is_eq (tied_itself value_cmp_total change.value))

-- each that is listed for a place is a transition of the net that has a term there; and they rise
pub listed_term : (n : PlainNet) (r : Readers) (place t : ℕ) → AreReaders n r → IsIn t (numbers_at r.with_term.items place) → t < length n.transitions
listed_term n r place t are h = ((are.with_term.exact place (listed_known n r.with_term.items place t are.with_term.as_many h) t).0 (contains_from_in (numbers_at r.with_term.items place) t h)).0

pub listed_rise : (n : PlainNet) (r : Readers) (place : ℕ) → AreReaders n r → Rises nat_cmp (numbers_at r.with_term.items place)
listed_rise n r place are = split (numbers_at r.with_term.items place) refl
  where
    split : (ts : List ℕ) → numbers_at r.with_term.items place ≡ ts → Rises nat_cmp (numbers_at r.with_term.items place)
    split [] none = subst (Rises nat_cmp) (sym none) tt
    split (t ∷ ts) some = are.with_term.rising place (listed_known n r.with_term.items place t are.with_term.as_many (subst (IsIn t) (sym some) (inl refl)))
