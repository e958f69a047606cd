-- The readers among the transitions below a number: one transition more, and all of a net.
use Rattle.std.proofs.Common.{◌≡◌, ℕ, ◌+◌, ◌<◌, ◌≤◌, ◌==◌, ◌↔◌, Bool, true, false, ◌&&◌, not, List, [], ◌∷◌, length, get_or, Vec, Global, refl, sym, ap, ◌∙◌, subst, inl, inr, ⊎_elim, arith, Less, nat_cmp, lt-ltb, eqb-true, eq-eqb}
use Rattle.std.specs.List.{list_any, AllByRecursion}
use Rattle.std.proofs.lemmas.Bool.{and_parts, cases_lt, not-true}
use Rattle.std.proofs.lemmas.List.{length-map, get_or-map}
use Rattle.cpn_definitions.specs.Lists.{Rises}
use Rattle.cpn_definitions.specs.Net.{PlainArc, PlainTransition, PlainNet, no_transition, transition_at}
use Rattle.cpn_definitions.specs.Sound.{IsSound, IsSoundInput}
use Rattle.cpn_definitions.proofs.NumberTests.{compared_less}
use Rattle.cpn_definitions.proofs.RisingLists.{IsIn, in_from_contains, contains_from_in, in_append_left, in_append_right, in_append_cases, some_passes, one_that_passes, each_in, each_implied, rises_appended}
use Rattle.cpn_definitions.proofs.SoundElements.{sound_transition}
use Rattle.cpn_core.specs.declared.nets.Net.{Net}
use Rattle.cpn_core.specs.declared.nets.Transition.{Transition}
use Rattle.cpn_core.specs.Nets.{arcs_view, transition_view, net_view}
use Rattle.cpn_stages.specs.Reading.{is_of_terms, ReadsOtherwise, HasTermOn}
use Rattle.cpn_index.specs.Readers.{numbers_at, AreListed, AreReaders, has_term, reads_otherwise, bears, IsReadable, with_last, AreWith}
use Rattle.cpn_index.specs.declared.readers.Readers.{Readers}
use Rattle.cpn_index.proofs.ReaderLists.{put_behind}

-- in rising order, just the numbers below k that pass
pub record AreBelow (passes : ℕ → Bool) (k : ℕ) (xs : List ℕ) : Type 0 where
  pub rising : Rises nat_cmp xs
  pub of_one : (t : ℕ) → IsIn t xs → (t < k) × (passes t ≡ true)
  pub of_each : (t : ℕ) → t < k → passes t ≡ true → IsIn t xs

one_more : (passes : ℕ → Bool) (k : ℕ) (xs : List ℕ) → AreBelow passes k xs → AreBelow passes (k + 1) (with_last (passes k) k xs)
one_more passes k xs are = split (passes k) refl
  where
    below : AllByRecursion (λ x. x < k) xs
    below = each_in (λ x. x < k) xs (λ x has. (are.of_one x has).0)

    itself : (t : ℕ) → passes k ≡ true → IsIn t (k ∷ []) → (t < k + 1) × (passes t ≡ true)
    itself t holds (inl same) = (omega (arith, same), ap passes (sym same) ∙ holds)
    itself t holds (inr none) = absurd none

    split : (b : Bool) → passes k ≡ b → AreBelow passes (k + 1) (with_last b k xs)
    split false fails = record {
      rising = are.rising;
      of_one = λ t has. let there = are.of_one t has in (let lt = there.0 in omega (arith, lt), there.1);
      of_each = λ t lt holds. ⊎_elim (λ early. are.of_each t early holds) (λ late. let same : t ≡ k = omega (arith, lt, late) in let other : passes t ≡ false = ap passes same ∙ fails in cc) (cases_lt t k);
    }
    split true passed = subst (AreBelow passes (k + 1)) (sym (put_behind k xs below)) (record {
      rising = rises_appended nat_cmp xs (k ∷ []) are.rising (tt, tt) (each_in (λ x. AllByRecursion (λ y. nat_cmp x y ≡ Less) (k ∷ [])) xs (λ x has. (compared_less x k (are.of_one x has).0, tt)));
      of_one = λ t has. ⊎_elim (λ before. let there = are.of_one t before in (let lt = there.0 in omega (arith, lt), there.1)) (λ last. itself t passed last) (in_append_cases xs (k ∷ []) t has);
      of_each = λ t lt holds. ⊎_elim (λ early. in_append_left xs (k ∷ []) t (are.of_each t early holds)) (λ late. let same : k ≡ t = omega (arith, lt, late) in in_append_right xs (k ∷ []) t (inl same)) (cases_lt t k);
    })

-- ---- by place

-- whether an input arc of this kind, of a transition of a net, comes from the place
abbrev pub is_reader : PlainNet → (PlainArc → Bool) → ℕ → ℕ → Bool
is_reader n kind p t = list_any (bears kind p) (transition_at n t).inputs

-- for each place, those of the transitions below k
pub record AreSoFar (n : PlainNet) (kind : PlainArc → Bool) (k : ℕ) (lists : List (Vec ℕ Global)) : Type 0 where
  pub as_many : length lists ≡ length n.places
  pub listed : (p : ℕ) → p < length n.places → AreBelow (is_reader n kind p) k (numbers_at lists p)

pub transition_more
    : (n : PlainNet) (kind : PlainArc → Bool) (k : ℕ) (arcs : List PlainArc) (old new : List (Vec ℕ Global))
    → AreSoFar n kind k old → AreWith (λ p. list_any (bears kind p) arcs) k old new → (transition_at n k).inputs ≡ arcs → AreSoFar n kind (k + 1) new
transition_more n kind k arcs old new are more its = record {
  as_many = more.as_many ∙ are.as_many;
  listed = λ p lt.
      let is : numbers_at new p ≡ with_last (is_reader n kind p k) k (numbers_at old p) = more.listed p ∙ ap (λ xs. with_last (list_any (bears kind p) xs) k (numbers_at old p)) (sym its) in
      subst (AreBelow (is_reader n kind p) (k + 1)) (sym is) (one_more (is_reader n kind p) k (numbers_at old p) (are.listed p lt));
}

all_listed
    : (n : PlainNet) (kind : PlainArc → Bool) (Bears : PlainTransition → ℕ → Type 0) (lists : List (Vec ℕ Global))
    → ((t : PlainTransition) (p : ℕ) → (list_any (bears kind p) t.inputs ≡ true) ↔ Bears t p) → AreSoFar n kind (length n.transitions) lists → AreListed n Bears lists
all_listed n kind Bears lists same are = record {
  as_many = are.as_many;
  rising = λ p lt. (are.listed p lt).rising;
  exact = λ p lt t. (
    λ has. let there = (are.listed p lt).of_one t (in_from_contains (numbers_at lists p) t has) in (there.0, (same (transition_at n t) p).0 there.1),
    λ is. contains_from_in (numbers_at lists p) t ((are.listed p lt).of_each t is.0 ((same (transition_at n t) p).1 is.1)),
  );
}

-- ---- what the tests say

both : (a b : Bool) → a ≡ true → b ≡ true → (a && b) ≡ true
both a b first second = rw (first, second) refl

has_term_there : (t : PlainTransition) (p : ℕ) → (list_any (bears has_term p) t.inputs ≡ true) ↔ HasTermOn t p
has_term_there t p = (
  λ any.
      let one = one_that_passes (bears has_term p) t.inputs any in
      let parts = and_parts (one.0.place == p) (has_term one.0) one.2 in
      record { arc = one.0; is_input = contains_from_in t.inputs one.0 one.1; from_it = eqb-true one.0.place p parts.0; carries = parts.1 },
  λ has. some_passes (bears has_term p) t.inputs has.arc (in_from_contains t.inputs has.arc has.is_input) (both (has.arc.place == p) (has_term has.arc) (eq-eqb has.arc.place p has.from_it) has.carries),
)

reads_there : (t : PlainTransition) (p : ℕ) → (list_any (bears reads_otherwise p) t.inputs ≡ true) ↔ ReadsOtherwise t p
reads_there t p = (
  λ any.
      let one = one_that_passes (bears reads_otherwise p) t.inputs any in
      let parts = and_parts (one.0.place == p) (reads_otherwise one.0) one.2 in
      record { arc = one.0; is_input = contains_from_in t.inputs one.0 one.1; from_it = eqb-true one.0.place p parts.0; otherwise = not-true (is_of_terms one.0.expr) parts.1 },
  λ reads.
      some_passes (bears reads_otherwise p) t.inputs reads.arc (in_from_contains t.inputs reads.arc reads.is_input)
      (both (reads.arc.place == p) (reads_otherwise reads.arc) (eq-eqb reads.arc.place p reads.from_it) (ap not reads.otherwise)),
)

-- ---- of a net of the program

pub readers_all : (n : Net) (k : ℕ) (r : Readers) → length n.transitions.items ≤ k → k ≤ length n.transitions.items → AreSoFar (net_view n) has_term k r.with_term.items → AreSoFar (net_view n) reads_otherwise k r.otherwise.items → AreReaders (net_view n) r
readers_all n k r past within with_term otherwise = record {
  with_term = all_listed (net_view n) has_term HasTermOn r.with_term.items has_term_there (subst (λ (j : ℕ). AreSoFar (net_view n) has_term j r.with_term.items) all with_term);
  otherwise = all_listed (net_view n) reads_otherwise ReadsOtherwise r.otherwise.items reads_there (subst (λ (j : ℕ). AreSoFar (net_view n) reads_otherwise j r.otherwise.items) all otherwise);
}
  where
    all : k ≡ length (net_view n).transitions
    all = let many = length-map n.transitions.items transition_view in omega (arith, past, within, many)

transition_is : (n : Net) (t : ℕ) (tr : Transition) → t < length n.transitions.items → tr ≡ get_or n.transitions.items t tr → transition_at (net_view n) t ≡ transition_view tr
transition_is n t tr lt is = get_or-map transition_view n.transitions.items t tr no_transition lt ∙ ap transition_view (sym is)

pub inputs_are : (n : Net) (t : ℕ) (tr : Transition) → t < length n.transitions.items → tr ≡ get_or n.transitions.items t tr → (transition_at (net_view n) t).inputs ≡ arcs_view tr.inputs.items
inputs_are n t tr lt is = ap (λ (k : PlainTransition). k.inputs) (transition_is n t tr lt is)

-- the input arcs of a transition of a sound net
pub known_inputs : (n : Net) (P : PlainArc → Type 0) (t : ℕ) (tr : Transition) → ((u : PlainTransition) (arc : PlainArc) → IsSoundInput (net_view n) u arc → P arc) → IsSound (net_view n) → t < length n.transitions.items → tr ≡ get_or n.transitions.items t tr → AllByRecursion P (arcs_view tr.inputs.items)
known_inputs n P t tr so sound lt is =
    let within : t < length (net_view n).transitions = let many = length-map n.transitions.items transition_view in omega (arith, lt, many) in
    subst (AllByRecursion P) (inputs_are n t tr lt is)
    (each_implied (IsSoundInput (net_view n) (transition_at (net_view n) t)) P (transition_at (net_view n) t).inputs (so (transition_at (net_view n) t)) (sound_transition (net_view n) t sound (lt-ltb t (length (net_view n).transitions) within)).inputs_sound)

pub readable_inputs : (n : Net) (t : ℕ) (tr : Transition) → IsSound (net_view n) → t < length n.transitions.items → tr ≡ get_or n.transitions.items t tr → AllByRecursion IsReadable (arcs_view tr.inputs.items)
readable_inputs n t tr sound lt is = known_inputs n IsReadable t tr (λ u arc input. input.terms_are) sound lt is

pub placed_inputs : (n : Net) (lists : List (Vec ℕ Global)) (t : ℕ) (tr : Transition) → length lists ≡ length (net_view n).places → IsSound (net_view n) → t < length n.transitions.items → tr ≡ get_or n.transitions.items t tr → AllByRecursion (λ arc. arc.place < length lists) (arcs_view tr.inputs.items)
placed_inputs n lists t tr as_many sound lt is = known_inputs n (λ arc. arc.place < length lists) t tr (λ u arc input. let known = input.sound.place_known in omega (arith, known, as_many)) sound lt is
