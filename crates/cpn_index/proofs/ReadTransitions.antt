-- Whole searches, one after another, of the transitions in a set: those that read a place otherwise on which a value is told.
use Rattle.std.proofs.Common.{◌≡◌, ◌⊎◌, ℕ, ◌+◌, ◌<◌, ◌≤◌, true, List, [], ◌∷◌, length, nat_cmp, refl, sym, ◌∙◌, subst, inl, inr, ⊎_elim, arith, eqb-true}
use Rattle.std.specs.BTreeSet.{BTreeSet, contains}
use Rattle.std.specs.List.Sorted.{IsStrictlySortedBy}
use Rattle.std.specs.Ordering.{is_eq}
use Rattle.cpn_definitions.specs.Lists.{Rises}
use Rattle.cpn_definitions.specs.Marking.{Marking}
use Rattle.cpn_definitions.specs.Net.{PlainNet, transition_at}
use Rattle.cpn_definitions.specs.Sound.{IsSound}
use Rattle.cpn_definitions.proofs.NumberTests.{equals_itself}
use Rattle.cpn_definitions.proofs.RisingLists.{IsIn, each_in, some_passes, one_that_passes}
use Rattle.cpn_tmset.specs.Changed.{PlainChange}
use Rattle.cpn_stages.specs.Work.{IsFull}
use Rattle.cpn_due.specs.Due.{PlainEnabled}
use Rattle.cpn_index.specs.Touched.{ReadsToldOtherwise}
use Rattle.cpn_index.specs.Added.{HaveMore, HaveAll, IsOfTransition}
use Rattle.cpn_index.specs.Readers.{is_read, AreReaders}
use Rattle.cpn_index.specs.UpdateWork.{IsSum, transitions_of, IsFullIfRead}
use Rattle.cpn_index.specs.declared.readers.Readers.{Readers}
use Rattle.cpn_index.proofs.AddedElements.{still_all}
use Rattle.cpn_index.proofs.NumberSets.{equal_test}
use Rattle.cpn_index.proofs.ReadOtherwise.{otherwise_listed, listed_otherwise}
use Rattle.cpn_index.proofs.SumParts.{sum_of_transitions}

strictly_rises : (ts : List ℕ) → IsStrictlySortedBy nat_cmp ts → Rises nat_cmp ts
unfolding IsStrictlySortedBy
strictly_rises [] sorted = tt
strictly_rises (t ∷ ts) sorted = (sorted.0, strictly_rises ts sorted.1)

in_set : (set : BTreeSet ℕ) (t : ℕ) → IsIn t set.keys → contains nat_cmp set t ≡ true
in_set set t h = some_passes (λ k. is_eq (nat_cmp t k)) set.keys t h (equal_test t t ∙ equals_itself t)

of_set : (set : BTreeSet ℕ) (t : ℕ) → contains nat_cmp set t ≡ true → IsIn t set.keys
of_set set t is =
    let one = one_that_passes (λ k. is_eq (nat_cmp t k)) set.keys is in
    subst (λ (k : ℕ). IsIn k set.keys) (eqb-true one.0 t (sym (equal_test t one.0) ∙ one.2)) one.1

-- all that is enabled is there of each, but for those that are left
abbrev pub HaveAllBut : PlainNet → Marking → List ℕ → List ℕ → List PlainEnabled → Type 0
HaveAllBut n m all left elements = (t : ℕ) → IsIn t all → IsIn t left ⊎ HaveAll n m (IsOfTransition t) elements

-- the steps are bounded with those that are left
abbrev pub AreBounded : PlainNet → Marking → List ℕ → List ℕ → ℕ → ℕ → Type 0
AreBounded n m all left first now = (k : ℕ) → IsSum (IsFull n m) all k → (rest : ℕ) × IsSum (IsFull n m) left rest × (now + rest ≤ first + k)

-- one transition more
pub one_read
    : (n : PlainNet) (m : Marking) (all left rest : List ℕ) (t : ℕ) (old new : List PlainEnabled) → left ≡ t ∷ rest → HaveMore n m old new → HaveAllBut n m all left old → HaveAll n m (IsOfTransition t) new → HaveAllBut n m all rest new
one_read n m all left rest t old new next more before now u h = ⊎_elim (λ there. split (subst (IsIn u) next there)) (λ have. inr (still_all n m (IsOfTransition u) old new more have)) (before u h)
  where
    split : IsIn u (t ∷ rest) → IsIn u rest ⊎ HaveAll n m (IsOfTransition u) new
    split (inl same) = inr (subst (λ (k : ℕ). HaveAll n m (IsOfTransition k) new) same now)
    split (inr later) = inl later

-- its steps, and those that are left
pub one_bounded
    : (n : PlainNet) (m : Marking) (all left rest : List ℕ) (t first now after : ℕ) → left ≡ t ∷ rest → AreBounded n m all left first now → ((k : ℕ) → IsFull n m t k → after ≤ now + k) → AreBounded n m all rest first after
one_bounded n m all left rest t first now after next before steps k sum =
    let bound = before k sum in
    let parts = subst (λ us. IsSum (IsFull n m) us bound.0) next bound.1 in
    let own = steps parts.0 parts.2 in
    let is = parts.4 in
    let up_to = bound.2 in
    (parts.1, parts.3, omega (arith, own, is, up_to))

full_of_read : (n : PlainNet) (m : Marking) (told : List PlainChange) (ts : List ℕ) (k : ℕ) → ((t : ℕ) → IsIn t ts → ReadsToldOtherwise (transition_at n t) told) → IsSum (IsFullIfRead n m told) ts k → IsSum (IsFull n m) ts k
full_of_read n m told [] k reads sum = sum
full_of_read n m told (t ∷ ts) k reads (own, later, has, rest, is) = (own, later, ⊎_elim (λ full. full.1) (λ none. absurd (none.0 (reads t (inl refl)))) has, full_of_read n m told ts later (λ u h. reads u (inr h)) rest, is)

module _ (n : PlainNet) (m : Marking) (told : List PlainChange) (r : Readers) (set : BTreeSet ℕ) (sound : IsSound n) (readers : AreReaders n r) (sorted : IsStrictlySortedBy nat_cmp set.keys) (exact : (t : ℕ) → contains nat_cmp set t ≡ is_read r.otherwise.items told t) where
  pub of_read : (t : ℕ) → IsIn t set.keys → (t < length n.transitions) × ReadsToldOtherwise (transition_at n t) told
  of_read t h = listed_otherwise n r told t readers (sym (exact t) ∙ in_set set t h)

  pub in_read : (t : ℕ) → t < length n.transitions → ReadsToldOtherwise (transition_at n t) told → IsIn t set.keys
  in_read t lt reads = of_set set t (exact t ∙ otherwise_listed n r told t sound readers lt reads)

  -- the steps are at most those of all such transitions
  pub bounded_by_all : (left : List ℕ) (first now : ℕ) → AreBounded n m set.keys left first now → (k : ℕ) → IsSum (IsFullIfRead n m told) (transitions_of n) k → now ≤ first + k
  bounded_by_all left first now bound k sum =
      let some = sum_of_transitions (IsFullIfRead n m told) n set.keys k sum (strictly_rises set.keys sorted) (each_in (λ t. t < length n.transitions) set.keys (λ t h. (of_read t h).0)) in
      let rest = bound some.0 (full_of_read n m told set.keys some.0 (λ t h. (of_read t h).1) some.1) in
      let up_to = rest.2 in
      let most = some.2 in
      omega (arith, up_to, most)
