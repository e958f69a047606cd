-- The least time at which an element is covered: it is the only one, there is one where the element is covered at some time,
-- and from it on the element stays covered; so the least time not before a clock is the later of the two.
use Rattle.std.proofs.Common.{◌≡◌, ℕ, ◌<◌, Bool, true, false, ◌&&◌, max, nat_lt, List, length, Option, Some, None, MatchOption, refl, sym, ap, ap₂, ◌∙◌, subst, ⊎_elim, arith, true≢false}
use Rattle.std.proofs.lemmas.Bool.{cases_lt}
use Rattle.cpn_definitions.specs.Marking.{Marking}
use Rattle.cpn_definitions.specs.Net.{PlainNet, transition_at}
use Rattle.cpn_definitions.specs.Outcome.{Fault, gives, faults, gives_and}
use Rattle.cpn_definitions.specs.Meaning.{PlainBinding}
use Rattle.cpn_definitions.specs.Occurrence.{PlainElement, Needed, needs_of, threshold, threshold_in, are_covered, binds, guard_holds, may_occur, covered}
use Rattle.cpn_definitions.specs.Enabled.{PlainEntry, IsEarliest}
use Rattle.cpn_definitions.specs.Sound.{IsMarking}
use Rattle.cpn_definitions.proofs.LeastTimes.{covered_later, has_entry}
use Rattle.cpn_definitions.proofs.UntimedPlaces.{covered_alike, marking_stamped}
use Rattle.cpn_search.specs.Found.{element_of, IsNeverCovered, IsLeastTime, not_before}

-- ---- from the needs

-- where the guard is true and there are needs, an element is covered at each time at which they are
pub covered_by_needs
    : (n : PlainNet) (m : Marking) (time : ℕ) (e : PlainElement) (needs : List Needed)
    → IsMarking n.places m → may_occur n e ≡ true → needs_of n e ≡ gives needs → covered n m time e ≡ are_covered (threshold time) m needs
unfolding covered
covered_by_needs n m time e needs marking may are =
    ap₂ (λ b o. b && gives_and o (are_covered (threshold_in n time) m)) may are ∙ sym (covered_alike n m time needs (marking_stamped n m marking))

-- the time at which the needs are covered, and at none before it, is the least
pub least_by_needs
    : (n : PlainNet) (m : Marking) (time : ℕ) (e : PlainElement) (needs : List Needed)
    → IsMarking n.places m → may_occur n e ≡ true → needs_of n e ≡ gives needs
    → are_covered (threshold time) m needs ≡ true → ((s : ℕ) → s < time → are_covered (threshold s) m needs ≡ false)
    → IsLeastTime n m e time
least_by_needs n m time e needs marking may are is not_before = record {
  not_before = omega arith;
  is_covered = covered_by_needs n m time e needs marking may are ∙ is;
  not_earlier = λ s from lt. covered_by_needs n m s e needs marking may are ∙ not_before s lt;
}

-- where its needs are not covered at any time
pub never_by_needs
    : (n : PlainNet) (m : Marking) (e : PlainElement) (needs : List Needed)
    → IsMarking n.places m → may_occur n e ≡ true → needs_of n e ≡ gives needs
    → ((time : ℕ) → are_covered (threshold time) m needs ≡ false) → IsNeverCovered n m e
never_by_needs n m e needs marking may are never time = covered_by_needs n m time e needs marking may are ∙ never time

-- what is told of the needs is told of the element
pub told_by_needs
    : (n : PlainNet) (m : Marking) (e : PlainElement) (needs : List Needed) (earliest : Option ℕ)
    → IsMarking n.places m → may_occur n e ≡ true → needs_of n e ≡ gives needs
    → MatchOption earliest ((time : ℕ) → are_covered (threshold time) m needs ≡ false) (λ time. (are_covered (threshold time) m needs ≡ true) × ((s : ℕ) → s < time → are_covered (threshold s) m needs ≡ false))
    → MatchOption earliest (IsNeverCovered n m e) (IsLeastTime n m e)
told_by_needs n m e needs None marking may are told = never_by_needs n m e needs marking may are told
told_by_needs n m e needs (Some time) marking may are told = least_by_needs n m time e needs marking may are told.0 told.1

-- ---- where an element is never covered

-- where an input inscription has a fault
pub never_by_fault : (n : PlainNet) (m : Marking) (e : PlainElement) (fault : Fault) → needs_of n e ≡ faults fault → IsNeverCovered n m e
unfolding covered
never_by_fault n m e fault are time = ap (λ o. may_occur n e && gives_and o (are_covered (threshold_in n time) m)) are ∙ and_false (may_occur n e)
  where
    and_false : (b : Bool) → (b && false) ≡ false
    and_false true = refl
    and_false false = refl

-- where its guard is not true
pub never_by_guard : (n : PlainNet) (m : Marking) (t : ℕ) (b : PlainBinding) → guard_holds n.functions (transition_at n t).guard b ≡ false → IsNeverCovered n m (element_of t b)
unfolding covered
never_by_guard n m t b is time =
    ap (λ c. c && gives_and (needs_of n (element_of t b)) (are_covered (threshold_in n time) m))
    (ap (λ c. nat_lt t (length n.transitions) && binds n (transition_at n t).vars b && c) is ∙ and_false (nat_lt t (length n.transitions) && binds n (transition_at n t).vars b))
  where
    and_false : (b : Bool) → (b && false) ≡ false
    and_false true = refl
    and_false false = refl

-- ---- the least time, and a clock

-- an element is covered at its least time, so not at no time
pub not_never : (n : PlainNet) (m : Marking) (clock : ℕ) (x : PlainEntry) → IsEarliest n m clock x → IsNeverCovered n m x.element → ⊥
not_never n m clock x is never = true≢false (sym is.is_covered ∙ never x.earliest)

-- two least times of an element are the same
pub least_is_one : (n : PlainNet) (m : Marking) (clock time : ℕ) (x : PlainEntry) → IsEarliest n m clock x → IsEarliest n m clock (record { earliest = time; element = x.element }) → x.earliest ≡ time
least_is_one n m clock time x is other =
    ⊎_elim (λ before. absurd (true≢false (sym is.is_covered ∙ other.not_earlier x.earliest is.not_before before)))
    (λ upto. ⊎_elim (λ after. absurd (true≢false (sym other.is_covered ∙ is.not_earlier time other.not_before after))) (λ down. omega arith) (cases_lt time x.earliest))
    (cases_lt x.earliest time)

-- the least time not before a clock is the later of the clock and the least time
pub from_clock : (n : PlainNet) (m : Marking) (clock : ℕ) (y : PlainEntry) → IsEarliest n m 0 y → IsEarliest n m clock (not_before clock y)
from_clock n m clock y is = record {
  not_before = omega arith;
  is_covered = covered_later n m y.earliest (max clock y.earliest) y.element (omega arith) is.is_covered;
  not_earlier = λ s from lt. is.not_earlier s (omega arith) (omega arith);
}

-- and an element with a least time not before a clock has a least time
pub from_start : (n : PlainNet) (m : Marking) (clock : ℕ) (x : PlainEntry) → IsEarliest n m clock x → (time : ℕ) × IsEarliest n m 0 (record x { earliest = time }) × (max clock time ≡ x.earliest)
from_start n m clock x is =
    let entry = has_entry n m 0 x.earliest x.element is.is_covered in
    let least : IsEarliest n m 0 (record { earliest = entry.0.earliest; element = x.element }) = subst (λ e. IsEarliest n m 0 (record { earliest = entry.0.earliest; element = e })) entry.1 entry.2 in
    (entry.0.earliest, least, sym (least_is_one n m clock (max clock entry.0.earliest) x is (from_clock n m clock (record { earliest = entry.0.earliest; element = x.element }) least)))
