-- An element that is not touched is covered at the same times in both markings.
use Rattle.std.proofs.Common.{◌≡◌, ℕ, Bool, false, ◌&&◌, ◌||◌, List, [], ◌∷◌, refl, sym, ap, ap₂, ◌∙◌, inl, inr}
use Rattle.std.specs.List.{list_all, list_any}
use Rattle.cpn_definitions.specs.Marking.{Marking, tokens_at, stamps, covers}
use Rattle.cpn_definitions.specs.Outcome.{Outcome, gives, faults, no_meaning, gives_and}
use Rattle.cpn_definitions.specs.Net.{PlainNet}
use Rattle.cpn_definitions.specs.Occurrence.{PlainElement, Needed, needs_of, thresholds, threshold_in, are_covered, may_occur, covered}
use Rattle.cpn_definitions.specs.Enabled.{PlainEntry, IsEarliest}
use Rattle.cpn_definitions.proofs.RisingLists.{IsIn}
use Rattle.cpn_tmset.specs.Changed.{PlainChange, is_told, OthersStay, AreChanges}
use Rattle.cpn_index.specs.Touched.{touches, is_touched}

-- where all that changed is told, and perhaps more, others stay
pub others_stay : (told : List PlainChange) (old new : Marking) → AreChanges old new told → OthersStay told old new
others_stay told old new are = are.others

-- tests that agree on a list
all_agree : {X : Type 0} (p q : X → Bool) (xs : List X) → ((x : X) → IsIn x xs → p x ≡ q x) → list_all p xs ≡ list_all q xs
all_agree p q [] same = refl
all_agree p q (x ∷ xs) same = ap₂ (λ a b. a && b) (same x (inl refl)) (all_agree p q xs (λ y h. same y (inr h)))

or_false : (a b : Bool) → (a || b) ≡ false → (a ≡ false) × (b ≡ false)
or_false false false h = (refl, refl)
or_false a b h = cc

none_passes : {X : Type 0} (p : X → Bool) (xs : List X) (x : X) → list_any p xs ≡ false → IsIn x xs → p x ≡ false
none_passes p [] x none h = absurd h
none_passes p (y ∷ ys) x none (inl e) = ap p (sym e) ∙ (or_false (p y) (list_any p ys) none).0
none_passes p (y ∷ ys) x none (inr h) = none_passes p ys x (or_false (p y) (list_any p ys) none).1 h

module _ (told : List PlainChange) (old new : Marking) (stay : OthersStay told old new) where
  needs_untouched : (latest : Needed → ℕ) (needs : List Needed) → touches told needs ≡ false → are_covered latest new needs ≡ are_covered latest old needs
  needs_untouched latest needs none =
      all_agree (λ need. covers (stamps need.value (tokens_at new need.place)) (thresholds latest need needs)) (λ need. covers (stamps need.value (tokens_at old need.place)) (thresholds latest need needs)) needs
      (λ need h. ap (λ ss. covers ss (thresholds latest need needs)) (stay need.place need.value (none_passes (λ (other : Needed). is_told other.place other.value told) needs need none h)))

  outcome_untouched : (latest : Needed → ℕ) (o : Outcome (List Needed)) → gives_and o (touches told) ≡ false → gives_and o (are_covered latest new) ≡ gives_and o (are_covered latest old)
  outcome_untouched latest (gives needs) none = needs_untouched latest needs none
  outcome_untouched latest (faults fault) none = refl
  outcome_untouched latest no_meaning none = refl

  pub covered_untouched : (n : PlainNet) (e : PlainElement) (time : ℕ) → is_touched n told e ≡ false → covered n new time e ≡ covered n old time e
  unfolding covered
  covered_untouched n e time none = ap (λ b. may_occur n e && b) (outcome_untouched (threshold_in n time) (needs_of n e) none)

  -- and has the same earliest time
  pub earliest_untouched : (n : PlainNet) (clock : ℕ) (x : PlainEntry) → is_touched n told x.element ≡ false → IsEarliest n old clock x → IsEarliest n new clock x
  earliest_untouched n clock x none is = record {
    not_before = is.not_before;
    is_covered = covered_untouched n x.element x.earliest none ∙ is.is_covered;
    not_earlier = λ s from below. covered_untouched n x.element s none ∙ is.not_earlier s from below;
  }

  pub earliest_before : (n : PlainNet) (clock : ℕ) (x : PlainEntry) → is_touched n told x.element ≡ false → IsEarliest n new clock x → IsEarliest n old clock x
  earliest_before n clock x none is = record {
    not_before = is.not_before;
    is_covered = sym (covered_untouched n x.element x.earliest none) ∙ is.is_covered;
    not_earlier = λ s from below. sym (covered_untouched n x.element s none) ∙ is.not_earlier s from below;
  }
