-- An update has a bound of its steps, and one bound alone.
use Rattle.std.proofs.Common.{◌≡◌, ◌⊎◌, ℕ, ◌+◌, ◌<◌, ◌≤◌, ◌==◌, Bool, true, false, not, ◌&&◌, List, [], ◌∷◌, inl, inr, ⊎_elim, refl, sym, ap, ap₂, ◌∙◌, subst, arith, eqb-true, length}
use Rattle.std.specs.List.{list_any, range_with_len}
use Rattle.std.proofs.lemmas.Bool.{and_parts, and_from, lt-ltb}
use Rattle.cpn_definitions.specs.Marking.{Marking}
use Rattle.cpn_definitions.specs.Net.{PlainArc, PlainTransition, PlainNet, transition_at}
use Rattle.cpn_definitions.specs.Sound.{IsSound}
use Rattle.cpn_definitions.specs.ValueOrder.{same_value_refl}
use Rattle.cpn_definitions.specs.Order.{same_value}
use Rattle.cpn_definitions.specs.Enabled.{PlainEntry}
use Rattle.cpn_definitions.proofs.NumberTests.{equals_itself}
use Rattle.cpn_definitions.proofs.RisingLists.{in_from_contains, contains_from_in, some_passes, one_that_passes}
use Rattle.cpn_definitions.proofs.SoundElements.{sound_transition}
use Rattle.cpn_tmset.specs.Changed.{PlainChange, is_change}
use Rattle.cpn_stages.specs.Reading.{is_of_terms}
use Rattle.cpn_stages.specs.Work.{IsFull, IsPinned}
use Rattle.cpn_stages.proofs.CountedTries.{one_full}
use Rattle.cpn_stages.proofs.CountedPinned.{one_pinned}
use Rattle.cpn_search.specs.declared.plan.Plan.{Plan}
use Rattle.cpn_search.specs.declared.plans.Plans.{Plans}
use Rattle.cpn_search.specs.PlannedNets.{IsPlan, ArePlansFrom, IsPlanned}
use Rattle.cpn_index.proofs.CountedStages.{HasNumber, some_full, some_pinned}
use Rattle.cpn_index.specs.Touched.{ReadsToldOtherwise}
use Rattle.cpn_index.specs.UpdateWork.{IsSum, transitions_of, IsPinnedInAll, IsFullIfRead, gone, IsUpdateWork}

-- ---- at most one

one_sum : {A : Type 0} (Has : A → ℕ → Type 0) → ((x : A) (j k : ℕ) → Has x j → Has x k → j ≡ k) → (xs : List A) (j k : ℕ) → IsSum Has xs j → IsSum Has xs k → j ≡ k
one_sum Has one [] j k first second = first ∙ sym second
one_sum Has one (x ∷ xs) j k (own, later, is_own, is_later, is) (own', later', is_own', is_later', is') =
    is ∙ ap₂ (λ a b. a + b) (one x own own' is_own is_own') (one_sum Has one xs later later' is_later is_later') ∙ sym is'

one_full_if_read : (n : PlainNet) (m : Marking) (told : List PlainChange) (t j k : ℕ) → IsFullIfRead n m told t j → IsFullIfRead n m told t k → j ≡ k
one_full_if_read n m told t j k (inl first) (inl second) = one_full n m t j k first.1 second.1
one_full_if_read n m told t j k (inl first) (inr second) = absurd (second.0 first.0)
one_full_if_read n m told t j k (inr first) (inl second) = absurd (first.0 second.0)
one_full_if_read n m told t j k (inr first) (inr second) = first.1 ∙ sym second.1

pub one_bound : (n : PlainNet) (m : Marking) (told : List PlainChange) (old new : List PlainEntry) (j k : ℕ) → IsUpdateWork n m told old new j → IsUpdateWork n m told old new k → j ≡ k
one_bound n m told old new j k first second =
    let pinned : first.pinned ≡ second.pinned = one_sum (IsPinnedInAll n m) (λ change a b is other. one_sum (λ t own. IsPinned n m t change.place change.value own) (λ t. one_pinned n m t change.place change.value) (transitions_of n) a b is other) told first.pinned second.pinned first.pinned_is second.pinned_is in
    let full : first.full ≡ second.full = one_sum (IsFullIfRead n m told) (one_full_if_read n m told) (transitions_of n) first.full second.full first.full_is second.full_is in
    first.sum_is ∙ ap₂ (λ a b. a + b + length (gone old new)) pinned full ∙ sym second.sum_is

-- ---- and one there is

-- a transition reads a place otherwise on which a value is told, or it does not
reads_or_not : (t : PlainTransition) (told : List PlainChange) → ReadsToldOtherwise t told ⊎ (ReadsToldOtherwise t told → ⊥)
reads_or_not t told = split (list_any reads t.inputs) refl
  where
    reads : PlainArc → Bool
    reads arc = not (is_of_terms arc.expr) && list_any (λ (change : PlainChange). arc.place == change.place) told

    of_not : (b : Bool) → not b ≡ true → b ≡ false
    of_not true is = cc
    of_not false is = refl

    passes : ReadsToldOtherwise t told → list_any reads t.inputs ≡ true
    passes it =
        let change = one_that_passes (is_change it.place it.value) told it.is_told_there in
        let here = (and_parts (it.place == change.0.place) (same_value it.value change.0.value) change.2).0 in
        some_passes reads t.inputs it.reads.arc (in_from_contains t.inputs it.reads.arc it.reads.is_input)
        (and_from _ _ (ap not it.reads.otherwise) (some_passes (λ (c : PlainChange). it.reads.arc.place == c.place) told change.0 change.1 (subst (λ (p : ℕ). (p == change.0.place) ≡ true) (sym it.reads.from_it) here)))

    split : (test : Bool) → list_any reads t.inputs ≡ test → ReadsToldOtherwise t told ⊎ (ReadsToldOtherwise t told → ⊥)
    split true is =
        let one = one_that_passes reads t.inputs is in
        let parts = and_parts (not (is_of_terms one.0.expr)) (list_any (λ (c : PlainChange). one.0.place == c.place) told) one.2 in
        let change = one_that_passes (λ (c : PlainChange). one.0.place == c.place) told parts.1 in
        inl (record {
          place = change.0.place;
          value = change.0.value;
          is_told_there = some_passes (is_change change.0.place change.0.value) told change.0 change.1 (and_from _ _ (equals_itself change.0.place) (same_value_refl change.0.value));
          reads = record { arc = one.0; is_input = contains_from_in t.inputs one.0 one.1; from_it = eqb-true one.0.place change.0.place change.2; otherwise = of_not (is_of_terms one.0.expr) parts.0 };
        })
    split false is = inr (λ it. let does = passes it in cc)

some_sum : {A : Type 0} (Has : A → ℕ → Type 0) → ((x : A) → HasNumber (Has x)) → (xs : List A) → HasNumber (IsSum Has xs)
some_sum Has each [] = record { number = 0; has = refl }
some_sum Has each (x ∷ xs) =
    let own = each x in
    let later = some_sum Has each xs in
    record { number = own.number + later.number; has = (own.number, later.number, own.has, later.has, refl) }

module _ (n : PlainNet) (plans : Plans) (sound : IsSound n) (planned : IsPlanned n plans) where
  -- over all transitions, which have plans
  sum_of_plans : (Has : ℕ → ℕ → Type 0) → ((t : ℕ) (plan : Plan) → t < length n.transitions → IsPlan n t plan → HasNumber (Has t)) → (a : ℕ) (ps : List Plan) → ArePlansFrom n a ps → a + length ps ≤ length n.transitions → HasNumber (IsSum Has (range_with_len a (length ps)))
  sum_of_plans Has each a [] are within = record { number = 0; has = refl }
  sum_of_plans Has each a (plan ∷ ps) are within =
      let own = each a plan (omega (arith, within)) are.0 in
      let later = sum_of_plans Has each (a + 1) ps are.1 (omega (arith, within)) in
      record { number = own.number + later.number; has = (own.number, later.number, own.has, later.has, refl) }

  in_all : (Has : ℕ → ℕ → Type 0) → ((t : ℕ) (plan : Plan) → t < length n.transitions → IsPlan n t plan → HasNumber (Has t)) → HasNumber (IsSum Has (transitions_of n))
  in_all Has each = let many = planned.each in subst (λ (k : ℕ). HasNumber (IsSum Has (range_with_len 0 k))) many (sum_of_plans Has each 0 plans.plans.items planned.are (omega (arith, many)))

  pub some_bound : (m : Marking) (told : List PlainChange) (old new : List PlainEntry) → HasNumber (IsUpdateWork n m told old new)
  some_bound m told old new =
      let pinned = some_sum (IsPinnedInAll n m) (λ change. in_all (λ t own. IsPinned n m t change.place change.value own) (λ t plan lt is. some_pinned n m t _ sound.functions_closed (sound_transition n t sound (lt-ltb t (length n.transitions) lt)).listed is.stages change.place change.value)) told in
      let full = in_all (IsFullIfRead n m told) (λ t plan lt is. if_read t (some_full n m t _ sound.functions_closed (sound_transition n t sound (lt-ltb t (length n.transitions) lt)).listed is.stages)) in
      record { number = pinned.number + full.number + length (gone old new); has = record { pinned = pinned.number; pinned_is = pinned.has; full = full.number; full_is = full.has; sum_is = refl } }
    where
      if_read : (t : ℕ) → HasNumber (IsFull n m t) → HasNumber (IsFullIfRead n m told t)
      if_read t full = ⊎_elim (λ reads. record { number = full.number; has = inl (reads, full.has) }) (λ otherwise. record { number = 0; has = inr (otherwise, refl) }) (reads_or_not (transition_at n t) told)
