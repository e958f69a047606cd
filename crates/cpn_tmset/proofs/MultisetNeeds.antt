-- A multiset on a place, and needs: each appearance of a value is a need for it there, without an offset. The one is covered where the
-- others are, and takes what they take.
use Rattle.std.proofs.Common.{◌≡◌, ℕ, zero, suc, ◌+◌, ◌<◌, Bool, true, false, cond, ◌&&◌, List, [], ◌∷◌, ◌++◌, map, replicate, append-nil, refl, ap, ap₂, ◌∙◌, arith, is_gt}
use Rattle.std.specs.List.{AllByRecursion, filter, list_all}
use Rattle.std.specs.Ordering.{nat_cmp}
use Rattle.std.proofs.lemmas.Cmp.{nat_cmp_total, tied_itself}
use Rattle.cpn_definitions.specs.Value.{PlainValue}
use Rattle.cpn_definitions.specs.Order.{same_value}
use Rattle.cpn_definitions.specs.ValueOrder.{same_value_refl}
use Rattle.cpn_definitions.specs.Lists.{IsInOrder}
use Rattle.cpn_definitions.specs.Marking.{Marking, tokens_at, on_place, stamps, covers, without_token}
use Rattle.cpn_definitions.specs.Occurrence.{Needed, threshold, thresholds, are_covered, subtract}
use Rattle.cpn_definitions.proofs.ChangedPlaces.{changed_place}
use Rattle.cpn_definitions.proofs.NumberTests.{equals_itself}
use Rattle.cpn_definitions.proofs.OrderedLists.{in_order_same}
use Rattle.cpn_definitions.proofs.Subtraction.{is_for, thresholds_for}
use Rattle.cpn_mset.specs.MSets.{PlainMSet, appearances, IsMSet}
use Rattle.cpn_mset.specs.SameMSets.{once_listed}
use Rattle.cpn_tmset.specs.Covering.{covers_need}
use Rattle.cpn_tmset.specs.Picks.{Demand, demands_at, left_after}
use Rattle.cpn_tmset.specs.Subtracted.{need_for}

-- the needs of a multiset on a place
abbrev pub needs_on : ℕ → PlainMSet → List Needed
needs_on p [] = []
needs_on p (e ∷ es) = replicate e.1 (need_for p e.0) ++ needs_on p es

-- ---- what is taken

module _ (time p : ℕ) where
  each_leaves
      : (n : ℕ) (v : PlainValue) (needs : List Needed) (ds : List Demand)
      → ((m : Marking) → tokens_at (subtract (threshold time) needs m) p ≡ left_after ds (tokens_at m p))
      → (m : Marking) → tokens_at (subtract (threshold time) (replicate n (need_for p v) ++ needs) m) p ≡ left_after (replicate n (record { value = v; threshold = time }) ++ ds) (tokens_at m p)
  each_leaves zero v needs ds rest m = rest m
  each_leaves (suc n) v needs ds rest m =
      let at : time + 0 ≡ time = omega arith in
      each_leaves n v needs ds rest (on_place p (without_token v (time + 0)) m)
      ∙ ap (left_after (replicate n (record { value = v; threshold = time }) ++ ds)) (changed_place p (without_token v (time + 0)) m (λ _. refl) ∙ ap (λ (t : ℕ). without_token v t (tokens_at m p)) at)

  -- the needs leave on the place what the multiset leaves
  pub multiset_leaves : (need : PlainMSet) (m : Marking) → tokens_at (subtract (threshold time) (needs_on p need) m) p ≡ left_after (demands_at time need) (tokens_at m p)
  multiset_leaves [] m = refl
  multiset_leaves (e ∷ es) m = each_leaves e.1 e.0 (needs_on p es) (demands_at time es) (multiset_leaves es) m

  -- ---- what is covered

  thresholds_append : (v w : PlainValue) (needs : List Needed) (b : Bool) → same_value v w ≡ b → (n : ℕ) → thresholds_for (threshold time) p v (replicate n (need_for p w) ++ needs) ≡ cond b (replicate n time ++ thresholds_for (threshold time) p v needs) (thresholds_for (threshold time) p v needs)
  thresholds_append v w needs true h zero = refl
  thresholds_append v w needs false h zero = refl
  thresholds_append v w needs true h (suc n) =
      let rest = replicate n (need_for p w) ++ needs in
      let at : time + 0 ≡ time = omega arith in
      ap (λ b. map (threshold time) (cond b (need_for p w ∷ filter (is_for p v) rest) (filter (is_for p v) rest))) (ap₂ (λ a b. a && b) (equals_itself p) h)
      ∙ ap₂ (λ t ts. t ∷ ts) at (thresholds_append v w needs true h n)
  thresholds_append v w needs false h (suc n) =
      let rest = replicate n (need_for p w) ++ needs in
      ap (λ b. map (threshold time) (cond b (need_for p w ∷ filter (is_for p v) rest) (filter (is_for p v) rest))) (ap₂ (λ a b. a && b) (equals_itself p) h) ∙ thresholds_append v w needs false h n

  thresholds_each : (v : PlainValue) (need : PlainMSet) → IsMSet need → thresholds_for (threshold time) p v (needs_on p need) ≡ replicate (appearances v need) time
  thresholds_each v [] is = refl
  thresholds_each v (e ∷ es) is = thresholds_append v e.0 (needs_on p es) (same_value v e.0) refl e.1 ∙ split (same_value v e.0) refl (thresholds_each v es (is.0.1, is.1.1))
    where
      split : (b : Bool) → same_value v e.0 ≡ b → thresholds_for (threshold time) p v (needs_on p es) ≡ replicate (appearances v es) time → cond b (replicate e.1 time ++ thresholds_for (threshold time) p v (needs_on p es)) (thresholds_for (threshold time) p v (needs_on p es)) ≡ replicate (cond b e.1 (appearances v es)) time
      split true h rest = ap (λ ts. replicate e.1 time ++ ts) (rest ∙ ap (λ (n : ℕ). replicate n time) (once_listed v e es is h)) ∙ append-nil (replicate e.1 time)
      split false h rest = rest

  alike_in_order : (n : ℕ) → IsInOrder nat_cmp (replicate n time)
  alike_in_order zero = tt
  alike_in_order (suc n) = (not_before n, alike_in_order n)
    where
      not_before : (k : ℕ) → AllByRecursion (λ t. is_gt (nat_cmp time t) ≡ false) (replicate k time)
      not_before zero = tt
      not_before (suc k) = (ap is_gt (tied_itself nat_cmp_total time), not_before k)

  -- the thresholds of the needs for a value: the time, as often as the value appears
  pub thresholds_on : (v : PlainValue) (need : PlainMSet) → IsMSet need → thresholds (threshold time) (need_for p v) (needs_on p need) ≡ replicate (appearances v need) time
  thresholds_on v need is =
      in_order_same nat_cmp nat_cmp_total (thresholds_for (threshold time) p v (needs_on p need)) (rw (thresholds_each v need is) (alike_in_order (appearances v need))) ∙ thresholds_each v need is

  all_of_each : (test : Needed → Bool) (n : ℕ) (need : Needed) (needs : List Needed) → 0 < n → list_all test (replicate n need ++ needs) ≡ (test need && list_all test needs)
  all_of_each test zero need needs some = absurd (omega arith)
  all_of_each test (suc zero) need needs some = refl
  all_of_each test (suc (suc n)) need needs some = ap (λ b. test need && b) (all_of_each test (suc n) need needs (omega arith)) ∙ twice (test need) (list_all test needs)
    where
      twice : (a b : Bool) → (a && (a && b)) ≡ (a && b)
      twice true b = refl
      twice false b = refl

  -- each value appears as often as it says
  appears : (need : PlainMSet) → IsMSet need → AllByRecursion (λ e. appearances e.0 need ≡ e.1) need
  appears [] is = tt
  appears (e ∷ es) is = (first, later es is.1.1 (appears es (is.0.1, is.1.1)))
    where
      first : appearances e.0 (e ∷ es) ≡ e.1
      first = ap (λ b. cond b e.1 (appearances e.0 es)) (same_value_refl e.0)

      later : (ds : PlainMSet) → AllByRecursion (λ d. 0 < d.1) ds → AllByRecursion (λ d. appearances d.0 es ≡ d.1) ds → AllByRecursion (λ d. appearances d.0 (e ∷ es) ≡ d.1) ds
      later [] some all = tt
      later (d ∷ ds) some all = (split (same_value d.0 e.0) refl, later ds some.1 all.1)
        where
          split : (b : Bool) → same_value d.0 e.0 ≡ b → cond b e.1 (appearances d.0 es) ≡ d.1
          split true h = let none = once_listed d.0 e es is h in let number = all.0 in let one = some.0 in absurd (omega (arith, none, number, one))
          split false h = all.0

  -- the needs are covered where the multiset is
  pub multiset_covered : (need : PlainMSet) (m : Marking) → IsMSet need → are_covered (threshold time) m (needs_on p need) ≡ covers_need (tokens_at m p) need time
  multiset_covered need m is = each need is.1 (appears need is)
    where
      test : Needed → Bool
      test other = covers (stamps other.value (tokens_at m other.place)) (thresholds (threshold time) other (needs_on p need))

      each : (es : PlainMSet) → AllByRecursion (λ e. 0 < e.1) es → AllByRecursion (λ e. appearances e.0 need ≡ e.1) es → list_all test (needs_on p es) ≡ covers_need (tokens_at m p) es time
      each [] some all = refl
      each (e ∷ es) some all =
          all_of_each test e.1 (need_for p e.0) (needs_on p es) some.0
          ∙ ap₂ (λ a b. a && b) (ap (covers (stamps e.0 (tokens_at m p))) (thresholds_on e.0 need is ∙ ap (λ (n : ℕ). replicate n time) all.0)) (each es some.1 all.1)
