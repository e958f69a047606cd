-- What a multiset takes at a time: the timed subtraction of the stamps of each value, and as many tokens as it has appearances.
use Rattle.std.proofs.Common.{◌≡◌, ℕ, zero, suc, ◌+◌, Bool, true, false, cond, ◌&&◌, List, [], ◌∷◌, ◌++◌, map, length, length-append, replicate, refl, ap, ap₂, ◌∙◌, arith, append-nil, Less, is_eq}
use Rattle.std.specs.List.{AllByRecursion, filter}
use Rattle.std.specs.Ordering.{ordering_reverse}
use Rattle.std.proofs.lemmas.Bool.{and_parts}
use Rattle.std.proofs.lemmas.List.{length-replicate}
use Rattle.cpn_definitions.specs.Value.{PlainValue}
use Rattle.cpn_definitions.specs.Order.{value_cmp, same_value}
use Rattle.cpn_definitions.specs.Marking.{Tokens, stamps, covers, less, without_token, without_latest, AreSorted}
use Rattle.cpn_definitions.specs.ValueOrder.{value_cmp_total}
use Rattle.cpn_definitions.proofs.SortedTokens.{without_token_sorted}
use Rattle.cpn_definitions.proofs.Stamps.{stamps_rise, stamps_without, stamps_without_other, any_taken}
use Rattle.cpn_definitions.proofs.RicherMarkings.{covers_first}
use Rattle.cpn_definitions.proofs.SameTokens.{stamps_of_without}
use Rattle.cpn_mset.specs.MSets.{PlainMSet, appearances, IsMSet}
use Rattle.cpn_mset.specs.SameMSets.{once_listed}
use Rattle.cpn_tmset.specs.Covering.{covers_need}
use Rattle.cpn_tmset.specs.Picks.{Demand, demands_at, left_after}
use Rattle.cpn_tmset.proofs.TokenCounts.{one_fewer}

-- ---- the stamps of each value

-- the thresholds of the demands for a value
abbrev thresholds_for : PlainValue → List Demand → List ℕ
thresholds_for v ds = map (λ (d : Demand). d.threshold) (filter (λ (d : Demand). same_value v d.value) ds)

left_is_less : (v : PlainValue) (ds : List Demand) (ks : Tokens) → AreSorted ks → stamps v (left_after ds ks) ≡ less (stamps v ks) (thresholds_for v ds)
left_is_less v [] ks sorted = refl
left_is_less v (d ∷ ds) ks sorted =
    left_is_less v ds (without_token d.value d.threshold ks) (without_token_sorted d.value d.threshold ks sorted)
    ∙ ap (λ (ss : List ℕ). less ss (thresholds_for v ds)) (stamps_of_without v d.value d.threshold ks sorted)
    ∙ split (same_value v d.value)
  where
    split : (b : Bool) → less (cond b (without_latest d.threshold (stamps v ks)) (stamps v ks)) (thresholds_for v ds) ≡ less (stamps v ks) (map (λ (e : Demand). e.threshold) (cond b (d ∷ filter (λ (e : Demand). same_value v e.value) ds) (filter (λ (e : Demand). same_value v e.value) ds)))
    split true = refl
    split false = refl

thresholds_append : (v : PlainValue) (n : ℕ) (d : Demand) (ds : List Demand) → thresholds_for v (replicate n d ++ ds) ≡ cond (same_value v d.value) (replicate n d.threshold ++ thresholds_for v ds) (thresholds_for v ds)
thresholds_append v n d ds = split (same_value v d.value) refl n
  where
    split : (b : Bool) → same_value v d.value ≡ b → (k : ℕ) → thresholds_for v (replicate k d ++ ds) ≡ cond b (replicate k d.threshold ++ thresholds_for v ds) (thresholds_for v ds)
    split true h zero = refl
    split true h (suc k) = ap (λ b. map (λ (e : Demand). e.threshold) (cond b (d ∷ filter (λ (e : Demand). same_value v e.value) (replicate k d ++ ds)) (filter (λ (e : Demand). same_value v e.value) (replicate k d ++ ds)))) h ∙ ap (λ ts. d.threshold ∷ ts) (split true h k)
    split false h zero = refl
    split false h (suc k) = ap (λ b. map (λ (e : Demand). e.threshold) (cond b (d ∷ filter (λ (e : Demand). same_value v e.value) (replicate k d ++ ds)) (filter (λ (e : Demand). same_value v e.value) (replicate k d ++ ds)))) h ∙ split false h k

thresholds_at : (v : PlainValue) (time : ℕ) (need : PlainMSet) → IsMSet need → thresholds_for v (demands_at time need) ≡ replicate (appearances v need) time
thresholds_at v time [] is = refl
thresholds_at v time (e ∷ es) is =
    thresholds_append v e.1 (record { value = e.0; threshold = time }) (demands_at time es) ∙ split (same_value v e.0) refl (thresholds_at v time es (is.0.1, is.1.1))
  where
    split : (b : Bool) → same_value v e.0 ≡ b → thresholds_for v (demands_at time es) ≡ replicate (appearances v es) time → cond b (replicate e.1 time ++ thresholds_for v (demands_at time es)) (thresholds_for v (demands_at time es)) ≡ replicate (cond b e.1 (appearances v es)) time
    split true h rest = ap (λ ts. replicate e.1 time ++ ts) (rest ∙ ap (λ (n : ℕ). replicate n time) (once_listed v e es is h)) ∙ append-nil (replicate e.1 time)
    split false h rest = rest

-- each value's stamps lose the time as often as the value appears
pub taken_is_less : (v : PlainValue) (time : ℕ) (need : PlainMSet) (ks : Tokens) → AreSorted ks → IsMSet need → stamps v (left_after (demands_at time need) ks) ≡ less (stamps v ks) (replicate (appearances v need) time)
taken_is_less v time need ks sorted is = left_is_less v (demands_at time need) ks sorted ∙ ap (less (stamps v ks)) (thresholds_at v time need is)

-- ---- how many tokens leave

left_append : (ds es : List Demand) (ks : Tokens) → left_after (ds ++ es) ks ≡ left_after es (left_after ds ks)
left_append [] es ks = refl
left_append (d ∷ ds) es ks = left_append ds es (without_token d.value d.threshold ks)

left_sorted : (ds : List Demand) (ks : Tokens) → AreSorted ks → AreSorted (left_after ds ks)
left_sorted [] ks sorted = sorted
left_sorted (d ∷ ds) ks sorted = left_sorted ds (without_token d.value d.threshold ks) (without_token_sorted d.value d.threshold ks sorted)

module _ (v : PlainValue) (time : ℕ) where
  abbrev demand : Demand
  demand = record { value = v; threshold = time }

  value_taken : (n : ℕ) (ks : Tokens) → AreSorted ks → covers (stamps v ks) (replicate n time) ≡ true → length (left_after (replicate n demand) ks) + n ≡ length ks
  value_taken zero ks sorted covered = omega arith
  value_taken (suc n) ks sorted covered =
      let first = covers_first time (stamps v ks) (replicate n time) (stamps_rise v ks sorted) covered in
      let fewer = one_fewer v time ks (any_taken v time ks sorted ∙ first.0) in
      let rest = value_taken n (without_token v time ks) (without_token_sorted v time ks sorted) (ap (λ (ss : List ℕ). covers ss (replicate n time)) (stamps_without v time ks sorted) ∙ first.1) in
      omega (arith, fewer, rest)

  others_stay : (w : PlainValue) (n : ℕ) (ks : Tokens) → same_value w v ≡ false → stamps w (left_after (replicate n demand) ks) ≡ stamps w ks
  others_stay w zero ks other = refl
  others_stay w (suc n) ks other = others_stay w n (without_token v time ks) other ∙ stamps_without_other w v time ks other

  still_covered : (n : ℕ) (es : PlainMSet) (ks : Tokens) → AllByRecursion (λ (e : PlainValue × ℕ). value_cmp v e.0 ≡ Less) es → covers_need (left_after (replicate n demand) ks) es time ≡ covers_need ks es time
  still_covered n [] ks all = refl
  still_covered n (e ∷ es) ks all =
      let other : same_value e.0 v ≡ false = ap is_eq (value_cmp_total.antisymm e.0 v ∙ ap ordering_reverse all.0) in
      ap₂ (λ a b. a && b) (ap (λ (ss : List ℕ). covers ss (replicate e.1 time)) (others_stay e.0 n ks other)) (still_covered n es ks all.1)

-- where the multiset is covered, a token leaves for each appearance
pub all_taken : (time : ℕ) (need : PlainMSet) (ks : Tokens) → AreSorted ks → IsMSet need → covers_need ks need time ≡ true → length (left_after (demands_at time need) ks) + length (demands_at time need) ≡ length ks
all_taken time [] ks sorted is covered = omega arith
all_taken time (e ∷ es) ks sorted is covered =
    let here = replicate e.1 (demand e.0 time) in
    let parts = and_parts (covers (stamps e.0 ks) (replicate e.1 time)) (covers_need ks es time) covered in
    let first = value_taken e.0 time e.1 ks sorted parts.0 in
    let rest = all_taken time es (left_after here ks) (left_sorted here ks sorted) (is.0.1, is.1.1) (still_covered e.0 time e.1 es ks is.0.0 ∙ parts.1) in
    let long = length-append here (demands_at time es) in
    let many : length here ≡ e.1 = length-replicate e.1 (demand e.0 time) in
    let moved = ap (λ (ls : Tokens). length ls) (left_append here (demands_at time es) ks) in
    omega (arith, first, rest, long, many, moved)
