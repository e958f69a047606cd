-- The stamps of a value on a place change only by needs and outputs for it.
use Rattle.std.proofs.Common.{◌≡◌, ℕ, ◌+◌, ◌<◌, ◌≤◌, ◌==◌, Bool, true, false, ◌||◌, cond, not, List, [], ◌∷◌, map, length, refl, sym, ap, subst, ◌∙◌, ⊎_elim, arith, eqb-true, nat_cmp}
use Rattle.std.specs.List.{AllByRecursion, filter}
use Rattle.std.proofs.lemmas.Bool.{and_parts, cases_lt, or_parts}
use Rattle.cpn_definitions.specs.Value.{PlainValue}
use Rattle.cpn_definitions.specs.Order.{same_value}
use Rattle.cpn_definitions.specs.ValueOrder.{same_value_true}
use Rattle.cpn_definitions.specs.Lists.{IsInOrder}
use Rattle.cpn_definitions.specs.Marking.{Marking, tokens_at, stamps, less}
use Rattle.cpn_definitions.specs.Occurrence.{Needed, Made, needed_cmp, threshold, are_covered, subtract, add_made}
use Rattle.cpn_definitions.proofs.Stamps.{stamps_rise}
use Rattle.cpn_definitions.proofs.PlaceCounts.{length-with_items}
use Rattle.cpn_definitions.proofs.RisingLists.{IsIn, in_filter, in_filter_from, some_passes, one_that_passes}
use Rattle.cpn_definitions.proofs.Subtraction.{AllAreSorted, is_for, thresholds_for, subtract_is_less}
use Rattle.cpn_definitions.proofs.Addition.{is_made_for, stamps_for, with_stamps, places_added, add_made_is_more}
use Rattle.cpn_definitions.proofs.RicherMarkings.{covered_in_turn, sorted_subtracted, past_the_last}
use Rattle.cpn_runs.specs.HoleRun.{PlainClaim, added, after_claim}
use Rattle.cpn_runs.proofs.FilledRuns.{sorted_after}
use Rattle.cpn_tmset.specs.Changed.{PlainChange, change_cmp, is_change, is_told, AreChanges}
use Rattle.cpn_tmset.proofs.ToldChanges.{told_joined}
use Rattle.cpn_log.specs.Gathered.{each_once, same_stamps, differs, need_change, made_change, touched_by, touched}
use Rattle.cpn_log.specs.Exchanges.{after_claims}
use Rattle.cpn_log.proofs.ChangeOrder.{needs_stand_in_order}
use Rattle.cpn_log.proofs.EachOnce.{told_once, rises_once, filtered_in_order}
use Rattle.cpn_log.proofs.StampLists.{same_stamps_true, same_stamps_refl, fewer_by}

-- ---- what is needed and made for a value on a place

none_needed : (latest : Needed → ℕ) (p : ℕ) (v : PlainValue) (needs : List Needed) → is_told p v (map need_change needs) ≡ false → thresholds_for latest p v needs ≡ []
none_needed latest p v [] h = refl
none_needed latest p v (need ∷ needs) h =
    let parts = or_parts (is_for p v need) (is_told p v (map need_change needs)) h in
    ap (λ b. map latest (cond b (need ∷ filter (is_for p v) needs) (filter (is_for p v) needs))) parts.0 ∙ none_needed latest p v needs parts.1

some_needed : (latest : Needed → ℕ) (p : ℕ) (v : PlainValue) (needs : List Needed) → is_told p v (map need_change needs) ≡ true → 0 < length (thresholds_for latest p v needs)
some_needed latest p v [] h = cc
some_needed latest p v (need ∷ needs) h = split (λ g. some_needed latest p v needs g) (is_for p v need) h
  where
    split : (is_told p v (map need_change needs) ≡ true → 0 < length (thresholds_for latest p v needs)) → (b : Bool) → (b || is_told p v (map need_change needs)) ≡ true → 0 < length (map latest (cond b (need ∷ filter (is_for p v) needs) (filter (is_for p v) needs)))
    split rest true g = omega arith
    split rest false g = rest g

pub none_made : (p : ℕ) (v : PlainValue) (outputs : List Made) → is_told p v (map made_change outputs) ≡ false → stamps_for p v outputs ≡ []
none_made p v [] h = refl
none_made p v (made ∷ outputs) h =
    let parts = or_parts (is_made_for p v made) (is_told p v (map made_change outputs)) h in
    ap (λ b. map (λ (k : Made). k.stamp) (cond b (made ∷ filter (is_made_for p v) outputs) (filter (is_made_for p v) outputs))) parts.0 ∙ none_made p v outputs parts.1

pub some_made : (p : ℕ) (v : PlainValue) (outputs : List Made) → is_told p v (map made_change outputs) ≡ true → 0 < length (stamps_for p v outputs)
some_made p v [] h = cc
some_made p v (made ∷ outputs) h = split (λ g. some_made p v outputs g) (is_made_for p v made) h
  where
    split : (is_told p v (map made_change outputs) ≡ true → 0 < length (stamps_for p v outputs)) → (b : Bool) → (b || is_told p v (map made_change outputs)) ≡ true → 0 < length (map (λ (k : Made). k.stamp) (cond b (made ∷ filter (is_made_for p v) outputs) (filter (is_made_for p v) outputs)))
    split rest true g = omega arith
    split rest false g = rest g

-- a place that is told is one of the marking, where all are
pub told_within : (p : ℕ) (v : PlainValue) (cs : List PlainChange) (number : ℕ) → AllByRecursion (λ c. c.place < number) cs → is_told p v cs ≡ true → p < number
told_within p v [] number each h = cc
told_within p v (c ∷ cs) number each h = split (λ g. told_within p v cs number each.1 g) (is_change p v c) refl h
  where
    split : (is_told p v cs ≡ true → p < number) → (b : Bool) → is_change p v c ≡ b → (b || is_told p v cs) ≡ true → p < number
    split rest true is g = let at : p ≡ c.place = eqb-true p c.place (and_parts (p == c.place) (same_value v c.value) is).0 in let within = each.0 in omega (arith, at, within)
    split rest false is g = rest g

-- ---- what stays as it was

-- where what is put in for a value on a place changes nothing
added_stamps : (outputs : List Made) (m : Marking) (p : ℕ) (v : PlainValue) → AllAreSorted m → (p < length m → with_stamps (stamps_for p v outputs) (stamps v (tokens_at m p)) ≡ stamps v (tokens_at m p)) → stamps v (tokens_at (add_made outputs m) p) ≡ stamps v (tokens_at m p)
added_stamps outputs m p v sorted same = ⊎_elim (λ lt. add_made_is_more outputs m p v sorted lt ∙ same lt) (λ ge. past ge) (cases_lt p (length m))
  where
    past : length m ≤ p → stamps v (tokens_at (add_made outputs m) p) ≡ stamps v (tokens_at m p)
    past ge = ap (stamps v) (past_the_last (add_made outputs m) p (subst (λ (l : ℕ). l ≤ p) (sym (places_added outputs m)) ge)) ∙ sym (ap (stamps v) (past_the_last m p ge))

-- where nothing is needed or made for it, nothing changes
pub untouched_subtracted : (time : ℕ) (needs : List Needed) (m : Marking) (p : ℕ) (v : PlainValue) → AllAreSorted m → is_told p v (map need_change needs) ≡ false → stamps v (tokens_at (subtract (threshold time) needs m) p) ≡ stamps v (tokens_at m p)
untouched_subtracted time needs m p v sorted none = subtract_is_less (threshold time) needs m p v sorted ∙ ap (less (stamps v (tokens_at m p))) (none_needed (threshold time) p v needs none)

pub untouched_added : (outputs : List Made) (m : Marking) (p : ℕ) (v : PlainValue) → AllAreSorted m → is_told p v (map made_change outputs) ≡ false → stamps v (tokens_at (add_made outputs m) p) ≡ stamps v (tokens_at m p)
untouched_added outputs m p v sorted none = added_stamps outputs m p v sorted (λ _. ap (λ ss. with_stamps ss (stamps v (tokens_at m p))) (none_made p v outputs none))

pub untouched_after : (claims : List PlainClaim) (m : Marking) (p : ℕ) (v : PlainValue) → AllAreSorted m → is_told p v (touched claims) ≡ false → stamps v (tokens_at (after_claims claims m) p) ≡ stamps v (tokens_at m p)
untouched_after [] m p v sorted none = refl
untouched_after (claim ∷ claims) m p v sorted none =
    let parts = or_parts (is_told p v (touched_by claim)) (is_told p v (touched claims)) (sym (told_joined p v (touched_by claim) (touched claims)) ∙ none) in
    let own = or_parts (is_told p v (map need_change claim.needs)) (is_told p v (map made_change (added claim.status))) (sym (told_joined p v (map need_change claim.needs) (map made_change (added claim.status))) ∙ parts.0) in
    let left = subtract (threshold claim.time) claim.needs m in
    untouched_after claims (after_claim claim m) p v (sorted_after claim m sorted) parts.1
    ∙ untouched_added (added claim.status) left p v (sorted_subtracted (threshold claim.time) claim.needs m sorted) own.1
    ∙ untouched_subtracted claim.time claim.needs m p v sorted own.0

-- ---- changes

-- lists of which one is longer differ
longer_differ : (ss ts : List ℕ) (n : ℕ) → 0 < n → length ss + n ≡ length ts → ss ≡ ts → ⊥
longer_differ ss ts n some longer same = let lengths : length ss ≡ length ts = ap (λ (xs : List ℕ). length xs) same in omega (arith, some, longer, lengths)

-- needs that are covered change each value on each place that they are for, and nothing else
pub taken_changes : (time : ℕ) (needs : List Needed) (m : Marking) → AllAreSorted m → IsInOrder needed_cmp needs → are_covered (threshold time) m needs ≡ true → AreChanges m (subtract (threshold time) needs m) (each_once (map need_change needs))
taken_changes time needs m sorted ordered all = record {
  rise = rises_once (map need_change needs) (needs_stand_in_order needs ordered);
  told = λ p v h same.
      let ts = thresholds_for (threshold time) p v needs in
      longer_differ (stamps v (tokens_at (subtract (threshold time) needs m) p)) (stamps v (tokens_at m p)) (length ts) (some_needed (threshold time) p v needs (sym (told_once p v (map need_change needs)) ∙ h))
      (ap (λ (ss : List ℕ). length ss + length ts) (subtract_is_less (threshold time) needs m p v sorted) ∙ fewer_by ts (stamps v (tokens_at m p)) (stamps_rise v (tokens_at m p) (sorted p)) (covered_in_turn time m needs p v ordered all))
      same;
  others = λ p v h. untouched_subtracted time needs m p v sorted (sym (told_once p v (map need_change needs)) ∙ h);
}

-- so do tokens that are put on places of the marking
pub added_changes
    : (outputs : List Made) (m : Marking)
    → AllAreSorted m
    → IsInOrder change_cmp (map made_change outputs)
    → AllByRecursion (λ c. c.place < length m) (map made_change outputs)
    → AreChanges m (add_made outputs m) (each_once (map made_change outputs))
added_changes outputs m sorted ordered each = record {
  rise = rises_once (map made_change outputs) ordered;
  told = λ p v h same.
      let one = sym (told_once p v (map made_change outputs)) ∙ h in
      let made = stamps_for p v outputs in
      let longer : length (stamps v (tokens_at (add_made outputs m) p)) ≡ length made + length (stamps v (tokens_at m p)) = ap (λ (ss : List ℕ). length ss) (add_made_is_more outputs m p v sorted (told_within p v (map made_change outputs) (length m) each one)) ∙ length-with_items nat_cmp made (stamps v (tokens_at m p)) in
      longer_differ (stamps v (tokens_at m p)) (stamps v (tokens_at (add_made outputs m) p)) (length made) (some_made p v outputs one) (omega (arith, longer)) (sym same);
  others = λ p v h. untouched_added outputs m p v sorted (sym (told_once p v (map made_change outputs)) ∙ h);
}

-- those of a list whose stamps differ are the changes, where no value on a place that isn't in the list changes
pub differing_changes
    : (old new : Marking) (cs : List PlainChange)
    → IsInOrder change_cmp cs
    → ((p : ℕ) (v : PlainValue) → is_told p v cs ≡ false → stamps v (tokens_at new p) ≡ stamps v (tokens_at old p))
    → AreChanges old new (each_once (filter (differs old new) cs))
differing_changes old new cs ordered others = record {
  rise = rises_once (filter (differs old new) cs) (filtered_in_order (differs old new) cs ordered);
  told = λ p v h same.
      let one = one_that_passes (is_change p v) (filter (differs old new) cs) (sym (told_once p v (filter (differs old new) cs)) ∙ h) in
      let kept = in_filter_from (differs old new) cs one.0 one.1 in
      clash one.0 (sym (at_change one.0 p v one.2 old) ∙ sym same ∙ at_change one.0 p v one.2 new) kept.1;
  others = λ p v h. split p v (is_told p v cs) refl (sym (told_once p v (filter (differs old new) cs)) ∙ h);
}
  where
    at_change : (c : PlainChange) (p : ℕ) (v : PlainValue) → is_change p v c ≡ true → (m : Marking) → stamps v (tokens_at m p) ≡ stamps c.value (tokens_at m c.place)
    at_change c p v is m =
        let parts = and_parts (p == c.place) (same_value v c.value) is in
        ap (λ (q : ℕ). stamps v (tokens_at m q)) (eqb-true p c.place parts.0) ∙ ap (λ w. stamps w (tokens_at m c.place)) (same_value_true v c.value parts.1)

    clash : (c : PlainChange) → stamps c.value (tokens_at old c.place) ≡ stamps c.value (tokens_at new c.place) → differs old new c ≡ true → ⊥
    clash c same differ =
        let alike : same_stamps (stamps c.value (tokens_at old c.place)) (stamps c.value (tokens_at new c.place)) ≡ true = subst (λ ss. same_stamps (stamps c.value (tokens_at old c.place)) ss ≡ true) same (same_stamps_refl (stamps c.value (tokens_at old c.place))) in
        let stays : differs old new c ≡ false = ap not alike in cc

    unchanged : (c : PlainChange) (b : Bool) → differs old new c ≡ b → b ≡ false → stamps c.value (tokens_at new c.place) ≡ stamps c.value (tokens_at old c.place)
    unchanged c true differ stays = cc
    unchanged c false differ stays = sym (same_stamps_true (stamps c.value (tokens_at old c.place)) (stamps c.value (tokens_at new c.place)) (turned (same_stamps (stamps c.value (tokens_at old c.place)) (stamps c.value (tokens_at new c.place))) differ))
      where
        turned : (b : Bool) → not b ≡ false → b ≡ true
        turned true h = refl
        turned false h = cc

    there : (p : ℕ) (v : PlainValue) (c : PlainChange) → IsIn c cs → is_change p v c ≡ true → is_told p v (filter (differs old new) cs) ≡ false → (b : Bool) → differs old new c ≡ b → b ≡ false
    there p v c is at none true differ = let told : is_told p v (filter (differs old new) cs) ≡ true = some_passes (is_change p v) (filter (differs old new) cs) c (in_filter (differs old new) cs c is differ) at in cc
    there p v c is at none false differ = refl

    split : (p : ℕ) (v : PlainValue) (b : Bool) → is_told p v cs ≡ b → is_told p v (filter (differs old new) cs) ≡ false → stamps v (tokens_at new p) ≡ stamps v (tokens_at old p)
    split p v false outside none = others p v outside
    split p v true some none =
        let one = one_that_passes (is_change p v) cs some in
        let same = unchanged one.0 (differs old new one.0) refl (there p v one.0 one.1 one.2 none (differs old new one.0) refl) in
        at_change one.0 p v one.2 new ∙ same ∙ sym (at_change one.0 p v one.2 old)
