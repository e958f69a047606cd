-- Richer markings: one is richer than another where, of each value on each place, its stamps cover those of the other. What the
-- poorer covers the richer covers too; and the richer stays so when both give what the poorer covers, when the same tokens
-- are added to both, and when tokens are added to it.
use Rattle.std.proofs.Common.{◌≡◌, ℕ, zero, suc, ◌<◌, ◌≤◌, ◌==◌, Bool, true, false, cond, nat_le, List, [], ◌∷◌, map, length, refl, sym, ap, ap₂, subst, ◌∙◌, inl, ⊎_elim, eqb-true, arith, nat_cmp, is_lt}
use Rattle.std.specs.List.{filter}
use Rattle.std.proofs.lemmas.Bool.{cond_both, cond-true, cond-false, leb-true, le-leb, and_parts, and_from, cases_lt}
use Rattle.std.proofs.lemmas.Cmp.{nat_cmp_total}
use Rattle.cpn_definitions.specs.Value.{PlainValue}
use Rattle.cpn_definitions.specs.Order.{same_value}
use Rattle.cpn_definitions.specs.ValueOrder.{same_value_true}
use Rattle.cpn_definitions.specs.Lists.{IsInOrder, in_order}
use Rattle.cpn_definitions.specs.Marking.{Marking, tokens_at, on_place, without_token, stamps, covers, begins_by, without_latest, less}
use Rattle.cpn_definitions.specs.Occurrence.{Needed, Made, needed_cmp, threshold, thresholds, are_covered, subtract, add_made}
use Rattle.cpn_definitions.proofs.RisingLists.{IsIn, in_filter_from, passes_at, all_pass}
use Rattle.cpn_definitions.proofs.OrderedLists.{in_order_same}
use Rattle.cpn_definitions.proofs.Stamps.{IsAtMostEach, AreRising, stamps_rise}
use Rattle.cpn_definitions.proofs.Subtraction.{AllAreSorted, is_for, thresholds_for, sorted_without, subtract_is_less}
use Rattle.cpn_definitions.proofs.Needs.{thresholds_in_order}
use Rattle.cpn_definitions.proofs.ChangedPlaces.{places_with}
use Rattle.cpn_definitions.proofs.Addition.{with_stamp, with_stamps, stamps_for, places_added, add_made_is_more}
use Rattle.cpn_definitions.proofs.NumberTests.{earlier, not_earlier, is_behind}

-- ---- stamps that cover stamps

pub covers_itself : (ss : List ℕ) → covers ss ss ≡ true
covers_itself [] = refl
covers_itself (s ∷ ss) = and_from (nat_le s s) (covers ss ss) (le-leb s s (omega arith)) (covers_itself ss)

-- what covers a cover covers what is covered
pub covers_through : (rs ss ts : List ℕ) → covers rs ss ≡ true → covers ss ts ≡ true → covers rs ts ≡ true
covers_through rs ss [] first second = refl
covers_through rs [] (t ∷ ts) first second = absurd cc
covers_through [] (s ∷ ss) (t ∷ ts) first second = absurd cc
covers_through (r ∷ rs) (s ∷ ss) (t ∷ ts) first second =
    let a = and_parts (nat_le r s) (covers rs ss) first in
    let b = and_parts (nat_le s t) (covers ss ts) second in
    and_from (nat_le r t) (covers rs ts) (le-leb r t (omega (arith, leb-true r s a.0, leb-true s t b.0))) (covers_through rs ss ts a.1 b.1)

-- ---- one threshold

at_most_without : (r t : ℕ) (ss : List ℕ) → IsAtMostEach r ss → IsAtMostEach r (without_latest t ss)
at_most_without r t [] below = tt
at_most_without r t (s ∷ ss) below =
    cond_both (begins_by t ss) (s ∷ without_latest t ss) (cond (nat_le s t) ss (s ∷ ss)) (IsAtMostEach r) (λ _. (below.0, at_most_without r t ss below.1))
    (λ _. cond_both (nat_le s t) ss (s ∷ ss) (IsAtMostEach r) (λ _. below.1) (λ _. below))

pub without_rising : (t : ℕ) (ss : List ℕ) → AreRising ss → AreRising (without_latest t ss)
without_rising t [] rising = tt
without_rising t (s ∷ ss) rising =
    cond_both (begins_by t ss) (s ∷ without_latest t ss) (cond (nat_le s t) ss (s ∷ ss)) AreRising (λ _. (at_most_without s t ss rising.0, without_rising t ss rising.1))
    (λ _. cond_both (nat_le s t) ss (s ∷ ss) AreRising (λ _. rising.1) (λ _. rising))

-- without one of its stamps, a list still covers what it covered without its first
covers_without : (t s : ℕ) (ss ts : List ℕ) → nat_le s t ≡ true → IsAtMostEach s ss → AreRising ss → covers ss ts ≡ true → covers (without_latest t (s ∷ ss)) ts ≡ true
covers_without t s ss [] low first rising all = refl
covers_without t s [] (u ∷ ts) low first rising all = absurd cc
covers_without t s (r ∷ rs) (u ∷ ts) low first rising all =
    let parts = and_parts (nat_le r u) (covers rs ts) all in
    cond_both (nat_le r t) (s ∷ without_latest t (r ∷ rs)) (cond (nat_le s t) (r ∷ rs) (s ∷ r ∷ rs)) (λ xs. covers xs (u ∷ ts) ≡ true)
    (λ h. and_from (nat_le s u) (covers (without_latest t (r ∷ rs)) ts) (le-leb s u (omega (arith, first.0, leb-true r u parts.0))) (covers_without t r rs ts h rising.0 rising.1 parts.1))
    (λ _. ap (λ xs. covers xs (u ∷ ts)) (cond-true (nat_le s t) (r ∷ rs) (s ∷ r ∷ rs) low) ∙ all)

-- of covered thresholds the first finds a stamp, and the others are covered by what it leaves
pub covers_first : (t : ℕ) (ss ts : List ℕ) → AreRising ss → covers ss (t ∷ ts) ≡ true → (begins_by t ss ≡ true) × (covers (without_latest t ss) ts ≡ true)
covers_first t [] ts rising all = absurd cc
covers_first t (s ∷ ss) ts rising all =
    let parts = and_parts (nat_le s t) (covers ss ts) all in
    (parts.0, covers_without t s ss ts parts.0 rising.0 rising.1 parts.1)

-- a threshold that finds a stamp finds one in a cover of the stamps
begins_too : (t : ℕ) (rs ss : List ℕ) → covers rs ss ≡ true → begins_by t ss ≡ true → begins_by t rs ≡ true
begins_too t rs [] over found = absurd cc
begins_too t [] (s ∷ ss) over found = absurd cc
begins_too t (r ∷ rs) (s ∷ ss) over found =
    let parts = and_parts (nat_le r s) (covers rs ss) over in
    le-leb r t (omega (arith, leb-true r s parts.0, leb-true s t found))

-- a cover of stamps stays one when a threshold takes a stamp of both, where it finds one in what is covered
pub without_covers : (t : ℕ) (rs ss : List ℕ) → AreRising rs → covers rs ss ≡ true → begins_by t ss ≡ true → covers (without_latest t rs) (without_latest t ss) ≡ true
without_covers t rs [] rising over found = absurd cc
without_covers t [] (s ∷ ss) rising over found = absurd cc
without_covers t (r ∷ rs) (s ∷ ss) rising over found = split (begins_by t ss) refl (λ h. without_covers t rs ss rising.1 parts.1 h)
  where
    parts : (nat_le r s ≡ true) × (covers rs ss ≡ true)
    parts = and_parts (nat_le r s) (covers rs ss) over

    low : nat_le r t ≡ true
    low = le-leb r t (omega (arith, leb-true r s parts.0, leb-true s t found))

    split
        : (b : Bool) → begins_by t ss ≡ b
        → (begins_by t ss ≡ true → covers (without_latest t rs) (without_latest t ss) ≡ true)
        → covers (without_latest t (r ∷ rs)) (without_latest t (s ∷ ss)) ≡ true
    split true deeper rest =
        ap₂ covers (cond-true (begins_by t rs) (r ∷ without_latest t rs) (cond (nat_le r t) rs (r ∷ rs)) (begins_too t rs ss parts.1 deeper)) (cond-true (begins_by t ss) (s ∷ without_latest t ss) (cond (nat_le s t) ss (s ∷ ss)) deeper)
        ∙ and_from (nat_le r s) (covers (without_latest t rs) (without_latest t ss)) parts.0 (rest deeper)
    split false stops rest =
        ap (covers (without_latest t (r ∷ rs))) (cond-false (begins_by t ss) (s ∷ without_latest t ss) (cond (nat_le s t) ss (s ∷ ss)) stops ∙ cond-true (nat_le s t) ss (s ∷ ss) found)
        ∙ covers_without t r rs ss low rising.0 rising.1 parts.1

-- a cover of stamps stays one when both are less thresholds that are covered
pub less_covers : (ts rs ss : List ℕ) → AreRising rs → AreRising ss → covers rs ss ≡ true → covers ss ts ≡ true → covers (less rs ts) (less ss ts) ≡ true
less_covers [] rs ss rising_r rising_s over all = over
less_covers (t ∷ ts) rs ss rising_r rising_s over all =
    let first = covers_first t ss ts rising_s all in
    less_covers ts (without_latest t rs) (without_latest t ss) (without_rising t rs rising_r) (without_rising t ss rising_s) (without_covers t rs ss rising_r over first.0) first.1

-- ---- one stamp more

at_most_less : (s r : ℕ) (rs : List ℕ) → s ≤ r → IsAtMostEach r rs → IsAtMostEach s rs
at_most_less s r [] h below = tt
at_most_less s r (q ∷ qs) h below = (omega (arith, below.0), at_most_less s r qs h below.1)

at_most_with : (r s : ℕ) (ss : List ℕ) → r ≤ s → IsAtMostEach r ss → IsAtMostEach r (with_stamp s ss)
at_most_with r s [] h below = (h, tt)
at_most_with r s (q ∷ qs) h below = cond_both (is_lt (nat_cmp s q)) (s ∷ q ∷ qs) (q ∷ with_stamp s qs) (IsAtMostEach r) (λ _. (h, below)) (λ _. (below.0, at_most_with r s qs h below.1))

with_rising : (s : ℕ) (ss : List ℕ) → AreRising ss → AreRising (with_stamp s ss)
with_rising s [] rising = (tt, tt)
with_rising s (r ∷ rs) rising =
    cond_both (is_lt (nat_cmp s r)) (s ∷ r ∷ rs) (r ∷ with_stamp s rs) AreRising
    (λ h. let before = earlier s r h in let low : s ≤ r = omega arith in ((low, at_most_less s r rs low rising.0), rising))
    (λ h. (at_most_with r s rs (not_earlier s r h) rising.0, with_rising s rs rising.1))

-- with one stamp more, stamps cover what they covered, and ahead of it one that is not before the stamp
covers_one_more : (s t : ℕ) (ss ts : List ℕ) → s ≤ t → AreRising (t ∷ ts) → covers ss ts ≡ true → covers (with_stamp s ss) (t ∷ ts) ≡ true
covers_one_more s t [] [] low rising all = and_from (nat_le s t) true (le-leb s t low) refl
covers_one_more s t [] (u ∷ ts) low rising all = absurd cc
covers_one_more s t (r ∷ rs) [] low rising all =
    cond_both (is_lt (nat_cmp s r)) (s ∷ r ∷ rs) (r ∷ with_stamp s rs) (λ xs. covers xs (t ∷ []) ≡ true) (λ _. and_from (nat_le s t) true (le-leb s t low) refl)
    (λ h. let le = not_earlier s r h in and_from (nat_le r t) true (le-leb r t (omega arith)) refl)
covers_one_more s t (r ∷ rs) (u ∷ us) low rising all =
    let parts = and_parts (nat_le r u) (covers rs us) all in
    let up : s ≤ u = omega (arith, rising.0.0) in
    cond_both (is_lt (nat_cmp s r)) (s ∷ r ∷ rs) (r ∷ with_stamp s rs) (λ xs. covers xs (t ∷ u ∷ us) ≡ true) (λ _. and_from (nat_le s t) (covers (r ∷ rs) (u ∷ us)) (le-leb s t low) all)
    (λ h. let le = not_earlier s r h in and_from (nat_le r t) (covers (with_stamp s rs) (u ∷ us)) (le-leb r t (omega arith)) (covers_one_more s u rs us up rising.1 parts.1))

-- a cover of stamps stays one when the same stamp is added to both
with_covers : (x : ℕ) (rs ss : List ℕ) → AreRising ss → covers rs ss ≡ true → covers (with_stamp x rs) (with_stamp x ss) ≡ true
with_covers x rs [] rising over = covers_one_more x x rs [] (omega arith) (tt, tt) over
with_covers x [] (s ∷ ss) rising over = absurd cc
with_covers x (r ∷ rs) (s ∷ ss) rising over = split (is_lt (nat_cmp x s)) refl (with_covers x rs ss rising.1 parts.1)
  where
    parts : (nat_le r s ≡ true) × (covers rs ss ≡ true)
    parts = and_parts (nat_le r s) (covers rs ss) over

    split : (b : Bool) → is_lt (nat_cmp x s) ≡ b → covers (with_stamp x rs) (with_stamp x ss) ≡ true → covers (with_stamp x (r ∷ rs)) (cond b (x ∷ s ∷ ss) (s ∷ with_stamp x ss)) ≡ true
    split true h rest =
        let before = earlier x s h in
        let low : x ≤ s = omega arith in
        covers_one_more x x (r ∷ rs) (s ∷ ss) (omega arith) ((low, at_most_less x s ss low rising.0), rising) over
    split false h rest =
        let le = not_earlier x s h in
        let behind : is_lt (nat_cmp x r) ≡ false = is_behind x r (omega (arith, leb-true r s parts.0)) in
        ap (λ xs. covers xs (s ∷ with_stamp x ss)) (cond-false (is_lt (nat_cmp x r)) (x ∷ r ∷ rs) (r ∷ with_stamp x rs) behind)
        ∙ and_from (nat_le r s) (covers (with_stamp x rs) (with_stamp x ss)) parts.0 rest

with_all_covers : (xs rs ss : List ℕ) → AreRising ss → covers rs ss ≡ true → covers (with_stamps xs rs) (with_stamps xs ss) ≡ true
with_all_covers [] rs ss rising over = over
with_all_covers (x ∷ xs) rs ss rising over = with_all_covers xs (with_stamp x rs) (with_stamp x ss) (with_rising x ss rising) (with_covers x rs ss rising over)

-- stamps with more cover the stamps
covers_ahead : (s : ℕ) (ss : List ℕ) → AreRising (s ∷ ss) → covers (s ∷ ss) ss ≡ true
covers_ahead s [] rising = refl
covers_ahead s (r ∷ rs) rising = and_from (nat_le s r) (covers (r ∷ rs) rs) (le-leb s r rising.0.0) (covers_ahead r rs rising.1)

more_covers : (x : ℕ) (ss : List ℕ) → AreRising ss → covers (with_stamp x ss) ss ≡ true
more_covers x [] rising = refl
more_covers x (s ∷ ss) rising =
    cond_both (is_lt (nat_cmp x s)) (x ∷ s ∷ ss) (s ∷ with_stamp x ss) (λ xs. covers xs (s ∷ ss) ≡ true)
    (λ h. let before = earlier x s h in let low : x ≤ s = omega arith in covers_ahead x (s ∷ ss) ((low, at_most_less x s ss low rising.0), rising))
    (λ _. and_from (nat_le s s) (covers (with_stamp x ss) ss) (le-leb s s (omega arith)) (more_covers x ss rising.1))

all_more_covers : (xs ss : List ℕ) → AreRising ss → covers (with_stamps xs ss) ss ≡ true
all_more_covers [] ss rising = covers_itself ss
all_more_covers (x ∷ xs) ss rising = covers_through (with_stamps xs (with_stamp x ss)) (with_stamp x ss) ss (all_more_covers xs (with_stamp x ss) (with_rising x ss rising)) (more_covers x ss rising)

-- ---- needs that are covered, place by place and value by value

-- what a need is for passes of that place and value
thresholds_at : (latest : Needed → ℕ) (m : Marking) (needs : List Needed) (p : ℕ) (v : PlainValue) → are_covered latest m needs ≡ true → covers (stamps v (tokens_at m p)) (in_order nat_cmp (thresholds_for latest p v needs)) ≡ true
thresholds_at latest m needs p v all = split (filter (is_for p v) needs) refl
  where
    split : (found : List Needed) → filter (is_for p v) needs ≡ found → covers (stamps v (tokens_at m p)) (in_order nat_cmp (map latest found)) ≡ true
    split [] is = refl
    split (need ∷ found) is =
        let kept = in_filter_from (is_for p v) needs need (subst (IsIn need) (sym is) (inl refl)) in
        let parts = and_parts (p == need.place) (same_value v need.value) kept.1 in
        let here = passes_at (λ (k : Needed). covers (stamps k.value (tokens_at m k.place)) (thresholds latest k needs)) needs need all kept.0 in
        let at_place : covers (stamps need.value (tokens_at m p)) (in_order nat_cmp (thresholds_for latest p need.value needs)) ≡ true =
        subst (λ (q : ℕ). covers (stamps need.value (tokens_at m q)) (in_order nat_cmp (thresholds_for latest q need.value needs)) ≡ true) (sym (eqb-true p need.place parts.0)) here in
        let at_value : covers (stamps v (tokens_at m p)) (in_order nat_cmp (thresholds_for latest p v needs)) ≡ true =
        subst (λ (w : PlainValue). covers (stamps w (tokens_at m p)) (in_order nat_cmp (thresholds_for latest p w needs)) ≡ true) (sym (same_value_true v need.value parts.1)) at_place in
        ap (λ (ks : List Needed). covers (stamps v (tokens_at m p)) (in_order nat_cmp (map latest ks))) (sym is) ∙ at_value

-- so needs in their order are covered in turn
pub covered_in_turn : (time : ℕ) (m : Marking) (needs : List Needed) (p : ℕ) (v : PlainValue) → IsInOrder needed_cmp needs → are_covered (threshold time) m needs ≡ true → covers (stamps v (tokens_at m p)) (thresholds_for (threshold time) p v needs) ≡ true
covered_in_turn time m needs p v ordered all =
    ap (covers (stamps v (tokens_at m p))) (sym (in_order_same nat_cmp nat_cmp_total (thresholds_for (threshold time) p v needs) (thresholds_in_order time p v needs ordered)))
    ∙ thresholds_at (threshold time) m needs p v all

-- ---- richer markings

-- Richer: on the same places, of each value on each place, the stamps cover those of the other.
pub record IsRicher (more less : Marking) : Type 0 where
  pub places : length more ≡ length less
  pub over : (p : ℕ) (v : PlainValue) → covers (stamps v (tokens_at more p)) (stamps v (tokens_at less p)) ≡ true

pub richer_itself : (m : Marking) → IsRicher m m
richer_itself m = record { places = refl; over = λ p v. covers_itself (stamps v (tokens_at m p)) }

pub richer_through : (k l m : Marking) → IsRicher k l → IsRicher l m → IsRicher k m
richer_through k l m first second = record {
  places = first.places ∙ second.places;
  over = λ p v. covers_through (stamps v (tokens_at k p)) (stamps v (tokens_at l p)) (stamps v (tokens_at m p)) (first.over p v) (second.over p v);
}

-- what the poorer covers the richer covers
pub richer_covers : (latest : Needed → ℕ) (k m : Marking) (needs : List Needed) → IsRicher k m → are_covered latest m needs ≡ true → are_covered latest k needs ≡ true
richer_covers latest k m needs richer all =
    all_pass (λ (need : Needed). covers (stamps need.value (tokens_at k need.place)) (thresholds latest need needs)) needs
    (λ need is. covers_through (stamps need.value (tokens_at k need.place)) (stamps need.value (tokens_at m need.place)) (thresholds latest need needs) (richer.over need.place need.value) (passes_at (λ (x : Needed). covers (stamps x.value (tokens_at m x.place)) (thresholds latest x needs)) needs need all is))

pub places_subtracted : (latest : Needed → ℕ) (needs : List Needed) (m : Marking) → length (subtract latest needs m) ≡ length m
places_subtracted latest [] m = refl
places_subtracted latest (need ∷ needs) m =
    places_subtracted latest needs (on_place need.place (without_token need.value (latest need)) m) ∙ places_with need.place (without_token need.value (latest need)) m

-- both less needs in their order that the poorer covers
pub richer_subtracted : (time : ℕ) (k m : Marking) (needs : List Needed) → AllAreSorted k → AllAreSorted m → IsInOrder needed_cmp needs → IsRicher k m → are_covered (threshold time) m needs ≡ true
    → IsRicher (subtract (threshold time) needs k) (subtract (threshold time) needs m)
richer_subtracted time k m needs sorted_k sorted_m ordered richer all = record {
  places = places_subtracted (threshold time) needs k ∙ richer.places ∙ sym (places_subtracted (threshold time) needs m);
  over = λ p v. ap₂ covers (subtract_is_less (threshold time) needs k p v sorted_k) (subtract_is_less (threshold time) needs m p v sorted_m)
      ∙ less_covers (thresholds_for (threshold time) p v needs) (stamps v (tokens_at k p)) (stamps v (tokens_at m p)) (stamps_rise v (tokens_at k p) (sorted_k p)) (stamps_rise v (tokens_at m p) (sorted_m p)) (richer.over p v) (covered_in_turn time m needs p v ordered all);
}

-- there are no tokens past the last place
pub past_the_last : (m : Marking) (p : ℕ) → length m ≤ p → tokens_at m p ≡ []
past_the_last [] p past = refl
past_the_last (ks ∷ m) zero past = absurd (omega arith)
past_the_last (ks ∷ m) (suc p) past = past_the_last m p (omega arith)

-- both with the same tokens more
pub richer_added : (outputs : List Made) (k m : Marking) → AllAreSorted k → AllAreSorted m → IsRicher k m → IsRicher (add_made outputs k) (add_made outputs m)
richer_added outputs k m sorted_k sorted_m richer = record {
  places = places_added outputs k ∙ richer.places ∙ sym (places_added outputs m);
  over = λ p v. ⊎_elim (λ lt. within p v lt) (λ ge. past p v ge) (cases_lt p (length m));
}
  where
    within : (p : ℕ) (v : PlainValue) → p < length m → covers (stamps v (tokens_at (add_made outputs k) p)) (stamps v (tokens_at (add_made outputs m) p)) ≡ true
    within p v lt =
        ap₂ covers (add_made_is_more outputs k p v sorted_k (subst (λ (l : ℕ). p < l) (sym richer.places) lt)) (add_made_is_more outputs m p v sorted_m lt)
        ∙ with_all_covers (stamps_for p v outputs) (stamps v (tokens_at k p)) (stamps v (tokens_at m p)) (stamps_rise v (tokens_at m p) (sorted_m p)) (richer.over p v)

    past : (p : ℕ) (v : PlainValue) → length m ≤ p → covers (stamps v (tokens_at (add_made outputs k) p)) (stamps v (tokens_at (add_made outputs m) p)) ≡ true
    past p v ge = ap (λ ks. covers (stamps v (tokens_at (add_made outputs k) p)) (stamps v ks)) (past_the_last (add_made outputs m) p (subst (λ (l : ℕ). l ≤ p) (sym (places_added outputs m)) ge))

-- a marking with tokens more
pub richer_with_more : (outputs : List Made) (m : Marking) → AllAreSorted m → IsRicher (add_made outputs m) m
richer_with_more outputs m sorted = record {
  places = places_added outputs m;
  over = λ p v. ⊎_elim (λ lt. within p v lt) (λ ge. past p v ge) (cases_lt p (length m));
}
  where
    within : (p : ℕ) (v : PlainValue) → p < length m → covers (stamps v (tokens_at (add_made outputs m) p)) (stamps v (tokens_at m p)) ≡ true
    within p v lt = ap (λ ss. covers ss (stamps v (tokens_at m p))) (add_made_is_more outputs m p v sorted lt) ∙ all_more_covers (stamps_for p v outputs) (stamps v (tokens_at m p)) (stamps_rise v (tokens_at m p) (sorted p))

    past : (p : ℕ) (v : PlainValue) → length m ≤ p → covers (stamps v (tokens_at (add_made outputs m) p)) (stamps v (tokens_at m p)) ≡ true
    past p v ge = ap (λ ks. covers (stamps v (tokens_at (add_made outputs m) p)) (stamps v ks)) (past_the_last m p ge)

-- sorted markings stay sorted when needs are taken
pub sorted_subtracted : (latest : Needed → ℕ) (needs : List Needed) (m : Marking) → AllAreSorted m → AllAreSorted (subtract latest needs m)
sorted_subtracted latest [] m sorted = sorted
sorted_subtracted latest (need ∷ needs) m sorted = sorted_subtracted latest needs (on_place need.place (without_token need.value (latest need)) m) (sorted_without need.place need.value (latest need) m sorted)
