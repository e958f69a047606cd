-- One stamp more among sorted stamps of one value, from which a threshold takes one: where the stamp is later than the one that was
-- taken, and not above the threshold, it is taken in its place, and that one is left; else it is left itself.
use Rattle.std.proofs.Common.{◌≡◌, ℕ, ◌<◌, ◌≤◌, Bool, true, false, cond, ◌&&◌, nat_lt, nat_le, List, [], ◌∷◌, Some, None, refl, sym, ap, arith, nat_cmp, is_lt}
use Rattle.std.proofs.lemmas.Bool.{cond_both, cond-true, cond-false, leb-true, leb-false, le-leb, lt-leb, ltb-false, le-ltb, and_right}
use Rattle.cpn_definitions.specs.Marking.{begins_by, without_latest}
use Rattle.cpn_definitions.proofs.Stamps.{IsAtMostEach, AreRising}
use Rattle.cpn_definitions.proofs.Addition.{with_stamp}
use Rattle.cpn_definitions.proofs.NumberTests.{not_earlier, earlier, is_ahead, is_behind}
use Rattle.cpn_tmset.specs.Stamps.{latest_of, latest_stamp, is_preferred}

-- ---- the stamp that a threshold takes

pub latest_at_least : (t s : ℕ) (ss : List ℕ) → IsAtMostEach s ss → begins_by t ss ≡ true → s ≤ latest_stamp t ss
latest_at_least t s [] below found = absurd cc
latest_at_least t s (r ∷ rs) below found = cond_both (begins_by t rs) (latest_stamp t rs) r (λ x. s ≤ x) (λ h. latest_at_least t s rs below.1 h) (λ _. below.0)

-- where there is one, it is the one that the threshold takes
pub is_latest : (t : ℕ) (ss : List ℕ) → begins_by t ss ≡ true → latest_of t ss ≡ Some (latest_stamp t ss)
is_latest t [] found = absurd cc
is_latest t (s ∷ ss) found = split (begins_by t ss) refl (λ h. is_latest t ss h)
  where
    split
        : (b : Bool) → begins_by t ss ≡ b
        → (begins_by t ss ≡ true → latest_of t ss ≡ Some (latest_stamp t ss))
        → cond b (latest_of t ss) (cond (nat_le s t) (Some s) None) ≡ Some (cond b (latest_stamp t ss) s)
    split true deeper rest = rest deeper
    split false stops rest = cond-true (nat_le s t) (Some s) None found

-- a stamp stands ahead of those that are all above a threshold that it is not above
pub ahead_of : (t s : ℕ) (rs : List ℕ) → s ≤ t → begins_by t rs ≡ false → with_stamp s rs ≡ s ∷ rs
ahead_of t s [] low none = refl
ahead_of t s (r ∷ rs) low none = cond-true (is_lt (nat_cmp s r)) (s ∷ r ∷ rs) (r ∷ with_stamp s rs) (is_ahead s r (let above : t < r = leb-false r t none in omega arith))

-- ---- with one stamp more

-- a threshold that finds a stamp finds one among more stamps too
pub still_found : (t s : ℕ) (ss : List ℕ) → begins_by t ss ≡ true → begins_by t (with_stamp s ss) ≡ true
still_found t s [] found = absurd cc
still_found t s (r ∷ rs) found =
    cond_both (is_lt (nat_cmp s r)) (s ∷ r ∷ rs) (r ∷ with_stamp s rs) (λ xs. begins_by t xs ≡ true)
    (λ h. let lt = earlier s r h in le-leb s t (omega (arith, lt, leb-true r t found))) (λ _. found)

-- among stamps that are all above it, it finds none with one more that is above it
still_none : (t s : ℕ) (ss : List ℕ) → begins_by t ss ≡ false → t < s → begins_by t (with_stamp s ss) ≡ false
still_none t s [] none high = lt-leb s t high
still_none t s (r ∷ rs) none high = cond_both (is_lt (nat_cmp s r)) (s ∷ r ∷ rs) (r ∷ with_stamp s rs) (λ xs. begins_by t xs ≡ false) (λ _. lt-leb s t high) (λ _. none)

-- a stamp stands behind one that is not above it
with_later : (s r : ℕ) (rs : List ℕ) → r ≤ s → with_stamp s (r ∷ rs) ≡ r ∷ with_stamp s rs
with_later s r rs low = cond-false (is_lt (nat_cmp s r)) (s ∷ r ∷ rs) (r ∷ with_stamp s rs) (is_behind s r low)

-- What a threshold takes and leaves with one stamp more.
pub record StepsWith (s t : ℕ) (ss : List ℕ) : Type 0 where
  pub takes : latest_stamp t (with_stamp s ss) ≡ cond (is_preferred t (latest_stamp t ss) s) s (latest_stamp t ss)
  pub leaves : without_latest t (with_stamp s ss) ≡ with_stamp (cond (is_preferred t (latest_stamp t ss) s) (latest_stamp t ss) s) (without_latest t ss)

pub step : (s t : ℕ) (ss : List ℕ) → AreRising ss → begins_by t ss ≡ true → StepsWith s t ss
step s t [] rising found = absurd cc
step s t (r ∷ rs) rising found = cases (begins_by t rs) (is_lt (nat_cmp s r)) (nat_le s t) (nat_lt r s) (λ more. step s t rs rising.1 more) refl refl refl refl
  where
    low : r ≤ t
    low = leb-true r t found

    cases
        : (b c d e : Bool)
        → (begins_by t rs ≡ true → StepsWith s t rs)
        → begins_by t rs ≡ b
        → is_lt (nat_cmp s r) ≡ c
        → nat_le s t ≡ d
        → nat_lt r s ≡ e
        → StepsWith s t (r ∷ rs)
    -- the one that is taken stands behind r, and the stamp ahead of it: the same is taken
    cases true true d e rest more before by above =
        let at_least : r ≤ latest_stamp t rs = latest_at_least t r rs rising.0 more in
        let lt = earlier s r before in
        let stays : nat_lt (latest_stamp t rs) s ≡ false = le-ltb (latest_stamp t rs) s (omega arith) in
        record { takes = simp (more, before, found, stays); leaves = simp (more, before, found, stays) }
    -- both stand behind r
    cases true false d e rest more before by above =
        let ih = rest more in
        let at_least : r ≤ latest_stamp t rs = latest_at_least t r rs rising.0 more in
        let le = not_earlier s r before in
        let on : ℕ = cond (is_preferred t (latest_stamp t rs) s) (latest_stamp t rs) s in
        let behind : r ≤ on = cond_both (is_preferred t (latest_stamp t rs) s) (latest_stamp t rs) s (λ k. r ≤ k) (λ _. at_least) (λ _. le) in
        let found_more = still_found t s rs more in
        record { takes = simp (more, before, found_more, ih.takes); leaves = simp (more, before, found_more, ih.leaves) (sym (with_later on r (without_latest t rs) behind)) }
    -- r is taken, and the stamp stands ahead of it: r is taken still
    cases false true d e rest more before by above =
        let lt = earlier s r before in
        let stays : nat_lt r s ≡ false = le-ltb r s (omega arith) in
        let first = ahead_of t s rs (omega (arith, low)) more in
        record { takes = simp (more, before, found, stays); leaves = simp (more, before, found, stays, first) }
    -- r was taken, and the stamp is preferred to it
    cases false false true true rest more before by above =
        let first = ahead_of t s rs (leb-true s t by) more in
        let first_too = ahead_of t r rs low more in
        record { takes = simp (more, before, by, above, first); leaves = simp (more, before, by, above, found, first, first_too) }
    -- r is taken, and the stamp is the same
    cases false false true false rest more before by above =
        let first = ahead_of t s rs (leb-true s t by) more in
        let le = not_earlier s r before in
        let same : s ≡ r = omega (arith, ltb-false r s above) in
        record { takes = simp (more, before, by, above, first) same; leaves = simp (more, before, by, above, found, first) (ap (λ x. x ∷ rs) (sym same)) }
    -- r is taken, and the stamp is above the threshold
    cases false false false e rest more before by above =
        let none_more = still_none t s rs more (leb-false s t by) in
        let stays : (nat_lt r s && nat_le s t) ≡ false = and_right (nat_lt r s) (nat_le s t) by in
        record { takes = simp (more, before, none_more, stays); leaves = simp (more, before, none_more, found, stays) }
