-- The picks of a claim: of each value on each place, they are the stamps that its thresholds take in turn, none above its own;
-- and with what is left they are what was there.
use Rattle.std.proofs.Common.{◌≡◌, ℕ, suc, ◌==◌, Bool, true, false, ◌&&◌, cond, nat_le, List, [], ◌∷◌, map, length, Some, refl, sym, ap, ap₂, ◌∙◌, eqb-true, nat_cmp, is_lt, leb-true}
use Rattle.std.specs.List.{filter}
use Rattle.std.proofs.lemmas.Bool.{cond-true, cond-false, and_parts}
use Rattle.std.proofs.lemmas.Cmp.{nat_cmp_total}
use Rattle.std.proofs.lemmas.Option.{same_Some}
use Rattle.cpn_definitions.specs.Value.{PlainValue}
use Rattle.cpn_definitions.specs.Order.{same_value}
use Rattle.cpn_definitions.specs.ValueOrder.{same_value_true}
use Rattle.cpn_definitions.specs.Lists.{IsInOrder}
use Rattle.cpn_definitions.specs.Marking.{Marking, tokens_at, on_place, without_token, stamps, covers, begins_by, without_latest, less}
use Rattle.cpn_definitions.specs.Occurrence.{Needed, needed_cmp, threshold, are_covered, subtract}
use Rattle.cpn_definitions.proofs.OrderedLists.{added_either_way}
use Rattle.cpn_definitions.proofs.Stamps.{AreRising, stamps_rise}
use Rattle.cpn_definitions.proofs.Subtraction.{AllAreSorted, is_for, thresholds_for, sorted_without, taken, subtract_is_less}
use Rattle.cpn_definitions.proofs.Addition.{with_stamp, with_stamps}
use Rattle.cpn_definitions.proofs.RicherMarkings.{without_rising, covers_first, covered_in_turn}
use Rattle.cpn_definitions.proofs.NumberTests.{same_number, is_behind}
use Rattle.cpn_tmset.specs.Stamps.{latest_stamp}
use Rattle.cpn_tmset.proofs.CarriedStamps.{latest_at_least, ahead_of}
use Rattle.cpn_runs.specs.HoleRun.{PlainClaim, PlainPick, PlainHoleRun, pick_of, picks_of, after_claim, hole_run}
use Rattle.cpn_runs.proofs.Sequences.{run_on}

-- ---- the stamps of one value

-- the stamps that thresholds take in turn
abbrev pub taken_by : List ℕ → List ℕ → List ℕ
taken_by [] ss = []
taken_by (t ∷ ts) ss = latest_stamp t ss ∷ taken_by ts (without_latest t ss)

-- the stamp that is taken and those that are left are what was there
pub taken_back : (t : ℕ) (ss : List ℕ) → AreRising ss → begins_by t ss ≡ true → with_stamp (latest_stamp t ss) (without_latest t ss) ≡ ss
taken_back t [] rising found = absurd cc
taken_back t (s ∷ ss) rising found = split (begins_by t ss) refl (λ h. taken_back t ss rising.1 h)
  where
    split
        : (b : Bool) → begins_by t ss ≡ b
        → (begins_by t ss ≡ true → with_stamp (latest_stamp t ss) (without_latest t ss) ≡ ss)
        → with_stamp (cond b (latest_stamp t ss) s) (cond b (s ∷ without_latest t ss) (cond (nat_le s t) ss (s ∷ ss))) ≡ s ∷ ss
    split true deeper rest =
        cond-false (is_lt (nat_cmp (latest_stamp t ss) s)) (latest_stamp t ss ∷ s ∷ without_latest t ss) (s ∷ with_stamp (latest_stamp t ss) (without_latest t ss)) (is_behind (latest_stamp t ss) s (latest_at_least t s ss rising.0 deeper))
        ∙ ap (λ rs. s ∷ rs) (rest deeper)
    split false stops rest = ap (with_stamp s) (cond-true (nat_le s t) ss (s ∷ ss) found) ∙ ahead_of t s ss (leb-true s t found) stops

with_stamps_swap : (xs : List ℕ) (x : ℕ) (rs : List ℕ) → with_stamps xs (with_stamp x rs) ≡ with_stamp x (with_stamps xs rs)
with_stamps_swap [] x rs = refl
with_stamps_swap (y ∷ xs) x rs = ap (with_stamps xs) (added_either_way nat_cmp nat_cmp_total same_number y x rs) ∙ with_stamps_swap xs x (with_stamp y rs)

all_taken_back : (ts ss : List ℕ) → AreRising ss → covers ss ts ≡ true → with_stamps (taken_by ts ss) (less ss ts) ≡ ss
all_taken_back [] ss rising all = refl
all_taken_back (t ∷ ts) ss rising all =
    let first = covers_first t ss ts rising all in
    let left = without_latest t ss in
    with_stamps_swap (taken_by ts left) (latest_stamp t ss) (less left ts)
    ∙ ap (with_stamp (latest_stamp t ss)) (all_taken_back ts left (without_rising t ss rising) first.1)
    ∙ taken_back t ss rising first.0

-- ---- the picks of a claim

-- whether a pick is of the value on the place
abbrev pub is_pick_for : ℕ → PlainValue → PlainPick → Bool
is_pick_for p v pick = (p == pick.place) && same_value v pick.value

-- the stamps of the picks of a value on a place
abbrev pub picked : ℕ → PlainValue → List PlainPick → List ℕ
picked p v picks = map (λ pick. pick.stamp) (filter (is_pick_for p v) picks)

-- of each value on each place they are the stamps that the thresholds take in turn
pub picks_in_turn : (time : ℕ) (needs : List Needed) (m : Marking) (p : ℕ) (v : PlainValue) → AllAreSorted m → picked p v (picks_of time needs m) ≡ taken_by (thresholds_for (threshold time) p v needs) (stamps v (tokens_at m p))
picks_in_turn time [] m p v sorted = refl
picks_in_turn time (need ∷ needs) m p v sorted =
    split (is_for p v need) refl (picks_in_turn time needs (on_place need.place (without_token need.value (threshold time need)) m) p v (sorted_without need.place need.value (threshold time need) m sorted))
  where
    next : Marking
    next = on_place need.place (without_token need.value (threshold time need)) m

    own : is_for p v need ≡ true → latest_stamp (threshold time need) (stamps need.value (tokens_at m need.place)) ≡ latest_stamp (threshold time need) (stamps v (tokens_at m p))
    own is =
        let parts = and_parts (p == need.place) (same_value v need.value) is in
        ap₂ (λ w (q : ℕ). latest_stamp (threshold time need) (stamps w (tokens_at m q))) (sym (same_value_true v need.value parts.1)) (sym (eqb-true p need.place parts.0))

    split
        : (b : Bool) → is_for p v need ≡ b
        → picked p v (picks_of time needs next) ≡ taken_by (thresholds_for (threshold time) p v needs) (stamps v (tokens_at next p))
        → map (λ (pick : PlainPick). pick.stamp) (cond b (pick_of time need m ∷ filter (is_pick_for p v) (picks_of time needs next)) (filter (is_pick_for p v) (picks_of time needs next)))
        ≡ taken_by (map (threshold time) (cond b (need ∷ filter (is_for p v) needs) (filter (is_for p v) needs))) (stamps v (tokens_at m p))
    split true is rest = ap₂ (λ x xs. x ∷ xs) (own is) (rest ∙ ap (taken_by (thresholds_for (threshold time) p v needs)) (taken p v (threshold time) need m (sorted need.place) true is))
    split false is rest = rest ∙ ap (taken_by (thresholds_for (threshold time) p v needs)) (taken p v (threshold time) need m (sorted need.place) false is)

-- What a claim takes, of each value on each place, and what it leaves there are together what was there.
pub picks_taken_back : (time : ℕ) (needs : List Needed) (m : Marking) (p : ℕ) (v : PlainValue) → AllAreSorted m → IsInOrder needed_cmp needs → are_covered (threshold time) m needs ≡ true
    → with_stamps (picked p v (picks_of time needs m)) (stamps v (tokens_at (subtract (threshold time) needs m) p)) ≡ stamps v (tokens_at m p)
picks_taken_back time needs m p v sorted ordered all =
    ap₂ with_stamps (picks_in_turn time needs m p v sorted) (subtract_is_less (threshold time) needs m p v sorted)
    ∙ all_taken_back (thresholds_for (threshold time) p v needs) (stamps v (tokens_at m p)) (stamps_rise v (tokens_at m p) (sorted p)) (covered_in_turn time m needs p v ordered all)

-- a run of claims tells what each of them took
pub as_many_as_claims : (m : Marking) (claims : List PlainClaim) (run : PlainHoleRun) → hole_run m claims ≡ Some run → length run.picks ≡ length claims
as_many_as_claims m [] run is = let same : record { marking = m; picks = [] } ≡ run = same_Some (record { marking = m; picks = [] }) run is in ap (λ (r : PlainHoleRun). length r.picks) (sym same)
as_many_as_claims m (claim ∷ claims) run is =
    let first = run_on m claim claims run is in
    ap (λ (r : PlainHoleRun). length r.picks) (sym first.run_is) ∙ ap (λ (k : ℕ). suc k) (as_many_as_claims (after_claim claim m) claims first.rest first.goes_on)
