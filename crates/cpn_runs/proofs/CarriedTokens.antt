-- One token more in a marking from which the needs of a claim are taken: its picks are those that the token was carried past, and
-- it leaves one token more, the one that is carried on.
use Rattle.std.proofs.Common.{◌≡◌, ℕ, suc, zero, ◌<◌, ◌==◌, Bool, true, false, cond, ◌&&◌, List, [], ◌∷◌, map, length, refl, sym, ap, ap₂, subst, ◌∙◌, eqb-true, eq-eqb, arith}
use Rattle.std.specs.List.{filter}
use Rattle.std.proofs.lemmas.Bool.{and_from}
use Rattle.cpn_definitions.specs.Value.{PlainValue}
use Rattle.cpn_definitions.specs.Order.{same_value}
use Rattle.cpn_definitions.specs.ValueOrder.{same_value_refl, token_cmp_total, token_same}
use Rattle.cpn_definitions.specs.Lists.{with_item}
use Rattle.cpn_definitions.specs.Marking.{PlainToken, token_at, Tokens, Marking, tokens_at, on_place, token_cmp, add_token, without_token, stamps, covers, begins_by}
use Rattle.cpn_definitions.specs.Occurrence.{Needed, Made, threshold, subtract}
use Rattle.cpn_definitions.proofs.OrderedLists.{added_either_way}
use Rattle.cpn_definitions.proofs.SortedTokens.{added_as_item}
use Rattle.cpn_definitions.proofs.Stamps.{stamps_rise}
use Rattle.cpn_definitions.proofs.Subtraction.{AllAreSorted, is_for, thresholds_for, sorted_without, taken}
use Rattle.cpn_definitions.proofs.Addition.{with_stamps, is_made_for, with_made, add_made_is_more}
use Rattle.cpn_definitions.proofs.RicherMarkings.{covers_first}
use Rattle.cpn_tmset.specs.Stamps.{latest_stamp, is_preferred}
use Rattle.cpn_tmset.proofs.CarriedStamps.{step}
use Rattle.cpn_tmset.proofs.TakenAmong.{carried_on, take_among}
use Rattle.cpn_runs.specs.HoleRun.{pick_of, picks_of}
use Rattle.cpn_runs.specs.Filling.{pick_after, past_pick, claim_after, past_claim}
use Rattle.cpn_runs.proofs.TwoPlaces.{different_places, one_place}

-- it makes no difference which of two tokens is added first
add_either_way : (j k : PlainToken) (ks : Tokens) → add_token j (add_token k ks) ≡ add_token k (add_token j ks)
add_either_way j k ks =
    added_as_item j (add_token k ks) ∙ ap (with_item token_cmp j) (added_as_item k ks)
    ∙ added_either_way token_cmp token_cmp_total token_same j k ks
    ∙ sym (added_as_item k (add_token j ks) ∙ ap (with_item token_cmp k) (added_as_item j ks))

-- ---- a token in a marking

pub with_either_way : (made other : Made) (m : Marking) → with_made made (with_made other m) ≡ with_made other (with_made made m)
with_either_way made other m = split (made.place == other.place) refl
  where
    add : Made → Tokens → Tokens
    add k = add_token (token_at k.value k.stamp)

    split : (b : Bool) → (made.place == other.place) ≡ b → on_place made.place (add made) (on_place other.place (add other) m) ≡ on_place other.place (add other) (on_place made.place (add made) m)
    split true same =
        let P : ℕ → Type 0 = λ q. on_place made.place (add made) (on_place q (add other) m) ≡ on_place q (add other) (on_place made.place (add made) m) in
        subst P (eqb-true made.place other.place same)
        (one_place (add made) (add other) (add other) (add made) made.place m (add_either_way (token_at made.value made.stamp) (token_at other.value other.stamp) (tokens_at m made.place)))
    split false not_same = different_places (add made) (add other) made.place other.place m not_same

-- a place with a stamp is one of the marking
has_place : (t : ℕ) (v : PlainValue) (m : Marking) (p : ℕ) → begins_by t (stamps v (tokens_at m p)) ≡ true → p < length m
has_place t v [] p found = cc
has_place t v (ks ∷ m) zero found = omega arith
has_place t v (ks ∷ m) (suc p) found = let rest = has_place t v m p found in omega arith

-- What a need takes and leaves with one token more.
record StepsWithToken (time : ℕ) (need : Needed) (made : Made) (m : Marking) : Type 0 where
  takes : pick_of time need (with_made made m) ≡ pick_after made (pick_of time need m)
  leaves : on_place need.place (without_token need.value (threshold time need)) (with_made made m) ≡ with_made (past_pick made (pick_of time need m)) (on_place need.place (without_token need.value (threshold time need)) m)

token_step : (time : ℕ) (need : Needed) (made : Made) (m : Marking) → AllAreSorted m → begins_by (threshold time need) (stamps need.value (tokens_at m need.place)) ≡ true → StepsWithToken time need made m
token_step time need made m sorted found = record {
  takes =
      ap (λ (s : ℕ). record { place = p; value = v; threshold = t; stamp = s })
      (ap (latest_stamp t) (add_made_is_more (made ∷ []) m p v sorted (has_place t v m p found)) ∙ among (is_made_for p v made));
  leaves = split (p == made.place) refl;
}
  where
    p : ℕ
    p = need.place

    v : PlainValue
    v = need.value

    t : ℕ
    t = threshold time need

    -- the stamps there, and the one that is taken of them
    ss : List ℕ
    ss = stamps need.value (tokens_at m need.place)

    r : ℕ
    r = latest_stamp (threshold time need) (stamps need.value (tokens_at m need.place))

    among : (b : Bool) → latest_stamp t (with_stamps (map (λ (k : Made). k.stamp) (cond b (made ∷ []) [])) ss) ≡ cond (b && is_preferred t r made.stamp) made.stamp r
    among true = (step made.stamp t ss (stamps_rise v (tokens_at m p) (sorted p)) found).takes
    among false = refl

    take : Tokens → Tokens
    take = without_token need.value (threshold time need)

    add : ℕ → Tokens → Tokens
    add s = add_token (token_at made.value s)

    split
        : (b : Bool) → (p == made.place) ≡ b
        → on_place p take (on_place made.place (add made.stamp) m) ≡ on_place made.place (add (cond (b && same_value v made.value && is_preferred t r made.stamp) r made.stamp)) (on_place p take m)
    split true same =
        let on = carried_on v t made.value made.stamp (tokens_at m p) in
        let P : ℕ → Type 0 = λ q. on_place p take (on_place q (add made.stamp) m) ≡ on_place q (add on) (on_place p take m) in
        subst P (eqb-true p made.place same) (one_place take (add made.stamp) (add on) take p m (take_among v t made.value made.stamp (tokens_at m p) (sorted p) found))
    split false other = different_places take (add made.stamp) p made.place m other

-- ---- the needs of a claim

-- of each value on each place the thresholds of the needs for it are covered, in the order of the needs
abbrev pub CoveredInTurn : ℕ → List Needed → Marking → Type 0
CoveredInTurn time needs m = (p : ℕ) (v : PlainValue) → covers (stamps v (tokens_at m p)) (thresholds_for (threshold time) p v needs) ≡ true

-- the first need finds a token
pub first_found : (time : ℕ) (need : Needed) (needs : List Needed) (m : Marking) → AllAreSorted m → CoveredInTurn time (need ∷ needs) m → begins_by (threshold time need) (stamps need.value (tokens_at m need.place)) ≡ true
first_found time need needs m sorted all =
    let rest = filter (is_for need.place need.value) needs in
    let own : is_for need.place need.value need ≡ true = and_from (need.place == need.place) (same_value need.value need.value) (eq-eqb need.place need.place refl) (same_value_refl need.value) in
    let ss = stamps need.value (tokens_at m need.place) in
    let here : covers ss (threshold time need ∷ map (threshold time) rest) ≡ true = subst (λ (b : Bool). covers ss (map (threshold time) (cond b (need ∷ rest) rest)) ≡ true) own (all need.place need.value) in
    (covers_first (threshold time need) ss (map (threshold time) rest) (stamps_rise need.value (tokens_at m need.place) (sorted need.place)) here).0

-- and what it leaves covers the others
pub rest_covered : (time : ℕ) (need : Needed) (needs : List Needed) (m : Marking) → AllAreSorted m → CoveredInTurn time (need ∷ needs) m → CoveredInTurn time needs (on_place need.place (without_token need.value (threshold time need)) m)
rest_covered time need needs m sorted all p v = split (is_for p v need) refl (all p v)
  where
    split
        : (b : Bool) → is_for p v need ≡ b
        → covers (stamps v (tokens_at m p)) (map (threshold time) (cond b (need ∷ filter (is_for p v) needs) (filter (is_for p v) needs))) ≡ true
        → covers (stamps v (tokens_at (on_place need.place (without_token need.value (threshold time need)) m) p)) (thresholds_for (threshold time) p v needs) ≡ true
    split true is h =
        ap (λ ss. covers ss (thresholds_for (threshold time) p v needs)) (taken p v (threshold time) need m (sorted need.place) true is)
        ∙ (covers_first (threshold time need) (stamps v (tokens_at m p)) (thresholds_for (threshold time) p v needs) (stamps_rise v (tokens_at m p) (sorted p)) h).1
    split false is h = ap (λ ss. covers ss (thresholds_for (threshold time) p v needs)) (taken p v (threshold time) need m (sorted need.place) false is) ∙ h

-- What the needs of a claim take and leave with one token more.
pub record TakesWithToken (time : ℕ) (needs : List Needed) (made : Made) (m : Marking) : Type 0 where
  pub picks : picks_of time needs (with_made made m) ≡ claim_after made (picks_of time needs m)
  pub left : subtract (threshold time) needs (with_made made m) ≡ with_made (past_claim made (picks_of time needs m)) (subtract (threshold time) needs m)

pub token_taking : (time : ℕ) (needs : List Needed) (made : Made) (m : Marking) → AllAreSorted m → CoveredInTurn time needs m → TakesWithToken time needs made m
token_taking time [] made m sorted all = record { picks = refl; left = refl }
token_taking time (need ∷ needs) made m sorted all =
    let next = on_place need.place (without_token need.value (threshold time need)) m in
    let first = token_step time need made m sorted (first_found time need needs m sorted all) in
    let rest = token_taking time needs (past_pick made (pick_of time need m)) next (sorted_without need.place need.value (threshold time need) m sorted) (rest_covered time need needs m sorted all) in
    record {
      picks = ap₂ (λ x xs. x ∷ xs) first.takes (ap (picks_of time needs) first.leaves ∙ rest.picks);
      left = ap (subtract (threshold time) needs) first.leaves ∙ rest.left;
    }
