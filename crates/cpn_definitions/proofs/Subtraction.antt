-- The timed subtraction: a marking less needs has, of each value on each place, the stamps that it had less the thresholds
-- of the needs for that value there.
use Rattle.std.proofs.Common.{◌≡◌, ℕ, ◌==◌, Bool, true, false, ◌&&◌, cond, List, [], ◌∷◌, map, refl, sym, ap, subst, ◌∙◌, eqb-true}
use Rattle.std.specs.List.{filter}
use Rattle.std.proofs.lemmas.Bool.{and_parts}
use Rattle.cpn_definitions.specs.Value.{PlainValue}
use Rattle.cpn_definitions.specs.Order.{same_value}
use Rattle.cpn_definitions.specs.ValueOrder.{same_value_true}
use Rattle.cpn_definitions.specs.Marking.{Marking, tokens_at, on_place, AreSorted, stamps, without_latest, less, without_token}
use Rattle.cpn_definitions.specs.Occurrence.{Needed, subtract}
use Rattle.cpn_definitions.proofs.SortedTokens.{without_token_sorted}
use Rattle.cpn_definitions.proofs.Stamps.{stamps_without, stamps_without_other}
use Rattle.cpn_definitions.proofs.ChangedPlaces.{changed_place, other_place, tokens_on_place}

-- the tokens of each place are sorted
abbrev pub AllAreSorted : Marking → Type 0
AllAreSorted m = (p : ℕ) → AreSorted (tokens_at m p)

-- whether a need is for the value on the place
abbrev pub is_for : ℕ → PlainValue → Needed → Bool
is_for p v need = (p == need.place) && same_value v need.value

-- the thresholds of the needs for a value on a place, in the order of the needs
abbrev pub thresholds_for : (Needed → ℕ) → ℕ → PlainValue → List Needed → List ℕ
thresholds_for latest p v needs = map latest (filter (is_for p v) needs)

-- sorted markings stay sorted when a token is taken
pub sorted_without : (p : ℕ) (v : PlainValue) (t : ℕ) (m : Marking) → AllAreSorted m → AllAreSorted (on_place p (without_token v t) m)
sorted_without p v t m sorted = tokens_on_place (λ q ks. AreSorted ks) p (without_token v t) m sorted (λ at. without_token_sorted v t (tokens_at m p) at)

-- the stamps of a value on a place after one token was taken from a place that is sorted
pub taken : (p : ℕ) (v : PlainValue) (latest : Needed → ℕ) (need : Needed) (m : Marking) → AreSorted (tokens_at m need.place) → (b : Bool) → is_for p v need ≡ b → stamps v (tokens_at (on_place need.place (without_token need.value (latest need)) m) p) ≡ cond b (without_latest (latest need) (stamps v (tokens_at m p))) (stamps v (tokens_at m p))
taken p v latest need m sorted true is =
    let parts = and_parts (p == need.place) (same_value v need.value) is in
    let at : p ≡ need.place = eqb-true p need.place parts.0 in
    let value : v ≡ need.value = same_value_true v need.value parts.1 in
    subst (λ (q : ℕ). stamps v (tokens_at (on_place need.place (without_token need.value (latest need)) m) q) ≡ without_latest (latest need) (stamps v (tokens_at m q))) (sym at)
    (subst (λ (w : PlainValue). stamps w (tokens_at (on_place need.place (without_token need.value (latest need)) m) need.place) ≡ without_latest (latest need) (stamps w (tokens_at m need.place))) (sym value)
    (ap (stamps need.value) (changed_place need.place (without_token need.value (latest need)) m (λ _. refl)) ∙ stamps_without need.value (latest need) (tokens_at m need.place) sorted))
taken p v latest need m sorted false is = split (p == need.place) refl
  where
    split : (b : Bool) → (p == need.place) ≡ b → stamps v (tokens_at (on_place need.place (without_token need.value (latest need)) m) p) ≡ stamps v (tokens_at m p)
    split false other = ap (stamps v) (other_place need.place p (without_token need.value (latest need)) m other)
    split true same =
        let at : p ≡ need.place = eqb-true p need.place same in
        let other : same_value v need.value ≡ false = ap (λ b. b && same_value v need.value) (sym same) ∙ is in
        subst (λ (q : ℕ). stamps v (tokens_at (on_place need.place (without_token need.value (latest need)) m) q) ≡ stamps v (tokens_at m q)) (sym at)
        (ap (stamps v) (changed_place need.place (without_token need.value (latest need)) m (λ _. refl)) ∙ stamps_without_other v need.value (latest need) (tokens_at m need.place) other)

-- a marking less needs has the stamps that it had, of each value on each place less the thresholds for it
pub subtract_is_less : (latest : Needed → ℕ) (needs : List Needed) (m : Marking) (p : ℕ) (v : PlainValue) → AllAreSorted m → stamps v (tokens_at (subtract latest needs m) p) ≡ less (stamps v (tokens_at m p)) (thresholds_for latest p v needs)
subtract_is_less latest [] m p v sorted = refl
subtract_is_less latest (need ∷ needs) m p v sorted =
    let next = on_place need.place (without_token need.value (latest need)) m in
    subtract_is_less latest needs next p v (sorted_without need.place need.value (latest need) m sorted) ∙ split (is_for p v need) refl
  where
    split : (b : Bool) → is_for p v need ≡ b
        → less (stamps v (tokens_at (on_place need.place (without_token need.value (latest need)) m) p)) (thresholds_for latest p v needs) ≡ less (stamps v (tokens_at m p)) (map latest (cond b (need ∷ filter (is_for p v) needs) (filter (is_for p v) needs)))
    split true is = ap (λ ss. less ss (thresholds_for latest p v needs)) (taken p v latest need m (sorted need.place) true is)
    split false is = ap (λ ss. less ss (thresholds_for latest p v needs)) (taken p v latest need m (sorted need.place) false is)
