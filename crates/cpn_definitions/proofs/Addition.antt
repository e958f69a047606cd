-- The timed addition: a marking with tokens that were made has, of each value on each of its places, the stamps that it had and
-- those of the tokens made for it, in their order.
use Rattle.std.proofs.Common.{◌≡◌, ℕ, ◌<◌, ◌==◌, Bool, true, false, ◌&&◌, cond, List, [], ◌∷◌, map, length, refl, sym, ap, subst, ◌∙◌, eqb-true, arith, Ordering, Less, Equal, Greater, nat_cmp, is_lt}
use Rattle.std.specs.List.{filter}
use Rattle.std.specs.Ordering.{ordering_then}
use Rattle.std.proofs.lemmas.Bool.{cond_both, cond-true, cond-false}
use Rattle.cpn_definitions.specs.Value.{PlainValue}
use Rattle.cpn_definitions.specs.Order.{value_cmp, same_value}
use Rattle.cpn_definitions.specs.ValueOrder.{same_value_true}
use Rattle.cpn_definitions.specs.Lists.{with_item, with_items}
use Rattle.cpn_definitions.specs.Marking.{PlainToken, token_at, Tokens, Marking, tokens_at, on_place, token_cmp, add_token, AreSorted, stamps}
use Rattle.cpn_definitions.specs.Occurrence.{Made, add_made}
use Rattle.cpn_definitions.proofs.SortedTokens.{add_token_sorted}
use Rattle.cpn_definitions.proofs.Stamps.{stamps_add_other}
use Rattle.cpn_definitions.proofs.ChangedPlaces.{places_with, changed_place, other_place, tokens_on_place}
use Rattle.cpn_definitions.proofs.Subtraction.{AllAreSorted}
use Rattle.cpn_definitions.proofs.SameTokens.{stamps_here, below_none}

-- sorted stamps with one more, and with several
abbrev pub with_stamp : ℕ → List ℕ → List ℕ
with_stamp s rs = with_item nat_cmp s rs

abbrev pub with_stamps : List ℕ → List ℕ → List ℕ
with_stamps ss rs = with_items nat_cmp ss rs

-- ---- a token of the value

-- among sorted tokens a token that is added adds its stamp to those of its value, in their order
pub stamps_added : (v : PlainValue) (s : ℕ) (ks : Tokens) → AreSorted ks → stamps v (add_token (token_at v s) ks) ≡ with_stamp s (stamps v ks)
stamps_added v s [] sorted = stamps_here (token_at v s) []
stamps_added v s (k ∷ ks) sorted =
    cond_both (is_lt (token_cmp token k)) (token ∷ k ∷ ks) (k ∷ add_token token ks) (λ ls. stamps v ls ≡ with_stamp s (stamps v (k ∷ ks)))
    (λ h. stamps_here token (k ∷ ks) ∙ first (value_cmp v k.value) refl h) (λ h. later (stamps_added v s ks sorted.1) (value_cmp v k.value) refl h)
  where
    token : PlainToken
    token = token_at v s

    first : (o : Ordering) → value_cmp v k.value ≡ o → is_lt (ordering_then o (nat_cmp s k.stamp)) ≡ true → s ∷ stamps v (k ∷ ks) ≡ with_stamp s (stamps v (k ∷ ks))
    first Less e h = rw (below_none v k ks sorted e) refl
    first Equal e h = rw e (sym (cond-true (is_lt (nat_cmp s k.stamp)) (s ∷ k.stamp ∷ stamps v ks) (k.stamp ∷ with_stamp s (stamps v ks)) h))
    first Greater e h = cc

    later : stamps v (add_token token ks) ≡ with_stamp s (stamps v ks) → (o : Ordering) → value_cmp v k.value ≡ o → is_lt (ordering_then o (nat_cmp s k.stamp)) ≡ false → stamps v (k ∷ add_token token ks) ≡ with_stamp s (stamps v (k ∷ ks))
    later rest Less e h = cc
    later rest Equal e h = rw (e, rest) (sym (cond-false (is_lt (nat_cmp s k.stamp)) (s ∷ k.stamp ∷ stamps v ks) (k.stamp ∷ with_stamp s (stamps v ks)) h))
    later rest Greater e h = rw (e, rest) refl

-- the stamps of each value after a token was added
pub stamps_with : (w v : PlainValue) (s : ℕ) (ks : Tokens) → AreSorted ks → stamps w (add_token (token_at v s) ks) ≡ cond (same_value w v) (with_stamp s (stamps w ks)) (stamps w ks)
stamps_with w v s ks sorted =
    cond_both (same_value w v) (with_stamp s (stamps w ks)) (stamps w ks) (λ ss. stamps w (add_token (token_at v s) ks) ≡ ss)
    (λ h. subst (λ u. stamps w (add_token (token_at u s) ks) ≡ with_stamp s (stamps w ks)) (same_value_true w v h) (stamps_added w s ks sorted))
    (λ h. stamps_add_other w v s ks h)

-- ---- tokens that were made

-- whether a token was made for the value on the place
abbrev pub is_made_for : ℕ → PlainValue → Made → Bool
is_made_for p v made = (p == made.place) && same_value v made.value

-- the stamps of those tokens that were made for the value on the place
abbrev pub stamps_for : ℕ → PlainValue → List Made → List ℕ
stamps_for p v outputs = map (λ made. made.stamp) (filter (is_made_for p v) outputs)

abbrev pub with_made : Made → Marking → Marking
with_made made m = on_place made.place (add_token (token_at made.value made.stamp)) m

-- adding keeps the places
pub places_added : (outputs : List Made) (m : Marking) → length (add_made outputs m) ≡ length m
places_added [] m = refl
places_added (made ∷ outputs) m = places_added outputs (with_made made m) ∙ places_with made.place (add_token (token_at made.value made.stamp)) m

-- sorted markings stay sorted
pub sorted_with : (made : Made) (m : Marking) → AllAreSorted m → AllAreSorted (with_made made m)
sorted_with made m sorted = tokens_on_place (λ q ks. AreSorted ks) made.place (add_token (token_at made.value made.stamp)) m sorted (λ at. add_token_sorted (token_at made.value made.stamp) (tokens_at m made.place) at)

pub sorted_added : (outputs : List Made) (m : Marking) → AllAreSorted m → AllAreSorted (add_made outputs m)
sorted_added [] m sorted = sorted
sorted_added (made ∷ outputs) m sorted = sorted_added outputs (with_made made m) (sorted_with made m sorted)

one_added : (p : ℕ) (v : PlainValue) (made : Made) (m : Marking) → AllAreSorted m → p < length m → stamps v (tokens_at (with_made made m) p) ≡ cond (is_made_for p v made) (with_stamp made.stamp (stamps v (tokens_at m p))) (stamps v (tokens_at m p))
one_added p v made m sorted within = split (p == made.place) refl
  where
    split : (b : Bool) → (p == made.place) ≡ b → stamps v (tokens_at (with_made made m) p) ≡ cond (b && same_value v made.value) (with_stamp made.stamp (stamps v (tokens_at m p))) (stamps v (tokens_at m p))
    split true same =
        let at : p ≡ made.place = eqb-true p made.place same in
        ap (λ (q : ℕ). stamps v (tokens_at (on_place q (add_token (token_at made.value made.stamp)) m) p)) (sym at)
        ∙ ap (stamps v) (changed_place p (add_token (token_at made.value made.stamp)) m (λ past. absurd (omega arith)))
        ∙ stamps_with v made.value made.stamp (tokens_at m p) (sorted p)
    split false other = ap (stamps v) (other_place made.place p (add_token (token_at made.value made.stamp)) m other)

-- a marking with tokens that were made has the stamps that it had, and of each value on each place those made for it
pub add_made_is_more : (outputs : List Made) (m : Marking) (p : ℕ) (v : PlainValue) → AllAreSorted m → p < length m → stamps v (tokens_at (add_made outputs m) p) ≡ with_stamps (stamps_for p v outputs) (stamps v (tokens_at m p))
add_made_is_more [] m p v sorted within = refl
add_made_is_more (made ∷ outputs) m p v sorted within =
    add_made_is_more outputs (with_made made m) p v (sorted_with made m sorted) (subst (λ (k : ℕ). p < k) (sym (places_with made.place (add_token (token_at made.value made.stamp)) m)) within)
    ∙ ap (with_stamps (stamps_for p v outputs)) (one_added p v made m sorted within)
    ∙ split (is_made_for p v made)
  where
    split : (b : Bool) → with_stamps (stamps_for p v outputs) (cond b (with_stamp made.stamp (stamps v (tokens_at m p))) (stamps v (tokens_at m p))) ≡ with_stamps (map (λ (k : Made). k.stamp) (cond b (made ∷ filter (is_made_for p v) outputs) (filter (is_made_for p v) outputs))) (stamps v (tokens_at m p))
    split true = refl
    split false = refl
