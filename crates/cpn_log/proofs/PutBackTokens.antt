-- What needs took out of a marking, put back with its stamps, in whatever order, gives the marking.
use Rattle.std.proofs.Common.{◌≡◌, ℕ, zero, suc, ◌<◌, ◌≤◌, Bool, true, false, cond, List, [], ◌∷◌, ◌++◌, length, Some, None, slice_get, refl, sym, ap, subst, ◌∙◌, ⊎_elim, is_lt}
use Rattle.std.specs.List.{AllByRecursion}
use Rattle.std.specs.Option.{unwrap_or}
use Rattle.std.proofs.lemmas.Bool.{cond_both, cases_lt}
use Rattle.cpn_definitions.specs.Value.{PlainValue}
use Rattle.cpn_definitions.specs.Order.{same_value}
use Rattle.cpn_definitions.specs.ValueOrder.{same_value_true}
use Rattle.cpn_definitions.specs.Lists.{with_item, with_items, in_order}
use Rattle.cpn_definitions.specs.Marking.{token_at, Tokens, Marking, tokens_at, on_place, add_token, AreSorted, stamps, begins_by, without_token}
use Rattle.cpn_definitions.specs.Occurrence.{Needed, Made, made_cmp, threshold, subtract, add_made}
use Rattle.cpn_definitions.proofs.OrderedLists.{with_items_append}
use Rattle.cpn_definitions.proofs.SortedTokens.{add_token_sorted, without_token_sorted}
use Rattle.cpn_definitions.proofs.Stamps.{stamps_rise, stamps_without, stamps_without_other}
use Rattle.cpn_definitions.proofs.SameTokens.{same_tokens}
use Rattle.cpn_definitions.proofs.ChangedPlaces.{places_with}
use Rattle.cpn_definitions.proofs.Subtraction.{AllAreSorted, sorted_without}
use Rattle.cpn_definitions.proofs.Addition.{with_stamp, stamps_with, with_made}
use Rattle.cpn_definitions.proofs.RicherMarkings.{past_the_last}
use Rattle.cpn_tmset.specs.Stamps.{latest_stamp}
use Rattle.cpn_tmset.specs.StampsTaken.{stamp_taken, stamps_taken}
use Rattle.cpn_tmset.proofs.CarriedStamps.{is_latest}
use Rattle.cpn_runs.proofs.CarriedTokens.{CoveredInTurn, first_found, rest_covered, with_either_way}
use Rattle.cpn_runs.proofs.Picks.{taken_back}
use Rattle.cpn_log.specs.Gathered.{token_taken, tokens_taken}

-- ---- one token

-- the token that a threshold takes from a place, put back
token_back : (v : PlainValue) (t : ℕ) (ks : Tokens) → AreSorted ks → begins_by t (stamps v ks) ≡ true → add_token (token_at v (latest_stamp t (stamps v ks))) (without_token v t ks) ≡ ks
token_back v t ks sorted found =
    same_tokens (add_token (token_at v s) left) ks (add_token_sorted (token_at v s) left left_sorted) sorted (λ w. stamps_with w v s left left_sorted ∙ split w (same_value w v) refl)
  where
    s : ℕ
    s = latest_stamp t (stamps v ks)

    left : Tokens
    left = without_token v t ks

    left_sorted : AreSorted left
    left_sorted = without_token_sorted v t ks sorted

    split : (w : PlainValue) (b : Bool) → same_value w v ≡ b → cond b (with_stamp s (stamps w left)) (stamps w left) ≡ stamps w ks
    split w true is =
        subst (λ u. with_stamp s (stamps u left) ≡ stamps u ks) (sym (same_value_true w v is)) (ap (with_stamp s) (stamps_without v t ks sorted) ∙ taken_back t (stamps v ks) (stamps_rise v ks sorted) found)
    split w false is = stamps_without_other w v t ks is

-- ---- one token in a marking

same_place : (f : Tokens → Tokens) (p : ℕ) (m : Marking) → f (tokens_at m p) ≡ tokens_at m p → on_place p f m ≡ m
same_place f p [] same = refl
same_place f zero (ks ∷ m) same = ap (λ ls. ls ∷ m) same
same_place f (suc p) (ks ∷ m) same = ap (λ r. ks ∷ r) (same_place f p m same)

both_on_place : (f g : Tokens → Tokens) (p : ℕ) (m : Marking) → on_place p f (on_place p g m) ≡ on_place p (λ ks. f (g ks)) m
both_on_place f g p [] = refl
both_on_place f g zero (ks ∷ m) = refl
both_on_place f g (suc p) (ks ∷ m) = ap (λ r. ks ∷ r) (both_on_place f g p m)

need_back
    : (time : ℕ) (need : Needed) (m : Marking)
    → AllAreSorted m
    → begins_by (threshold time need) (stamps need.value (tokens_at m need.place)) ≡ true
    → with_made (token_taken need (stamp_taken time need m)) (on_place need.place (without_token need.value (threshold time need)) m) ≡ m
need_back time need m sorted found =
    let t = threshold time need in
    let ks = tokens_at m need.place in
    let take = without_token need.value t in
    let add = add_token (token_at need.value (latest_stamp t (stamps need.value ks))) in
    ap (λ o. with_made (token_taken need (unwrap_or o 0)) (on_place need.place take m)) (is_latest t (stamps need.value ks) found)
    ∙ both_on_place add take need.place m ∙ same_place (λ ls. add (take ls)) need.place m (token_back need.value t ks (sorted need.place) found)

-- ---- the order in which tokens are put in

one_later : (xs : List Made) (x : Made) (m : Marking) → add_made xs (with_made x m) ≡ with_made x (add_made xs m)
one_later [] x m = refl
one_later (y ∷ ys) x m = ap (add_made ys) (with_either_way y x m) ∙ one_later ys x (with_made y m)

with_item_added : (x : Made) (ys : List Made) (m : Marking) → add_made (with_item made_cmp x ys) m ≡ add_made ys (with_made x m)
with_item_added x [] m = refl
with_item_added x (y ∷ ys) m =
    cond_both (is_lt (made_cmp x y)) (x ∷ y ∷ ys) (y ∷ with_item made_cmp x ys) (λ zs. add_made zs m ≡ add_made (y ∷ ys) (with_made x m)) (λ _. refl)
    (λ _. with_item_added x ys (with_made y m) ∙ ap (add_made ys) (with_either_way x y m))

with_items_added : (xs ys : List Made) (m : Marking) → add_made (with_items made_cmp xs ys) m ≡ add_made xs (add_made ys m)
with_items_added [] ys m = refl
with_items_added (x ∷ xs) ys m = with_items_added xs (with_item made_cmp x ys) m ∙ ap (add_made xs) (with_item_added x ys m ∙ one_later ys x m)

-- ---- all tokens

each_back : (time : ℕ) (needs : List Needed) (m : Marking) → AllAreSorted m → CoveredInTurn time needs m → add_made (tokens_taken needs (stamps_taken time needs m)) (subtract (threshold time) needs m) ≡ m
each_back time [] m sorted all = refl
each_back time (need ∷ needs) m sorted all =
    let found = first_found time need needs m sorted all in
    let next = on_place need.place (without_token need.value (threshold time need)) m in
    let first = token_taken need (stamp_taken time need m) in
    let rest = each_back time needs next (sorted_without need.place need.value (threshold time need) m sorted) (rest_covered time need needs m sorted all) in
    one_later (tokens_taken needs (stamps_taken time needs next)) first (subtract (threshold time) needs next) ∙ ap (with_made first) rest ∙ need_back time need m sorted found

pub all_back
    : (time : ℕ) (needs : List Needed) (m : Marking)
    → AllAreSorted m
    → CoveredInTurn time needs m
    → add_made (in_order made_cmp (tokens_taken needs (stamps_taken time needs m))) (subtract (threshold time) needs m) ≡ m
all_back time needs m sorted all = with_items_added (tokens_taken needs (stamps_taken time needs m)) [] (subtract (threshold time) needs m) ∙ each_back time needs m sorted all

-- each of them stood on a place of the marking
pub each_within : (time : ℕ) (needs : List Needed) (m : Marking) → AllAreSorted m → CoveredInTurn time needs m → AllByRecursion (λ token. token.place < length m) (tokens_taken needs (stamps_taken time needs m))
each_within time [] m sorted all = tt
each_within time (need ∷ needs) m sorted all =
    let next = on_place need.place (without_token need.value (threshold time need)) m in
    let rest = each_within time needs next (sorted_without need.place need.value (threshold time need) m sorted) (rest_covered time need needs m sorted all) in (
      ⊎_elim (λ lt. lt) (λ ge. past ge (first_found time need needs m sorted all)) (cases_lt need.place (length m)),
      subst (λ (n : ℕ). AllByRecursion (λ token. token.place < n) (tokens_taken needs (stamps_taken time needs next))) (places_with need.place (without_token need.value (threshold time need)) m) rest,
    )
  where
    past : length m ≤ need.place → begins_by (threshold time need) (stamps need.value (tokens_at m need.place)) ≡ true → need.place < length m
    past ge found = let none : false ≡ true = ap (λ ks. begins_by (threshold time need) (stamps need.value ks)) (sym (past_the_last m need.place ge)) ∙ found in cc

-- ---- one need more

pub one_taken_more : (needs : List Needed) (need : Needed) (ss : List ℕ) (s : ℕ) → slice_get ss (length needs) ≡ Some s → tokens_taken (needs ++ need ∷ []) ss ≡ tokens_taken needs ss ++ token_taken need s ∷ []
one_taken_more [] need [] s at = cc
one_taken_more [] need (t ∷ ts) s at = let same : t ≡ s = cc in ap (λ (n : ℕ). token_taken need n ∷ []) same
one_taken_more (first ∷ needs) need [] s at = cc
one_taken_more (first ∷ needs) need (t ∷ ts) s at = ap (λ tokens. token_taken first t ∷ tokens) (one_taken_more needs need ts s at)

pub none_taken_more : (needs : List Needed) (need : Needed) (ss : List ℕ) → slice_get ss (length needs) ≡ None → tokens_taken (needs ++ need ∷ []) ss ≡ tokens_taken needs ss
none_taken_more [] need [] at = refl
none_taken_more [] need (t ∷ ts) at = cc
none_taken_more (first ∷ needs) need [] at = refl
none_taken_more (first ∷ needs) need (t ∷ ts) at = ap (λ tokens. token_taken first t ∷ tokens) (none_taken_more needs need ts at)

-- put in order behind the others
pub one_in_order : (tokens : List Made) (token : Made) → in_order made_cmp (tokens ++ token ∷ []) ≡ with_item made_cmp token (in_order made_cmp tokens)
one_in_order tokens token = with_items_append made_cmp tokens (token ∷ []) []
