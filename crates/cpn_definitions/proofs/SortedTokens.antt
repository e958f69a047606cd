-- Tokens stay sorted when one is added or taken, and one that is added is there beside all the others. Sorted tokens are in order,
-- so a test of their values divides them.
use Rattle.std.proofs.Common.{◌≡◌, ℕ, true, false, cond, [], ◌∷◌, refl, ap, ◌∙◌, Ordering, Less, Equal, Greater, is_lt, is_gt}
use Rattle.std.specs.Ordering.{ordering_reverse}
use Rattle.std.specs.List.{list_any}
use Rattle.std.proofs.lemmas.Cmp.{upto}
use Rattle.std.proofs.lemmas.Bool.{cond_both}
use Rattle.cpn_definitions.specs.Value.{PlainValue}
use Rattle.cpn_definitions.specs.Marking.{PlainToken, Tokens, token_cmp, add_token, without_token, is_taken_by, MayPrecede, AreSorted}
use Rattle.cpn_definitions.specs.Lists.{with_item}
use Rattle.cpn_definitions.specs.ValueOrder.{token_cmp_total}

-- a token that comes before another is not above it
below : (o : Ordering) → is_lt o ≡ true → is_gt o ≡ false
below Less h = refl
below Equal h = refl
below Greater h = cc

-- a token is not above another that does not come before it
turned : (t u : PlainToken) → is_lt (token_cmp t u) ≡ false → is_gt (token_cmp u t) ≡ false
turned t u h = ap is_gt (token_cmp_total.antisymm u t) ∙ back (token_cmp t u) h
  where
    back : (o : Ordering) → is_lt o ≡ false → is_gt (ordering_reverse o) ≡ false
    back Less h = cc
    back Equal h = refl
    back Greater h = refl

-- ---- adding

precedes_added : (u t : PlainToken) (us : Tokens) → MayPrecede u us → is_gt (token_cmp u t) ≡ false → MayPrecede u (add_token t us)
precedes_added u t [] before h = h
precedes_added u t (w ∷ ws) before h = cond_both (is_lt (token_cmp t w)) (t ∷ w ∷ ws) (w ∷ add_token t ws) (MayPrecede u) (λ _. h) (λ _. before)

-- sorted tokens stay sorted when one is added
pub add_token_sorted : (t : PlainToken) (us : Tokens) → AreSorted us → AreSorted (add_token t us)
add_token_sorted t [] sorted = (tt, tt)
add_token_sorted t (u ∷ us) sorted =
    cond_both (is_lt (token_cmp t u)) (t ∷ u ∷ us) (u ∷ add_token t us) AreSorted (λ h. (below (token_cmp t u) h, sorted))
    (λ h. (precedes_added u t us sorted.0 (turned t u h), add_token_sorted t us sorted.1))

-- adding a token is adding an item to a list in order
pub added_as_item : (t : PlainToken) (us : Tokens) → add_token t us ≡ with_item token_cmp t us
added_as_item t [] = refl
added_as_item t (u ∷ us) = ap (λ ws. cond (is_lt (token_cmp t u)) (t ∷ u ∷ us) (u ∷ ws)) (added_as_item t us)

-- ---- taking

-- a token that may stand before sorted tokens may stand before those after the first
precedes_rest : (k l : PlainToken) (ls : Tokens) → is_gt (token_cmp k l) ≡ false → MayPrecede l ls → MayPrecede k ls
precedes_rest k l [] h before = tt
precedes_rest k l (m ∷ ms) h before = upto token_cmp_total k l m h before

precedes_without : (v : PlainValue) (t : ℕ) (k : PlainToken) (ks : Tokens) → MayPrecede k ks → AreSorted ks → MayPrecede k (without_token v t ks)
precedes_without v t k [] before sorted = tt
precedes_without v t k (l ∷ ls) before sorted =
    cond_both (list_any (is_taken_by v t) ls) (l ∷ without_token v t ls) (cond (is_taken_by v t l) ls (l ∷ ls)) (MayPrecede k) (λ _. before)
    (λ _. cond_both (is_taken_by v t l) ls (l ∷ ls) (MayPrecede k) (λ _. precedes_rest k l ls before sorted.0) (λ _. before))

-- sorted tokens stay sorted when one is taken
pub without_token_sorted : (v : PlainValue) (t : ℕ) (ks : Tokens) → AreSorted ks → AreSorted (without_token v t ks)
without_token_sorted v t [] sorted = tt
without_token_sorted v t (k ∷ ks) sorted =
    cond_both (list_any (is_taken_by v t) ks) (k ∷ without_token v t ks) (cond (is_taken_by v t k) ks (k ∷ ks)) AreSorted
    (λ _. (precedes_without v t k ks sorted.0 sorted.1, without_token_sorted v t ks sorted.1)) (λ _. cond_both (is_taken_by v t k) ks (k ∷ ks) AreSorted (λ _. sorted.1) (λ _. sorted))
