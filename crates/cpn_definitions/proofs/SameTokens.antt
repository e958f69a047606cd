-- Sorted tokens are known by the stamps of each value.
use Rattle.std.proofs.Common.{◌≡◌, ℕ, Bool, true, false, cond, List, [], ◌∷◌, refl, sym, ap, ap₂, subst, ◌∙◌, Ordering, Less, Equal, Greater, is_eq, is_gt}
use Rattle.std.specs.Ordering.{ordering_reverse}
use Rattle.std.proofs.lemmas.Bool.{cond_both, cond-true}
use Rattle.std.proofs.lemmas.Cmp.{alike_right}
use Rattle.cpn_definitions.specs.Value.{PlainValue}
use Rattle.cpn_definitions.specs.Order.{value_cmp, same_value}
use Rattle.cpn_definitions.specs.Marking.{PlainToken, token_at, Tokens, without_token, without_latest, stamps, AreSorted}
use Rattle.cpn_definitions.specs.ValueOrder.{value_cmp_total, same_value_true, same_value_refl, value_not_above}
use Rattle.cpn_definitions.proofs.Stamps.{stamps_without, stamps_without_other}

-- ---- the stamps of a value among sorted tokens

-- the first token's stamp is the first of its value
pub stamps_here : (k : PlainToken) (ks : Tokens) → stamps k.value (k ∷ ks) ≡ k.stamp ∷ stamps k.value ks
stamps_here k ks = cond-true (same_value k.value k.value) (k.stamp ∷ stamps k.value ks) (stamps k.value ks) (same_value_refl k.value)

pub less_upto : (u v w : PlainValue) → value_cmp u v ≡ Less → is_gt (value_cmp v w) ≡ false → value_cmp u w ≡ Less
less_upto u v w h g = split (value_cmp v w) refl g
  where
    split : (o : Ordering) → value_cmp v w ≡ o → is_gt o ≡ false → value_cmp u w ≡ Less
    split Less e f = value_cmp_total.trans u v w h e
    split Equal e f = sym (alike_right value_cmp_total v w u e) ∙ h
    split Greater e f = cc

-- a value that is below that of the first token has no stamps
pub below_none : (u : PlainValue) (k : PlainToken) (ks : Tokens) → AreSorted (k ∷ ks) → value_cmp u k.value ≡ Less → stamps u (k ∷ ks) ≡ []
below_none u k [] sorted h = rw h refl
below_none u k (l ∷ ls) sorted h = rw h (below_none u l ls sorted.1 (less_upto u k.value l.value h (value_not_above k l sorted.0)))

-- sorted tokens are known by the stamps of each value
pub same_tokens : (ks ls : Tokens) → AreSorted ks → AreSorted ls → ((w : PlainValue) → stamps w ks ≡ stamps w ls) → ks ≡ ls
same_tokens [] [] sorted sorted' same = refl
same_tokens [] (l ∷ ls) sorted sorted' same = let e : [] ≡ l.stamp ∷ stamps l.value ls = same l.value ∙ stamps_here l ls in cc
same_tokens (k ∷ ks) [] sorted sorted' same = let e : k.stamp ∷ stamps k.value ks ≡ [] = sym (stamps_here k ks) ∙ same k.value in cc
same_tokens (k ∷ ks) (l ∷ ls) sorted sorted' same = split (same_tokens ks ls sorted.1 sorted'.1) (value_cmp k.value l.value) refl
  where
    cancel : (b : Bool) (s : ℕ) (xs ys : List ℕ) → cond b (s ∷ xs) xs ≡ cond b (s ∷ ys) ys → xs ≡ ys
    cancel true s xs ys e = cc
    cancel false s xs ys e = e

    split : (((w : PlainValue) → stamps w ks ≡ stamps w ls) → ks ≡ ls) → (o : Ordering) → value_cmp k.value l.value ≡ o → k ∷ ks ≡ l ∷ ls
    split rest Less e = let f : k.stamp ∷ stamps k.value ks ≡ [] = sym (stamps_here k ks) ∙ same k.value ∙ below_none k.value l ls sorted' e in cc
    split rest Greater e =
        let back : value_cmp l.value k.value ≡ Less = value_cmp_total.antisymm l.value k.value ∙ ap ordering_reverse e in
        let f : [] ≡ l.stamp ∷ stamps l.value ls = sym (below_none l.value k ks sorted back) ∙ same l.value ∙ stamps_here l ls in
        cc
    split rest Equal e =
        let value : k.value ≡ l.value = same_value_true k.value l.value (ap is_eq e) in
        let firsts : k.stamp ∷ stamps k.value ks ≡ l.stamp ∷ stamps l.value ls = sym (stamps_here k ks) ∙ same k.value ∙ ap (λ v. stamps v (l ∷ ls)) value ∙ stamps_here l ls in
        let stamp : k.stamp ≡ l.stamp = cc in
        let token : l ≡ k = ap₂ token_at (sym value) (sym stamp) in
        let tails : ks ≡ ls = rest (λ w. cancel (same_value w k.value) k.stamp (stamps w ks) (stamps w ls) (subst (λ x. stamps w (k ∷ ks) ≡ stamps w (x ∷ ls)) token (same w))) in
        cc

-- the stamps of each value after a token was taken
pub stamps_of_without : (w v : PlainValue) (t : ℕ) (ks : Tokens) → AreSorted ks → stamps w (without_token v t ks) ≡ cond (same_value w v) (without_latest t (stamps w ks)) (stamps w ks)
stamps_of_without w v t ks sorted =
    cond_both (same_value w v) (without_latest t (stamps w ks)) (stamps w ks) (λ ss. stamps w (without_token v t ks) ≡ ss)
    (λ h. subst (λ u. stamps w (without_token u t ks) ≡ without_latest t (stamps w ks)) (same_value_true w v h) (stamps_without w t ks sorted))
    (λ h. stamps_without_other w v t ks h)
