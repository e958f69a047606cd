-- Two places of a marking changed, one after the other: it makes no difference in which order, where the places are different, or
-- where it makes none to the tokens of the one place.
use Rattle.std.proofs.Common.{◌≡◌, ℕ, zero, suc, ◌==◌, false, [], ◌∷◌, refl, ap, arith}
use Rattle.std.proofs.lemmas.Bool.Decides.{nat_tests}
use Rattle.cpn_definitions.specs.Marking.{Tokens, Marking, tokens_at, on_place}

-- two different places
pub different_places : (f g : Tokens → Tokens) (p q : ℕ) (m : Marking) → (p == q) ≡ false → on_place p f (on_place q g m) ≡ on_place q g (on_place p f m)
different_places f g p q [] other = refl
different_places f g zero zero (ks ∷ m) other = cc
different_places f g zero (suc q) (ks ∷ m) other = refl
different_places f g (suc p) zero (ks ∷ m) other = refl
different_places f g (suc p) (suc q) (ks ∷ m) other = ap (λ r. ks ∷ r) (different_places f g p q m (number_other p q other))
  where
    number_other : (p q : ℕ) → (suc p == suc q) ≡ false → (p == q) ≡ false
    number_other p q other = grind (arith, nat_tests)

-- one place: two changes leave what two others leave, where they do so with its tokens
pub one_place : (f g h k : Tokens → Tokens) (p : ℕ) (m : Marking) → f (g (tokens_at m p)) ≡ h (k (tokens_at m p)) → on_place p f (on_place p g m) ≡ on_place p h (on_place p k m)
one_place f g h k p [] same = refl
one_place f g h k zero (ks ∷ m) same = ap (λ ls. ls ∷ m) same
one_place f g h k (suc p) (ks ∷ m) same = ap (λ r. ks ∷ r) (one_place f g h k p m same)
