-- A marking with the tokens of one place changed (`on_place`): it has as many places, the tokens of that place are changed, and
-- those of each other place are not.
use Rattle.std.proofs.Common.{◌≡◌, ℕ, zero, suc, ◌≤◌, ◌==◌, false, [], ◌∷◌, length, refl, sym, arith}
use Rattle.std.proofs.Math.ListN.{length-set}
use Rattle.std.proofs.lemmas.Bool.Decides.{nat_tests}
use Rattle.cpn_definitions.specs.Marking.{Tokens, Marking, tokens_at, on_place}

pub places_with : (p : ℕ) (change : Tokens → Tokens) (m : Marking) → length (on_place p change m) ≡ length m
places_with p change m = length-set m p (change (tokens_at m p))

-- the tokens of the place that is changed; one past the last stays without tokens
pub changed_place : (p : ℕ) (change : Tokens → Tokens) (m : Marking) → (length m ≤ p → change [] ≡ []) → tokens_at (on_place p change m) p ≡ change (tokens_at m p)
changed_place p change [] none = sym (none (omega arith))
changed_place zero change (ks ∷ m) none = refl
changed_place (suc p) change (ks ∷ m) none = changed_place p change m (λ past. none (omega arith))

-- the tokens of another place than the one that is changed
pub other_place : (p q : ℕ) (change : Tokens → Tokens) (m : Marking) → (q == p) ≡ false → tokens_at (on_place p change m) q ≡ tokens_at m q
other_place p q change [] other = refl
other_place zero zero change (ks ∷ m) other = cc
other_place zero (suc q) change (ks ∷ m) other = refl
other_place (suc p) zero change (ks ∷ m) other = refl
other_place (suc p) (suc q) change (ks ∷ m) other = other_place p q change m (number_other p q other)
  where
    number_other : (p q : ℕ) → (suc q == suc p) ≡ false → (q == p) ≡ false
    number_other p q other = grind (arith, nat_tests)

-- what holds of the tokens of each place holds after a change that keeps it on the place
pub tokens_on_place : (P : ℕ → Tokens → Type 0) (p : ℕ) (change : Tokens → Tokens) (m : Marking) → ((q : ℕ) → P q (tokens_at m q)) → (P p (tokens_at m p) → P p (change (tokens_at m p))) → (q : ℕ) → P q (tokens_at (on_place p change m) q)
tokens_on_place P p change [] all at q = all q
tokens_on_place P zero change (ks ∷ m) all at zero = at (all 0)
tokens_on_place P zero change (ks ∷ m) all at (suc q) = all (suc q)
tokens_on_place P (suc p) change (ks ∷ m) all at zero = all 0
tokens_on_place P (suc p) change (ks ∷ m) all at (suc q) = tokens_on_place (λ r. P (suc r)) p change m (λ r. all (suc r)) at q
