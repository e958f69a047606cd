-- A token that is put on a place or taken from it: the marking stays one of its places, and no other stamps change.
use Rattle.std.proofs.Common.{◌≡◌, ℕ, ◌<◌, ◌≤◌, ◌==◌, Bool, true, false, ◌&&◌, List, [], ◌∷◌, length, refl, sym, ap, subst, ◌∙◌, eqb-true, arith, slice_index_or}
use Rattle.std.proofs.lemmas.Bool.{or_parts}
use Rattle.cpn_definitions.specs.Value.{PlainValue}
use Rattle.cpn_definitions.specs.Order.{same_value}
use Rattle.cpn_definitions.specs.Marking.{Tokens, Marking, tokens_at, on_place, token_at, add_token, without_token, stamps}
use Rattle.cpn_definitions.specs.Net.{Coloured, nothing}
use Rattle.cpn_definitions.specs.Sound.{may_hold, IsMarking}
use Rattle.cpn_definitions.proofs.ChangedPlaces.{changed_place, other_place}
use Rattle.cpn_definitions.proofs.Markings.{changed_marking, all_added, all_without}
use Rattle.cpn_definitions.proofs.SortedTokens.{add_token_sorted, without_token_sorted}
use Rattle.cpn_definitions.proofs.Stamps.{stamps_add_other, stamps_without_other}
use Rattle.cpn_tmset.specs.Changed.{PlainChange, is_change, OthersStay}

-- where a change of a place keeps the stamps of all values but one, all others stay
one_changed
    : (place : ℕ) (value : PlainValue) (change : Tokens → Tokens) (m : Marking)
    → (length m ≤ place → change [] ≡ [])
    → ((v : PlainValue) → same_value v value ≡ false → stamps v (change (tokens_at m place)) ≡ stamps v (tokens_at m place))
    → OthersStay (record { place = place; value = value } ∷ []) m (on_place place change m)
one_changed place value change m none keeps = λ p v untold. split p v (p == place) refl (or_parts (is_change p v (record { place = place; value = value })) false untold).0
  where
    split : (p : ℕ) (v : PlainValue) (b : Bool) → (p == place) ≡ b → ((p == place) && same_value v value) ≡ false → stamps v (tokens_at (on_place place change m) p) ≡ stamps v (tokens_at m p)
    split p v false other untold = ap (stamps v) (other_place place p change m other)
    split p v true same untold =
        let at : p ≡ place = eqb-true p place same in
        let other : same_value v value ≡ false = ap (λ b. b && same_value v value) (sym same) ∙ untold in
        subst (λ (q : ℕ). stamps v (tokens_at (on_place place change m) q) ≡ stamps v (tokens_at m q)) (sym at) (ap (stamps v) (changed_place place change m none) ∙ keeps v other)

-- ---- a token that is put

pub others_stay_put
    : (p : ℕ) (v : PlainValue) (stamp : ℕ) (m new : Marking) (told : List PlainChange)
    → p < length m
    → told ≡ record { place = p; value = v } ∷ []
    → new ≡ on_place p (add_token (token_at v stamp)) m
    → OthersStay told m new
others_stay_put p v stamp m new told within told_is new_is =
    subst (λ (cs : List PlainChange). OthersStay cs m new) (sym told_is)
    (subst (λ (k : Marking). OthersStay (record { place = p; value = v } ∷ []) m k) (sym new_is) (one_changed p v (add_token (token_at v stamp)) m (λ past. absurd (omega (arith, within, past))) (λ w other. stamps_add_other w v stamp (tokens_at m p) other)))

pub marking_put : (places : List Coloured) (p : ℕ) (v : PlainValue) (stamp : ℕ) (m : Marking) → IsMarking places m → may_hold (slice_index_or places p nothing).colour (token_at v stamp) ≡ true → IsMarking places (on_place p (add_token (token_at v stamp)) m)
marking_put places p v stamp m is held = changed_marking places p (add_token (token_at v stamp)) m (λ at. (add_token_sorted (token_at v stamp) (tokens_at m p) at.0, all_added _ (token_at v stamp) (tokens_at m p) held at.1)) is

-- ---- a token that is taken

pub others_stay_taken
    : (p : ℕ) (v : PlainValue) (latest : ℕ) (m new : Marking) (told : List PlainChange)
    → told ≡ record { place = p; value = v } ∷ []
    → new ≡ on_place p (without_token v latest) m
    → OthersStay told m new
others_stay_taken p v latest m new told told_is new_is =
    subst (λ (cs : List PlainChange). OthersStay cs m new) (sym told_is)
    (subst (λ (k : Marking). OthersStay (record { place = p; value = v } ∷ []) m k) (sym new_is) (one_changed p v (without_token v latest) m (λ _. refl) (λ w other. stamps_without_other w v latest (tokens_at m p) other)))

pub marking_taken : (places : List Coloured) (p : ℕ) (v : PlainValue) (latest : ℕ) (m : Marking) → IsMarking places m → IsMarking places (on_place p (without_token v latest) m)
marking_taken places p v latest m is = changed_marking places p (without_token v latest) m (λ at. (without_token_sorted v latest (tokens_at m p) at.0, all_without _ v latest (tokens_at m p) at.1)) is
