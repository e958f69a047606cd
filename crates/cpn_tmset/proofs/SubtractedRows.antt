-- What needs leave of a marking in worked cases, for every value on every place; and what they do not leave.
use Rattle.std.proofs.Common.{◌≡◌, ℕ, zero, suc, ◌==◌, Bool, true, false, pos, List, [], ◌∷◌, refl, arith}
use Rattle.std.proofs.lemmas.Bool.Decides.{nat_tests}
use Rattle.cpn_definitions.specs.Marking.{Marking, tokens_at, token_at, stamps, less}
use Rattle.cpn_definitions.specs.Occurrence.{Needed, threshold, thresholds}
use Rattle.cpn_definitions.specs.Order.{same_value}
use Rattle.cpn_definitions.specs.Value.{PlainValue, int}
use Rattle.cpn_tmset.specs.Subtracted.{need_for, IsSubtracted}

abbrev seven : PlainValue
seven = int (pos 7)

abbrev nine : PlainValue
nine = int (pos 9)

-- on place 0 the value 7 at 1, 3 and 6 and 9 at 2, and on place 1 the value 7 at 3
abbrev before : Marking
before = (token_at seven 1 ∷ token_at seven 3 ∷ token_at seven 6 ∷ token_at nine 2 ∷ []) ∷ (token_at seven 3 ∷ []) ∷ []

-- a 7 of place 0, with offset 1: at 4 it may have a stamp up to 5
abbrev needs : List Needed
needs = record { place = 0; value = seven; offset = 1 } ∷ []

-- ---- the stamp 3 is taken there

abbrev left : Marking
left = (token_at seven 1 ∷ token_at seven 6 ∷ token_at nine 2 ∷ []) ∷ (token_at seven 3 ∷ []) ∷ []

-- whatever the value is: 7, 9 or another
first_place : (v : PlainValue) → stamps v (tokens_at left 0) ≡ less (stamps v (tokens_at before 0)) (thresholds (threshold 4) (need_for 0 v) needs)
first_place v = by (same_value v seven) (same_value v nine) refl refl
  where
    by : (is_seven is_nine : Bool) → same_value v seven ≡ is_seven → same_value v nine ≡ is_nine → stamps v (tokens_at left 0) ≡ less (stamps v (tokens_at before 0)) (thresholds (threshold 4) (need_for 0 v) needs)
    by true true is also = rw (is, also) refl
    by true false is also = rw (is, also) refl
    by false true is also = rw (is, also) refl
    by false false is also = rw (is, also) refl

-- and on any later place, where nothing is
no_need_there : (p : ℕ) → (suc p == 0) ≡ false
no_need_there p = grind (arith, nat_tests)

three_is_taken : IsSubtracted 4 needs before left
three_is_taken zero v = first_place v
three_is_taken (suc zero) v = refl
three_is_taken (suc (suc p)) v = rw (no_need_there (suc p)) refl

-- ---- and nothing else is left

-- not with 1 taken, nor 6
not_the_earliest : IsSubtracted 4 needs before ((token_at seven 3 ∷ token_at seven 6 ∷ token_at nine 2 ∷ []) ∷ (token_at seven 3 ∷ []) ∷ []) → ⊥
not_the_earliest is = let e : ◌≡◌ {A = List ℕ} (3 ∷ 6 ∷ []) (1 ∷ 6 ∷ []) = is 0 seven in cc

not_above_the_threshold : IsSubtracted 4 needs before ((token_at seven 1 ∷ token_at seven 3 ∷ token_at nine 2 ∷ []) ∷ (token_at seven 3 ∷ []) ∷ []) → ⊥
not_above_the_threshold is = let e : ◌≡◌ {A = List ℕ} (1 ∷ 3 ∷ []) (1 ∷ 6 ∷ []) = is 0 seven in cc

-- not at once, though nothing is taken
not_untouched : IsSubtracted 4 needs before before → ⊥
not_untouched is = let e : ◌≡◌ {A = List ℕ} (1 ∷ 3 ∷ 6 ∷ []) (1 ∷ 6 ∷ []) = is 0 seven in cc

-- not with another value taken besides
not_another_value : IsSubtracted 4 needs before ((token_at seven 1 ∷ token_at seven 6 ∷ []) ∷ (token_at seven 3 ∷ []) ∷ []) → ⊥
not_another_value is = let e : ◌≡◌ {A = List ℕ} ([]) (2 ∷ []) = is 0 nine in cc

-- not with a token of another place taken besides
not_another_place : IsSubtracted 4 needs before ((token_at seven 1 ∷ token_at seven 6 ∷ token_at nine 2 ∷ []) ∷ [] ∷ []) → ⊥
not_another_place is = let e : ◌≡◌ {A = List ℕ} ([]) (3 ∷ []) = is 1 seven in cc

-- at 5 the stamp may be up to 6
six_at_five : IsSubtracted 5 needs before left → ⊥
six_at_five is = let e : ◌≡◌ {A = List ℕ} (1 ∷ 6 ∷ []) (1 ∷ 3 ∷ []) = is 0 seven in cc
