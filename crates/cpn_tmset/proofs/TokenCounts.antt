-- How many tokens there are after one was taken.
use Rattle.std.proofs.Common.{◌≡◌, ℕ, suc, ◌+◌, Bool, true, false, cond, ◌&&◌, ◌||◌, nat_le, [], ◌∷◌, length, Some, None, refl, sym, ap, ◌∙◌, arith, true≢false}
use Rattle.std.specs.List.{list_any}
use Rattle.std.proofs.Math.Bool.{or-true}
use Rattle.cpn_definitions.specs.Value.{PlainValue}
use Rattle.cpn_definitions.specs.Order.{same_value}
use Rattle.cpn_definitions.specs.Marking.{Tokens, without_token, is_taken_by, stamps, begins_by}
use Rattle.cpn_tmset.specs.Stamps.{latest_of}

pub one_fewer : (v : PlainValue) (t : ℕ) (ks : Tokens) → list_any (is_taken_by v t) ks ≡ true → length (without_token v t ks) + 1 ≡ length ks
one_fewer v t [] h = absurd (true≢false (sym h))
one_fewer v t (k ∷ ks) h = split (list_any (is_taken_by v t) ks) (is_taken_by v t k) h (one_fewer v t ks)
  where
    split : (b c : Bool) → (c || b) ≡ true → (b ≡ true → length (without_token v t ks) + 1 ≡ length ks) → length (cond b (k ∷ without_token v t ks) (cond c ks (k ∷ ks))) + 1 ≡ suc (length ks)
    split true c g rest = let fewer = rest refl in omega arith
    split false true g rest = omega arith
    split false false g rest = absurd (true≢false (sym g))

-- where a stamp of the value is the latest up to the threshold, a token of it may be taken
taken_where_named : (v : PlainValue) (t s : ℕ) (ks : Tokens) → latest_of t (stamps v ks) ≡ Some s → list_any (is_taken_by v t) ks ≡ true
taken_where_named v t s [] h = cc
taken_where_named v t s (k ∷ ks) h = split (same_value v k.value) h (taken_where_named v t s ks)
  where
    at_first : (b c : Bool) → cond c (latest_of t (stamps v ks)) (cond b (Some k.stamp) None) ≡ Some s → (latest_of t (stamps v ks) ≡ Some s → list_any (is_taken_by v t) ks ≡ true) → (b || list_any (is_taken_by v t) ks) ≡ true
    at_first b true g rest = ap (λ c. b || c) (rest g) ∙ or-true b
    at_first true false g rest = refl
    at_first false false g rest = cc

    split : (a : Bool) → latest_of t (cond a (k.stamp ∷ stamps v ks) (stamps v ks)) ≡ Some s → (latest_of t (stamps v ks) ≡ Some s → list_any (is_taken_by v t) ks ≡ true) → ((a && nat_le k.stamp t) || list_any (is_taken_by v t) ks) ≡ true
    split true g rest = at_first (nat_le k.stamp t) (begins_by t (stamps v ks)) g rest
    split false g rest = rest g

pub length-without_token : (v : PlainValue) (t s : ℕ) (ks : Tokens) → latest_of t (stamps v ks) ≡ Some s → length (without_token v t ks) + 1 ≡ length ks
length-without_token v t s ks h = one_fewer v t ks (taken_where_named v t s ks h)
