-- What a name among names names: the first that is the same.
use Rattle.std.proofs.Common.{◌≡◌, ◌<◌, ◌≤◌, ◌+◌, ℕ, zero, suc, Bool, true, false, List, [], ◌∷◌, length, Some, None, refl, sym, subst, arith}
use Rattle.std.specs.Prelude.{cond, slice_index_or, Contains}
use Rattle.std.specs.List.{position_from}
use Rattle.std.specs.Str.{bytes_eq}
use Rattle.std.proofs.lemmas.Slice.Eq.{bytes_eq-Decides}
use Rattle.cpn_names.specs.Names.{number_of}

-- a number that is given stands behind those before it
record IsAt (name : List ℕ) (names : List (List ℕ)) (i k : ℕ) : Type 0 where
  pub from : i ≤ k
  pub below : k < i + length names
  pub is : (j : ℕ) → k ≡ i + j → slice_index_or names j [] ≡ name

next_at : (name n : List ℕ) (ns : List (List ℕ)) (i k : ℕ) → IsAt name ns (i + 1) k → IsAt name (n ∷ ns) i k
next_at name n ns i k at =
    let from = at.from in
    let below = at.below in
    record { from = omega (arith, from); below = omega (arith, below); is = λ j e. by j e }
  where
    by : (j : ℕ) → k ≡ i + j → slice_index_or (n ∷ ns) j [] ≡ name
    by zero e = let from = at.from in absurd (omega (arith, from, e))
    by (suc j) e = at.is j (omega (arith, e))

here_at : (name n : List ℕ) (ns : List (List ℕ)) (i : ℕ) → bytes_eq name n ≡ true → IsAt name (n ∷ ns) i i
here_at name n ns i e = record { from = omega arith; below = omega arith; is = λ j is. by j is }
  where
    by : (j : ℕ) → i ≡ i + j → slice_index_or (n ∷ ns) j [] ≡ name
    by zero is = let same = (bytes_eq-Decides name n).0 e in cc
    by (suc j) is = absurd (omega (arith, is))

number_at : (name : List ℕ) (names : List (List ℕ)) (i k : ℕ) → position_from (bytes_eq name) i names ≡ Some k → IsAt name names i k
number_at name [] i k h = cc
number_at name (n ∷ ns) i k h = by (bytes_eq name n) refl (number_at name ns (i + 1) k) h
  where
    by : (b : Bool) → bytes_eq name n ≡ b → (position_from (bytes_eq name) (i + 1) ns ≡ Some k → IsAt name ns (i + 1) k) → cond b (Some i) (position_from (bytes_eq name) (i + 1) ns) ≡ Some k → IsAt name (n ∷ ns) i k
    by true e later g = let same : i ≡ k = cc in subst (IsAt name (n ∷ ns) i) same (here_at name n ns i e)
    by false e later g = next_at name n ns i k (later g)

-- It is the number of a name,
pub number_below : (name : List ℕ) (names : List (List ℕ)) (k : ℕ) → number_of name names ≡ Some k → k < length names
number_below name names k h = let below = (number_at name names 0 k h).below in omega (arith, below)

-- which is the same.
number_is : (name : List ℕ) (names : List (List ℕ)) (k : ℕ) → number_of name names ≡ Some k → slice_index_or names k [] ≡ name
number_is name names k h = (number_at name names 0 k h).is k (omega arith)

not_there : (name : List ℕ) (names : List (List ℕ)) (i k : ℕ) → position_from (bytes_eq name) i names ≡ None → k < length names → slice_index_or names k name ≡ name → ⊥
not_there name [] i k h lt is = omega (arith, lt)
not_there name (n ∷ ns) i k h lt is = by (bytes_eq name n) refl k lt is h (not_there name ns (i + 1))
  where
    by : (b : Bool) → bytes_eq name n ≡ b → (k : ℕ) → k < length (n ∷ ns) → slice_index_or (n ∷ ns) k name ≡ name → cond b (Some i) (position_from (bytes_eq name) (i + 1) ns) ≡ None
        → ((k : ℕ) → position_from (bytes_eq name) (i + 1) ns ≡ None → k < length ns → slice_index_or ns k name ≡ name → ⊥) → ⊥
    by true e k lt is g later = cc
    by false e zero lt is g later = let itself = (bytes_eq-Decides name n).1 (sym is) in cc
    by false e (suc k) lt is g later = later k g (omega (arith, lt)) is

-- Where there is none, no name is the same.
no_number : (name : List ℕ) (names : List (List ℕ)) → number_of name names ≡ None → Contains names name → ⊥
no_number name names h is = not_there name names 0 is.0 h is.1 is.2
