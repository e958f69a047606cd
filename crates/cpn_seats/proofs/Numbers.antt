-- Lists of seat numbers.
use Rattle.std.proofs.Common.{◌≡◌, ◌⊎◌, ℕ, zero, suc, ◌<◌, ◌==◌, eq-eqb, ◌||◌, Bool, true, false, List, [], ◌∷◌, ◌++◌, length, refl, sym, ap, subst, inl, inr, ⊎_elim, arith}
use Rattle.std.proofs.lemmas.Bool.Decides.{nat_tests}
use Rattle.cpn_runs.specs.SeatEvents.{is_among}
use Rattle.cpn_seats.specs.Turns.{before_last, last_of, AreDistinct, numbers_below}

pub before_last-push : (xs : List ℕ) (x : ℕ) → before_last (xs ++ x ∷ []) ≡ xs
before_last-push [] x = refl
before_last-push (y ∷ []) x = refl
before_last-push (y ∷ z ∷ xs) x = ap (λ l. y ∷ l) (before_last-push (z ∷ xs) x)

pub last_of-push : (xs : List ℕ) (x : ℕ) → last_of (xs ++ x ∷ []) ≡ x
last_of-push [] x = refl
last_of-push (y ∷ []) x = refl
last_of-push (y ∷ z ∷ xs) x = last_of-push (z ∷ xs) x

by_or : (a b : Bool) → (a || b) ≡ true → (a ≡ true) ⊎ (b ≡ true)
by_or true b h = inl refl
by_or false b h = inr h

or_right : (a b : Bool) → b ≡ true → (a || b) ≡ true
or_right true b h = refl
or_right false b h = h

-- a number of a list is one of its parts
pub has_either : (n : ℕ) (xs ys : List ℕ) → is_among n (xs ++ ys) ≡ true → (is_among n xs ≡ true) ⊎ (is_among n ys ≡ true)
has_either n [] ys h = inr h
has_either n (x ∷ xs) ys h =
    ⊎_elim (λ (a : (x == n) ≡ true). inl (ap (λ b. b || is_among n xs) a))
    (λ (a : is_among n (xs ++ ys) ≡ true). ⊎_elim (λ (b : is_among n xs ≡ true). inl (or_right (x == n) (is_among n xs) b)) inr (has_either n xs ys a))
    (by_or (x == n) (is_among n (xs ++ ys)) h)

pub has_one : (n m : ℕ) → is_among n (m ∷ []) ≡ true → n ≡ m
has_one n m h = ⊎_elim (λ (a : (m == n) ≡ true). let e : m ≡ n = grind (arith, nat_tests) in sym e) (λ (a : false ≡ true). cc) (by_or (m == n) false h)

pub has_left : (n : ℕ) (xs ys : List ℕ) → is_among n xs ≡ true → is_among n (xs ++ ys) ≡ true
has_left n [] ys h = cc
has_left n (x ∷ xs) ys h =
    ⊎_elim (λ (a : (x == n) ≡ true). ap (λ b. b || is_among n (xs ++ ys)) a)
    (λ (a : is_among n xs ≡ true). or_right (x == n) (is_among n (xs ++ ys)) (has_left n xs ys a))
    (by_or (x == n) (is_among n xs) h)

pub has_right : (n : ℕ) (xs ys : List ℕ) → is_among n ys ≡ true → is_among n (xs ++ ys) ≡ true
has_right n [] ys h = h
has_right n (x ∷ xs) ys h = or_right (x == n) (is_among n (xs ++ ys)) (has_right n xs ys h)

pub has_first : (n : ℕ) (xs : List ℕ) → is_among n (n ∷ xs) ≡ true
has_first n xs = ap (λ b. b || is_among n xs) (eq-eqb n n refl)

pub some_number : (n : ℕ) (xs : List ℕ) → is_among n xs ≡ true → 0 < length xs
some_number n [] h = absurd (cc)
some_number n (x ∷ xs) h = omega arith

pub none_among : (n : ℕ) → is_among n [] ≡ true → ⊥
none_among n h = cc

-- ---- no number twice

pub distinct_front : (xs ys : List ℕ) → AreDistinct (xs ++ ys) → AreDistinct xs
distinct_front [] ys d = tt
distinct_front (x ∷ xs) ys d = (λ is. d.0 (has_left x xs ys is), distinct_front xs ys d.1)

-- two parts of such a list have no number in common
pub distinct_apart : (xs ys : List ℕ) → AreDistinct (xs ++ ys) → (n : ℕ) → is_among n xs ≡ true → is_among n ys ≡ true → ⊥
distinct_apart [] ys d n a b = none_among n a
distinct_apart (x ∷ xs) ys d n a b =
    ⊎_elim
    (λ (e : (x == n) ≡ true). let is : x ≡ n = grind (arith, nat_tests) in d.0 (has_right x xs ys (subst (λ (k : ℕ). is_among k ys ≡ true) (sym is) b)))
    (λ (h : is_among n xs ≡ true). distinct_apart xs ys d.1 n h b)
    (by_or (x == n) (is_among n xs) a)

-- two lists with no number in common
pub distinct_both : (xs ys : List ℕ) → AreDistinct xs → AreDistinct ys → ((n : ℕ) → is_among n xs ≡ true → is_among n ys ≡ true → ⊥) → AreDistinct (xs ++ ys)
distinct_both [] ys d e apart = e
distinct_both (x ∷ xs) ys d e apart = (
  λ is. ⊎_elim d.0 (apart x (has_first x xs)) (has_either x xs ys is),
  distinct_both xs ys d.1 e (λ n a b. apart n (or_right (x == n) (is_among n xs) a) b),
)

pub distinct_push : (xs : List ℕ) (n : ℕ) → AreDistinct xs → (is_among n xs ≡ true → ⊥) → AreDistinct (xs ++ n ∷ [])
distinct_push xs n d new = distinct_both xs (n ∷ []) d (λ is. none_among n is, tt) (λ m a b. new (subst (λ (k : ℕ). is_among k xs ≡ true) (has_one m n b) a))

-- ---- the numbers below one

pub below_length : (n : ℕ) → length (numbers_below n) ≡ n
below_length zero = refl
below_length (suc n) = ap suc (below_length n)

pub below_all : (n m : ℕ) → is_among m (numbers_below n) ≡ true → m < n
below_all zero m h = absurd (none_among m h)
below_all (suc n) m h =
    ⊎_elim (λ (a : (n == m) ≡ true). let e : n ≡ m = grind (arith, nat_tests) in omega arith)
    (λ (a : is_among m (numbers_below n) ≡ true). let lt = below_all n m a in omega arith)
    (by_or (n == m) (is_among m (numbers_below n)) h)

pub below_distinct : (n : ℕ) → AreDistinct (numbers_below n)
below_distinct zero = tt
below_distinct (suc n) = (λ is. let lt = below_all n n is in omega arith, below_distinct n)
