-- The laws of the order of values: it is a total order, and two values are equal in it exactly where they are the same.
-- A value has a code, a row of integers, whose order xs rows is the order of values.
use Rattle.std.proofs.Common.{◌≡◌, ℕ, ℤ, pos, Bool, true, false, List, [], ◌∷◌, refl, sym, ap, ap₂, ◌∙◌, arith, Ordering, Less, Equal, Greater, nat_cmp, int_cmp, is_eq, is_gt}
use Rattle.std.specs.Ordering.{ordering_then, ordering_reverse, bool_cmp, on}
use Rattle.std.specs.Cmp.{IsTotalOrder}
use Rattle.std.specs.Cmp.Lexicographic.{slice_cmp}
use Rattle.std.proofs.lemmas.Cmp.{ranked, int_ranked, lists_total, on_total, int_cmp_total, nat_cmp_total, tied_itself, then_total}
use Rattle.std.proofs.lemmas.Bool.Decides.{nat_tests}
use Rattle.cpn_definitions.specs.Value.{PlainValue, PlainValues, unit, boolean, int, constant, text, tuple, bare, applied, list, none, more}
use Rattle.cpn_definitions.specs.Order.{value_cmp, values_cmp, same_value}
use Rattle.cpn_definitions.specs.Marking.{PlainToken, token_cmp}

-- ---- comparing one thing after another

pub then_then : (o p q : Ordering) → ordering_then (ordering_then o p) q ≡ ordering_then o (ordering_then p q)
then_then Less p q = refl
then_then Equal p q = refl
then_then Greater p q = refl

pub then_equal : (o : Ordering) → ordering_then o Equal ≡ o
then_equal Less = refl
then_equal Equal = refl
then_equal Greater = refl

pub then_first : (o p : Ordering) → ordering_then o p ≡ Equal → o ≡ Equal
then_first Equal p h = refl
then_first o p h = cc

pub then_second : (o p : Ordering) → ordering_then o p ≡ Equal → p ≡ Equal
then_second Equal p h = h
then_second o p h = cc

pub pos_cmp : (i j : ℕ) → int_cmp (pos i) (pos j) ≡ nat_cmp i j
pos_cmp i j = grind (arith, nat_tests)

-- an order that answers xs a total order does is one
pub total_from : {K : Type 0} (R S : K → K → Ordering) → ((x y : K) → R x y ≡ S x y) → IsTotalOrder R → IsTotalOrder S
total_from R S same o = record {
  antisymm = λ x y. sym (same x y) ∙ o.antisymm x y ∙ ap ordering_reverse (same y x);
  trans = λ x y z p q. sym (same x z) ∙ o.trans x y z (same x y ∙ p) (same y z ∙ q);
  congr = λ x y z p. sym (same x z) ∙ o.congr x y z (same x y ∙ p) ∙ same y z;
}

-- ---- the code of a value

abbrev bit : Bool → ℤ
bit false = pos 0
bit true = pos 1

abbrev byte_row : List ℕ → List ℤ → List ℤ
byte_row [] rest = pos 0 ∷ rest
byte_row (b ∷ zs) rest = pos 1 ∷ pos b ∷ byte_row zs rest

abbrev mutual
  row : PlainValue → List ℤ → List ℤ
  row unit rest = pos 0 ∷ rest
  row (boolean b) rest = pos 1 ∷ bit b ∷ rest
  row (int z) rest = pos 2 ∷ z ∷ rest
  row (constant k) rest = pos 3 ∷ pos k ∷ rest
  row (text bytes) rest = pos 4 ∷ byte_row bytes rest
  row (tuple vs) rest = pos 5 ∷ rows vs rest
  row (bare k) rest = pos 6 ∷ pos k ∷ pos 0 ∷ rest
  row (applied k v) rest = pos 6 ∷ pos k ∷ pos 1 ∷ row v rest
  row (list vs) rest = pos 7 ∷ rows vs rest

  rows : PlainValues → List ℤ → List ℤ
  rows none rest = pos 0 ∷ rest
  rows (more v vs) rest = pos 1 ∷ row v (rows vs rest)

abbrev rest_cmp : List ℤ → List ℤ → Ordering
rest_cmp x y = slice_cmp int_cmp x y

by_bytes : (xs zs : List ℕ) (x y : List ℤ) → rest_cmp (byte_row xs x) (byte_row zs y) ≡ ordering_then (slice_cmp nat_cmp xs zs) (rest_cmp x y)
by_bytes [] [] x y = refl
by_bytes [] (b ∷ zs) x y = refl
by_bytes (a ∷ xs) [] x y = refl
by_bytes (a ∷ xs) (b ∷ zs) x y = rw (pos_cmp a b, by_bytes xs zs x y) (sym (then_then (nat_cmp a b) (slice_cmp nat_cmp xs zs) (rest_cmp x y)))

mutual
  by_row : (v w : PlainValue) (x y : List ℤ) → rest_cmp (row v x) (row w y) ≡ ordering_then (value_cmp v w) (rest_cmp x y)
  by_row unit unit x y = refl
  by_row (boolean false) (boolean false) x y = refl
  by_row (boolean false) (boolean true) x y = refl
  by_row (boolean true) (boolean false) x y = refl
  by_row (boolean true) (boolean true) x y = refl
  by_row (int a) (int b) x y = refl
  by_row (constant i) (constant j) x y = rw (pos_cmp i j) refl
  by_row (text xs) (text zs) x y = by_bytes xs zs x y
  by_row (tuple vs) (tuple ws) x y = by_rows vs ws x y
  by_row (bare i) (bare j) x y = rw (pos_cmp i j) refl
  by_row (bare i) (applied j w) x y = rw (pos_cmp i j) (sym (then_then (nat_cmp i j) Less (rest_cmp x y)))
  by_row (applied i v) (bare j) x y = rw (pos_cmp i j) (sym (then_then (nat_cmp i j) Greater (rest_cmp x y)))
  by_row (applied i v) (applied j w) x y = rw (pos_cmp i j, by_row v w x y) (sym (then_then (nat_cmp i j) (value_cmp v w) (rest_cmp x y)))
  by_row (list vs) (list ws) x y = by_rows vs ws x y
  by_row v w x y = refl

  by_rows : (vs ws : PlainValues) (x y : List ℤ) → rest_cmp (rows vs x) (rows ws y) ≡ ordering_then (values_cmp vs ws) (rest_cmp x y)
  by_rows none none x y = refl
  by_rows none (more w ws) x y = refl
  by_rows (more v vs) none x y = refl
  by_rows (more v vs) (more w ws) x y =
      by_row v w (rows vs x) (rows ws y) ∙ ap (ordering_then (value_cmp v w)) (by_rows vs ws x y) ∙ sym (then_then (value_cmp v w) (values_cmp vs ws) (rest_cmp x y))

-- ---- the laws

pub value_cmp_total : IsTotalOrder value_cmp
value_cmp_total =
    total_from (on (λ v. row v []) (slice_cmp int_cmp)) value_cmp (λ v w. by_row v w [] [] ∙ then_equal (value_cmp v w)) (on_total (λ v. row v []) (lists_total int_cmp_total))

pub values_cmp_total : IsTotalOrder values_cmp
values_cmp_total =
    total_from (on (λ vs. rows vs []) (slice_cmp int_cmp)) values_cmp (λ vs ws. by_rows vs ws [] [] ∙ then_equal (values_cmp vs ws)) (on_total (λ vs. rows vs []) (lists_total int_cmp_total))

nat_same : (i j : ℕ) → nat_cmp i j ≡ Equal → i ≡ j
nat_same i j h = ranked i j Equal (sym h)

bytes_same : (xs zs : List ℕ) → slice_cmp nat_cmp xs zs ≡ Equal → xs ≡ zs
bytes_same [] [] h = refl
bytes_same [] (b ∷ zs) h = cc
bytes_same (a ∷ xs) [] h = cc
bytes_same (a ∷ xs) (b ∷ zs) h = ap₂ (λ x xs. x ∷ xs) (nat_same a b (then_first _ _ h)) (bytes_same xs zs (then_second (nat_cmp a b) _ h))

bits_same : (a b : Bool) → bool_cmp a b ≡ Equal → a ≡ b
bits_same false false h = refl
bits_same true true h = refl
bits_same a b h = cc

mutual
  -- values that compare xs equal are the same
  pub value_same : (v w : PlainValue) → value_cmp v w ≡ Equal → v ≡ w
  value_same unit unit h = refl
  value_same (boolean a) (boolean b) h = ap boolean (bits_same a b h)
  value_same (int x) (int y) h = ap int (int_ranked x y Equal (sym h))
  value_same (constant i) (constant j) h = ap constant (nat_same i j h)
  value_same (text xs) (text zs) h = ap text (bytes_same xs zs h)
  value_same (tuple vs) (tuple ws) h = ap tuple (values_same vs ws h)
  value_same (bare i) (bare j) h = ap bare (nat_same i j h)
  value_same (bare i) (applied j w) h = let e = then_second (nat_cmp i j) Less h in cc
  value_same (applied i v) (bare j) h = let e = then_second (nat_cmp i j) Greater h in cc
  value_same (applied i v) (applied j w) h = ap₂ applied (nat_same i j (then_first _ _ h)) (value_same v w (then_second (nat_cmp i j) _ h))
  value_same (list vs) (list ws) h = ap list (values_same vs ws h)
  value_same v w h = cc

  pub values_same : (vs ws : PlainValues) → values_cmp vs ws ≡ Equal → vs ≡ ws
  values_same none none h = refl
  values_same (more v vs) (more w ws) h = ap₂ more (value_same v w (then_first _ _ h)) (values_same vs ws (then_second (value_cmp v w) _ h))
  values_same vs ws h = cc

-- a value compares xs equal with itself
pub value_itself : (v : PlainValue) → value_cmp v v ≡ Equal
value_itself = tied_itself value_cmp_total

-- `same_value` tests whether two values are the same
pub same_value_true : (v w : PlainValue) → same_value v w ≡ true → v ≡ w
same_value_true v w h = value_same v w (equal_from (value_cmp v w) h)
  where
    equal_from : (o : Ordering) → is_eq o ≡ true → o ≡ Equal
    equal_from Equal h = refl
    equal_from o h = cc

pub same_value_refl : (v : PlainValue) → same_value v v ≡ true
same_value_refl v = ap is_eq (value_itself v)

-- ---- the order of tokens

pub token_cmp_total : IsTotalOrder token_cmp
token_cmp_total = then_total (on_total (λ (t : PlainToken). t.value) value_cmp_total) (on_total (λ (t : PlainToken). t.stamp) nat_cmp_total)

pub token_same : (t u : PlainToken) → token_cmp t u ≡ Equal → t ≡ u
token_same t u h =
    ap₂ (λ v s. record { value = v; stamp = s }) (value_same t.value u.value (then_first _ _ h)) (nat_same t.stamp u.stamp (then_second (value_cmp t.value u.value) _ h))

-- where a token is not above another, its value is not above the other's
pub value_not_above : (k l : PlainToken) → is_gt (token_cmp k l) ≡ false → is_gt (value_cmp k.value l.value) ≡ false
value_not_above k l h = split (value_cmp k.value l.value) _ h
  where
    split : (o p : Ordering) → is_gt (ordering_then o p) ≡ false → is_gt o ≡ false
    split Less p g = refl
    split Equal p g = refl
    split Greater p g = g
