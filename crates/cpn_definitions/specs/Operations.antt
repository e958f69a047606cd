-- What the operations of the inscription language give for the values of their operands, or which fault they have.
-- Source: our own profile of CPN ML; `div` and `mod` are those of the Standard ML Basis Library.
use Rattle.std.specs.Prelude.{ℕ, zero, suc, ◌^◌, ℤ, pos, negsuc, ◌+ℤ◌, ◌-ℤ◌, ◌*ℤ◌, neg_ℤ, Bool, not, if◌then◌else◌, nat_lt, nat_le, List, [], ◌∷◌, ◌++◌, length, reverse, slice_get}
use Rattle.std.specs.List.{list_any}
use Rattle.std.specs.Int.{int_div_euclid}
use Rattle.std.specs.declared.cmp.Ordering.{Ordering}
use Rattle.std.specs.Ordering.{nat_cmp, int_cmp, is_lt, is_le, is_gt, is_ge}
use Rattle.std.specs.Cmp.Lexicographic.{slice_cmp}
use Rattle.cpn_definitions.specs.Value.{PlainValue, boolean, int, text, tuple, list, to_list, from_list, nodes_of}
use Rattle.cpn_definitions.specs.Order.{same_value}
use Rattle.cpn_definitions.specs.Outcome.{Outcome, gives, faults, no_meaning, ◌>>=◌, given, overflow, divide_by_zero, empty_list, too_large}
use Rattle.cpn_definitions.specs.Inscription.{Operation, addition, subtraction, multiplication, division, remainder, negation, concatenation, equality, inequality, less_than, at_most, greater_than, at_least, complement, cons, appending, head, tail, list_length, reversal, membership, string_size, component}

-- the most nodes that a value may have
abbrev pub most_nodes : ℕ
most_nodes = 65536

-- ---- what an operand is

-- an integer, a truth value, a string, the items of a list, the components of a tuple; another kind of value is not typed there
abbrev pub integer_in : PlainValue → Outcome ℤ
integer_in (int z) = gives z
integer_in v = no_meaning

abbrev pub truth_in : PlainValue → Outcome Bool
truth_in (boolean b) = gives b
truth_in v = no_meaning

abbrev pub string_in : PlainValue → Outcome (List ℕ)
string_in (text bytes) = gives bytes
string_in v = no_meaning

abbrev pub items_in : PlainValue → Outcome (List PlainValue)
items_in (list vs) = gives (to_list vs)
items_in v = no_meaning

abbrev pub components_in : PlainValue → Outcome (List PlainValue)
components_in (tuple vs) = gives (to_list vs)
components_in v = no_meaning

-- ---- what is given

-- an integer, if it is one of 64 bits
abbrev pub within : ℤ → Outcome PlainValue
within (pos n) = if nat_lt n (2 ^ 63) then gives (int (pos n)) else faults overflow
within (negsuc n) = if nat_lt n (2 ^ 63) then gives (int (negsuc n)) else faults overflow

-- a value, if it is not too large
abbrev pub sized : PlainValue → Outcome PlainValue
sized v = if nat_le (nodes_of v) most_nodes then gives v else faults too_large

-- ---- integers

-- the quotient by a divisor that is not 0, rounded towards minus infinity
abbrev pub floor_div : ℤ → ℤ → ℤ
floor_div x (pos n) = int_div_euclid x (pos n)
floor_div x (negsuc n) = int_div_euclid (neg_ℤ x) (pos (suc n))

-- what is left: it has the divisor's sign
abbrev pub floor_mod : ℤ → ℤ → ℤ
floor_mod x y = x -ℤ (y *ℤ floor_div x y)

-- what a dividend and a divisor give, where the divisor is not 0
abbrev pub divided : (ℤ → ℤ → ℤ) → ℤ → ℤ → Outcome PlainValue
divided f x (pos zero) = faults divide_by_zero
divided f x (pos (suc n)) = within (f x (pos (suc n)))
divided f x (negsuc n) = within (f x (negsuc n))

-- what two integers give
abbrev pub on_integers : (ℤ → ℤ → Outcome PlainValue) → PlainValue → PlainValue → Outcome PlainValue
on_integers f v w = do
  x ← integer_in v
  y ← integer_in w
  f x y

-- ---- comparisons, strings, lists

-- two integers or two strings, in their order
abbrev pub compared : (Ordering → Bool) → PlainValue → PlainValue → Outcome PlainValue
compared test (int x) (int y) = gives (boolean (test (int_cmp x y)))
compared test (text xs) (text ys) = gives (boolean (test (slice_cmp nat_cmp xs ys)))
compared test v w = no_meaning

-- a string with another behind it
abbrev pub concatenated : PlainValue → PlainValue → Outcome PlainValue
concatenated v w = do
  xs ← string_in v
  ys ← string_in w
  sized (text (xs ++ ys))

-- an item with a list behind it
abbrev pub consed : PlainValue → PlainValue → Outcome PlainValue
consed v w = do
  vs ← items_in w
  sized (list (from_list (v ∷ vs)))

-- a list with another behind it
abbrev pub appended : PlainValue → PlainValue → Outcome PlainValue
appended v w = do
  vs ← items_in v
  ws ← items_in w
  sized (list (from_list (vs ++ ws)))

-- the first item, and the list of those behind it
abbrev pub head_in : List PlainValue → Outcome PlainValue
head_in [] = faults empty_list
head_in (v ∷ vs) = gives v

abbrev pub tail_in : List PlainValue → Outcome PlainValue
tail_in [] = faults empty_list
tail_in (v ∷ vs) = gives (list (from_list vs))

-- whether an item is in a list; the list comes first
abbrev pub member_of : PlainValue → PlainValue → Outcome PlainValue
member_of v w = do
  vs ← items_in v
  gives (boolean (list_any (same_value w) vs))

-- the k-th component, from 1
abbrev pub component_at : ℕ → List PlainValue → Outcome PlainValue
component_at zero vs = no_meaning
component_at (suc i) vs = given (slice_get vs i)

-- ---- operations

-- what one operand gives, and what two give; another number of operands is not typed
abbrev pub on_one : (PlainValue → Outcome PlainValue) → List PlainValue → Outcome PlainValue
on_one f [] = no_meaning
on_one f (v ∷ []) = f v
on_one f (v ∷ w ∷ vs) = no_meaning

abbrev pub on_two : (PlainValue → PlainValue → Outcome PlainValue) → List PlainValue → Outcome PlainValue
on_two f [] = no_meaning
on_two f (v ∷ []) = no_meaning
on_two f (v ∷ w ∷ []) = f v w
on_two f (v ∷ w ∷ x ∷ vs) = no_meaning

-- what an operation gives for the values of its operands
abbrev pub operated : Operation → List PlainValue → Outcome PlainValue
operated addition = on_two (on_integers (λ x y. within (x +ℤ y)))
operated subtraction = on_two (on_integers (λ x y. within (x -ℤ y)))
operated multiplication = on_two (on_integers (λ x y. within (x *ℤ y)))
operated division = on_two (on_integers (divided floor_div))
operated remainder = on_two (on_integers (divided floor_mod))
operated negation = on_one (λ v. integer_in v >>= (λ x. within (neg_ℤ x)))
operated concatenation = on_two concatenated
operated equality = on_two (λ v w. gives (boolean (same_value v w)))
operated inequality = on_two (λ v w. gives (boolean (not (same_value v w))))
operated less_than = on_two (compared is_lt)
operated at_most = on_two (compared is_le)
operated greater_than = on_two (compared is_gt)
operated at_least = on_two (compared is_ge)
operated complement = on_one (λ v. truth_in v >>= (λ b. gives (boolean (not b))))
operated cons = on_two consed
operated appending = on_two appended
operated head = on_one (λ v. items_in v >>= head_in)
operated tail = on_one (λ v. items_in v >>= tail_in)
operated list_length = on_one (λ v. items_in v >>= (λ vs. gives (int (pos (length vs)))))
operated reversal = on_one (λ v. items_in v >>= (λ vs. gives (list (from_list (reverse vs)))))
operated membership = on_two member_of
operated string_size = on_one (λ v. string_in v >>= (λ bytes. gives (int (pos (length bytes)))))
operated (component k) = on_one (λ v. components_in v >>= component_at k)
