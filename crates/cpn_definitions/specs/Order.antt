-- The order of values: unit; false before true; integers; constants by position; strings by bytes;
-- tuples and lists item by item, a proper prefix first; constructors by position, then argument.
-- Source: own choice. Values of two kinds, which no colour set has together, go by kind (own choice too).
use Rattle.std.specs.Prelude.{ℕ, Bool}
use Rattle.std.specs.declared.cmp.Ordering.{Ordering}
use Rattle.std.specs.declared.cmp.Ordering.TheVariants.{Less, Equal, Greater}
use Rattle.std.specs.Ordering.{ordering_then, nat_cmp, int_cmp, bool_cmp, is_eq}
use Rattle.std.specs.Cmp.Lexicographic.{slice_cmp}
use Rattle.cpn_definitions.specs.Value.{PlainValue, PlainValues, unit, boolean, int, constant, text, tuple, bare, applied, list, none, more}

-- the position of a value's kind among the kinds
abbrev pub kind_of : PlainValue → ℕ
kind_of unit = 0
kind_of (boolean b) = 1
kind_of (int z) = 2
kind_of (constant k) = 3
kind_of (text bytes) = 4
kind_of (tuple vs) = 5
kind_of (bare k) = 6
kind_of (applied k v) = 6
kind_of (list vs) = 7

abbrev mutual
  -- how two values compare
  pub value_cmp : PlainValue → PlainValue → Ordering
  value_cmp unit unit = Equal
  value_cmp (boolean a) (boolean b) = bool_cmp a b
  value_cmp (int x) (int y) = int_cmp x y
  value_cmp (constant i) (constant j) = nat_cmp i j
  value_cmp (text xs) (text ys) = slice_cmp nat_cmp xs ys
  value_cmp (tuple vs) (tuple ws) = values_cmp vs ws
  value_cmp (bare i) (bare j) = nat_cmp i j
  value_cmp (bare i) (applied j w) = ordering_then (nat_cmp i j) Less
  value_cmp (applied i v) (bare j) = ordering_then (nat_cmp i j) Greater
  value_cmp (applied i v) (applied j w) = ordering_then (nat_cmp i j) (value_cmp v w)
  value_cmp (list vs) (list ws) = values_cmp vs ws
  value_cmp v w = nat_cmp (kind_of v) (kind_of w)

  -- how two rows of values compare, item by item
  pub values_cmp : PlainValues → PlainValues → Ordering
  values_cmp none none = Equal
  values_cmp none (more w ws) = Less
  values_cmp (more v vs) none = Greater
  values_cmp (more v vs) (more w ws) = ordering_then (value_cmp v w) (values_cmp vs ws)

-- whether two values are the same
abbrev pub same_value : PlainValue → PlainValue → Bool
same_value v w = is_eq (value_cmp v w)
