-- Values of colour sets, as plain data. Source: the values of CPN ML, Jensen and Kristensen, chapter 3.
use Rattle.std.specs.Prelude.{ℕ, ◌+◌, ℤ, Bool, List, [], ◌∷◌, length}

mutual
  -- A value: the one of unit, a truth value, an integer, a constant of an enumeration by its position,
  -- a string by its bytes, a tuple, a constructor of a union by its position without or with its
  -- argument, a list.
  pub data PlainValue : Type 0 where
    unit : PlainValue
    boolean : Bool → PlainValue
    int : ℤ → PlainValue
    constant : ℕ → PlainValue
    text : List ℕ → PlainValue
    tuple : PlainValues → PlainValue
    bare : ℕ → PlainValue
    applied : ℕ → PlainValue → PlainValue
    list : PlainValues → PlainValue

  -- Several values, one after another: the items of a tuple or a list.
  pub data PlainValues : Type 0 where
    none : PlainValues
    more : PlainValue → PlainValues → PlainValues

-- the items as a list, and a list as items
abbrev pub to_list : PlainValues → List PlainValue
to_list none = []
to_list (more v vs) = v ∷ to_list vs

abbrev pub from_list : List PlainValue → PlainValues
from_list [] = none
from_list (v ∷ vs) = more v (from_list vs)

-- The number of nodes of a value: one for each value in it; a string counts one and its bytes.
abbrev mutual
  pub nodes_of : PlainValue → ℕ
  nodes_of unit = 1
  nodes_of (boolean b) = 1
  nodes_of (int z) = 1
  nodes_of (constant k) = 1
  nodes_of (text bytes) = 1 + length bytes
  nodes_of (tuple vs) = 1 + nodes_of_all vs
  nodes_of (bare k) = 1
  nodes_of (applied k v) = 1 + nodes_of v
  nodes_of (list vs) = 1 + nodes_of_all vs

  pub nodes_of_all : PlainValues → ℕ
  nodes_of_all none = 0
  nodes_of_all (more v vs) = nodes_of v + nodes_of_all vs
