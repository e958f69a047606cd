-- Colour sets, and which values they admit. Source: Jensen and Kristensen, chapters 3 and 4.
use Rattle.std.specs.Prelude.{ℕ, zero, suc, ℤ, Bool, true, false, ◌&&◌, nat_lt, nat_le, int_le, Option, Some, None}
use Rattle.std.specs.List.{list_all}
use Rattle.cpn_definitions.specs.Value.{PlainValue, PlainValues, unit, boolean, int, constant, text, tuple, bare, applied, list, none, more}

mutual
  -- The shape of a colour set: unit, the truth values, the integers from a least to a greatest one,
  -- the strings, an enumeration by its number and how many constants it has, tuples, a union by its
  -- number and its constructors, lists.
  pub data PlainShape : Type 0 where
    unit_shape : PlainShape
    boolean_shape : PlainShape
    int_shape : ℤ → ℤ → PlainShape
    text_shape : PlainShape
    constant_shape : ℕ → ℕ → PlainShape
    tuple_shape : PlainShapes → PlainShape
    union_shape : ℕ → Constructors → PlainShape
    list_shape : PlainShape → PlainShape

  -- the shapes of a tuple's items
  pub data PlainShapes : Type 0 where
    no_shapes : PlainShapes
    more_shapes : PlainShape → PlainShapes → PlainShapes

  -- the constructors of a union, each without an argument or taking one of a shape
  pub data Constructors : Type 0 where
    no_constructors : Constructors
    without : Constructors → Constructors
    taking : PlainShape → Constructors → Constructors

-- A colour set: its shape, and whether its tokens carry time stamps.
pub record PlainColour : Type 0 where
  pub shape : PlainShape
  pub timed : Bool

-- the argument of the constructor at a position: none declared, or one of a shape; None past the last
abbrev pub constructor_at : Constructors → ℕ → Option (Option PlainShape)
constructor_at no_constructors k = None
constructor_at (without cs) zero = Some None
constructor_at (taking s cs) zero = Some (Some s)
constructor_at (without cs) (suc k) = constructor_at cs k
constructor_at (taking s cs) (suc k) = constructor_at cs k

-- that the constructor is there and has no argument
abbrev pub is_bare : Option (Option PlainShape) → Bool
is_bare None = false
is_bare (Some None) = true
is_bare (Some (Some s)) = false

-- that the constructor is there and has an argument whose shape passes
abbrev pub takes : Option (Option PlainShape) → (PlainShape → Bool) → Bool
takes None test = false
takes (Some None) test = false
takes (Some (Some s)) test = test s

-- a byte that a string may have
abbrev pub is_printable : ℕ → Bool
is_printable byte = nat_le 0x20 byte && nat_le byte 0x7E

abbrev mutual
  -- Whether a value has a shape: an integer within the bounds, a string of printable bytes, a constant
  -- below the number of constants, tuples and lists item by item, a constructor with an argument
  -- exactly where one is declared.
  pub has_shape : PlainValue → PlainShape → Bool
  has_shape unit unit_shape = true
  has_shape (boolean b) boolean_shape = true
  has_shape (int z) (int_shape low high) = int_le low z && int_le z high
  has_shape (constant k) (constant_shape id count) = nat_lt k count
  has_shape (text bytes) text_shape = list_all is_printable bytes
  has_shape (tuple vs) (tuple_shape ss) = have_shapes vs ss
  has_shape (bare k) (union_shape id cs) = is_bare (constructor_at cs k)
  has_shape (applied k v) (union_shape id cs) = takes (constructor_at cs k) (λ s. has_shape v s)
  has_shape (list vs) (list_shape s) = all_have_shape vs s
  has_shape v s = false

  -- whether the values have the shapes, one for one
  pub have_shapes : PlainValues → PlainShapes → Bool
  have_shapes none no_shapes = true
  have_shapes (more v vs) (more_shapes s ss) = has_shape v s && have_shapes vs ss
  have_shapes vs ss = false

  -- whether each of the values has the shape
  pub all_have_shape : PlainValues → PlainShape → Bool
  all_have_shape none s = true
  all_have_shape (more v vs) s = has_shape v s && all_have_shape vs s

-- Admits: the value is one of the colour set.
abbrev pub admits : PlainColour → PlainValue → Bool
admits colour v = has_shape v colour.shape
