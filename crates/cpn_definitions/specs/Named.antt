-- Nets that name what a report prints: the constants of enumerations and the constructors of unions. Source: own choice.
use Rattle.std.specs.Prelude.{◌≡◌, ℕ, ◌+◌, Bool, true, ◌&&◌, nat_le, List, [], length, slice_index_or}
use Rattle.std.specs.List.{list_all}
use Rattle.cpn_definitions.specs.Colour.{PlainShape, PlainShapes, Constructors, unit_shape, boolean_shape, int_shape, text_shape, constant_shape, tuple_shape, union_shape, list_shape, no_shapes, more_shapes, no_constructors, without, taking}
use Rattle.cpn_definitions.specs.Net.{Coloured, PlainNet}

-- the names of the constants of an enumeration, and of the constructors of a union, by its number
abbrev pub constants_of : PlainNet → ℕ → List (List ℕ)
constants_of n number = slice_index_or n.constants number []

abbrev pub constructors_of : PlainNet → ℕ → List (List ℕ)
constructors_of n number = slice_index_or n.constructors number []

-- how many constructors there are
abbrev pub count_of : Constructors → ℕ
count_of no_constructors = 0
count_of (without cs) = count_of cs + 1
count_of (taking s cs) = count_of cs + 1

abbrev mutual
  -- Whether the net has a name for each constant and each constructor of the colour sets of a shape, those of its
  -- parts too.
  pub has_names : PlainNet → PlainShape → Bool
  has_names n unit_shape = true
  has_names n boolean_shape = true
  has_names n (int_shape low high) = true
  has_names n text_shape = true
  has_names n (constant_shape number count) = nat_le count (length (constants_of n number))
  has_names n (tuple_shape ss) = have_names n ss
  has_names n (union_shape number cs) = nat_le (count_of cs) (length (constructors_of n number)) && arguments_have_names n cs
  has_names n (list_shape s) = has_names n s

  -- whether it has them for each of the shapes
  pub have_names : PlainNet → PlainShapes → Bool
  have_names n no_shapes = true
  have_names n (more_shapes s ss) = has_names n s && have_names n ss

  -- whether it has them for the argument of each constructor
  pub arguments_have_names : PlainNet → Constructors → Bool
  arguments_have_names n no_constructors = true
  arguments_have_names n (without cs) = arguments_have_names n cs
  arguments_have_names n (taking s cs) = has_names n s && arguments_have_names n cs

-- whether the net has a name for each constant and constructor of the colour set of a place or a variable
abbrev pub is_named : PlainNet → Coloured → Bool
is_named n coloured = has_names n coloured.colour.shape

-- Named: the net has the names of the colour sets of its places and its variables.
pub record IsNamed (n : PlainNet) : Type 0 where
  pub places_named : list_all (is_named n) n.places ≡ true
  pub variables_named : list_all (is_named n) n.variables ≡ true
