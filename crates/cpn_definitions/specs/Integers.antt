-- Colour sets whose integers have 64 bits. That those of a document that is loaded have is the clause `short` of `load` (`cpn_file`).
-- Source: our own profile of CPN ML.
use Rattle.std.specs.Prelude.{◌≡◌, ◌^◌, ℤ, pos, negsuc, Bool, true, ◌&&◌, nat_lt}
use Rattle.std.specs.List.{list_all}
use Rattle.cpn_definitions.specs.Colour.{PlainShape, PlainShapes, Constructors, unit_shape, boolean_shape, int_shape, text_shape, constant_shape, tuple_shape, union_shape, list_shape, no_shapes, more_shapes, no_constructors, without, taking}
use Rattle.cpn_definitions.specs.Net.{Coloured, PlainNet}

-- whether an integer is one of 64 bits
abbrev pub has_64_bits : ℤ → Bool
has_64_bits (pos n) = nat_lt n (2 ^ 63)
has_64_bits (negsuc n) = nat_lt n (2 ^ 63)

abbrev mutual
  -- Whether the integers of a shape, those of its parts too, have bounds of 64 bits.
  pub has_short_integers : PlainShape → Bool
  has_short_integers unit_shape = true
  has_short_integers boolean_shape = true
  has_short_integers (int_shape low high) = has_64_bits low && has_64_bits high
  has_short_integers text_shape = true
  has_short_integers (constant_shape number count) = true
  has_short_integers (tuple_shape ss) = have_short_integers ss
  has_short_integers (union_shape number cs) = arguments_have_short_integers cs
  has_short_integers (list_shape s) = has_short_integers s

  -- whether those of each of the shapes have
  pub have_short_integers : PlainShapes → Bool
  have_short_integers no_shapes = true
  have_short_integers (more_shapes s ss) = has_short_integers s && have_short_integers ss

  -- whether those of the argument of each constructor have
  pub arguments_have_short_integers : Constructors → Bool
  arguments_have_short_integers no_constructors = true
  arguments_have_short_integers (without cs) = arguments_have_short_integers cs
  arguments_have_short_integers (taking s cs) = has_short_integers s && arguments_have_short_integers cs

-- whether the integers of the colour set of a place or a variable have bounds of 64 bits
abbrev pub is_short : Coloured → Bool
is_short coloured = has_short_integers coloured.colour.shape

-- Short integers: those of the colour sets of the net's places and variables have bounds of 64 bits.
pub record HasShortIntegers (n : PlainNet) : Type 0 where
  pub places_short : list_all is_short n.places ≡ true
  pub variables_short : list_all is_short n.variables ≡ true
