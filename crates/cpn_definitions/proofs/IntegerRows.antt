-- Which integers have 64 bits, at the edges, and that those of each part of a colour set count, of places and of variables.
use Rattle.std.proofs.Common.{◌≡◌, ℤ, ◌^◌, ◌-◌, pos, negsuc, true, false, List, [], ◌∷◌, map, refl}
use Rattle.cpn_definitions.specs.Colour.{PlainShape, unit_shape, int_shape, tuple_shape, union_shape, list_shape, no_shapes, more_shapes, no_constructors, without, taking}
use Rattle.cpn_definitions.specs.Integers.{has_64_bits, has_short_integers, HasShortIntegers}
use Rattle.cpn_definitions.specs.Net.{Coloured, PlainNet}

the_greatest : has_64_bits (pos (2 ^ 63 - 1)) ≡ true
the_greatest = refl

one_more : has_64_bits (pos (2 ^ 63)) ≡ false
one_more = refl

the_least : has_64_bits (negsuc (2 ^ 63 - 1)) ≡ true
the_least = refl

one_less : has_64_bits (negsuc (2 ^ 63)) ≡ false
one_less = refl

-- an integer in a list, in a tuple behind another part, and in a union behind other constructors
abbrev in_parts : ℤ → ℤ → PlainShape
in_parts low high = list_shape (tuple_shape (more_shapes unit_shape (more_shapes (union_shape 0 (without (taking (int_shape low high) no_constructors))) no_shapes)))

short_parts : has_short_integers (in_parts (negsuc 0) (pos 0)) ≡ true
short_parts = refl

long_below : has_short_integers (in_parts (negsuc (2 ^ 63)) (pos 0)) ≡ false
long_below = refl

long_above : has_short_integers (in_parts (negsuc 0) (pos (2 ^ 63))) ≡ false
long_above = refl

-- and in the argument of the first constructor
first_argument : has_short_integers (union_shape 0 (taking (int_shape (pos 0) (pos (2 ^ 63))) (without no_constructors))) ≡ false
first_argument = refl

first_part : has_short_integers (tuple_shape (more_shapes (int_shape (pos 0) (pos (2 ^ 63))) (more_shapes unit_shape no_shapes))) ≡ false
first_part = refl

-- ---- nets

abbrev coloured : PlainShape → Coloured
coloured s = record { name = []; colour = record { shape = s; timed = false } }

-- a net of places and variables of these shapes
abbrev net : List PlainShape → List PlainShape → PlainNet
net places variables = record { places = map coloured places; transitions = []; variables = map coloured variables; constants = []; constructors = []; functions = [] }

abbrev short : PlainShape
short = int_shape (negsuc (2 ^ 63 - 1)) (pos (2 ^ 63 - 1))

abbrev long : PlainShape
long = int_shape (negsuc 0) (pos (2 ^ 63))

short_net : HasShortIntegers (net (unit_shape ∷ short ∷ []) (short ∷ unit_shape ∷ []))
short_net = record { places_short = refl; variables_short = refl }

a_place_is_long : HasShortIntegers (net (short ∷ long ∷ []) (short ∷ [])) → ⊥
a_place_is_long h = let no = h.places_short in cc

a_variable_is_long : HasShortIntegers (net (short ∷ []) (long ∷ short ∷ [])) → ⊥
a_variable_is_long h = let no = h.variables_short in cc
