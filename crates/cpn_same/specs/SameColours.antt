-- When two colour sets are the same: all that they say is the same, level by level.
use Rattle.std.proofs.Common.{◌≡◌, ◌==◌, Bool, true, false, ◌&&◌, refl, ap, ap₂}
use Rattle.std.specs.Bool.{beq}
use Rattle.std.specs.Ordering.{int_eq}
use Rattle.std.specs.Cmp.{unsigned_Decides, signed_Decides, booleans_Decides}
use Rattle.std.proofs.lemmas.Bool.{and_parts, and_from}
use Rattle.cpn_definitions.specs.Colour.{PlainShape, PlainShapes, Constructors, PlainColour, unit_shape, boolean_shape, int_shape, text_shape, constant_shape, tuple_shape, union_shape, list_shape, no_shapes, more_shapes, no_constructors, without, taking}
use Rattle.cpn_same.specs.Equality.{DecidesEquality, decides_from}

abbrev mutual
  -- whether two shapes are the same
  pub same_shape : PlainShape → PlainShape → Bool
  same_shape unit_shape unit_shape = true
  same_shape boolean_shape boolean_shape = true
  same_shape (int_shape low high) (int_shape low' high') = int_eq low low' && int_eq high high'
  same_shape text_shape text_shape = true
  same_shape (constant_shape k count) (constant_shape k' count') = (k == k') && (count == count')
  same_shape (tuple_shape ss) (tuple_shape ts) = same_shapes ss ts
  same_shape (union_shape k cs) (union_shape k' ds) = (k == k') && same_constructors cs ds
  same_shape (list_shape s) (list_shape t) = same_shape s t
  same_shape s t = false

  -- whether the shapes of two rows are the same, one for one
  pub same_shapes : PlainShapes → PlainShapes → Bool
  same_shapes no_shapes no_shapes = true
  same_shapes (more_shapes s ss) (more_shapes t ts) = same_shape s t && same_shapes ss ts
  same_shapes ss ts = false

  -- whether two unions have the same constructors, with arguments of the same shapes
  pub same_constructors : Constructors → Constructors → Bool
  same_constructors no_constructors no_constructors = true
  same_constructors (without cs) (without ds) = same_constructors cs ds
  same_constructors (taking s cs) (taking t ds) = same_shape s t && same_constructors cs ds
  same_constructors cs ds = false

-- whether two colour sets are the same: of one shape, and both timed or both untimed
abbrev pub same_colour : PlainColour → PlainColour → Bool
same_colour colour other = same_shape colour.shape other.shape && beq colour.timed other.timed

-- ---- laws

mutual
  shape_itself : (s : PlainShape) → same_shape s s ≡ true
  shape_itself unit_shape = refl
  shape_itself boolean_shape = refl
  shape_itself (int_shape low high) = and_from (int_eq low low) (int_eq high high) ((signed_Decides low low).1 refl) ((signed_Decides high high).1 refl)
  shape_itself text_shape = refl
  shape_itself (constant_shape k count) = and_from (k == k) (count == count) ((unsigned_Decides k k).1 refl) ((unsigned_Decides count count).1 refl)
  shape_itself (tuple_shape ss) = shapes_itself ss
  shape_itself (union_shape k cs) = and_from (k == k) (same_constructors cs cs) ((unsigned_Decides k k).1 refl) (constructors_itself cs)
  shape_itself (list_shape s) = shape_itself s

  shapes_itself : (ss : PlainShapes) → same_shapes ss ss ≡ true
  shapes_itself no_shapes = refl
  shapes_itself (more_shapes s ss) = and_from (same_shape s s) (same_shapes ss ss) (shape_itself s) (shapes_itself ss)

  constructors_itself : (cs : Constructors) → same_constructors cs cs ≡ true
  constructors_itself no_constructors = refl
  constructors_itself (without cs) = constructors_itself cs
  constructors_itself (taking s cs) = and_from (same_shape s s) (same_constructors cs cs) (shape_itself s) (constructors_itself cs)

mutual
  shape_one : (s t : PlainShape) → same_shape s t ≡ true → s ≡ t
  shape_one unit_shape unit_shape h = refl
  shape_one boolean_shape boolean_shape h = refl
  shape_one (int_shape low high) (int_shape low' high') h = let both = and_parts (int_eq low low') (int_eq high high') h in ap₂ int_shape ((signed_Decides low low').0 both.0) ((signed_Decides high high').0 both.1)
  shape_one text_shape text_shape h = refl
  shape_one (constant_shape k count) (constant_shape k' count') h = let both = and_parts (k == k') (count == count') h in ap₂ constant_shape ((unsigned_Decides k k').0 both.0) ((unsigned_Decides count count').0 both.1)
  shape_one (tuple_shape ss) (tuple_shape ts) h = ap tuple_shape (shapes_one ss ts h)
  shape_one (union_shape k cs) (union_shape k' ds) h = let both = and_parts (k == k') (same_constructors cs ds) h in ap₂ union_shape ((unsigned_Decides k k').0 both.0) (constructors_one cs ds both.1)
  shape_one (list_shape s) (list_shape t) h = ap list_shape (shape_one s t h)
  shape_one s t h = cc

  shapes_one : (ss ts : PlainShapes) → same_shapes ss ts ≡ true → ss ≡ ts
  shapes_one no_shapes no_shapes h = refl
  shapes_one (more_shapes s ss) (more_shapes t ts) h = let both = and_parts (same_shape s t) (same_shapes ss ts) h in ap₂ more_shapes (shape_one s t both.0) (shapes_one ss ts both.1)
  shapes_one ss ts h = cc

  constructors_one : (cs ds : Constructors) → same_constructors cs ds ≡ true → cs ≡ ds
  constructors_one no_constructors no_constructors h = refl
  constructors_one (without cs) (without ds) h = ap without (constructors_one cs ds h)
  constructors_one (taking s cs) (taking t ds) h = let both = and_parts (same_shape s t) (same_constructors cs ds) h in ap₂ taking (shape_one s t both.0) (constructors_one cs ds both.1)
  constructors_one cs ds h = cc

pub shapes_decide : DecidesEquality same_shape
shapes_decide = decides_from same_shape shape_itself shape_one

pub colours_decide : DecidesEquality same_colour
colours_decide = decides_from same_colour itself one
  where
    itself : (colour : PlainColour) → same_colour colour colour ≡ true
    itself colour = and_from (same_shape colour.shape colour.shape) (beq colour.timed colour.timed) (shape_itself colour.shape) ((booleans_Decides colour.timed colour.timed).1 refl)

    one : (colour other : PlainColour) → same_colour colour other ≡ true → colour ≡ other
    one colour other h = let both = and_parts (same_shape colour.shape other.shape) (beq colour.timed other.timed) h in ap₂ (λ shape timed. record { shape = shape; timed = timed }) (shape_one colour.shape other.shape both.0) ((booleans_Decides colour.timed other.timed).0 both.1)
