-- The values of a type, and what a colour set has to do with its type. Source: own choice.
use Rattle.std.specs.Prelude.{◌≡◌, ℕ, ℤ, ◌<◌, Bool, List, [], length, slice_get, slice_index_or, Option, Some, None}
use Rattle.std.specs.Option.{option_map}
use Rattle.cpn_definitions.specs.Value.{PlainValue, PlainValues, none, more}
use Rattle.cpn_definitions.specs.Value as value
use Rattle.cpn_definitions.specs.Colour.{PlainShape, PlainShapes, Constructors, unit_shape, boolean_shape, int_shape, text_shape, constant_shape, tuple_shape, union_shape, list_shape, no_shapes, more_shapes, no_constructors, without, taking, constructor_at}
use Rattle.cpn_typing.specs.Types.{PlainTy, unit_type, bool_type, int_type, text_type, enumeration, union, tuples, lists, PlainTys, no_types, more_types, type_of_shape}
use Rattle.cpn_typing.specs.Names.{NamedConstructor, Declared}

-- The sets behind the types: how many constants an enumeration has, and the constructors of a union, each with the type of
-- its argument where it has one.
pub record Sets : Type 0 where
  pub constants : ℕ → ℕ
  pub constructor : ℕ → ℕ → Option (Option PlainTy)

-- those that have been declared
abbrev pub argument_of : NamedConstructor → Option PlainTy
argument_of c = c.argument

abbrev pub sets_of : Declared → Sets
sets_of ds = record {
  constants = λ id. length (slice_index_or ds.enumerations id []);
  constructor = λ id k. option_map argument_of (slice_get (slice_index_or ds.unions id []) k);
}

mutual
  -- The values of a type: integers are all integers, and strings all strings; a constant is one of its enumeration; a
  -- constructor has an argument exactly where one is declared, and of its type.
  pub data HasType (sets : Sets) : PlainValue → PlainTy → Type 0 where
    of_unit : HasType sets value.unit unit_type
    of_bool : (b : Bool) → HasType sets (value.boolean b) bool_type
    of_int : (z : ℤ) → HasType sets (value.int z) int_type
    of_text : (bytes : List ℕ) → HasType sets (value.text bytes) text_type
    of_constant : (id k : ℕ) → k < sets.constants id → HasType sets (value.constant k) (enumeration id)
    of_tuple : (vs : PlainValues) (ts : PlainTys) → HaveTypes sets vs ts → HasType sets (value.tuple vs) (tuples ts)
    of_bare : (id k : ℕ) → sets.constructor id k ≡ Some None → HasType sets (value.bare k) (union id)
    of_applied : (id k : ℕ) (t : PlainTy) (v : PlainValue) → sets.constructor id k ≡ Some (Some t) → HasType sets v t → HasType sets (value.applied k v) (union id)
    of_list : (vs : PlainValues) (t : PlainTy) → AllHave sets vs t → HasType sets (value.list vs) (lists t)

  -- the values have the types, one for one
  pub data HaveTypes (sets : Sets) : PlainValues → PlainTys → Type 0 where
    of_none : HaveTypes sets none no_types
    of_more : (v : PlainValue) (vs : PlainValues) (t : PlainTy) (ts : PlainTys) → HasType sets v t → HaveTypes sets vs ts → HaveTypes sets (more v vs) (more_types t ts)

  -- each of the values has the type
  pub data AllHave (sets : Sets) : PlainValues → PlainTy → Type 0 where
    all_none : (t : PlainTy) → AllHave sets none t
    all_more : (v : PlainValue) (vs : PlainValues) (t : PlainTy) → HasType sets v t → AllHave sets vs t → AllHave sets (more v vs) t

-- the type of a constructor's argument, where it has one
abbrev pub argument_types : Option (Option PlainShape) → Option (Option PlainTy)
argument_types = option_map (option_map type_of_shape)

-- The sets are those that a shape speaks of: each enumeration in it has as many constants, each union the same constructors.
abbrev mutual
  pub HasSetsOf : Sets → PlainShape → Type 0
  HasSetsOf sets unit_shape = Unit {0}
  HasSetsOf sets boolean_shape = Unit {0}
  HasSetsOf sets (int_shape low high) = Unit {0}
  HasSetsOf sets text_shape = Unit {0}
  HasSetsOf sets (constant_shape id count) = sets.constants id ≡ count
  HasSetsOf sets (tuple_shape ss) = HasSetsOfEach sets ss
  HasSetsOf sets (union_shape id cs) =
      ((k : ℕ) → sets.constructor id k ≡ argument_types (constructor_at cs k)) × HasSetsOfArguments sets cs
  HasSetsOf sets (list_shape s) = HasSetsOf sets s

  pub HasSetsOfEach : Sets → PlainShapes → Type 0
  HasSetsOfEach sets no_shapes = Unit {0}
  HasSetsOfEach sets (more_shapes s ss) = HasSetsOf sets s × HasSetsOfEach sets ss

  pub HasSetsOfArguments : Sets → Constructors → Type 0
  HasSetsOfArguments sets no_constructors = Unit {0}
  HasSetsOfArguments sets (without cs) = HasSetsOfArguments sets cs
  HasSetsOfArguments sets (taking s cs) = HasSetsOf sets s × HasSetsOfArguments sets cs
