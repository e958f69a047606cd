-- What a colour set admits has the colour set's type.
use Rattle.std.proofs.Common.{◌≡◌, ℕ, zero, suc, ◌<◌, true, Option, Some, None, refl, sym, subst}
use Rattle.std.proofs.lemmas.Bool.{ltb-true, and_parts}
use Rattle.cpn_definitions.specs.Value.{PlainValue, PlainValues, none, more}
use Rattle.cpn_definitions.specs.Value as value
use Rattle.cpn_definitions.specs.Colour.{PlainShape, PlainShapes, Constructors, PlainColour, unit_shape, boolean_shape, int_shape, text_shape, constant_shape, tuple_shape, union_shape, list_shape, no_shapes, more_shapes, no_constructors, without, taking, constructor_at, is_bare, takes, has_shape, have_shapes, all_have_shape, admits}
use Rattle.cpn_typing.specs.Types.{union, type_of_shape, types_of_shapes}
use Rattle.cpn_typing.specs.TypedValues.{Sets, HasType, of_unit, of_bool, of_int, of_text, of_constant, of_tuple, of_bare, of_applied, of_list, HaveTypes, of_none, of_more, AllHave, all_none, all_more, argument_types, HasSetsOf, HasSetsOfEach, HasSetsOfArguments}

-- the sets of the argument of a constructor
argument_sets : (sets : Sets) (cs : Constructors) (k : ℕ) (s : PlainShape) → HasSetsOfArguments sets cs → constructor_at cs k ≡ Some (Some s) → HasSetsOf sets s
argument_sets sets no_constructors k s h e = absurd (cc)
argument_sets sets (without cs) zero s h e = absurd (cc)
argument_sets sets (without cs) (suc k) s h e = argument_sets sets cs k s h e
argument_sets sets (taking t cs) zero s h e = let same : t ≡ s = cc in subst (HasSetsOf sets) same h.0
argument_sets sets (taking t cs) (suc k) s h e = argument_sets sets cs k s h.1 e

bare_type : (sets : Sets) (id k : ℕ) (o : Option (Option PlainShape)) → sets.constructor id k ≡ argument_types o → is_bare o ≡ true → HasType sets (value.bare k) (union id)
bare_type sets id k (Some None) e h = of_bare id k e
bare_type sets id k (Some (Some s)) e h = absurd (cc)
bare_type sets id k None e h = absurd (cc)

applied_type : (sets : Sets) (id k : ℕ) (cs : Constructors) (v : PlainValue) (o : Option (Option PlainShape)) → HasSetsOfArguments sets cs → constructor_at cs k ≡ o → sets.constructor id k ≡ argument_types o → takes o (λ s. has_shape v s) ≡ true → ((s : PlainShape) → HasSetsOf sets s → has_shape v s ≡ true → HasType sets v (type_of_shape s)) → HasType sets (value.applied k v) (union id)
applied_type sets id k cs v (Some (Some s)) h at e t f = of_applied id k (type_of_shape s) v e (f s (argument_sets sets cs k s h at) t)
applied_type sets id k cs v (Some None) h at e t f = absurd (cc)
applied_type sets id k cs v None h at e t f = absurd (cc)

mutual
  shape_type : (sets : Sets) (v : PlainValue) (s : PlainShape) → HasSetsOf sets s → has_shape v s ≡ true → HasType sets v (type_of_shape s)
  shape_type sets value.unit unit_shape h e = of_unit
  shape_type sets (value.boolean b) boolean_shape h e = of_bool b
  shape_type sets (value.int z) (int_shape low high) h e = of_int z
  shape_type sets (value.text bytes) text_shape h e = of_text bytes
  shape_type sets (value.constant k) (constant_shape id count) h e = of_constant id k (subst (λ n. k < n) (sym h) (ltb-true k count e))
  shape_type sets (value.tuple vs) (tuple_shape ss) h e = of_tuple vs (types_of_shapes ss) (shapes_types sets vs ss h e)
  shape_type sets (value.bare k) (union_shape id cs) h e = bare_type sets id k (constructor_at cs k) (h.0 k) e
  shape_type sets (value.applied k v) (union_shape id cs) h e =
      applied_type sets id k cs v (constructor_at cs k) h.1 refl (h.0 k) e (λ s i t. shape_type sets v s i t)
  shape_type sets (value.list vs) (list_shape s) h e = of_list vs (type_of_shape s) (items_type sets vs s h e)
  shape_type sets v s h e = absurd (cc)

  shapes_types : (sets : Sets) (vs : PlainValues) (ss : PlainShapes) → HasSetsOfEach sets ss → have_shapes vs ss ≡ true → HaveTypes sets vs (types_of_shapes ss)
  shapes_types sets none no_shapes h e = of_none
  shapes_types sets (more v vs) (more_shapes s ss) h e =
      let p = and_parts (has_shape v s) (have_shapes vs ss) e in
      of_more v vs (type_of_shape s) (types_of_shapes ss) (shape_type sets v s h.0 p.0) (shapes_types sets vs ss h.1 p.1)
  shapes_types sets vs ss h e = absurd (cc)

  items_type : (sets : Sets) (vs : PlainValues) (s : PlainShape) → HasSetsOf sets s → all_have_shape vs s ≡ true → AllHave sets vs (type_of_shape s)
  items_type sets none s h e = all_none (type_of_shape s)
  items_type sets (more v vs) s h e =
      let p = and_parts (has_shape v s) (all_have_shape vs s) e in
      all_more v vs (type_of_shape s) (shape_type sets v s h p.0) (items_type sets vs s h p.1)

-- A value that a colour set admits is one of its type, where the sets are those that the colour set speaks of.
pub admitted_has_type : (sets : Sets) (colour : PlainColour) (v : PlainValue) → HasSetsOf sets colour.shape → admits colour v ≡ true → HasType sets v (type_of_shape colour.shape)
admitted_has_type sets colour v h e = shape_type sets v colour.shape h e
