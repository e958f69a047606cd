-- Types of inscriptions, as plain data. Source: the simple types of CPN ML.
use Rattle.std.specs.Prelude.{ℕ, zero, suc, ◌==◌, Bool, true, false, ◌&&◌, List, [], ◌∷◌, Option, Some, None}
use Rattle.cpn_definitions.specs.Colour.{PlainShape, PlainShapes, unit_shape, boolean_shape, int_shape, text_shape, constant_shape, tuple_shape, union_shape, list_shape, no_shapes, more_shapes}

mutual
  -- A type: that of unit, of the truth values, of integers, of strings; an enumeration or a union by its number; tuples by
  -- the types of their parts; lists by that of their items.
  pub data PlainTy : Type 0 where
    unit_type : PlainTy
    bool_type : PlainTy
    int_type : PlainTy
    text_type : PlainTy
    enumeration : ℕ → PlainTy
    union : ℕ → PlainTy
    tuples : PlainTys → PlainTy
    lists : PlainTy → PlainTy

  -- Several types, one after another.
  pub data PlainTys : Type 0 where
    no_types : PlainTys
    more_types : PlainTy → PlainTys → PlainTys

-- a list of types as several
abbrev pub types_from : List PlainTy → PlainTys
types_from [] = no_types
types_from (t ∷ ts) = more_types t (types_from ts)

-- whether two types are one, and whether several are the same, one for one
abbrev mutual
  pub same_type : PlainTy → PlainTy → Bool
  same_type unit_type unit_type = true
  same_type bool_type bool_type = true
  same_type int_type int_type = true
  same_type text_type text_type = true
  same_type (enumeration i) (enumeration j) = i == j
  same_type (union i) (union j) = i == j
  same_type (tuples ts) (tuples us) = same_types ts us
  same_type (lists t) (lists u) = same_type t u
  same_type t u = false

  pub same_types : PlainTys → PlainTys → Bool
  same_types no_types no_types = true
  same_types (more_types t ts) (more_types u us) = same_type t u && same_types ts us
  same_types ts us = false

-- The type of a colour set: its shape without the bounds of integers. An enumeration and a union are known by their number.
abbrev mutual
  pub type_of_shape : PlainShape → PlainTy
  type_of_shape unit_shape = unit_type
  type_of_shape boolean_shape = bool_type
  type_of_shape (int_shape low high) = int_type
  type_of_shape text_shape = text_type
  type_of_shape (constant_shape id count) = enumeration id
  type_of_shape (tuple_shape ss) = tuples (types_of_shapes ss)
  type_of_shape (union_shape id cs) = union id
  type_of_shape (list_shape s) = lists (type_of_shape s)

  pub types_of_shapes : PlainShapes → PlainTys
  types_of_shapes no_shapes = no_types
  types_of_shapes (more_shapes s ss) = more_types (type_of_shape s) (types_of_shapes ss)

-- the type at an index among several, from 0
abbrev pub type_at : PlainTys → ℕ → Option PlainTy
type_at no_types k = None
type_at (more_types t ts) zero = Some t
type_at (more_types t ts) (suc k) = type_at ts k
