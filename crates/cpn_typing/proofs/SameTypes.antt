-- The test whether two types are one tells the truth.
use Rattle.std.proofs.Common.{◌≡◌, true, refl, ap}
use Rattle.std.proofs.lemmas.Bool.{eqb-true, and_parts}
use Rattle.cpn_typing.specs.Types.{PlainTy, unit_type, bool_type, int_type, text_type, enumeration, union, tuples, lists, PlainTys, no_types, more_types, same_type, same_types}

mutual
  pub same_type_is : (t u : PlainTy) → same_type t u ≡ true → t ≡ u
  same_type_is unit_type unit_type e = refl
  same_type_is bool_type bool_type e = refl
  same_type_is int_type int_type e = refl
  same_type_is text_type text_type e = refl
  same_type_is (enumeration i) (enumeration j) e = ap enumeration (eqb-true i j e)
  same_type_is (union i) (union j) e = ap union (eqb-true i j e)
  same_type_is (tuples ts) (tuples us) e = ap tuples (same_types_is ts us e)
  same_type_is (lists t) (lists u) e = ap lists (same_type_is t u e)
  same_type_is t u e = cc

  pub same_types_is : (ts us : PlainTys) → same_types ts us ≡ true → ts ≡ us
  same_types_is no_types no_types e = refl
  same_types_is (more_types t ts) (more_types u us) e =
      let p = and_parts (same_type t u) (same_types ts us) e in
      let h : t ≡ u = same_type_is t u p.0 in
      let k : ts ≡ us = same_types_is ts us p.1 in
      cc
  same_types_is ts us e = cc
