-- The list of a shape's values is as long as the shape's count says.
use Rattle.std.proofs.Common.{◌≡◌, ℕ, suc, ◌+◌, ◌*◌, ◌==◌, if◌then◌else◌, List, [], ◌∷◌, map, replicate, pos, ◌+ℤ◌, length, refl, ap, ap₂, ◌∙◌, length-append, suc-mul, arith}
use Rattle.std.proofs.lemmas.List.{length-map}
use Rattle.std.proofs.lemmas.Bool.Decides.{nat_tests}
use Rattle.cpn_definitions.specs.Value.{PlainValue, PlainValues, int, constant, text, tuple, list, more, applied, from_list}
use Rattle.cpn_definitions.specs.Colour.{PlainShape, PlainShapes, Constructors, unit_shape, boolean_shape, int_shape, text_shape, constant_shape, tuple_shape, union_shape, list_shape, no_shapes, more_shapes, no_constructors, without, taking}
use Rattle.cpn_core.specs.ShapeValues.{int_count, strings, lists, headed, values_in, rows_in, constructed_in, count_of, count_of_rows, count_of_constructed}
use Rattle.cpn_core.proofs.NumberedItems.{length_numbered}

pub length_headed : (vs : List PlainValue) (rows : List PlainValues) → length (headed vs rows) ≡ length vs * length rows
length_headed [] rows = omega arith
length_headed (v ∷ vs) rows = let each = length-append (map (more v) rows) (headed vs rows) in let heads = length-map rows (more v) in let rest = length_headed vs rows in omega (arith, suc-mul (length vs) (length rows))

length_lists : (n : ℕ) (vs : List PlainValue) → length (lists n vs) ≡ (if length vs == 0 then 1 else n)
length_lists n [] = refl
length_lists n (v ∷ vs) = length_numbered (λ k. list (from_list (replicate k v))) 0 n ∙ grind (arith, nat_tests)

pub length_strings : (n : ℕ) → length (strings n) ≡ n
unfolding strings
length_strings n = length_numbered (λ k. text (replicate k 0x61)) 0 n

mutual
  pub values_counted : (s : PlainShape) → length (values_in s) ≡ count_of s
  values_counted unit_shape = refl
  values_counted boolean_shape = refl
  values_counted (int_shape low high) = length_numbered (λ k. int (low +ℤ pos k)) 0 (int_count low high)
  values_counted text_shape = length_strings 257
  values_counted (constant_shape id count) = length_numbered constant 0 count
  values_counted (tuple_shape ss) = length-map (rows_in ss) tuple ∙ rows_counted ss
  values_counted (union_shape id cs) = constructed_counted cs 0
  values_counted (list_shape s) = length_lists 257 (values_in s) ∙ ap (λ n. if n == 0 then 1 else 257) (values_counted s)

  pub rows_counted : (ss : PlainShapes) → length (rows_in ss) ≡ count_of_rows ss
  rows_counted no_shapes = refl
  rows_counted (more_shapes s ss) = length_headed (values_in s) (rows_in ss) ∙ ap₂ (λ m n. m * n) (values_counted s) (rows_counted ss)

  constructed_counted : (cs : Constructors) (k : ℕ) → length (constructed_in cs k) ≡ count_of_constructed cs
  constructed_counted no_constructors k = refl
  constructed_counted (without cs) k = let rest = constructed_counted cs (suc k) in omega arith
  constructed_counted (taking s cs) k =
      length-append (map (applied k) (values_in s)) (constructed_in cs (suc k))
      ∙ ap₂ (λ m n. m + n) (length-map (values_in s) (applied k) ∙ values_counted s) (constructed_counted cs (suc k))
