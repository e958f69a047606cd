-- The values of a shape in their order, and how many they are. Where they are more than 256, there stand some of them,
-- more than 256 too, as where a string or a list may be as long as one likes. Source: own choice.
use Rattle.std.specs.Prelude.{ℕ, zero, suc, ◌+◌, ◌*◌, ◌==◌, if◌then◌else◌, ℤ, pos, ◌+ℤ◌, true, false, List, [], ◌∷◌, ◌++◌, map, replicate}
use Rattle.std.specs.Int.{int_gap}
use Rattle.std.specs.List.{flat_map}
use Rattle.cpn_definitions.specs.Value.{PlainValue, PlainValues, unit, boolean, int, constant, text, tuple, bare, applied, list, none, more, from_list}
use Rattle.cpn_definitions.specs.Colour.{PlainShape, PlainShapes, Constructors, unit_shape, boolean_shape, int_shape, text_shape, constant_shape, tuple_shape, union_shape, list_shape, no_shapes, more_shapes, no_constructors, without, taking}

-- what f makes of so many numbers, from k on
abbrev pub numbered : {X : Type 0} → (ℕ → X) → ℕ → ℕ → List X
numbered f k zero = []
numbered f k (suc n) = f k ∷ numbered f (suc k) n

-- how many integers there are from one to another
abbrev pub int_count : ℤ → ℤ → ℕ
int_count low high = int_gap low (high +ℤ pos 1)

-- so many integers, constants and strings
abbrev pub integers : ℤ → ℕ → List PlainValue
integers low n = numbered (λ k. int (low +ℤ pos k)) 0 n

abbrev pub constants : ℕ → List PlainValue
constants n = numbered constant 0 n

unfoldable pub strings : ℕ → List PlainValue
strings n = numbered (λ k. text (replicate k 0x61)) 0 n

-- so many lists of these items: only the empty one where there is no item, and else of the first item alone
abbrev pub lists : ℕ → List PlainValue → List PlainValue
lists n [] = list none ∷ []
lists n (v ∷ vs) = numbered (λ k. list (from_list (replicate k v))) 0 n

-- each of the values ahead of each of the rows
abbrev pub headed : List PlainValue → List PlainValues → List PlainValues
headed vs rows = flat_map (λ v. map (more v) rows) vs

abbrev mutual
  -- the values of a shape
  pub values_in : PlainShape → List PlainValue
  values_in unit_shape = unit ∷ []
  values_in boolean_shape = boolean false ∷ boolean true ∷ []
  values_in (int_shape low high) = integers low (int_count low high)
  values_in text_shape = strings 257
  values_in (constant_shape id count) = constants count
  values_in (tuple_shape ss) = map tuple (rows_in ss)
  values_in (union_shape id cs) = constructed_in cs 0
  values_in (list_shape s) = lists 257 (values_in s)

  -- the rows of items of these shapes, one for one
  pub rows_in : PlainShapes → List PlainValues
  rows_in no_shapes = none ∷ []
  rows_in (more_shapes s ss) = headed (values_in s) (rows_in ss)

  -- the values of the constructors, which stand from this position on
  pub constructed_in : Constructors → ℕ → List PlainValue
  constructed_in no_constructors k = []
  constructed_in (without cs) k = bare k ∷ constructed_in cs (suc k)
  constructed_in (taking s cs) k = map (applied k) (values_in s) ++ constructed_in cs (suc k)

abbrev mutual
  -- how many these are
  pub count_of : PlainShape → ℕ
  count_of unit_shape = 1
  count_of boolean_shape = 2
  count_of (int_shape low high) = int_count low high
  count_of text_shape = 257
  count_of (constant_shape id count) = count
  count_of (tuple_shape ss) = count_of_rows ss
  count_of (union_shape id cs) = count_of_constructed cs
  count_of (list_shape s) = if count_of s == 0 then 1 else 257

  pub count_of_rows : PlainShapes → ℕ
  count_of_rows no_shapes = 1
  count_of_rows (more_shapes s ss) = count_of s * count_of_rows ss

  pub count_of_constructed : Constructors → ℕ
  count_of_constructed no_constructors = 0
  count_of_constructed (without cs) = 1 + count_of_constructed cs
  count_of_constructed (taking s cs) = count_of s + count_of_constructed cs
