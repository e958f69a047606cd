-- Values of colour sets as text. Source: our own profile of CPN ML, whose literals they are.
use Rattle.std.specs.Prelude.{ℕ, suc, ◌==◌, Bool, true, false, ◌||◌, if◌then◌else◌, ℤ, pos, negsuc, List, [], ◌∷◌, ◌++◌, codes, Option, Some, slice_index_or}
use Rattle.std.specs.List.{flat_map}
use Rattle.std.specs.Fmt.{decimal}
use Rattle.cpn_definitions.specs.Value.{PlainValue, PlainValues, unit, boolean, int, constant, text, tuple, bare, applied, list, none, more}
use Rattle.cpn_definitions.specs.Colour.{PlainShape, PlainShapes, PlainColour, constant_shape, tuple_shape, union_shape, list_shape, more_shapes, constructor_at}
use Rattle.cpn_definitions.specs.Net.{PlainNet}
use Rattle.cpn_definitions.specs.Named.{constants_of, constructors_of}

-- the texts, with one between each two
abbrev pub joined : List ℕ → List (List ℕ) → List ℕ
joined between [] = []
joined between (t ∷ []) = t
joined between (t ∷ u ∷ us) = t ++ between ++ joined between (u ∷ us)

-- the name of a constant, and of a constructor, by its position
abbrev pub constant_name : PlainNet → ℕ → ℕ → List ℕ
constant_name n number k = slice_index_or (constants_of n number) k []

abbrev pub constructor_name : PlainNet → ℕ → ℕ → List ℕ
constructor_name n number k = slice_index_or (constructors_of n number) k []

abbrev pub truth_text : Bool → List ℕ
truth_text false = codes "false"
truth_text true = codes "true"

-- an integer, with ~ in front of a negative one
abbrev pub int_text : ℤ → List ℕ
int_text (pos n) = decimal n
int_text (negsuc n) = codes "~" ++ decimal (suc n)

-- a byte of a string: a quote and a backslash have a backslash in front
abbrev pub byte_text : ℕ → List ℕ
byte_text byte = if (byte == 0x22) || (byte == 0x5C) then 0x5C ∷ byte ∷ [] else byte ∷ []

-- a string, in quotes
abbrev pub string_text : List ℕ → List ℕ
string_text bytes = codes "\"" ++ flat_map byte_text bytes ++ codes "\""

-- the text of a constructor's argument, by the shape that is declared for it
abbrev pub argument_text : Option (Option PlainShape) → (PlainShape → List ℕ) → List ℕ
argument_text (Some (Some s)) text_for = text_for s
argument_text declared text_for = []

abbrev mutual
  -- The text of a value of a shape, which tells whose constants and constructors the positions are. A value that the shape
  -- does not have has no text; no call gives one.
  pub shaped_text : PlainNet → PlainValue → PlainShape → List ℕ
  shaped_text n unit s = codes "()"
  shaped_text n (boolean b) s = truth_text b
  shaped_text n (int z) s = int_text z
  shaped_text n (text bytes) s = string_text bytes
  shaped_text n (constant k) (constant_shape number count) = constant_name n number k
  shaped_text n (tuple vs) (tuple_shape ss) = codes "(" ++ joined (codes ",") (tuple_texts n vs ss) ++ codes ")"
  shaped_text n (bare k) (union_shape number cs) = constructor_name n number k
  shaped_text n (applied k v) (union_shape number cs) = constructor_name n number k ++ codes "(" ++ argument_text (constructor_at cs k) (λ s. shaped_text n v s) ++ codes ")"
  shaped_text n (list vs) (list_shape s) = codes "[" ++ joined (codes ",") (list_texts n vs s) ++ codes "]"
  shaped_text n v s = []

  -- the texts of values that have the shapes, one for one
  pub tuple_texts : PlainNet → PlainValues → PlainShapes → List (List ℕ)
  tuple_texts n (more v vs) (more_shapes s ss) = shaped_text n v s ∷ tuple_texts n vs ss
  tuple_texts n vs ss = []

  -- the texts of values of one shape
  pub list_texts : PlainNet → PlainValues → PlainShape → List (List ℕ)
  list_texts n none s = []
  list_texts n (more v vs) s = shaped_text n v s ∷ list_texts n vs s

-- the text of a value of a colour set
abbrev pub value_text : PlainNet → PlainColour → PlainValue → List ℕ
value_text n colour v = shaped_text n v colour.shape
