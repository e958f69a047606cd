-- The plain value that a value of the program stands for.
use Rattle.std.specs.Prelude.{ℕ, List, map, Option, Some, None, Box, Vec}
use Rattle.std.specs.declared.alloc.Global.{Global}
use Rattle.cpn_definitions.specs.Value.{PlainValue, PlainValues, unit, boolean, int, constant, text, tuple, bare, applied, list, from_list}
use Rattle.cpn_core.specs.declared.values.Value.{Value, fold-Value}
use Rattle.cpn_core.specs.declared.values.Value.TheOpen.{Value-F}

-- one level, with each value inside already seen as its plain value
abbrev pub value_step : Value-F PlainValue → PlainValue
value_step Value-F.Unit = unit
value_step (Value-F.Bool b) = boolean b
value_step (Value-F.Int z) = int z
value_step (Value-F.Enum k) = constant k
value_step (Value-F.Text bytes) = text bytes
value_step (Value-F.Tuple vs) = tuple (from_list vs.items)
value_step (Value-F.Con k None) = bare k
value_step (Value-F.Con k (Some v)) = applied k v.value
value_step (Value-F.List vs) = list (from_list vs.items)

abbrev pub value_view : Value → PlainValue
value_view = fold-Value PlainValue value_step

abbrev pub values_view : List Value → PlainValues
values_view vs = from_list (map value_view vs)

-- a constructor without or with its argument
abbrev pub constructor_view : ℕ → Option (Box Value Global) → PlainValue
constructor_view k None = bare k
constructor_view k (Some argument) = applied k (value_view argument.value)

-- rows of values, each as the items that it stands for
abbrev pub rows_view : List (Vec Value Global) → List PlainValues
rows_view rows = map (λ row. values_view row.items) rows
