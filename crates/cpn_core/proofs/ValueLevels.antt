-- One level of a value.
use Rattle.std.proofs.Common.{◌≡◌, ℕ, ℤ, Option, Some, None, Box, Vec, Global, rules}
use Rattle.cpn_definitions.specs.Value.{int, constant, tuple, applied}
use Rattle.cpn_core.specs.declared.values.Value.{Value, the_lemmas}
use Rattle.cpn_core.specs.declared.values.Value.TheBlock.{Int, Enum}
use Rattle.cpn_core.specs.declared.values.Value.TheViews.{Con, Tuple}
use Rattle.cpn_core.specs.Views.{value_view, values_view, constructor_view}

-- a constructor with its argument is seen as that constructor, applied to what the argument is seen as
pub view_con_some : (k : ℕ) (b : Box Value Global) → value_view (Con k (Some b)) ≡ applied k (value_view b.value)
view_con_some k b = search (rules, the_lemmas)

-- a constructor, without or with its argument
pub view_con : (k : ℕ) (argument : Option (Box Value Global)) → value_view (Con k argument) ≡ constructor_view k argument
view_con k None = search (rules, the_lemmas)
view_con k (Some b) = view_con_some k b

-- an integer, and a constant
pub view_int : (z : ℤ) → value_view (Int z) ≡ int z
view_int z = search (rules, the_lemmas)

pub view_enum : (k : ℕ) → value_view (Enum k) ≡ constant k
view_enum k = search (rules, the_lemmas)

-- a tuple
pub view_tuple : (vs : Vec Value Global) → value_view (Tuple vs) ≡ tuple (values_view vs.items)
view_tuple vs = search (rules, the_lemmas)
