-- The plain multiset that one of the program stands for.
use Rattle.std.specs.Prelude.{ℕ, List, map}
use Rattle.cpn_mset.specs.MSets.{PlainMSet}
use Rattle.cpn_core.specs.Views.{value_view}
use Rattle.cpn_core.specs.declared.values.Value.{Value}

abbrev pub counts_view : List (Value × ℕ) → PlainMSet
counts_view counts = map (λ e. (value_view e.0, e.1)) counts
