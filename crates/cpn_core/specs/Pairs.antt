-- The binding that a row of pairs stands for.
use Rattle.std.specs.Prelude.{List, map}
use Rattle.cpn_definitions.specs.Meaning.{PlainBinding}
use Rattle.cpn_core.specs.declared.bindings.Pair.{Pair}
use Rattle.cpn_core.specs.Views.{value_view}

abbrev pub pairs_view : List Pair → PlainBinding
pairs_view pairs = map (λ pair. (pair.variable, value_view pair.value)) pairs
