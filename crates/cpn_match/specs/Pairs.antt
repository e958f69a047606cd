-- The partial binding that a row of pairs stands for.
use Rattle.std.specs.Prelude.{ℕ, List, map, Option}
use Rattle.std.specs.Option.{option_map}
use Rattle.cpn_definitions.specs.Value.{PlainValue}
use Rattle.cpn_core.specs.declared.values.Value.{Value}
use Rattle.cpn_core.specs.Views.{value_view}
use Rattle.cpn_stages.specs.Partial.{PlainPartial}
use Rattle.cpn_match.specs.declared.partials.PartialPair.{PartialPair}

-- a value, if there is one
abbrev pub option_view : Option Value → Option PlainValue
option_view = option_map value_view

abbrev pub pair_view : PartialPair → ℕ × Option PlainValue
pair_view pair = (pair.variable, option_view pair.value)

abbrev pub pairs_view : List PartialPair → PlainPartial
pairs_view pairs = map pair_view pairs
