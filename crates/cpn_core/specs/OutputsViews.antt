-- The plain outputs that those of the program stand for.
use Rattle.std.specs.Prelude.{List, map}
use Rattle.cpn_definitions.specs.Occurrence as plain
use Rattle.cpn_core.specs.Views.{value_view}
use Rattle.cpn_core.specs.declared.outputs.Made.{Made}

abbrev pub made_view : Made → plain.Made
made_view made = record { place = made.place; value = value_view made.value; stamp = made.stamp }

abbrev pub made_views : List Made → List plain.Made
made_views tokens = map made_view tokens
