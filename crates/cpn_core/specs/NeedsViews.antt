-- The plain needs that those of the program stand for.
use Rattle.std.specs.Prelude.{List, map}
use Rattle.cpn_definitions.specs.Occurrence as plain
use Rattle.cpn_core.specs.Views.{value_view}
use Rattle.cpn_core.specs.declared.needed.Needed.{Needed}

abbrev pub needed_view : Needed → plain.Needed
needed_view need = record { place = need.place; value = value_view need.value; offset = need.offset }

abbrev pub needed_views : List Needed → List plain.Needed
needed_views needs = map needed_view needs
