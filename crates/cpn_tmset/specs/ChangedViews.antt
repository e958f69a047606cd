-- The plain changes that those of the program stand for.
use Rattle.std.specs.Prelude.{List, map}
use Rattle.cpn_core.specs.Views.{value_view}
use Rattle.cpn_tmset.specs.Changed.{PlainChange}
use Rattle.cpn_tmset.specs.declared.changed.Change.{Change}
use Rattle.cpn_tmset.specs.declared.changed.Changes.{Changes}

abbrev pub change_view : Change → PlainChange
change_view change = record { place = change.place; value = value_view change.value }

abbrev pub change_views : List Change → List PlainChange
change_views changes = map change_view changes

abbrev pub changes_view : Changes → List PlainChange
changes_view changes = change_views changes.items.items
