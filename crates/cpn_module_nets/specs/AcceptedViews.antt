-- What the program keeps of the texts of a module that it accepts, as plain data.
use Rattle.std.specs.Prelude.{List, map, option_map, Vec}
use Rattle.std.specs.declared.alloc.Global.{Global}
use Rattle.cpn_core.specs.Nets.{arc_view, place_view}
use Rattle.cpn_core.specs.declared.nets.Place.{Place}
use Rattle.cpn_definitions.specs.Net.{Coloured}
use Rattle.cpn_module_nets.specs.Accepted as plain
use Rattle.cpn_module_nets.specs.declared.arcs.Sides.{Sides}

abbrev pub places_view : Vec Place Global → List Coloured
places_view places = map place_view places.items

abbrev pub sides_view : Sides → plain.Sides
sides_view sides = record { node = sides.node; input = option_map arc_view sides.input; output = option_map arc_view sides.output }

abbrev pub sides_views : List Sides → List plain.Sides
sides_views arcs = map sides_view arcs
