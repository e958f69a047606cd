-- What the program keeps of a document that it accepts, as plain data.
use Rattle.std.specs.Prelude.{List, map, option_map, Option}
use Rattle.cpn_core.specs.Colours.{colour_view}
use Rattle.cpn_core.specs.Inscriptions.{multiset_view}
use Rattle.cpn_core.specs.Nets.{place_view, transition_view}
use Rattle.cpn_core.specs.declared.inscriptions.ArcExpr.{ArcExpr}
use Rattle.cpn_declared.specs.DeclsViews.{decls_view}
use Rattle.cpn_module.specs.Views.{hierarchy_view}
use Rattle.cpn_accepted.specs.Nets.{Initial, PlainModuleNet, PlainAccepted}
use Rattle.cpn_accepted.specs.declared.nets.ModuleNet.{ModuleNet}
use Rattle.cpn_accepted.specs.declared.nets.Accepted.{Accepted}

abbrev pub initial_view : ArcExpr → Initial
initial_view initial = record { colour = colour_view initial.colour; expr = multiset_view initial.expr }

abbrev pub initials_view : List (Option ArcExpr) → List (Option Initial)
initials_view initials = map (λ initial. option_map initial_view initial) initials

abbrev pub module_net_view : ModuleNet → PlainModuleNet
module_net_view m = record { places = map place_view m.places.items; initials = initials_view m.initials.items; transitions = map transition_view m.transitions.items }

abbrev pub accepted_view : Accepted → PlainAccepted
accepted_view accepted = record { declared = decls_view accepted.decls; hierarchy = hierarchy_view accepted.hierarchy; modules = map module_net_view accepted.modules.items }
