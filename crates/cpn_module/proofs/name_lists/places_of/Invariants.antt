-- The names of the modules that were seen are there.
use Rattle.std.proofs.Common.{◌≡◌, take, map}
use Rattle.cpn_document.specs.Views.{module_view}
use Rattle.cpn_module.specs.Named.{place_names}
use Rattle.cpn_module.proofs.name_lists.places_of.Given as goal

abbrev pub invariant-loop-module : goal.invariant-loop-module
invariant-loop-module l = l.places.items ≡ map place_names (map module_view (take l.module-index l.modules))
