-- What was seen is there by its numbers.
use Rattle.std.proofs.Common.{◌≡◌, take, map}
use Rattle.cpn_document.specs.Views.{module_view}
use Rattle.cpn_module.specs.Names.{structure_among}
use Rattle.cpn_module.specs.Views.{structure_view}
use Rattle.cpn_module.proofs.numbered.structures_of.Given as goal

abbrev pub invariant-loop-number : goal.invariant-loop-number
invariant-loop-number l = map structure_view l.structures.items ≡ map (structure_among l.names.modules l.names.places.items) (map module_view (take l.number l.modules))
