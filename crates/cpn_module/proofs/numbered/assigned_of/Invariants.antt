-- What was seen is there by its numbers.
use Rattle.std.proofs.Common.{◌≡◌, take, map}
use Rattle.cpn_document.specs.Views.{assignment_view}
use Rattle.cpn_module.specs.Named.{assignment_among}
use Rattle.cpn_module.specs.Names.{names_at}
use Rattle.cpn_module.specs.Views.{assigned_view}
use Rattle.cpn_module.proofs.numbered.assigned_of.Given as goal

abbrev pub invariant-loop-assignment : goal.invariant-loop-assignment
invariant-loop-assignment l = map assigned_view l.assigned.items ≡ map (assignment_among l.sockets (names_at l.names.places.items l.submodule)) (map assignment_view (take l.assignment-index l.assign))
