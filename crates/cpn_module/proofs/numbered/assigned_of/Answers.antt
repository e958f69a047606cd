-- The names of each assignment are known.
use Rattle.std.proofs.Common.{map, ap, arith}
use Rattle.cpn_document.specs.Views.{assignment_view}
use Rattle.cpn_module.specs.Names.{names_at}
use Rattle.cpn_module.specs.Named.{assignment_among}
use Rattle.cpn_module.specs.Known.{IsKnownAssignment}
use Rattle.cpn_module.specs.Views.{assigned_view}
use Rattle.cpn_module.proofs.CheckedItems.{seen_at}
use Rattle.cpn_module.proofs.MappedLists.{mapped_all}
use Rattle.cpn_module.proofs.numbered.assigned_of.Goals as goal

pub place-requires-clause-there : goal.place-requires-clause-there
place-requires-clause-there c = rw c.as_str.ensures.value (seen_at (IsKnownAssignment c.args.sockets.now (names_at c.args.names.now.places.items c.args.submodule)) assignment_view c.args.assign.now c.loop-assignment.assignment-index c.assignment-item.result c.loop-assignment-test.true c.assignment-item.is c.requires.known).port

pub number_there-requires : goal.number_there-requires
number_there-requires c = record { there = rw c.as_str-in-loop-assignment.ensures.value (seen_at (IsKnownAssignment c.args.sockets.now (names_at c.args.names.now.places.items c.args.submodule)) assignment_view c.args.assign.now c.loop-assignment.assignment-index c.assignment-item.result c.loop-assignment-test.true c.assignment-item.is c.requires.known).socket }

pub loop-assignment-init : goal.loop-assignment-init
loop-assignment-init c = ap (λ made. map assigned_view made) c.in_ok-assigned.ensures.items

pub returns : goal.returns
returns c = record { assigned = mapped_all (assignment_among c.args.sockets.now (names_at c.args.names.now.places.items c.args.submodule)) assignment_view c.args.assign.now c.loop-assignment.assignment-index (omega arith) _ c.loop-assignment.invariant }
