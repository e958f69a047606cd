-- The names at a position are those of the module there, and known.
use Rattle.std.proofs.Common.{map, ap, arith}
use Rattle.cpn_document.specs.Views.{module_view}
use Rattle.cpn_module.specs.Names.{structure_among}
use Rattle.cpn_module.specs.Known.{IsKnownModule}
use Rattle.cpn_module.specs.Views.{structure_view}
use Rattle.cpn_module.proofs.CheckedItems.{seen_at}
use Rattle.cpn_module.proofs.MappedLists.{mapped_all}
use Rattle.cpn_module.proofs.NamedHierarchy.{places_at}
use Rattle.cpn_module.proofs.numbered.structures_of.Goals as goal

pub structure_of-requires : goal.structure_of-requires
structure_of-requires c = record {
  places = rw c.index-places.ensures (places_at c.args.names.now.places.items c.args.modules.now c.loop-number.number c.index-modules-number.result _ (omega arith) c.index-modules-number.is c.requires.places);
  many = c.requires.many;
  known = seen_at (IsKnownModule c.args.names.now.modules c.args.names.now.places.items) module_view c.args.modules.now c.loop-number.number c.index-modules-number.result (omega arith) c.index-modules-number.is c.requires.known;
}

pub loop-number-init : goal.loop-number-init
loop-number-init c = ap (λ made. map structure_view made) c.in_ok-structures.ensures.items

pub returns : goal.returns
returns c = record { structures = mapped_all (structure_among c.args.names.now.modules c.args.names.now.places.items) module_view c.args.modules.now c.loop-number.number (omega arith) _ c.loop-number.invariant }
