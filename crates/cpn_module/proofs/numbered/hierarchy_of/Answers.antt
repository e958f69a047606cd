-- The names are those of the document.
use Rattle.std.proofs.Common.{map, rules}
use Rattle.cpn_document.specs.Views.{document_view}
use Rattle.cpn_module.specs.Views.{structure_view, fusion_set_view}
use Rattle.cpn_module.proofs.NamedHierarchy.{hierarchy_named}
use Rattle.cpn_module.proofs.numbered.hierarchy_of.Goals as goal

pub structures_of-requires-clause-known : goal.structures_of-requires-clause-known
structures_of-requires-clause-known c = rw c.as_slice.ensures.value c.requires.known.in_modules

pub returns : goal.returns
returns c = record {
  named = hierarchy_named (document_view c.args.document.now) c.args.names.now.modules c.args.names.now.places.items c.number_there.result (map structure_view c.in_ok-modules.modules.items) (map fusion_set_view c.in_ok-fusions.fusions.items) c.requires.names.modules_are c.requires.names.places_are (search rules) (search rules) (search rules);
}
