-- The nets so far are those of the modules so far, and the places of the others are left.
use Rattle.std.proofs.Common.{◌≡◌, length, take, drop, map}
use Rattle.cpn_declared.specs.DeclsViews.{decls_view}
use Rattle.cpn_module.specs.Hierarchy.{structure_at}
use Rattle.cpn_module.specs.Views.{hierarchy_view}
use Rattle.cpn_module_trees.specs.TreesViews.{module_trees_view}
use Rattle.cpn_accepted.specs.Views.{module_net_view}
use Rattle.cpn_module_nets.specs.AcceptedViews.{places_view}
use Rattle.cpn_module_nets.specs.Documents.{net_so}
use Rattle.cpn_accepted.specs.Nets.{places_at}
use Rattle.cpn_readings.proofs.RelatedLists.{AreRead}
use Rattle.cpn_module_nets.proofs.nets.nets_of.Given as goal

abbrev pub invariant-loop-own : goal.invariant-loop-own
invariant-loop-own l = record {
  left : l.own-iterator.rest.items ≡ drop (length l.nets.items) l.fn.places.items;
  reads : AreRead (λ m. net_so (decls_view l.decls) (places_at (map places_view l.fn.places.items) m) m (structure_at (hierarchy_view l.hierarchy) m)) 0 (map module_trees_view (take (length l.nets.items) l.modules)) (map module_net_view l.nets.items);
}
