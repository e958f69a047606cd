-- What was read, before what the rest is read as, is what the whole list is read as.
use Rattle.std.proofs.Common.{◌≡◌, drop, map}
use Rattle.cpn_core.specs.Nets.{place_view}
use Rattle.cpn_module_trees.specs.TreesViews.{place_trees_view}
use Rattle.cpn_declared.specs.DeclsViews.{decls_view}
use Rattle.cpn_module_nets.specs.Accepted.{net_place}
use Rattle.cpn_module_nets.specs.Reading.{each_from}
use Rattle.cpn_readings.proofs.ReadLists.{with_front}
use Rattle.cpn_module_nets.proofs.places.net_places.Given as goal

abbrev pub invariant-loop-number : goal.invariant-loop-number
invariant-loop-number l = with_front (map place_view l.made.items) (each_from (net_place (decls_view l.decls) l.of_module) l.number (map place_trees_view (drop l.number l.places))) ≡ each_from (net_place (decls_view l.decls) l.of_module) 0 (map place_trees_view l.places)
