-- What was read, before what the rest is read as, is what the whole list is read as.
use Rattle.std.proofs.Common.{◌≡◌, drop, map}
use Rattle.cpn_module_trees.specs.TreesViews.{module_trees_view}
use Rattle.cpn_declared.specs.DeclsViews.{decls_view}
use Rattle.cpn_module_nets.specs.Accepted.{places_of}
use Rattle.cpn_module_nets.specs.Reading.{each_from}
use Rattle.cpn_readings.proofs.ReadLists.{with_front}
use Rattle.cpn_module_nets.proofs.places.places_of_each.Given as goal
use Rattle.cpn_module_nets.specs.AcceptedViews.{places_view}

abbrev pub invariant-loop-number : goal.invariant-loop-number
invariant-loop-number l = with_front (map places_view l.made.items) (each_from (places_of (decls_view l.decls)) l.number (map module_trees_view (drop l.number l.modules))) ≡ each_from (places_of (decls_view l.decls)) 0 (map module_trees_view l.modules)
