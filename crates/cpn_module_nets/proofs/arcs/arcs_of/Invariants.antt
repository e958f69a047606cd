-- What was read, before what the rest is read as, is what the whole list is read as.
use Rattle.std.proofs.Common.{◌≡◌, drop, map}
use Rattle.cpn_core.specs.Nets.{place_view}
use Rattle.cpn_declared.specs.DeclsViews.{decls_view}
use Rattle.cpn_module.specs.Views.{structure_view}
use Rattle.cpn_module_trees.specs.TreesViews.{tree_view}
use Rattle.cpn_module_nets.specs.Accepted.{arc_of}
use Rattle.cpn_module_nets.specs.AcceptedViews.{sides_view}
use Rattle.cpn_module_nets.specs.Reading.{each_from}
use Rattle.cpn_readings.proofs.ReadLists.{with_front}
use Rattle.cpn_module_nets.proofs.arcs.arcs_of.Given as goal

abbrev pub invariant-loop-number : goal.invariant-loop-number
invariant-loop-number l = with_front (map sides_view l.sides.items) (each_from (arc_of (decls_view l.decls) (map place_view l.places) l.of_module (structure_view l.structure)) l.number (map tree_view (drop l.number l.texts))) ≡ each_from (arc_of (decls_view l.decls) (map place_view l.places) l.of_module (structure_view l.structure)) 0 (map tree_view l.texts)
