-- What was read, before what the rest is read as, is what the whole list is read as.
use Rattle.std.proofs.Common.{◌≡◌, drop, map}
use Rattle.std.specs.Prelude.{Option, option_map}
use Rattle.cpn_core.specs.declared.inscriptions.ArcExpr.{ArcExpr}
use Rattle.cpn_accepted.specs.Views.{initial_view}
use Rattle.cpn_module_trees.specs.TreesViews.{place_trees_view}
use Rattle.cpn_declared.specs.DeclsViews.{decls_view}
use Rattle.cpn_module_nets.specs.Accepted.{initial_of}
use Rattle.cpn_core.specs.Nets.{place_view}
use Rattle.cpn_module_nets.specs.Reading.{each_from}
use Rattle.cpn_readings.proofs.ReadLists.{with_front}
use Rattle.cpn_module_nets.proofs.places.initials_of.Given as goal

abbrev pub invariant-loop-number : goal.invariant-loop-number
invariant-loop-number l = with_front (map (λ (initial : Option ArcExpr). option_map initial_view initial) l.initials.items) (each_from (initial_of (decls_view l.decls) (map place_view l.places) l.of_module) l.number (map place_trees_view (drop l.number l.written))) ≡ each_from (initial_of (decls_view l.decls) (map place_view l.places) l.of_module) 0 (map place_trees_view l.written)
