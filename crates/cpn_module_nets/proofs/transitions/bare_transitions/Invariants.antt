-- What was read, before what the rest is read as, is what the whole list is read as.
use Rattle.std.proofs.Common.{◌≡◌, drop, map}
use Rattle.cpn_core.specs.Nets.{transition_view}
use Rattle.cpn_module_trees.specs.TreesViews.{transition_trees_view}
use Rattle.cpn_declared.specs.DeclsViews.{decls_view}
use Rattle.cpn_module_nets.specs.Accepted.{bare_transition}
use Rattle.cpn_module_nets.specs.Reading.{each_from}
use Rattle.cpn_readings.proofs.ReadLists.{with_front}
use Rattle.cpn_module_nets.proofs.transitions.bare_transitions.Given as goal

abbrev pub invariant-loop-number : goal.invariant-loop-number
invariant-loop-number l = with_front (map transition_view l.made.items) (each_from (bare_transition (decls_view l.decls) l.of_module) l.number (map transition_trees_view (drop l.number l.transitions))) ≡ each_from (bare_transition (decls_view l.decls) l.of_module) 0 (map transition_trees_view l.transitions)
