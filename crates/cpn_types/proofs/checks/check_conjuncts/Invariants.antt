-- The conjuncts so far stand in front of what the rules say of the rest.
use Rattle.std.proofs.Common.{◌≡◌, map, drop}
use Rattle.cpn_core.specs.Inscriptions.{expr_view}
use Rattle.cpn_trees.specs.Trees.{asts_from}
use Rattle.cpn_trees.specs.AstViews.{ast_view}
use Rattle.cpn_typing.specs.GuardsAndDelays.{checked_guard}
use Rattle.cpn_declared.specs.DeclsViews.{decls_view}
use Rattle.cpn_types.proofs.Conjuncts.{in_front}
use Rattle.cpn_types.proofs.checks.check_conjuncts.Given as goal

abbrev pub invariant-loop-tree : goal.invariant-loop-tree
invariant-loop-tree l =
    in_front (map expr_view l.conjuncts.items) (checked_guard (decls_view l.decls) (asts_from (map ast_view (drop l.tree-index l.trees)))) ≡ checked_guard (decls_view l.decls) (asts_from (map ast_view l.trees))
