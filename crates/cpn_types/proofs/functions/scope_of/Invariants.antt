-- The parameters that are left, behind the locals so far, make the scope of all.
use Rattle.std.proofs.Common.{◌≡◌, [], map, drop}
use Rattle.cpn_trees.specs.DeclTrees.{parameter_view}
use Rattle.cpn_typing.specs.Declarations.{scope_of}
use Rattle.cpn_declared.specs.DeclsViews.{decls_view}
use Rattle.cpn_forms.specs.ScopeViews.{scope_view}
use Rattle.cpn_types.proofs.functions.scope_of.Given as goal

abbrev pub invariant-loop-parameter : goal.invariant-loop-parameter
invariant-loop-parameter l =
    scope_of (decls_view l.decls) (map parameter_view (drop l.parameter-index l.parameters)) (scope_view l.scope.items) ≡ scope_of (decls_view l.decls) (map parameter_view l.parameters) []
