-- The plain trees that what the parsers hand out stands for.
use Rattle.cpn_trees.specs.Trees.{PlainAst, PlainAsts}
use Rattle.cpn_trees.specs.AstViews.{ast_view, asts_view}
use Rattle.cpn_trees.specs.DeclTrees.{PlainDecl, decl_view}
use Rattle.cpn_trees.specs.declared.parsed.Inscription.{Inscription}
use Rattle.cpn_trees.specs.declared.parsed.Guard.{Guard}
use Rattle.cpn_trees.specs.declared.parsed.Declaration.{Declaration}

abbrev pub inscription_view : Inscription → PlainAst
inscription_view i = ast_view i.tree

abbrev pub guard_view : Guard → PlainAsts
guard_view g = asts_view g.conjuncts

abbrev pub declaration_view : Declaration → PlainDecl
declaration_view d = decl_view d.tree
