-- What is declared so far, and the rest.
use Rattle.std.proofs.Common.{◌≡◌, drop, map}
use Rattle.cpn_typing.specs.Names.{nothing_declared}
use Rattle.cpn_declared.specs.DeclsViews.{decls_view}
use Rattle.cpn_module_nets.specs.Accepted.{declared_from}
use Rattle.cpn_module_trees.specs.TreesViews.{declared_view}
use Rattle.cpn_module_nets.proofs.declarations.declared.Given as goal

abbrev pub invariant-loop-number : goal.invariant-loop-number
invariant-loop-number l = declared_from l.number (decls_view l.decls) (map declared_view (drop l.number l.texts)) ≡ declared_from 0 nothing_declared (map declared_view l.texts)
