-- The part that is left is no larger than the tree.
use Rattle.std.proofs.Common.{◌≤◌}
use Rattle.cpn_trees.specs.declared.trees.Ast.{size-Ast}
use Rattle.cpn_trees.proofs.+tree.Given as goal

abbrev pub invariant-trees::Ast::drop-loop-name : goal.invariant-trees::Ast::drop-loop-name
invariant-trees::Ast::drop-loop-name l = size-Ast l.self ≤ size-Ast l.initial.self
