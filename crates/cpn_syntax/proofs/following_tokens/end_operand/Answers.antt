-- An infix operator with its operands.
use Rattle.cpn_trees.specs.AstViews.{ast_view}
use Rattle.cpn_trees.proofs.FormViews as levels
use Rattle.cpn_syntax.proofs.PartSteps as going
use Rattle.cpn_syntax.proofs.following_tokens.end_operand.Goals as goal

pub returns-clause-closed : goal.returns-clause-closed
returns-clause-closed c text free st =
    rw (c.whole.ensures st, c.precedence_of.ensures, levels.view_infix c.args.operator c.args.sign c.in_ok-left.left c.in_ok-right.right, c.in_ok-left.ensures.ok, c.in_ok-right.ensures.ok)
    (going.ends_operand _ _ (ast_view c.args.part.tree) st _ c.args.at c.args.operator c.args.sign _ free)
