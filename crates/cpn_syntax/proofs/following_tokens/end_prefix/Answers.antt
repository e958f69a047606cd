-- A prefix operator with its operand.
use Rattle.cpn_trees.specs.AstViews.{ast_view}
use Rattle.cpn_trees.proofs.FormViews as levels
use Rattle.cpn_syntax.proofs.PartSteps as going
use Rattle.cpn_syntax.proofs.following_tokens.end_prefix.Goals as goal

pub returns-clause-closed : goal.returns-clause-closed
returns-clause-closed c text free st =
    rw (c.whole.ensures st, levels.view_prefix c.args.operator c.in_ok-operand.operand, c.in_ok-operand.ensures.ok) (going.ends_prefix _ _ (ast_view c.args.part.tree) st _ c.args.at c.args.operator free)
