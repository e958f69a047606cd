-- `foldl` with its parts.
use Rattle.cpn_trees.specs.AstViews.{ast_view}
use Rattle.cpn_trees.proofs.FormViews as levels
use Rattle.cpn_syntax.proofs.PartSteps as going
use Rattle.cpn_syntax.proofs.following_tokens.end_fold.Goals as goal

pub returns-clause-closed : goal.returns-clause-closed
returns-clause-closed c text free st =
    rw (c.whole.ensures st, c.loosest-precedence.ensures, levels.view_fold c.args.item c.args.sum c.in_ok-list.list c.in_ok-start.start c.in_ok-body.body, c.in_ok-list.ensures.ok, c.in_ok-start.ensures.ok, c.in_ok-body.ensures.ok)
    (going.ends_fold _ _ (ast_view c.args.part.tree) st _ c.args.at _ _ _ _ free)
