-- `if` with its three parts.
use Rattle.cpn_trees.specs.AstViews.{ast_view}
use Rattle.cpn_trees.proofs.FormViews as levels
use Rattle.cpn_syntax.proofs.PartSteps as going
use Rattle.cpn_syntax.proofs.following_tokens.end_if.Goals as goal

pub returns-clause-closed : goal.returns-clause-closed
returns-clause-closed c text free st =
    rw (c.whole.ensures st, c.loosest-precedence.ensures, levels.view_if c.in_ok-condition.condition c.in_ok-consequence.consequence c.in_ok-alternative.alternative, c.in_ok-condition.ensures.ok, c.in_ok-consequence.ensures.ok, c.in_ok-alternative.ensures.ok)
    (going.ends_if _ _ (ast_view c.args.part.tree) st _ c.args.at _ _ free)
