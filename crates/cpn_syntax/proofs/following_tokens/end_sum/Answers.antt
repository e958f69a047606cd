-- A sum with its last term.
use Rattle.cpn_trees.specs.AstViews.{ast_view}
use Rattle.cpn_trees.proofs.FormViews as levels
use Rattle.cpn_syntax.proofs.LastParts.{asts_with_last}
use Rattle.cpn_syntax.proofs.PartSteps as going
use Rattle.cpn_syntax.proofs.following_tokens.end_sum.Goals as goal

pub returns-clause-closed : goal.returns-clause-closed
returns-clause-closed c text free st =
    rw (c.whole.ensures st, levels.view_sum c.in_ok-parts.parts, c.in_ok-parts.ensures, asts_with_last) (going.ends_sum _ _ (ast_view c.args.part.tree) st _ c.args.at _ free)
