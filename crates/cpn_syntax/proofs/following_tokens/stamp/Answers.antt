-- The number of a time stamp behind `@`, which stands at the offset.
use Rattle.std.proofs.Common.{rules, ap}
use Rattle.cpn_trees.specs.Trees.{ast, stamped}
use Rattle.cpn_syntax.specs.ReadForms.{have}
use Rattle.cpn_trees.specs.AstViews.{ast_view}
use Rattle.cpn_trees.proofs.FormViews as levels
use Rattle.cpn_syntax.proofs.following_tokens.stamp.Goals as goal

pub returns-clause-stamped : goal.returns-clause-stamped
returns-clause-stamped c =
    let next = c.in_ok-stamp.ensures.taken in
    (c.in_ok-stamp.stamp, next, λ st. rw (c.whole.ensures st, levels.view_stamped c.in_ok-term.term _ _, c.in_ok-term.ensures.ok) (ap (λ z. have c.args.part.start 3 (ast c.args.part.start (stamped (ast_view c.args.part.tree) c.args.sign z)) st) (search rules)))
