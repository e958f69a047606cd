-- `end` behind the body of a `let`.
use Rattle.std.proofs.lemmas.Result.{err_from_is_err_and}
use Rattle.cpn_trees.specs.AstViews.{ast_view}
use Rattle.cpn_trees.proofs.FormViews as levels
use Rattle.cpn_syntax.proofs.LastParts.{all_locals}
use Rattle.cpn_syntax.proofs.PartSteps as going
use Rattle.cpn_syntax.proofs.following_tokens.take_end.Goals as goal

pub returns-in_err-take-clause-stops : goal.returns-in_err-take-clause-stops
returns-in_err-take-clause-stops c =
    let p = err_from_is_err_and c.from_residual.result c.from_residual.ensures.1 in
    rw (p.1, p.2) (λ other free st.
    let refused = c.in_err-take.ensures.refused in
    rw refused.0 (going.breaks_let _ _ (ast_view c.args.part.tree) st _ c.args.at _ free refused.1))

pub returns-clause-closed : goal.returns-clause-closed
returns-clause-closed c free st =
    let next = c.in_ok-take.ensures.taken in
    rw (next.2, c.whole.ensures st, levels.view_let c.args.values c.in_ok-body.body, all_locals, c.in_ok-body.ensures.ok) (going.ends_let _ _ (ast_view c.args.part.tree) st _ c.args.at _ next.0 next.1.0)
