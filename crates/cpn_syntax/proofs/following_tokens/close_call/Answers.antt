-- The next argument behind a comma, or the whole call.
use Rattle.std.proofs.lemmas.Result.{err_from_is_err_and}
use Rattle.cpn_trees.specs.AstViews.{ast_view}
use Rattle.cpn_trees.proofs.FormViews as levels
use Rattle.cpn_syntax.proofs.LastParts.{asts_with_last}
use Rattle.cpn_syntax.proofs.PartSteps as going
use Rattle.cpn_syntax.proofs.following_tokens.close_call.Goals as goal

pub returns-then-accept-clause-closed : goal.returns-then-accept-clause-closed
returns-then-accept-clause-closed c free st =
    let next = c.accept.ensures.yes c.if-accept.true in
    rw (next.2, c.in_ok-arguments.ensures) (going.goes_on_call _ _ (ast_view c.args.part.tree) st _ c.args.at _ _ next.0 next.1)

pub returns-in_err-take-clause-stops : goal.returns-in_err-take-clause-stops
returns-in_err-take-clause-stops c =
    let p = err_from_is_err_and c.from_residual-in_err-take.result c.from_residual-in_err-take.ensures.1 in
    rw (p.1, p.2) (λ other free st.
    let none = c.accept.ensures.no c.if-accept.false in
    let refused = c.in_err-take.ensures.refused in
    rw (refused.0, none.0) (going.breaks_call _ _ (ast_view c.args.part.tree) st _ c.args.at _ _ free none.1 (rw none.0 at refused.1)))

pub returns-clause-closed : goal.returns-clause-closed
returns-clause-closed c free st =
    let none = c.accept.ensures.no c.if-accept.false in
    let next = c.in_ok-take.ensures.taken in
    rw (← none.0, next.2, c.whole.ensures st, levels.view_call c.args.function c.in_ok-arguments.arguments, c.in_ok-arguments.ensures, asts_with_last) (going.ends_call _ _ (ast_view c.args.part.tree) st _ c.args.at _ _ next.0 next.1.0)
