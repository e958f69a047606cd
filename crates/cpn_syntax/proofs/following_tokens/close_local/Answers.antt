-- The next value of a `let`, or its body behind `in`.
use Rattle.std.proofs.lemmas.Result.{err_from_is_err_and}
use Rattle.cpn_trees.specs.AstViews.{ast_view}
use Rattle.cpn_syntax.proofs.PartSteps as going
use Rattle.cpn_syntax.proofs.following_tokens.close_local.Goals as goal

pub returns-then-accept-clause-closed : goal.returns-then-accept-clause-closed
returns-then-accept-clause-closed c free st =
    let next = c.accept.ensures.yes c.if-accept.true in
    rw (next.2, c.in_ok-values.ensures) (going.goes_on_in _ _ (ast_view c.args.part.tree) st _ c.args.at _ _ next.0 next.1)

pub returns-in_err-take-clause-stops : goal.returns-in_err-take-clause-stops
returns-in_err-take-clause-stops c =
    let p = err_from_is_err_and c.from_residual-in_err-take.result c.from_residual-in_err-take.ensures.1 in
    rw (p.1, p.2) (λ other free st.
    let none = c.accept.ensures.no c.if-accept.false in
    let refused = c.in_err-take.ensures.refused in
    rw (refused.0, none.0) (going.breaks_local _ _ (ast_view c.args.part.tree) st _ c.args.at _ _ free none.1 (rw none.0 at refused.1)))

pub returns-in_err-name-clause-stops : goal.returns-in_err-name-clause-stops
returns-in_err-name-clause-stops c =
    let p = err_from_is_err_and c.from_residual-in_err-name.result c.from_residual-in_err-name.ensures.1 in
    rw (p.1, p.2) (λ other free st.
    let none = c.accept.ensures.no c.if-accept.false in
    let next = c.in_ok-take.ensures.taken in
    let refused = c.in_err-name.ensures.refused other in
    rw (refused.0, ← none.0, next.2) (going.breaks_local_name _ _ (ast_view c.args.part.tree) st _ c.args.at _ _ next.0 next.1.0 refused.1))

pub returns-in_err-take-2-clause-stops : goal.returns-in_err-take-2-clause-stops
returns-in_err-take-2-clause-stops c =
    let p = err_from_is_err_and c.from_residual-in_err-take-2.result c.from_residual-in_err-take-2.ensures.1 in
    rw (p.1, p.2) (λ other free st.
    let none = c.accept.ensures.no c.if-accept.false in
    let next = c.in_ok-take.ensures.taken in
    let name = c.in_ok-name.ensures.taken in
    let refused = c.in_err-take-2.ensures.refused in
    rw (refused.0, ← none.0, next.2, name.2) (going.breaks_local_equal _ _ (ast_view c.args.part.tree) st _ c.args.at _ _ next.0 name.0 next.1.0 name.1 refused.1))

pub returns-clause-closed : goal.returns-clause-closed
returns-clause-closed c free st =
    let none = c.accept.ensures.no c.if-accept.false in
    let next = c.in_ok-take.ensures.taken in
    let name = c.in_ok-name.ensures.taken in
    let equal = c.in_ok-take-2.ensures.taken in
    rw (← none.0, next.2, name.2, equal.2, c.in_ok-values.ensures) (going.goes_on_local _ _ (ast_view c.args.part.tree) st _ c.args.at _ _ next.0 name.0 equal.0 next.1.0 name.1 equal.1.0)
